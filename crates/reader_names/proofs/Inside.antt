-- Parts of a list of bytes: the numbers that they hold, their length, and that they hold bytes.
-- Assumes nothing.
use mathlib.Core.Path.{◌≡◌, ap, sym, ◌∙◌}
use mathlib.Core.List.{List, [], ◌∷◌}
use Prim.Native.Nat.{ℕ, zero, suc, ◌+◌, ◌≤◌, ◌<◌}
use native.Mathlib.Omega.{arith}
use lib.ListN.{length, take, drop, get_or, length-drop}
use lib.Seq.{get_or-drop, length-take-le}
use Rattle.endian.specs.Bytes.{be_at}
use Rattle.endian.specs.Fields.{part}
use Rattle.endian.proofs.Fields.{at_part}
use Rattle.endian.proofs.Consecutive.{part-part}

-- equal parts hold equal numbers
pub same_at : (n off : ℕ) (xs ys : List ℕ) → part off n xs ≡ part off n ys → be_at n off xs ≡ be_at n off ys
same_at n off xs ys e = at_part n off xs ∙ ap (be_at n 0) e ∙ sym (at_part n off ys)

-- a part of the first bytes
pub part-first : (size off n : ℕ) (xs ys : List ℕ) → off + n ≤ size → take size xs ≡ ys → part off n xs ≡ part off n ys
part-first size off n xs ys h e =
    let z : 0 + off ≡ off = omega arith in
    sym (part-part 0 size off n xs h ∙ ap (λ (k : ℕ). part k n xs) z) ∙ ap (part off n) e

pub part_length : (off n : ℕ) (xs : List ℕ) → off + n ≤ length xs → length (part off n xs) ≡ n
part_length off n xs h = length-take-le n (drop off xs) (let e = length-drop off xs in omega arith)

-- numbers below m stay below it
take_below : (m n : ℕ) (xs : List ℕ) → 0 < m → ((i : ℕ) → get_or xs i 0 < m) → (i : ℕ) → get_or (take n xs) i 0 < m
take_below m zero xs z h i = z
take_below m (suc n) [] z h i = z
take_below m (suc n) (x ∷ xs) z h zero = h 0
take_below m (suc n) (x ∷ xs) z h (suc i) = take_below m n xs z (λ k. h (suc k)) i

pub part-below : (m off n : ℕ) (xs : List ℕ) → 0 < m → ((i : ℕ) → get_or xs i 0 < m) → (i : ℕ) → get_or (part off n xs) i 0 < m
part-below m off n xs z h = take_below m n (drop off xs) z (λ i. rw get_or-drop (h (off + i)))
