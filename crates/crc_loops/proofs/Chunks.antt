-- The chunks of a slice: which bytes one has, and a number in it.
-- Assumes nothing.
use mathlib.Core.Path.{◌≡◌, sym, ap, ◌∙◌}
use mathlib.Core.List.{List}
use Prim.Native.Nat.{ℕ, zero, suc, ◌+◌, ◌*◌, ◌≤◌, ◌<◌}
use native.Mathlib.Nat.{mul-suc, mul-zero, add_comm}
use native.Mathlib.Omega.{arith}
use lib.ListN.{get_or, take, drop}
use lib.Seq.{drop-drop}
use Rattle.std.specs.Simd.{first_chunks}
use Rattle.endian.specs.Fields.{part}
use Rattle.endian.proofs.Consecutive.{part-part}
use Rattle.endian_little.specs.Bytes.{le_at}
use Rattle.endian_little.proofs.Laws.{le-part}

chunk-at : (n k i : ℕ) (xs : List ℕ) (d : List ℕ) → i < k → get_or (first_chunks n k xs) i d ≡ part (n * i) n xs
chunk-at n zero i xs d h = absurd (omega arith)
chunk-at n (suc k) zero xs d h = ap (λ (m : ℕ). part m n xs) (sym (mul-zero n))
chunk-at n (suc k) (suc i) xs d h =
    chunk-at n k i (drop n xs) d (omega arith) ∙ ap (take n) (drop-drop (n * i) n xs)
    ∙ ap (λ (m : ℕ). part m n xs) (add_comm n (n * i) ∙ sym (mul-suc n i))

number-in : (base size n off : ℕ) (xs : List ℕ) → off + n ≤ size → le_at n off (part base size xs) ≡ le_at n (base + off) xs
number-in base size n off xs h = le-part n off (part base size xs) ∙ ap (le_at n 0) (part-part base size off n xs h) ∙ sym (le-part n (base + off) xs)

-- a number of four bytes in a chunk of eight
pub chunk-number : (off i k j : ℕ) (cs : List (List ℕ)) (xs d : List ℕ) → cs ≡ first_chunks 8 k xs → i < k → off + 4 ≤ 8 → 8 * i + off ≡ j → le_at 4 off (get_or cs i d) ≡ le_at 4 j xs
chunk-number off i k j cs xs d e h l s =
    ap (le_at 4 off) (ap (λ (c : List (List ℕ)). get_or c i d) e ∙ chunk-at 8 k i xs d h) ∙ number-in (8 * i) 8 4 off xs l ∙ ap (λ (m : ℕ). le_at 4 m xs) s
