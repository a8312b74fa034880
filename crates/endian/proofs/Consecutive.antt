-- Parts of parts, and runs of numbers that were written are read back.
-- Assumes nothing.
use mathlib.Core.Path.{◌≡◌, refl, ap, ap₂, sym, ◌∙◌}
use mathlib.Core.List.{List, [], ◌∷◌, ◌++◌}
use Prim.Native.Nat.{ℕ, zero, suc, ◌+◌, ◌-◌, ◌*◌, ◌^◌, ◌≤◌}
use native.Mathlib.Omega.{arith}
use native.Mathlib.Nat.{mul-suc, add_comm}
use lib.ListN.{length, take, drop}
use lib.Seq.{take_at, drop_at, take-take, drop-drop}
use Rattle.endian.specs.Bytes.{be_bytes, be_at, numbers_bytes}
use Rattle.endian.specs.Fields.{part}
use Rattle.endian.proofs.Laws.{length-be}
use Rattle.endian.proofs.Fields.{at-written, at_part}
use Rattle.endian.specs.Bytes.{numbers_at, Below}

nil-take : (m : ℕ) → take {A = ℕ} m [] ≡ []
nil-take zero = refl
nil-take (suc m) = refl

drop_of_take : (k m : ℕ) (xs : List ℕ) → drop k (take (k + m) xs) ≡ take m (drop k xs)
drop_of_take zero m xs = let e : 0 + m ≡ m = omega arith in ap (λ (n : ℕ). take n xs) e
drop_of_take (suc k) m [] = let e : suc k + m ≡ suc (k + m) = omega arith in rw e (sym (nil-take m))
drop_of_take (suc k) m (x ∷ xs) = let e : suc k + m ≡ suc (k + m) = omega arith in rw e (drop_of_take k m xs)

-- the first bytes of a part, and a part of a part
pub part-take : (off n m : ℕ) (xs : List ℕ) → n ≤ m → take n (part off m xs) ≡ part off n xs
part-take off n m xs h = take-take n m (drop off xs) h

pub part-drop : (off k m : ℕ) (xs : List ℕ) → drop k (part off (k + m) xs) ≡ part (off + k) m xs
part-drop off k m xs = drop_of_take k m (drop off xs) ∙ ap (take m) (drop-drop k off xs)

pub part-part : (base size off n : ℕ) (xs : List ℕ) → off + n ≤ size → part off n (part base size xs) ≡ part (base + off) n xs
part-part base size off n xs h =
    let e : size ≡ off + (size - off) = omega arith in
    ap (λ (s : ℕ). take n (drop off (part base s xs))) e
    ∙ ap (take n) (part-drop base off (size - off) xs)
    ∙ part-take (base + off) n (size - off) xs (omega arith)

-- a number inside a part
pub at-inside : (n base size off : ℕ) (xs : List ℕ) → off + n ≤ size → be_at n off (part base size xs) ≡ be_at n (base + off) xs
at-inside n base size off xs h =
    at_part n off (part base size xs) ∙ ap (be_at n 0) (part-part base size off n xs h) ∙ sym (at_part n (base + off) xs)

-- a run of numbers that was written is read back
pub run-back : (n : ℕ) (vs : List ℕ) (off : ℕ) (xs : List ℕ) → Below (256 ^ n) vs → part off (n * length vs) xs ≡ numbers_bytes n vs → numbers_at n (length vs) off xs ≡ vs
unfolding numbers_at numbers_bytes
run-back n [] off xs b e = refl
run-back n (v ∷ vs) off xs b e =
    let m = n * length vs in
    let s : n * suc (length vs) ≡ n + m = mul-suc n (length vs) ∙ add_comm m n in
    let p : part off (n + m) xs ≡ be_bytes n v ++ numbers_bytes n vs = rw s at e in
    let a : part off n xs ≡ be_bytes n v =
    sym (part-take off n (n + m) xs (omega arith)) ∙ ap (take n) p ∙ take_at (be_bytes n v) (numbers_bytes n vs) n (length-be n v) in
    let d : part (off + n) m xs ≡ numbers_bytes n vs =
    sym (part-drop off n m xs) ∙ ap (drop n) p ∙ drop_at (be_bytes n v) (numbers_bytes n vs) n (length-be n v) in
    ap₂ (λ (x : ℕ) (l : List ℕ). x ∷ l) (at-written n v off xs b.0 a) (run-back n vs (off + n) xs b.1 d)
