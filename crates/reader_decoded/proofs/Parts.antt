-- A list of parts laid one after the other: each is read back at its offset.
-- Assumes nothing.
use mathlib.Core.Path.{◌≡◌, refl, ap, sym, ◌∙◌}
use mathlib.Core.List.{List, [], ◌∷◌, ◌++◌}
use Prim.Native.Nat.{ℕ, zero, suc, ◌+◌, ◌≤◌, ◌<◌}
use native.Mathlib.Omega.{arith}
use lib.ListN.{length, take, drop, get_or, length-drop}
use lib.Seq.{take_at, drop_at, drop-drop, take-append-le, drop-append-le}
use Rattle.endian.specs.Bytes.{be_at}
use Rattle.endian.specs.Fields.{part}
use Rattle.endian.proofs.Fields.{at_part}

-- ---- two lists

module _ (pre post : List ℕ) where
  -- a part of the second
  pub part-behind : (m off n : ℕ) → length pre ≡ m → part (m + off) n (pre ++ post) ≡ part off n post
  part-behind m off n e = ap (take n) (sym (drop-drop off m (pre ++ post)) ∙ ap (drop off) (drop_at pre post m e))

  -- a part of the first, and a number in it
  pub part-before : (off n : ℕ) → off + n ≤ length pre → part off n (pre ++ post) ≡ part off n pre
  part-before off n h =
      ap (take n) (drop-append-le off pre post (omega arith))
      ∙ take-append-le n (drop off pre) post (simp length-drop (omega arith))

  pub at_before : (n off : ℕ) → off + n ≤ length pre → be_at n off (pre ++ post) ≡ be_at n off pre
  at_before n off h = at_part n off (pre ++ post) ∙ ap (be_at n 0) (part-before off n h) ∙ sym (at_part n off pre)

-- ---- any number of lists

-- the parts one after the other, and then the rest
abbrev pub joined : List (List ℕ) → List ℕ → List ℕ
joined [] rest = rest
joined (x ∷ xs) rest = x ++ joined xs rest

-- the bytes before part i
abbrev pub offset : List (List ℕ) → ℕ → ℕ
offset [] i = 0
offset (x ∷ xs) zero = 0
offset (x ∷ xs) (suc i) = length x + offset xs i

part-there : (ps : List (List ℕ)) (rest : List ℕ) (i : ℕ) → i < length ps → part (offset ps i) (length (get_or ps i [])) (joined ps rest) ≡ get_or ps i []
part-there [] rest i h = absurd (omega arith)
part-there (x ∷ xs) rest zero h = take_at x (joined xs rest) (length x) refl
part-there (x ∷ xs) rest (suc i) h =
    part-behind x (joined xs rest) (length x) (offset xs i) (length (get_or xs i [])) refl ∙ part-there xs rest i (omega arith)

-- EACH PART IS READ BACK AT ITS OFFSET
pub part_at : (ps : List (List ℕ)) (rest : List ℕ) (i off n : ℕ) → i < length ps → off ≡ offset ps i → n ≡ length (get_or ps i [])
    → part off n (joined ps rest) ≡ get_or ps i []
part_at ps rest i off n h a b = rw (a, b) (part-there ps rest i h)
