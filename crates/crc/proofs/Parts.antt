-- A checksum of a part of a buffer is the part's own.
-- Assumes nothing.
use mathlib.Core.Path.{◌≡◌, refl, ap, ap₂, sym, ◌∙◌}
use mathlib.Core.Bool.{Bool, ◌&&◌}
use mathlib.Core.List.{List, ◌∷◌}
use Prim.Native.Nat.{ℕ, zero, suc, ◌+◌, ◌*◌, ◌≤◌}
use native.Mathlib.Nat.{add-mul}
use native.Mathlib.Numerals.{add-one}
use native.Mathlib.Omega.{arith}
use lib.Dec.{eqb}
use lib.ListN.{length, drop, length-drop}
use lib.Seq.{length-take-le}
use Rattle.endian.specs.Fields.{part}
use Rattle.endian.proofs.Consecutive.{part-part}
use Rattle.endian_little.specs.Bytes.{le_at}
use Rattle.endian_little.proofs.Laws.{le-part}
use Rattle.crc.specs.Right.{stored_at, already_right, spaced}
use Rattle.crc.specs.Means.{part_right, parts_right}
use Rattle.crc.proofs.Right.{and-true, stored-in}

stored-part : (off base size : ℕ) (xs : List ℕ) → off + 4 ≤ size → base + size ≤ length xs → stored_at (base + off) xs ≡ stored_at off (part base size xs)
stored-part off base size xs h k =
    let l : length (part base size xs) ≡ size = length-take-le size (drop base xs) (omega (arith, length-drop base xs)) in
    stored-in (base + off) xs (omega arith)
    ∙ le-part 4 (base + off) xs
    ∙ ap (le_at 4 0) (sym (part-part base size off 4 xs h))
    ∙ sym (stored-in off (part base size xs) (rw l h) ∙ le-part 4 off (part base size xs))

module _ (off size : ℕ) (xs ys : List ℕ) (h : off + 4 ≤ size) where
  -- one part before the others
  pub part-first : (base : ℕ) (os : List ℕ) → base + size ≤ length xs → base + size ≤ length ys
      → already_right ((base + off) ∷ os) xs ys ≡ (part_right off base size xs ys && already_right os xs ys)
  unfolding already_right
  part-first base os k l =
      ap (λ (b : Bool). b && already_right os xs ys)
      (ap₂ eqb (stored-part off base size xs h k) (stored-part off base size ys h l) ∙ sym (and-true (eqb (stored_at off (part base size xs)) (stored_at off (part base size ys)))))

  -- all of them
  pub parts_all : (base n : ℕ) → base + n * size ≤ length xs → base + n * size ≤ length ys → already_right (spaced (base + off) size n) xs ys ≡ parts_right off base size n xs ys
  unfolding already_right spaced parts_right
  parts_all base zero k l = refl
  parts_all base (suc n) k l =
      let e : suc n * size ≡ n * size + size = rw (← add-one n) (let g : (n + 1) * size ≡ n * size + size = omega (arith, add-mul n 1 size) in g) in
      let d : base + off + size ≡ base + size + off = omega arith in
      part-first base (spaced (base + off + size) size n) (omega arith) (omega arith)
      ∙ ap (λ (b : Bool). part_right off base size xs ys && b)
      (ap (λ (o : ℕ). already_right (spaced o size n) xs ys) d ∙ parts_all (base + size) n (omega arith) (omega arith))
