-- A list's first bytes, from so many on, say the sector size that the whole list says.
-- Assumes nothing.
use mathlib.Core.Path.{◌≡◌, refl, sym, ap, ◌∙◌}
use mathlib.Core.Bool.{Bool, true, false}
use mathlib.Core.List.{List}
use Prim.Native.Nat.{ℕ, ◌+◌, ◌≤◌, ◌<◌}
use native.Mathlib.Omega.{arith}
use lib.Dec.{leb}
use lib.ListN.{length, take}
use lib.Seq.{length-take-le, take_all, take-take}
use borrow.Author.Tests.{leb-true, leb-false, le-leb, le-ltb}
use Rattle.endian.specs.Bytes.{be_at}
use Rattle.endian.proofs.Consecutive.{at-inside}
use Rattle.list_sector.specs.Sector.{block_in, begins_superblock, sector_behind, sector_in, enough}

-- a number inside bytes that two lists begin with is the same in both
pub same_first : (n off size : ℕ) (xs ys : List ℕ) → take size xs ≡ take size ys → off + n ≤ size → be_at n off xs ≡ be_at n off ys
same_first n off size xs ys e h =
    let z : 0 + off ≡ off = omega arith in
    sym (at-inside n 0 size off xs h ∙ ap (λ (o : ℕ). be_at n o xs) z)
    ∙ ap (be_at n off) e ∙ at-inside n 0 size off ys h ∙ ap (λ (o : ℕ). be_at n o ys) z

-- the first n bytes of a longer list
module _ (n : ℕ) (xs : List ℕ) (k : enough ≤ n) (l : n < length xs) where
  abbrev cut : List ℕ
  cut = take n xs

  cut-length : length cut ≡ n
  cut-length = length-take-le n xs (omega arith)

  same : (w off : ℕ) → off + w ≤ n → be_at w off cut ≡ be_at w off xs
  same w off h = same_first w off n (take n xs) xs (take-take n n xs (omega arith)) h

  same_test : (m : ℕ) → m ≤ 16384 → begins_superblock m cut ≡ begins_superblock m xs
  unfolding begins_superblock
  same_test m h = rw (same 2 54 (omega arith), same 2 (72 + m) (omega arith), same 8 (74 + m) (omega arith), same 4 (90 + m) (omega arith)) refl

  same-behind : (m : ℕ) (t : Bool) → leb m 16384 ≡ t → sector_behind m cut ≡ sector_behind m xs
  unfolding sector_behind
  same-behind m true e =
      let h = leb-true m 16384 e in
      let c = cut-length in
      rw (e, le-leb (194 + m) (length cut) (omega arith), le-leb (194 + m) (length xs) (omega arith), same_test m h, same 2 (192 + m) (omega arith)) refl
  same-behind m false e = rw e refl

  cut-same : sector_in cut ≡ sector_in xs
  unfolding sector_in
  cut-same =
      let c = cut-length in
      rw (le-ltb (length cut) 194 (omega arith), le-ltb (length xs) 194 (omega arith), same 8 64 (omega arith))
      (same-behind (block_in xs) (leb (block_in xs) 16384) refl)

-- FROM SO MANY BYTES ON
pub first_says : (n : ℕ) (xs : List ℕ) → enough ≤ n → sector_in (take n xs) ≡ sector_in xs
first_says n xs k = by (leb (length xs) n) refl
  where
    by : (t : Bool) → leb (length xs) n ≡ t → sector_in (take n xs) ≡ sector_in xs
    by true e = ap sector_in (take_all n xs (leb-true (length xs) n e))
    by false e = let h = leb-false (length xs) n e in cut-same n xs k (omega arith)
