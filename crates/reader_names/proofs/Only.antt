-- No byte outside the named places is read for naming.
-- Assumes nothing.
use mathlib.Core.Path.{◌≡◌, ap}
use mathlib.Core.Bool.{Bool}
use mathlib.Core.List.{List}
use Prim.Native.Nat.{ℕ}
use Rattle.geometry_answers.specs.Named.{named_answer}
use Rattle.reader_names.specs.Named.{features_at, names_at, named_by, named_places, Agree}
use Rattle.reader_names.proofs.Inside.{same_at}

module _ (xs ys : List ℕ) (a : Agree named_places xs ys) where
  same_names : names_at xs ≡ names_at ys
  unfolding names_at
  same_names =
      let block = same_at 4 4 xs ys a.0 in
      let d = same_at 8 8 xs ys a.1.0 in
      let n = same_at 4 84 xs ys a.1.1.0 in
      let sector = same_at 2 102 xs ys a.1.1.1.0 in
      let inode = same_at 2 104 xs ys a.1.1.1.1.0 in
      let label = a.1.1.1.1.1.0 in
      let percent = same_at 1 127 xs ys a.1.1.1.1.1.1.0 in
      let ro = same_at 4 212 xs ys a.1.1.1.1.1.1.1.0 in
      let incompat = same_at 4 216 xs ys a.1.1.1.1.1.1.1.1.0 in
      λ i.
      record {
        dblocks = d i;
        agsize = n i;
        blocksize = block i;
        sectsize = sector i;
        inodesize = inode i;
        imaxpct = percent i;
        features = features_at (ro i) (incompat i);
        label = label i;
      }

  -- TWO LISTS WITH THE SAME BYTES IN THE NAMED PLACES NAME THE SAME, UNDER EITHER SIZING
  pub same-named : (roomy : Bool) → named_by roomy xs ≡ named_by roomy ys
  unfolding named_by
  same-named roomy = ap (named_answer roomy) same_names
