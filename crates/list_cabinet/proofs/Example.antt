-- A cabinet of five disks, worked out.
-- Assumes nothing.
use mathlib.Core.Path.{◌≡◌, refl}
use mathlib.Core.List.{List, [], ◌∷◌}
use Prim.Native.Nat.{ℕ}
use Rattle.refusals.specs.Numbers.{area_too_small, disk_too_small}
use Rattle.list_size.specs.declared.ListSize.{ListSize}
use Rattle.list_size.specs.Sizes.{no_size}
use Rattle.list_cabinet.specs.Cabinet.{answer_with, taken_by, answers, left_after}

-- a list of so many bytes
abbrev long : ℕ → ListSize
long n = record { number = 0; records = 43; bytes = n; payload = 0 }

abbrev disks : List ListSize
disks = long 6000 ∷ long 5000 ∷ no_size disk_too_small ∷ long 4000 ∷ long 1 ∷ []

-- of 10,000 bytes the second finds too few left, a later one fills the area to the last byte, and behind it nothing fits
pub example : answers 10000 disks ≡ long 6000 ∷ no_size area_too_small ∷ no_size disk_too_small ∷ long 4000 ∷ no_size area_too_small ∷ []
unfolding answers answer_with taken_by
example = refl

pub example-left : left_after 10000 disks ≡ 0
unfolding left_after answer_with taken_by
example-left = refl
