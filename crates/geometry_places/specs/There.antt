-- The places of a disk: where a conversion isn't refused.
-- Assumes nothing.
use Rattle.std.specs.Prelude.{◌≡◌, ℕ}
use Rattle.geometry.specs.declared.Geometry.{Geometry}
use Rattle.geometry_places.specs.Answers.{place_refusal}

-- block b of group k is on the disk: the geometry is an answer, k is below agcount and b below its group's length
abbrev pub There : Geometry → ℕ → ℕ → Type 0
There g k b = place_refusal g k b ≡ 0
