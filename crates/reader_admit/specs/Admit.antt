-- What a reader says that is told to admit profile disks only.
-- Assumes nothing.
use Rattle.std.specs.Prelude.{Bool, ℕ}
use Rattle.geometry.specs.declared.Geometry.{Geometry}
use Rattle.profile.specs.Rules.{profile_number, label_on}
use Rattle.run.specs.Runs.{or_next}

-- the number that the reader gives, then 37 where it is told so and the geometry or the disk's label breaks a rule
unfoldable pub admitted : Bool → Geometry → ℕ → ℕ
admitted told g number = or_next number (profile_number told g (label_on g))
