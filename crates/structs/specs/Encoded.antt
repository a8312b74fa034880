-- What an encoder that stamps answers and leaves: as `Written`, and whether its checksums stood there already when it was called. A refusal
-- says no.
-- Assumes nothing.
use Rattle.std.specs.Prelude.{◌≡◌, List, Bool, ◌&&◌, ℕ, eqb}
use Rattle.crc.specs.Right.{already_right}
use Rattle.structs.specs.Written.{Written}

-- An encoder with the number `n` and its checksums at the places `sums` wrote `new` over `old`, or nothing.
pub record Encoded (n : ℕ) (sums new old : List ℕ) (r : ℕ) (right : Bool) (left : List ℕ) : Type 0 where
  pub written : Written n new old r left
  pub right_is : right ≡ (eqb n 0 && already_right sums old new)
