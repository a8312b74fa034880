-- A test's number, as the language has it, is the definitions' bit.
-- Assumes nothing.
use mathlib.Core.Path.{◌≡◌, refl}
use mathlib.Core.Bool.{Bool, true, false}
use Rattle.std.specs.Int.{from_bool}
use Rattle.arith.specs.Choice.{bit}

pub from-bit : (b : Bool) → from_bool b ≡ bit b
unfolding bit
from-bit true = refl
from-bit false = refl
