-- `reader_names::has_bit` meets its contract.
-- Assumes nothing.
use mathlib.Core.Path.{refl}
use Rattle.reader_names.specs.Named.{has_bit}
use Rattle.reader_names.proofs.has_bit.Goals as goal

pub returns : goal.returns
unfolding has_bit
returns c = refl
