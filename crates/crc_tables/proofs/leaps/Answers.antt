-- `crc_tables::leaps` meets its contract.
-- Assumes nothing.
use Rattle.crc_register.proofs.Tested.{leap-right}
use Rattle.crc_register.specs.Tables.{through}
use Rattle.crc_register.specs.Register.{crc_bit, crc_bits}
use mathlib.Core.Path.{refl}
use Rattle.crc_tables.proofs.leaps.Goals as goal

pub returns : goal.returns
unfolding through crc_bits crc_bit
returns c = leap-right _ refl tt
