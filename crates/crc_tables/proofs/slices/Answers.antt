-- `crc_tables::slices` meets its contract.
-- Assumes nothing.
use Rattle.crc_register.proofs.Tested.{slice-right}
use Rattle.crc_register.specs.Tables.{register_table}
use Rattle.crc_register.specs.Register.{crc_bit, crc_bits}
use mathlib.Core.Path.{refl}
use Rattle.crc_tables.proofs.slices.Goals as goal

pub returns : goal.returns
unfolding register_table crc_bits crc_bit
returns c = slice-right _ refl tt
