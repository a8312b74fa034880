-- `crc_tables::bytes` meets its contract.
-- Assumes nothing.
use Rattle.crc_register.proofs.Tested.{byte-right}
use Rattle.crc_register.specs.Tables.{register_table}
use Rattle.crc_register.specs.Register.{crc_bit, crc_bits}
use mathlib.Core.Path.{refl}
use Rattle.crc_tables.proofs.bytes.Goals as goal

pub returns : goal.returns
unfolding register_table crc_bits crc_bit
returns c = byte-right _ refl tt
