-- The example, computed.
-- Assumes nothing.
use mathlib.Core.Path.{refl}
use Rattle.endian.specs.Bytes.{patch}
use Rattle.endian_little.specs.Bytes.{le_bytes, le_at}
use Rattle.crc_register.specs.Register.{crc_bit, crc_bits, crc_bytes}
use Rattle.crc.specs.Crc.{crc32c_of, cksum_of, stamped, verified}
use Rattle.crc.specs.Right.{stored_at, already_right}
use Rattle.crc.specs.Example.{Example}

pub example : Example
unfolding already_right stored_at verified stamped cksum_of crc32c_of crc_bytes crc_bits crc_bit le_bytes le_at patch
example = record { again = refl; yes = refl; was = refl; is = refl; verifies = refl; no = refl }
