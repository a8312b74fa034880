-- RFC 3720's test vectors come out of the checksum's definition, a bit at a time.
-- Assumes nothing.
use mathlib.Core.Path.{refl}
use Rattle.crc.specs.Crc.{crc32c_of}
use Rattle.crc.specs.Vectors.{Vectors}
use Rattle.crc_register.specs.Register.{crc_bit, crc_bits, crc_bytes}

pub vectors : Vectors
unfolding crc32c_of crc_bytes crc_bits crc_bit
vectors = record { zeros = refl; ones = refl; rising-bytes = refl; falling-bytes = refl; read-command = refl }
