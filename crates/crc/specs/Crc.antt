-- The checksum of a structure on disk: CRC32C (RFC 3720, 12.1) over the whole sector, block or inode, with the structure's own four bytes
-- read as zero, stored little-endian.
-- Assumes nothing.
use Rattle.std.specs.Prelude.{Bool, ◌&&◌, List, ℕ, ◌+◌, ◌-◌, leb, eqb, length}
use Rattle.endian.specs.Bytes.{patch}
use Rattle.endian_little.specs.Bytes.{le_bytes, le_at}
use Rattle.crc_register.specs.Register.{crc_bytes, zeroed}

-- The register starts with all bits set, and is inverted at the end.
unfoldable pub crc32c_of : List ℕ → ℕ
crc32c_of xs = 0xffff_ffff - crc_bytes 0xffff_ffff xs

-- the checksum of a structure, its own four bytes, at `off`, read as zero
unfoldable pub cksum_of : ℕ → List ℕ → ℕ
cksum_of off xs = crc32c_of (zeroed off xs)

-- a structure with its checksum at `off`, the lowest byte first
unfoldable pub stamped : ℕ → List ℕ → List ℕ
stamped off xs = patch off (le_bytes 4 (cksum_of off xs)) xs

-- the four bytes at `off` lie inside and are the checksum
unfoldable pub verified : ℕ → List ℕ → Bool
verified off xs = leb (off + 4) (length xs) && eqb (le_at 4 off xs) (cksum_of off xs)
