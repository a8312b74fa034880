-- The limits of block, sector and inode size, each once, in bytes.
-- Assumes nothing.
use Rattle.std.specs.Prelude.{ℕ}

abbrev pub default_block : ℕ
default_block = 4096

abbrev pub min_crc_block : ℕ
min_crc_block = 1024

abbrev pub max_supported_block : ℕ
max_supported_block = 16384

abbrev pub min_sector : ℕ
min_sector = 512

abbrev pub max_sector : ℕ
max_sector = 32768

abbrev pub default_inode : ℕ
default_inode = 512

abbrev pub max_inode : ℕ
max_inode = 2048
