-- The numbers of the layout, each once, with its unit.
-- Assumes nothing.
use Rattle.std.specs.Prelude.{ℕ}

-- bytes of the free list's header, and of one of its slots
abbrev pub agfl_header_size : ℕ
agfl_header_size = 36

abbrev pub agfl_slot : ℕ
agfl_slot = 4

-- blocks of a group that are held back for its free list
abbrev pub agfl_reserve : ℕ
agfl_reserve = 4

-- inodes of a chunk
abbrev pub chunk_inodes : ℕ
chunk_inodes = 64

-- bytes of an inode cluster, for inodes of the size below
abbrev pub big_cluster : ℕ
big_cluster = 8192

abbrev pub least_inode : ℕ
least_inode = 256

-- bytes of the least realtime extent
abbrev pub realtime_extent : ℕ
realtime_extent = 4096

-- bytes of a log record header
abbrev pub log_header : ℕ
log_header = 512

-- bytes of an address unit
abbrev pub address_unit : ℕ
address_unit = 512
