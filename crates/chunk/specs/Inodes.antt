-- The three inodes of the root chunk that are in use: root directory, realtime bitmap, realtime summary.
-- Assumes nothing.
use Rattle.std.specs.Prelude.{ℕ, ◌+◌, ◌*◌, pos, length}
use Rattle.arith.specs.Choice.{bit}
use Rattle.params.specs.declared.Features.{Features}
use Rattle.params.specs.declared.Timestamp.{Timestamp}
use Rattle.inode.specs.declared.dinode.Dinode.{Dinode}
use Rattle.inode.specs.Directory.{empty_dir}

-- formats of the data fork: within the inode, and by extents
abbrev pub local : ℕ
local = 1

abbrev pub by_extents : ℕ
by_extents = 2

-- a directory that all may read and enter, 0o040755; a file that nobody may read, 0o100000
abbrev pub directory_mode : ℕ
directory_mode = 0x41ed

abbrev pub file_mode : ℕ
file_mode = 0x8000

-- di_flags: the bitmap inode's access time is a counter
abbrev pub new_bitmap : ℕ
new_bitmap = 4

-- di_flags2: bit 3 with bigtime, bit 4 with nrext64
unfoldable pub flags_of : Features → ℕ
flags_of f = bit f.bigtime * 8 + bit f.nrext64 * 16

-- one change for the creation, one for what logged it
abbrev pub changes : ℕ
changes = 2

-- the counter's first value
abbrev pub no_time : Timestamp
no_time = record { secs = pos 0; nsecs = 0 }

-- the root directory: its own parent, empty, of generation 0
abbrev pub root_inode : ℕ → ℕ → Timestamp → Dinode
root_inode first flags2 time =
    record {
      ino = first;
      mode = directory_mode;
      format = local;
      nlink = 2;
      size = length (empty_dir first);
      flags = 0;
      flags2 = flags2;
      generation = 0;
      changecount = changes;
      atime = time;
      mtime = time;
      ctime = time;
      crtime = time;
    }

-- a file of no bytes
abbrev pub file_inode : ℕ → ℕ → ℕ → ℕ → Timestamp → Timestamp → Dinode
file_inode ino flags flags2 generation atime time =
    record {
      ino = ino;
      mode = file_mode;
      format = by_extents;
      nlink = 1;
      size = 0;
      flags = flags;
      flags2 = flags2;
      generation = generation;
      changecount = changes;
      atime = atime;
      mtime = time;
      ctime = time;
      crtime = time;
    }
