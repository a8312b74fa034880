-- The root chunk on a device: where it lies, its 64 inodes, and what every one of them has at the document's offsets (`struct xfs_dinode`).
-- Assumes nothing.
use Rattle.std.specs.Prelude.{◌≡◌, true, List, ℕ, ◌+◌, ◌*◌, ◌<◌, length}
use Rattle.endian.specs.Bytes.{be_at}
use Rattle.endian.specs.Fields.{part}
use Rattle.structs.specs.Written.{null32}
use Rattle.params.specs.declared.Timestamp.{Timestamp}
use Rattle.inode_time.specs.Time.{decoded}
use Rattle.inode.specs.Directory.{empty_dir}
use Rattle.crc.specs.Crc.{verified}
use Rattle.geometry.specs.declared.Geometry.{Geometry}
use Rattle.geometry_layout.specs.Places.{byte_of}
use Rattle.geometry_places.specs.Answers.{root_chunk, root_ino}
use Rattle.chunk.specs.Chunk.{chunk_length}
use Rattle.list_records.specs.Device.{Device, read}

-- the bytes that stand where the geometry puts the root chunk, in group 0
unfoldable pub chunk_on : Geometry → Device → List ℕ
chunk_on g d = read d (byte_of g.blocksize g.agsize 0 (root_chunk g)) (chunk_length g)

-- inode i of a chunk
unfoldable pub inode_in : Geometry → ℕ → List ℕ → List ℕ
inode_in g i xs = part (i * g.inodesize) g.inodesize xs

-- inode i of the root chunk, in use or free
pub record InodeAt (g : Geometry) (u : List ℕ) (i : ℕ) (xs : List ℕ) : Type 0 where
  pub checksum : verified 100 xs ≡ true  -- di_crc: the checksum with its own four bytes read as zero
  pub magic : be_at 2 0 xs ≡ 0x494e  -- di_magic, "IN"
  pub version : be_at 1 4 xs ≡ 3
  pub next-unlinked : be_at 4 96 xs ≡ null32
  pub ino : be_at 8 152 xs ≡ root_ino g + i
  pub uuid : part 160 16 xs ≡ u

-- the chunk has 64 such inodes
abbrev pub Inodes : Geometry → List ℕ → List ℕ → Type 0
Inodes g u chunk = (i : ℕ) → i < 64 → InodeAt g u i (inode_in g i chunk)

-- the root directory, inode 0 of the chunk: empty, its own parent, and its four times the run's
pub record DirectoryAt (g : Geometry) (t : Timestamp) (xs : List ℕ) : Type 0 where
  pub mode : be_at 2 2 xs ≡ 0x41ed  -- 0o040755: a directory that all may read and enter
  pub format : be_at 1 5 xs ≡ 1  -- its data fork is within the inode
  pub nlink : be_at 4 16 xs ≡ 2
  pub atime : decoded g.features.bigtime (be_at 8 32 xs) ≡ record { secs = t.secs; nsecs = t.nsecs }
  pub mtime : decoded g.features.bigtime (be_at 8 40 xs) ≡ record { secs = t.secs; nsecs = t.nsecs }
  pub ctime : decoded g.features.bigtime (be_at 8 48 xs) ≡ record { secs = t.secs; nsecs = t.nsecs }
  pub size : be_at 8 56 xs ≡ length (empty_dir (root_ino g))
  pub crtime : decoded g.features.bigtime (be_at 8 144 xs) ≡ record { secs = t.secs; nsecs = t.nsecs }
  pub data-fork : part 176 (length (empty_dir (root_ino g))) xs ≡ empty_dir (root_ino g)
