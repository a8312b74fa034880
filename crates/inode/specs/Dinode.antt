-- `struct xfs_dinode` of version 3, field by field in the order on disk, and the data fork behind it.
-- Assumes nothing.
use Rattle.std.specs.Prelude.{◌≡◌, List, [], ◌∷◌, ◌++◌, Bool, true, false, ◌&&◌, ℕ, ◌+◌, ◌/◌, ◌%◌, leb, eqb}
use Rattle.refusals.specs.Numbers.{wrong_length, time_out_of_range}
use Rattle.endian.specs.Fields.{Field, field, byte_run, write_fields}
use Rattle.crc.specs.Crc.{stamped}
use Rattle.structs.specs.Sizes.{is_inode}
use Rattle.structs.specs.Written.{null32, require}
use Rattle.params.specs.declared.Timestamp.{Timestamp}
use Rattle.inode.specs.declared.dinode.Dinode.{Dinode}
use Rattle.inode_time.specs.Time.{time_inside, time_raw, value_if}

-- "IN"
abbrev pub inode_magic : ℕ
inode_magic = 0x494e

-- where the checksum, di_crc, stands
abbrev pub inode_crc_at : ℕ
inode_crc_at = 100

-- the version, and the format of a fork of extents
abbrev pub version : ℕ
version = 3

abbrev pub extents : ℕ
extents = 2

-- the size of the core: the data fork starts behind it
abbrev pub core_size : ℕ
core_size = 176

-- the flag that times count nanoseconds, bit 3 of di_flags2
unfoldable pub is_big : ℕ → Bool
is_big flags2 = eqb (flags2 / 8 % 2) 1

-- a time of an inode with these flags can be stored, and what is stored
abbrev pub time_storable : ℕ → Timestamp → Bool
time_storable flags2 t = time_inside (is_big flags2) t.secs t.nsecs

abbrev pub raw : ℕ → Timestamp → ℕ
raw flags2 t = time_raw (is_big flags2) t.secs t.nsecs

-- 26 where one of the four times can't be stored, else what follows
unfoldable pub times_number : ℕ → Timestamp → Timestamp → Timestamp → Timestamp → ℕ → ℕ
times_number flags2 a m c r rest =
    require time_out_of_range (time_storable flags2 a)
    (require time_out_of_range (time_storable flags2 m)
    (require time_out_of_range (time_storable flags2 c) (require time_out_of_range (time_storable flags2 r) rest)))

-- an inode's length, with the data inside
unfoldable pub dinode_number : Dinode → ℕ → ℕ → ℕ
dinode_number d used len =
    times_number d.flags2 d.atime d.mtime d.ctime d.crtime (require wrong_length (is_inode len && leb (core_size + used) len) 0)

-- the first unless it is 0
abbrev pub or_else : Bool → ℕ → ℕ → ℕ
or_else true a b = b
or_else false a b = a

-- What the four times of an inode are stored as.
pub record TimesAs (flags2 : ℕ) (a m c r : Timestamp) (number at mt ct rt : ℕ) : Type 0 where
  pub number_is : number ≡ times_number flags2 a m c r 0
  pub atime-is : at ≡ value_if (time_storable flags2 a) (raw flags2 a)
  pub mtime-is : mt ≡ value_if (time_storable flags2 m) (raw flags2 m)
  pub ctime-is : ct ≡ value_if (time_storable flags2 c) (raw flags2 c)
  pub crtime-is : rt ≡ value_if (time_storable flags2 r) (raw flags2 r)

-- the numbers of the core
abbrev pub core_fields : ℕ → ℕ → ℕ → ℕ → ℕ → ℕ → ℕ → ℕ → ℕ → ℕ → ℕ → ℕ → ℕ → List Field
core_fields mode format nlink atime mtime ctime size flags generation changecount flags2 crtime ino =
    field 0 2 inode_magic  -- di_magic
    ∷ field 2 2 mode  -- di_mode
    ∷ field 4 1 version  -- di_version
    ∷ field 5 1 format  -- di_format
    ∷ field 16 4 nlink  -- di_nlink
    ∷ field 32 8 atime  -- di_atime
    ∷ field 40 8 mtime  -- di_mtime
    ∷ field 48 8 ctime  -- di_ctime
    ∷ field 56 8 size  -- di_size
    ∷ field 82 1 0  -- di_forkoff: no attribute fork
    ∷ field 83 1 extents  -- di_aformat
    ∷ field 90 2 flags  -- di_flags
    ∷ field 92 4 generation  -- di_gen
    ∷ field 96 4 null32  -- di_next_unlinked
    ∷ field 104 8 changecount  -- di_changecount
    ∷ field 120 8 flags2  -- di_flags2
    ∷ field 144 8 crtime  -- di_crtime
    ∷ field 152 8 ino  -- di_ino
    ∷ []

unfoldable pub dinode_fields : Dinode → List ℕ → List ℕ → List Field
dinode_fields d fork_data uuid =
    core_fields d.mode d.format d.nlink (raw d.flags2 d.atime) (raw d.flags2 d.mtime) (raw d.flags2 d.ctime)
    d.size d.flags d.generation d.changecount
    d.flags2 (raw d.flags2 d.crtime) d.ino
    ++ (byte_run 160 uuid  -- di_uuid
    ∷ byte_run core_size fork_data  -- the data fork
    ∷ [])

-- the fields over the old bytes, and then the checksum
unfoldable pub dinode_bytes : Dinode → List ℕ → List ℕ → List ℕ → List ℕ
dinode_bytes d fork_data uuid xs = stamped inode_crc_at (write_fields (dinode_fields d fork_data uuid) xs)

-- an inode that was never allocated
abbrev pub free_number : ℕ → ℕ
free_number len = require wrong_length (is_inode len) 0

unfoldable pub free_fields : ℕ → ℕ → List ℕ → List Field
free_fields ino generation uuid =
    field 0 2 inode_magic  -- di_magic
    ∷ field 4 1 version  -- di_version
    ∷ field 92 4 generation  -- di_gen
    ∷ field 96 4 null32  -- di_next_unlinked
    ∷ field 152 8 ino  -- di_ino
    ∷ byte_run 160 uuid  -- di_uuid
    ∷ []

unfoldable pub free_bytes : ℕ → ℕ → List ℕ → List ℕ → List ℕ
free_bytes ino generation uuid xs = stamped inode_crc_at (write_fields (free_fields ino generation uuid) xs)
