-- `struct xfs_agi`, field by field in the order on disk.
-- Assumes nothing.
use Rattle.std.specs.Prelude.{List, [], ◌∷◌, ◌++◌, ℕ, replicate}
use Rattle.endian.specs.Bytes.{numbers_bytes}
use Rattle.endian.specs.Fields.{Field, field, byte_run, write_fields}
use Rattle.crc.specs.Crc.{stamped}
use Rattle.structs.specs.Holds.{numbered}
use Rattle.structs.specs.Written.{null32}
use Rattle.ag.specs.declared.agi.Agi.{Agi}
use Rattle.ag.specs.Sector.{ag_version}

-- "XAGI"
abbrev pub agi_magic : ℕ
agi_magic = 0x5841_4749

-- where the checksum, agi_crc, stands
abbrev pub agi_crc_at : ℕ
agi_crc_at = 312

-- XFS_AGI_UNLINKED_BUCKETS
abbrev pub unlinked_buckets : ℕ
unlinked_buckets = 64

-- what stands before the checksum: numbers from the start on, the lists of unlinked inodes, all empty, and the UUID
abbrev pub agi_prefix : List ℕ → List ℕ → List Field
agi_prefix numbers uuid =
    numbered 4 0 numbers
    ++ (byte_run 40 (numbers_bytes 4 (replicate unlinked_buckets null32))  -- agi_unlinked
    ∷ byte_run 296 uuid  -- agi_uuid
    ∷ [])

unfoldable pub agi_fields : Agi → List ℕ → List Field
agi_fields a uuid =
    field 0 4 agi_magic  -- agi_magicnum
    ∷ field 4 4 ag_version  -- agi_versionnum
    ∷ field 8 4 a.seqno  -- agi_seqno
    ∷ field 12 4 a.length  -- agi_length
    ∷ field 16 4 a.count  -- agi_count
    ∷ field 20 4 a.root  -- agi_root
    ∷ field 24 4 a.level  -- agi_level
    ∷ field 28 4 a.freecount  -- agi_freecount
    ∷ field 32 4 a.newino  -- agi_newino
    ∷ field 36 4 null32  -- agi_dirino
    ∷ byte_run 40 (numbers_bytes 4 (replicate unlinked_buckets null32))  -- agi_unlinked
    ∷ byte_run 296 uuid  -- agi_uuid
    ∷ field 320 8 0  -- agi_lsn
    ∷ field 328 4 a.free_root  -- agi_free_root
    ∷ field 332 4 a.free_level  -- agi_free_level
    ∷ field 336 4 a.iblocks  -- agi_iblocks
    ∷ field 340 4 a.fblocks  -- agi_fblocks
    ∷ []

-- the fields over the old bytes, and then the checksum
unfoldable pub agi_bytes : Agi → List ℕ → List ℕ → List ℕ
agi_bytes a uuid xs = stamped agi_crc_at (write_fields (agi_fields a uuid) xs)
