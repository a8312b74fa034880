-- A leaf block that is the root of its tree: `struct xfs_btree_block` with the short header of version 5, and the records behind it.
-- Assumes nothing.
use Rattle.std.specs.Prelude.{List, [], ◌∷◌, ◌++◌, ℕ, ◌+◌, leb, replicate}
use Rattle.refusals.specs.Numbers.{wrong_length, too_many_records}
use Rattle.endian.specs.Fields.{Field, field, byte_run, write_fields}
use Rattle.crc.specs.Crc.{stamped}
use Rattle.structs.specs.Sizes.{is_block}
use Rattle.structs.specs.Written.{null32, require}

-- where the checksum, bb_crc, stands, and where the records begin
abbrev pub leaf_crc_at : ℕ
leaf_crc_at = 52

abbrev pub leaf_header_size : ℕ
leaf_header_size = 56

-- 27 for a length that is no block's, 34 for records that don't fit the block
unfoldable pub leaf_number : ℕ → ℕ → ℕ
leaf_number used len = require wrong_length (is_block len) (require too_many_records (leb (leaf_header_size + used) len) 0)

-- the header
unfoldable pub leaf_header : ℕ → ℕ → ℕ → List ℕ → ℕ → List Field
leaf_header magic daddr agno uuid numrecs =
    field 0 4 magic  -- bb_magic
    ∷ field 4 2 0  -- bb_level
    ∷ field 6 2 numrecs  -- bb_numrecs
    ∷ field 8 4 null32  -- bb_leftsib
    ∷ field 12 4 null32  -- bb_rightsib
    ∷ field 16 8 daddr  -- bb_blkno
    ∷ field 24 8 0  -- bb_lsn
    ∷ byte_run 32 uuid  -- bb_uuid
    ∷ field 48 4 agno  -- bb_owner
    ∷ []

-- the header, and the records behind it
unfoldable pub leaf_fields : ℕ → ℕ → ℕ → List ℕ → List ℕ → ℕ → List Field
leaf_fields magic daddr agno uuid recs numrecs = leaf_header magic daddr agno uuid numrecs ++ (byte_run leaf_header_size recs ∷ [])

-- every byte that no field names is zero; then the checksum
unfoldable pub leaf_bytes : ℕ → ℕ → ℕ → List ℕ → List ℕ → ℕ → ℕ → List ℕ
leaf_bytes magic daddr agno uuid recs numrecs len = stamped leaf_crc_at
    (write_fields (leaf_fields magic daddr agno uuid recs numrecs) (replicate len 0))
