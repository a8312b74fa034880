-- `struct xfs_agf`, field by field in the order on disk.
-- Assumes nothing.
use Rattle.std.specs.Prelude.{List, [], ◌∷◌, ℕ}
use Rattle.endian.specs.Fields.{Field, field, byte_run, write_fields}
use Rattle.crc.specs.Crc.{stamped}
use Rattle.ag.specs.declared.agf.Agf.{Agf}
use Rattle.ag.specs.Sector.{ag_version}

-- "XAGF"
abbrev pub agf_magic : ℕ
agf_magic = 0x5841_4746

-- where the checksum, agf_crc, stands
abbrev pub agf_crc_at : ℕ
agf_crc_at = 216

-- the roots and levels by block, by size and of reverse mappings are the entries of agf_roots and agf_levels in older headers
unfoldable pub agf_fields : Agf → List ℕ → List Field
agf_fields a uuid =
    field 0 4 agf_magic  -- agf_magicnum
    ∷ field 4 4 ag_version  -- agf_versionnum
    ∷ field 8 4 a.seqno  -- agf_seqno
    ∷ field 12 4 a.length  -- agf_length
    ∷ field 16 4 a.bno_root  -- agf_bno_root
    ∷ field 20 4 a.cnt_root  -- agf_cnt_root
    ∷ field 24 4 a.rmap_root  -- agf_rmap_root
    ∷ field 28 4 a.bno_level  -- agf_bno_level
    ∷ field 32 4 a.cnt_level  -- agf_cnt_level
    ∷ field 36 4 a.rmap_level  -- agf_rmap_level
    ∷ field 40 4 a.flfirst  -- agf_flfirst
    ∷ field 44 4 a.fllast  -- agf_fllast
    ∷ field 48 4 a.flcount  -- agf_flcount
    ∷ field 52 4 a.freeblks  -- agf_freeblks
    ∷ field 56 4 a.longest  -- agf_longest
    ∷ field 60 4 a.btreeblks  -- agf_btreeblks
    ∷ byte_run 64 uuid  -- agf_uuid
    ∷ field 80 4 a.rmap_blocks  -- agf_rmap_blocks
    ∷ field 84 4 a.refcount_blocks  -- agf_refcount_blocks
    ∷ field 88 4 a.refcount_root  -- agf_refcount_root
    ∷ field 92 4 a.refcount_level  -- agf_refcount_level
    ∷ field 208 8 0  -- agf_lsn
    ∷ []

-- the fields over the old bytes, and then the checksum
unfoldable pub agf_bytes : Agf → List ℕ → List ℕ → List ℕ
agf_bytes a uuid xs = stamped agf_crc_at (write_fields (agf_fields a uuid) xs)
