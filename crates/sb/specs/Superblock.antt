-- The superblock on disk, `struct xfs_dsb`: its numbers, and every field in disk order. `sb_qflags`, `sb_flags`, `sb_shared_vn` and
-- `sb_meta_uuid` aren't written.
-- Assumes nothing.
use Rattle.std.specs.Prelude.{Bool, true, false, ◌||◌, List, [], ◌∷◌, ◌++◌, ℕ, ◌+◌, ◌*◌, ◌-◌, ltb, eqb}
use Rattle.refusals.specs.Numbers.{wrong_length, no_answer}
use Rattle.arith.specs.Choice.{bit}
use Rattle.endian.specs.Fields.{Field, field, byte_run, write_fields}
use Rattle.crc.specs.Crc.{stamped}
use Rattle.structs.specs.Written.{require}
use Rattle.params.specs.declared.Features.{Features}
use Rattle.geometry.specs.declared.Geometry.{Geometry}
use Rattle.geometry_answers.specs.Named.{is_answer}
use Rattle.geometry_layout.specs.Places.{fsb_of, rext_size, lsunit_bytes, logsunit_of, align_of, sparse_align}
use Rattle.sb.specs.declared.SbState.{SbState}

-- XFS_SB_MAGIC, "XFSB"
abbrev pub sb_magic : ℕ
sb_magic = 0x5846_5342

-- a sector is above 512 bytes
unfoldable pub large_sector : Geometry → Bool
large_sector g = ltb 512 g.sectsize || ltb 512 g.lsectsize

-- sb_versionnum: version 5 with NLINKBIT, ALIGNBIT, LOGV2BIT, EXTFLGBIT, DIRV2BIT and MOREBITSBIT
abbrev pub fixed_version : ℕ
fixed_version = 5 + 0x20 + 0x80 + 0x400 + 0x1000 + 0x2000 + 0x8000

-- and SECTORBIT where a sector is above 512 bytes
unfoldable pub version_of : Geometry → ℕ
version_of g = fixed_version + 0x800 * bit (large_sector g)

-- sb_features2: LAZYSBCOUNTBIT, ATTR2BIT, PROJID32BIT and CRCBIT
abbrev pub features2_bits : ℕ
features2_bits = 0x18a

-- sb_features_ro_compat: FINOBT, RMAPBT, REFLINK, INOBTCNT
unfoldable pub ro_compat : Features → ℕ
ro_compat f = 1 * bit f.finobt + 2 * bit f.rmapbt + 4 * bit f.reflink + 8 * bit f.inobtcount

-- sb_features_incompat: FTYPE, SPINODES, BIGTIME, NREXT64
unfoldable pub in_compat : Features → ℕ
in_compat f = 1 + 2 * bit f.sparse + 8 * bit f.bigtime + 0x20 * bit f.nrext64

-- sb_logstart: the log's first block as a file system block
unfoldable pub logstart_of : Geometry → ℕ
logstart_of g = fsb_of g.agblklog g.logagno g.log_agbno

-- the log's sector is named only where a sector is above 512 bytes
abbrev pub log_sector : Bool → ℕ → ℕ → List Field
log_sector true log size = field 193 1 log ∷ field 194 2 size ∷ []  -- sb_logsectlog, sb_logsectsize
log_sector false log size = []

-- every field in disk order, with the log's sector where `large` holds
unfoldable pub fields_with : Bool → Geometry → SbState → List Field
fields_with large g s =
    field 0 4 sb_magic  -- sb_magicnum
    ∷ field 4 4 g.blocksize  -- sb_blocksize
    ∷ field 8 8 g.dblocks  -- sb_dblocks
    ∷ field 16 8 0  -- sb_rblocks
    ∷ field 24 8 0  -- sb_rextents
    ∷ byte_run 32 s.uuid  -- sb_uuid
    ∷ field 48 8 (logstart_of g)  -- sb_logstart
    ∷ field 56 8 s.rootino  -- sb_rootino
    ∷ field 64 8 s.rbmino  -- sb_rbmino
    ∷ field 72 8 s.rsumino  -- sb_rsumino
    ∷ field 80 4 (rext_size g.blocksize)  -- sb_rextsize
    ∷ field 84 4 g.agsize  -- sb_agblocks
    ∷ field 88 4 g.agcount  -- sb_agcount
    ∷ field 92 4 0  -- sb_rbmblocks
    ∷ field 96 4 g.logblocks  -- sb_logblocks
    ∷ field 100 2 (version_of g)  -- sb_versionnum
    ∷ field 102 2 g.sectsize  -- sb_sectsize
    ∷ field 104 2 g.inodesize  -- sb_inodesize
    ∷ field 106 2 g.inopblock  -- sb_inopblock
    ∷ byte_run 108 g.label  -- sb_fname
    ∷ field 120 1 g.blocklog  -- sb_blocklog
    ∷ field 121 1 g.sectlog  -- sb_sectlog
    ∷ field 122 1 g.inodelog  -- sb_inodelog
    ∷ field 123 1 g.inopblog  -- sb_inopblog
    ∷ field 124 1 g.agblklog  -- sb_agblklog
    ∷ field 125 1 0  -- sb_rextslog
    ∷ field 126 1 (bit s.inprogress)  -- sb_inprogress
    ∷ field 127 1 g.imaxpct  -- sb_imax_pct
    ∷ field 128 8 s.icount  -- sb_icount
    ∷ field 136 8 s.ifree  -- sb_ifree
    ∷ field 144 8 s.fdblocks  -- sb_fdblocks
    ∷ field 152 8 0  -- sb_frextents
    ∷ field 160 8 0  -- sb_uquotino
    ∷ field 168 8 0  -- sb_gquotino
    ∷ field 180 4 (align_of g.features.sparse g.inodesize g.blocksize)  -- sb_inoalignmt
    ∷ field 184 4 0  -- sb_unit
    ∷ field 188 4 0  -- sb_width
    ∷ field 192 1 (g.dirblocklog - g.blocklog)  -- sb_dirblklog
    ∷ (log_sector large g.lsectlog g.lsectsize
    ++ (field 196 4 (logsunit_of (lsunit_bytes g.lsectsize g.blocksize))  -- sb_logsunit
    ∷ field 200 4 features2_bits  -- sb_features2
    ∷ field 204 4 features2_bits  -- sb_bad_features2
    ∷ field 208 4 0  -- sb_features_compat
    ∷ field 212 4 (ro_compat g.features)  -- sb_features_ro_compat
    ∷ field 216 4 (in_compat g.features)  -- sb_features_incompat
    ∷ field 220 4 0  -- sb_features_log_incompat
    ∷ field 228 4 (sparse_align g.features.sparse g.inodesize g.blocksize)  -- sb_spino_align
    ∷ field 232 8 0  -- sb_pquotino
    ∷ field 240 8 0  -- sb_lsn
    ∷ []))

unfoldable pub sb_fields : Geometry → SbState → List Field
sb_fields g s = fields_with (large_sector g) g s

-- the offset of sb_crc
abbrev pub crc_at : ℕ
crc_at = 224

-- the fields, and then the checksum of the whole sector
unfoldable pub sb_bytes : Geometry → SbState → List ℕ → List ℕ
sb_bytes g s xs = stamped crc_at (write_fields (sb_fields g s) xs)

-- 31, then 27 unless the sector has the geometry's length
unfoldable pub sb_number : Geometry → ℕ → ℕ
sb_number g len = require no_answer (is_answer g) (require wrong_length (eqb len g.sectsize) 0)
