-- The superblock's numbers apart from its bytes: the places in the order of the disk, and the numbers beside them.
-- Assumes nothing.
use Rattle.std.specs.Prelude.{Bool, ◌||◌, List, [], ◌∷◌, ◌++◌, ℕ, zero, suc, ◌+◌, ◌-◌, eqb, drop}
use Rattle.endian.specs.Fields.{write_fields, table}
use Rattle.arith.specs.Choice.{bit}
use Rattle.geometry.specs.declared.Geometry.{Geometry}
use Rattle.geometry_layout.specs.Places.{rext_size, lsunit_bytes, logsunit_of, align_of, sparse_align}
use Rattle.sb.specs.declared.SbState.{SbState}
use Rattle.sb.specs.Superblock.{sb_magic, features2_bits, version_of, ro_compat, in_compat, logstart_of}

-- numbers of equal width, one after the other: where the first stands, the width, and how many they are
pub record Run : Type 0 where
  pub at : ℕ
  pub width : ℕ
  pub many : ℕ

abbrev pub numbers_run : ℕ → ℕ → ℕ → Run
numbers_run at width many = record { at = at; width = width; many = many }

-- the runs before sb_versionnum
abbrev pub sizes_runs : List Run
sizes_runs =
    numbers_run 0 4 2  -- sb_magicnum, sb_blocksize
    ∷ numbers_run 8 8 3  -- sb_dblocks, sb_rblocks, sb_rextents
    ∷ numbers_run 48 8 4  -- sb_logstart, sb_rootino, sb_rbmino, sb_rsumino
    ∷ numbers_run 80 4 5  -- sb_rextsize, sb_agblocks, sb_agcount, sb_rbmblocks, sb_logblocks
    ∷ []

-- the runs from sb_versionnum to sb_width
abbrev pub counts_runs : List Run
counts_runs =
    numbers_run 100 2 4  -- sb_versionnum, sb_sectsize, sb_inodesize, sb_inopblock
    ∷ numbers_run 120 1 8  -- sb_blocklog to sb_imax_pct
    ∷ numbers_run 128 8 6  -- sb_icount to sb_gquotino
    ∷ numbers_run 180 4 3  -- sb_inoalignmt, sb_unit, sb_width
    ∷ []

-- the runs from sb_dirblklog on
abbrev pub flags_runs : List Run
flags_runs =
    numbers_run 192 1 1  -- sb_dirblklog
    ∷ numbers_run 196 4 7  -- sb_logsunit to sb_features_log_incompat
    ∷ numbers_run 228 4 1  -- sb_spino_align
    ∷ numbers_run 232 8 2  -- sb_pquotino, sb_lsn
    ∷ []

-- offset and width of each number of a run
abbrev pub evenly : ℕ → ℕ → ℕ → List ℕ
evenly off width zero = []
evenly off width (suc n) = off ∷ width ∷ evenly (off + width) width n

-- and of several
abbrev pub spread : List Run → List ℕ
spread [] = []
spread (r ∷ rs) = evenly r.at r.width r.many ++ spread rs

-- offset and width of each number
abbrev pub all_runs : List Run
all_runs = sizes_runs ++ (counts_runs ++ flags_runs)

abbrev pub places : List ℕ
places = spread all_runs

-- a run written, with the numbers `v` from the one with the index `from` on
abbrev pub in_run : Run → ℕ → List ℕ → List ℕ → List ℕ
in_run r from v xs = write_fields (table (evenly r.at r.width r.many) (drop from v)) xs

-- runs written one after the other
abbrev pub in_runs : List Run → ℕ → List ℕ → List ℕ → List ℕ
in_runs [] from v xs = xs
in_runs (r ∷ rs) from v xs = in_runs rs (from + r.many) v (in_run r from v xs)

-- a number has 1, 2, 4 or 8 bytes
abbrev pub is_width : ℕ → Bool
is_width n = eqb n 1 || (eqb n 2 || (eqb n 4 || eqb n 8))

-- the numbers, one beside each place
abbrev pub numbers : Geometry → SbState → List ℕ
numbers g s =
    sb_magic  -- sb_magicnum
    ∷ g.blocksize  -- sb_blocksize
    ∷ g.dblocks  -- sb_dblocks
    ∷ 0  -- sb_rblocks
    ∷ 0  -- sb_rextents
    ∷ (logstart_of g)  -- sb_logstart
    ∷ s.rootino  -- sb_rootino
    ∷ s.rbmino  -- sb_rbmino
    ∷ s.rsumino  -- sb_rsumino
    ∷ (rext_size g.blocksize)  -- sb_rextsize
    ∷ g.agsize  -- sb_agblocks
    ∷ g.agcount  -- sb_agcount
    ∷ 0  -- sb_rbmblocks
    ∷ g.logblocks  -- sb_logblocks
    ∷ (version_of g)  -- sb_versionnum
    ∷ g.sectsize  -- sb_sectsize
    ∷ g.inodesize  -- sb_inodesize
    ∷ g.inopblock  -- sb_inopblock
    ∷ g.blocklog  -- sb_blocklog
    ∷ g.sectlog  -- sb_sectlog
    ∷ g.inodelog  -- sb_inodelog
    ∷ g.inopblog  -- sb_inopblog
    ∷ g.agblklog  -- sb_agblklog
    ∷ 0  -- sb_rextslog
    ∷ (bit s.inprogress)  -- sb_inprogress
    ∷ g.imaxpct  -- sb_imax_pct
    ∷ s.icount  -- sb_icount
    ∷ s.ifree  -- sb_ifree
    ∷ s.fdblocks  -- sb_fdblocks
    ∷ 0  -- sb_frextents
    ∷ 0  -- sb_uquotino
    ∷ 0  -- sb_gquotino
    ∷ (align_of g.features.sparse g.inodesize g.blocksize)  -- sb_inoalignmt
    ∷ 0  -- sb_unit
    ∷ 0  -- sb_width
    ∷ (g.dirblocklog - g.blocklog)  -- sb_dirblklog
    ∷ (logsunit_of (lsunit_bytes g.lsectsize g.blocksize))  -- sb_logsunit
    ∷ features2_bits  -- sb_features2
    ∷ features2_bits  -- sb_bad_features2
    ∷ 0  -- sb_features_compat
    ∷ (ro_compat g.features)  -- sb_features_ro_compat
    ∷ (in_compat g.features)  -- sb_features_incompat
    ∷ 0  -- sb_features_log_incompat
    ∷ (sparse_align g.features.sparse g.inodesize g.blocksize)  -- sb_spino_align
    ∷ 0  -- sb_pquotino
    ∷ 0  -- sb_lsn
    ∷ []
