-- The records of the trees of a group: `struct xfs_alloc_rec`, `struct xfs_inobt_rec` (full and sparse) and `struct xfs_rmap_rec`.
-- Assumes nothing.
use Rattle.std.specs.Prelude.{List, [], ◌∷◌, ◌++◌, Bool, true, false, ℕ, ◌*◌, leb, eqb, replicate}
use Rattle.refusals.specs.Numbers.{wrong_length, too_many_records}
use Rattle.endian.specs.Fields.{Field, field, write_fields}
use Rattle.structs.specs.Written.{require}
use Rattle.btree.specs.declared.records.AllocRec.{AllocRec}
use Rattle.btree.specs.declared.records.InobtRec.{InobtRec}
use Rattle.btree.specs.declared.records.RmapRec.{RmapRec}

-- the sizes of the records, in bytes
abbrev pub alloc_size : ℕ
alloc_size = 8

abbrev pub inobt_size : ℕ
inobt_size = 16

abbrev pub rmap_size : ℕ
rmap_size = 24

-- a written list of records is its count × the record size bytes, and at most 64 records long
unfoldable pub recs_number : ℕ → ℕ → ℕ → ℕ
recs_number size count len = require wrong_length (eqb len (size * count)) (require too_many_records (leb count 64) 0)

-- the bytes of the records, one after the other
abbrev pub records_bytes : {A : Type 0} → (A → List ℕ) → List A → List ℕ
records_bytes f [] = []
records_bytes f (r ∷ rs) = f r ++ records_bytes f rs

-- `struct xfs_alloc_rec`
abbrev pub alloc_fields : AllocRec → List Field
alloc_fields r =
    field 0 4 r.start  -- ar_startblock
    ∷ field 4 4 r.count  -- ar_blockcount
    ∷ []

unfoldable pub alloc_bytes : AllocRec → List ℕ
alloc_bytes r = write_fields (alloc_fields r) (replicate alloc_size 0)

-- `struct xfs_inobt_rec`: sparse, or with a full free count
abbrev pub inobt_fields : Bool → InobtRec → List Field
inobt_fields true r =
    field 0 4 r.startino  -- ir_startino
    ∷ field 4 2 r.holemask  -- ir_u.sp.ir_holemask
    ∷ field 6 1 r.count  -- ir_u.sp.ir_count
    ∷ field 7 1 r.freecount  -- ir_u.sp.ir_freecount
    ∷ field 8 8 r.free  -- ir_free
    ∷ []
inobt_fields false r =
    field 0 4 r.startino  -- ir_startino
    ∷ field 4 4 r.freecount  -- ir_u.f.ir_freecount
    ∷ field 8 8 r.free  -- ir_free
    ∷ []

unfoldable pub inobt_bytes : Bool → InobtRec → List ℕ
inobt_bytes sparse r = write_fields (inobt_fields sparse r) (replicate inobt_size 0)

-- `struct xfs_rmap_rec`
abbrev pub rmap_fields : RmapRec → List Field
rmap_fields r =
    field 0 4 r.start  -- rm_startblock
    ∷ field 4 4 r.count  -- rm_blockcount
    ∷ field 8 8 r.owner  -- rm_owner
    ∷ field 16 8 0  -- rm_offset
    ∷ []

unfoldable pub rmap_bytes : RmapRec → List ℕ
rmap_bytes r = write_fields (rmap_fields r) (replicate rmap_size 0)
