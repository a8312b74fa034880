-- Every field of a log record is read back: the fields stand in rising order, however many blocks there are.
-- Assumes nothing.
use mathlib.Core.Path.{◌≡◌, refl}
use mathlib.Core.List.{List, ◌∷◌, ◌++◌}
use Prim.Native.Nat.{ℕ, zero, suc, ◌+◌, ◌*◌, ◌-◌, ◌≤◌}
use native.Mathlib.Omega.{arith}
use lib.Dec.{T, leb, lit≤}
use lib.ListN.{length, replicate, length-replicate}
use Rattle.endian.specs.Bytes.{be_bytes}
use Rattle.endian_little.specs.Bytes.{le_bytes}
use Rattle.endian.specs.Fields.{Field, spans}
use Rattle.structs.specs.Holds.{Holds}
use Rattle.structs.proofs.Reading.{held}
use Rattle.structs.proofs.Rising.{rises, end, both, le_test, rises-tidy}
use Rattle.log_record.specs.Record.{cycle_of, basic_blocks_of, header_fields, stamps, unmount_fields, record_fields, log_record_bytes}
use Rattle.log_record.proofs.Laws.{blocks-least}

-- rising from `o` on and ending by `m`
abbrev Within : ℕ → ℕ → List Field → Type 0
Within o m fs = T (rises o (spans fs)) × (end o (spans fs) ≤ m)

-- one field more before them
with-more : (o m : ℕ) (f : Field) (fs : List Field) → o ≤ f.at → Within (f.at + length f.bytes) m fs → Within o m (f ∷ fs)
with-more o m f fs h w = (both (leb o f.at) (rises (f.at + length f.bytes) (spans fs)) (le_test o f.at h) w.0, w.1)

-- stamps of blocks behind the block `k`, the last fields of a record
stamps-in : (cycle k n o m : ℕ) → o ≤ 512 * suc k → 512 * (suc k + n) ≤ m → Within o m (stamps cycle (suc k) n)
unfolding stamps be_bytes
stamps-in cycle k zero o m h g = (tt, omega arith)
stamps-in cycle k (suc n) o m h g =
    with-more o m (record { at = 512 * suc k; bytes = be_bytes 4 cycle }) (stamps cycle (suc (suc k)) n) h
    (stamps-in cycle (suc k) n (512 * suc k + 4) m (omega arith) (omega arith))

-- before them the header and the unmount record, whose places are numbers
prefix-in : (uuid : List ℕ) (sunit lsn tail_lsn cycle m : ℕ) (fs : List Field) → length uuid ≡ 16 → Within 526 m fs
    → Within 0 m (header_fields uuid sunit lsn tail_lsn ++ (unmount_fields 512 cycle ++ fs))
unfolding header_fields unmount_fields be_bytes le_bytes
prefix-in uuid sunit lsn tail_lsn cycle m fs u w = rw u w

-- the fields of a record are held
pub record-holds : (uuid : List ℕ) (sunit lsn tail_lsn : ℕ) → length uuid ≡ 16 → Holds (record_fields uuid sunit lsn tail_lsn) (log_record_bytes uuid sunit lsn tail_lsn)
unfolding log_record_bytes record_fields
record-holds uuid sunit lsn tail_lsn u =
    let m = 512 * basic_blocks_of sunit in
    let b = blocks-least sunit in
    let fs = record_fields uuid sunit lsn tail_lsn in
    let w : Within 0 m fs =
    prefix-in uuid sunit lsn tail_lsn (cycle_of lsn) m (stamps (cycle_of lsn) 2 (basic_blocks_of sunit - 2)) u (stamps-in (cycle_of lsn) 1 (basic_blocks_of sunit - 2) 526 m (lit≤ tt) (omega arith)) in
    let z : length (replicate {A = ℕ} m 0) ≡ m = length-replicate m 0 in
    held (spans fs) m (rises-tidy 0 m (spans fs) w.0 w.1) fs refl (replicate m 0) (omega arith)
