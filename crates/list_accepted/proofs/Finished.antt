-- Finishing a run changes the byte of sb_inprogress and the checksum of group 0's superblock, and nothing else.
-- Assumes nothing.
use mathlib.Core.Path.{◌≡◌, refl, sym, ◌∙◌}
use mathlib.Core.Bool.{Bool, true, false, ◌&&◌, ◌||◌}
use mathlib.Core.List.{List}
use mathlib.Core.Logic.{◌⊎◌, inl, inr}
use Prim.Native.Nat.{ℕ}
use native.Mathlib.Omega.{arith}
use borrow.Author.Tests.{eqb-false, ltb-true, ltb-false, leb-false}
use lib.Dec.{leb, ltb, eqb}
use lib.ListN.{get_or, take, drop}
use Rattle.arith.specs.Choice.{bit}
use Rattle.endian.specs.Bytes.{be_bytes, zeros}
use Rattle.endian_little.specs.Bytes.{le_bytes}
use Rattle.endian.specs.Fields.{field, write_fields}
use Rattle.crc.specs.Crc.{cksum_of, stamped}
use Rattle.geometry.specs.declared.Geometry.{Geometry}
use Rattle.sb.specs.declared.SbState.{SbState}
use Rattle.sb.specs.Superblock.{crc_at, large_sector, fields_with, sb_fields, sb_bytes}
use Rattle.plan.specs.declared.AgPlan.{AgPlan}
use Rattle.plan.specs.Plan.{planned}
use Rattle.head_frame.specs.Frames.{frame_of}
use Rattle.head_bytes.specs.Head.{behind_bytes, head_bytes}
use Rattle.head_bytes.proofs.Lending.{sb-length}
use Rattle.sb_states.specs.States.{unfinished_state, finished_state, state_of}
use Rattle.list_spec.specs.Listing.{head_written, head_finished}
use Rattle.list_accepted.specs.Superblocks.{marked, mark_at, crc_end, changed_byte}
use Rattle.list_accepted.proofs.Alike.{Away, patch-away, append-alike, one-differs}

-- ---- the bytes that are not changed

apart : (a b c : Bool) → (a || (b && c)) ≡ false → (a ≡ false) × ((b ≡ false) ⊎ (c ≡ false))
apart true b c e = absurd (let z : ◌≡◌ {A = ℕ} 0 1 = cc in omega arith)
apart false true c e = (refl, inr e)
apart false false c e = (refl, inl refl)

from-mark : (i : ℕ) (t : Bool) → ltb i 126 ≡ t → (i ≡ mark_at → ⊥) → Away i 126 1
from-mark i true h n = inl (ltb-true i 126 h)
from-mark i false h n = let b = ltb-false i 126 h in inr (omega arith)

from-crc : (i : ℕ) → (leb crc_at i ≡ false) ⊎ (ltb i crc_end ≡ false) → Away i crc_at 4
from-crc i (inl e) = let b = leb-false crc_at i e in inl (omega arith)
from-crc i (inr e) = let b = ltb-false i crc_end e in inr (omega arith)

-- away from the mark and from the checksum
kept : (i : ℕ) → changed_byte i ≡ false → Away i 126 1 × Away i crc_at 4
unfolding changed_byte
kept i e =
    let a = apart (eqb i mark_at) (leb crc_at i) (ltb i crc_end) e in
    (from-mark i (ltb i 126) refl (eqb-false i mark_at a.0), from-crc i a.1)

-- ---- the superblock

module _ (g : Geometry) (s : SbState) (t u : Bool) (i : ℕ) (h : changed_byte i ≡ false) where
  fields-same : (large : Bool) (xs : List ℕ) → get_or (write_fields (fields_with large g (marked t s)) xs) i 0 ≡ get_or (write_fields (fields_with large g (marked u s)) xs) i 0
  unfolding fields_with be_bytes
  fields-same large xs =
      let fs = fields_with large g s in
      one-differs (take 26 fs) (field 126 1 (bit t)) (field 126 1 (bit u)) (drop 27 fs) xs i (kept i h).0 (kept i h).0

  stamped-same : (xs ys : List ℕ) → get_or xs i 0 ≡ get_or ys i 0 → get_or (stamped crc_at xs) i 0 ≡ get_or (stamped crc_at ys) i 0
  unfolding stamped le_bytes
  stamped-same xs ys e =
      patch-away crc_at (le_bytes 4 (cksum_of crc_at xs)) xs i (kept i h).1 ∙ e ∙ sym (patch-away crc_at (le_bytes 4 (cksum_of crc_at ys)) ys i (kept i h).1)

  -- TWO STATES THAT DIFFER IN THE MARK ALONE LEAVE THE SAME BYTES ELSEWHERE
  pub marked-same : (xs : List ℕ) → get_or (sb_bytes g (marked t s) xs) i 0 ≡ get_or (sb_bytes g (marked u s) xs) i 0
  unfolding sb_bytes sb_fields
  marked-same xs =
      stamped-same (write_fields (fields_with (large_sector g) g (marked t s)) xs) (write_fields (fields_with (large_sector g) g (marked u s)) xs) (fields-same (large_sector g) xs)

  -- in a whole head too
  pub head-marked : (p : AgPlan) (uuid : List ℕ) → get_or (head_bytes g p uuid (marked t s)) i 0 ≡ get_or (head_bytes g p uuid (marked u s)) i 0
  unfolding head_bytes
  head-marked p uuid =
      let xs = zeros g.sectsize in
      append-alike (sb_bytes g (marked t s) xs) (sb_bytes g (marked u s) xs) (behind_bytes (frame_of g p) p uuid) i
      (sb-length g (marked t s) xs ∙ sym (sb-length g (marked u s) xs))
      (marked-same xs)

-- FINISHING CHANGES NO OTHER BYTE OF GROUP 0'S HEAD
pub finished-same : (g : Geometry) (uuid : List ℕ) (i : ℕ) → changed_byte i ≡ false → get_or (head_finished g uuid) i 0 ≡ get_or (head_written g uuid 0) i 0
unfolding head_finished head_written state_of finished_state unfinished_state
finished-same g uuid i h = head-marked g (finished_state g uuid) false true i h (planned g 0).plan uuid
