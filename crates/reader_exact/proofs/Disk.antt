-- "LEAVES" IS WHAT THE WRITTEN RECORDS LEAVE: the heads and the log block of an accepted run are those that a device holds after its whole list was applied to any old contents.
-- Assumes nothing.
use mathlib.Core.Path.{◌≡◌, ap, sym, ◌∙◌}
use mathlib.Core.List.{List, [], ◌∷◌, ◌++◌}
use mathlib.Core.Logic.{inl, inr}
use Prim.Native.Nat.{ℕ, ◌+◌, ◌*◌, ◌<◌}
use native.Mathlib.Omega.{arith}
use lib.ListN.{length, take}
use lib.Seq.{take-take}
use Rattle.refusals.specs.Numbers.{not_left}
use Rattle.geometry_layout.specs.Places.{disk_blocks_before, byte_of}
use Rattle.request.specs.declared.Request.{Request}
use Rattle.run.specs.Runs.{run_of}
use Rattle.head_bytes.specs.Head.{head_length}
use Rattle.list_records.specs.Records.{Record, FL}
use Rattle.list_records.specs.Device.{Device, applied, read}
use Rattle.list_records.proofs.Reading.{length-read, read_first}
use Rattle.list_spec.specs.Listing.{log_block, head_written, head_left}
use Rattle.list_spec.specs.Left.{unfinished, FirstBlockUnfinished}
use Rattle.list_spec.proofs.Early.{early}
use Rattle.list_accepted.specs.Accepted.{AcceptedRun}
use Rattle.list_accepted.proofs.Runs.{run-bounds, source_of}
use Rattle.list_accepted.proofs.Sizes.{block-least}
use Rattle.list_accepted.proofs.Sound.{sound}
use Rattle.list_accepted.proofs.Heads.{run-left}
use Rattle.reader_exact.specs.Read.{read_group0}
use Rattle.reader_exact.specs.Disk.{head_on, log_on, formatted}
use Rattle.reader_exact.proofs.Heads.{sector-most, head-block, head-least}
use Rattle.reader_exact.proofs.Zeros.{zeros-named}
use Rattle.reader_exact.proofs.Refused.{unnamed-refused, begun-refused}

-- ---- until the finished superblock

module _ (r : Request) (a : AcceptedRun r) where
  -- group 0's head begins with group 0's first block
  first_block : (d : Device) → take (run_of r).geometry.blocksize (head_on (run_of r).geometry d 0) ≡ read d 0 (run_of r).geometry.blocksize
  unfolding head_on byte_of disk_blocks_before
  first_block d =
      let g = (run_of r).geometry in
      let z : (0 * g.agsize + 0) * g.blocksize ≡ 0 = omega arith in
      ap (λ (off : ℕ). take g.blocksize (read d off (head_length g))) z ∙ sym (read_first d 0 g.blocksize (head_length g) (head-block g))

  -- where group 0's first block is zeros or the unfinished one, its head is refused
  pub early-refused : (d : Device) → FirstBlockUnfinished (run_of r) d → (read_group0 (head_on (run_of r).geometry d 0)).number ≡ not_left
  unfolding head_on
  early-refused d (inl e) =
      let g = (run_of r).geometry in
      let b = run-bounds r a in
      let xs = head_on g d 0 in
      let n : length xs ≡ head_length g = length-read d _ (head_length g) in
      let z = zeros-named xs g.blocksize (omega (arith, block-least g b)) (first_block d ∙ e) in
      unnamed-refused xs (omega (arith, n, head-least g b)) (λ q. omega (arith, q, z))
  early-refused d (inr e) =
      let g = (run_of r).geometry in
      let u = (run_of r).uuid in
      let m = sector-most g (run-bounds r a) in
      let xs = head_on g d 0 in
      let h = head_written g u 0 in
      begun-refused g u (source_of r a) xs
      (sym (take-take g.sectsize g.blocksize xs m) ∙ ap (take g.sectsize) (first_block d ∙ e) ∙ take-take g.sectsize g.blocksize h m)
      (length-read d _ (head_length g))

-- ---- what a run's records leave

module _ (r : Request) (a : AcceptedRun r) (old : Device) where
  pub head-formatted : (k : ℕ) → k < (run_of r).geometry.agcount → head_on (run_of r).geometry (formatted r old) k ≡ head_left (run_of r).geometry (run_of r).uuid k
  unfolding head_on formatted head_length
  head-formatted k h = (run-left r a old).head k h

  pub log-formatted : log_on (run_of r).geometry (formatted r old) ≡ log_block (run_of r).geometry (run_of r).uuid
  unfolding log_on formatted
  log-formatted = (run-left r a old).log

  -- after every cut of the list up to its first flush, group 0's head is refused
  pub cut-refused : (cut rest : List Record) → cut ++ rest ≡ unfinished (run_of r) r.device ++ (FL ∷ []) → 0 < length cut
      → (read_group0 (head_on (run_of r).geometry (applied cut old) 0)).number ≡ not_left
  cut-refused cut rest e h = early-refused r a (applied cut old) (early (run_of r) r.device (sound r a) cut rest e h old)
