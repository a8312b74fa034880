-- ACCEPTED EXACTLY WHERE THE WRITTEN RECORDS OF ONE ACCEPTED RUN LEAVE WHAT STANDS IN ITS HEADS AND ITS LOG BLOCK.
-- Assumes nothing.
use mathlib.Core.Path.{◌≡◌, sym, ap, ◌∙◌}
use mathlib.Core.Bool.{false}
use mathlib.Core.List.{List}
use Prim.Native.Nat.{ℕ, zero, suc, ◌-◌, ◌<◌, ◌≤◌}
use lib.Dec.{lit<}
use lib.ListN.{get_or}
use Rattle.endian.specs.Bytes.{Octets}
use Rattle.geometry.specs.declared.Geometry.{Geometry}
use Rattle.head_bytes.specs.Head.{head_length}
use Rattle.run.specs.Runs.{run_of}
use Rattle.list_records.specs.Device.{Device, read}
use Rattle.reader_names.specs.Named.{named_by}
use Rattle.reader_names.specs.Sizings.{sized, plain}
use Rattle.list_spec.specs.Listing.{head_left}
use Rattle.list_accepted.proofs.Runs.{source_of}
use Rattle.reader_exact.specs.declared.Found.{Found}
use Rattle.reader_exact.specs.Read.{read_group0}
use Rattle.reader_exact.specs.Left.{reported}
use Rattle.reader_exact.specs.Disk.{head_on, log_on, ByRecords}
use Rattle.reader_exact.proofs.Sizings.{reported-plain}
use Rattle.reader_exact.proofs.Heads.{head-least, source-bounds, some-group, left-named}
use Rattle.reader_exact.proofs.Whole.{exact-whole, whole-complete, whole-found}
use Rattle.reader_exact.proofs.Disk.{head-formatted}
use Rattle.reader_pass.specs.Passing.{pass_verdict}
use Rattle.reader_pass.specs.Device.{ByteDevice, passed_turns, sector_named, turns_needed, Missing, AcceptedWhole, LeftByRun}
use Rattle.reader_pass.proofs.Accepted.{same_head, same_log, head-named, near-named, whole-near, pass-sound, pass-complete, pass-unfinished}

-- the bytes that are read from bytes
read_below : (d : Device) → ByteDevice d → (n off i : ℕ) → get_or (read d off n) i 0 < 256
unfolding read
read_below d b zero off i = lit< tt
read_below d b (suc n) off zero = b off
read_below d b (suc n) off (suc i) = read_below d b n (suc off) i

module _ (d : Device) where
  pub octets : ByteDevice d → (g : Geometry) → Octets (head_on g d 0)
  unfolding head_on
  octets b g = read_below d b (head_length g) _

  -- a run that leaves all heads and the log block leaves them on the device
  unfoldable pub run-leaves : AcceptedWhole d → ByRecords (head_on (sector_named d) d) (log_on (sector_named d) d) → LeftByRun d
  run-leaves w o =
      let g = sector_named d in
      let r = o.request in
      let f = (read_group0 (head_on g d 0)).geometry in
      let e : f ≡ reported (run_of r).geometry = ap (λ (x : Found). x.geometry) (whole-found (head_on g d) (log_on g d) o) in
      let near : plain (run_of r).geometry ≡ sized g f.logblocks false = sym (reported-plain (run_of r).geometry) ∙ ap plain (sym e) ∙ whole-near d w in
      record {
        request = r;
        accepted = o.accepted;
        head = λ old k h. same_head d (run_of r).geometry g near k ∙ o.head old k h;
        log-block = λ old. same_log d (run_of r).geometry g near ∙ o.log-block old;
      }

  from-whole : ByteDevice d → AcceptedWhole d → LeftByRun d
  from-whole b w = let g = sector_named d in run-leaves w ((exact-whole (head_on g d) (log_on g d) (octets b g)).0 w)

  -- the run leaves them where the first sector puts them
  unfoldable its-run : LeftByRun d → ByRecords (head_on (sector_named d) d) (log_on (sector_named d) d)
  its-run w =
      let r = w.request in
      let g = (run_of r).geometry in
      let u = (run_of r).uuid in
      let s = source_of r w.accepted in
      let first : head_on g d 0 ≡ head_left g u 0 = w.head d 0 (some-group g u s) ∙ head-formatted r w.accepted d 0 (some-group g u s) in
      let near = near-named d g.roomy g (sym (head-named d g.roomy g (head-least g (source-bounds g u s))) ∙ ap (named_by g.roomy) first ∙ left-named g u s) in
      record {
        request = r;
        accepted = w.accepted;
        head = λ old k i. sym (same_head d g (sector_named d) near k) ∙ w.head old k i;
        log-block = λ old. sym (same_log d g (sector_named d) near) ∙ w.log-block old;
      }

  to_whole : LeftByRun d → AcceptedWhole d
  to_whole w = whole-complete (head_on (sector_named d) d) (log_on (sector_named d) d) (its-run w)

  -- and its geometry, as it is reported, is what group 0's head gives
  pub left-geometry : (w : LeftByRun d) → (read_group0 (head_on (sector_named d) d 0)).geometry ≡ reported (run_of w.request).geometry
  unfolding its-run
  left-geometry w = ap (λ (x : Found). x.geometry) (whole-found (head_on (sector_named d) d) (log_on (sector_named d) d) (its-run w))

  module _ (b : ByteDevice d) (n : ℕ) where
    -- after any number of turns
    pub accepted-left : (pass_verdict (passed_turns d n)).number ≡ 0 → LeftByRun d
    accepted-left z = from-whole b (pass-sound d n z)

    -- once all was fed
    pub left-accepted : turns_needed d ≤ n → LeftByRun d → (pass_verdict (passed_turns d n)).number ≡ 0
    left-accepted h w = pass-complete d n h (to_whole w)

  -- until all was fed
  pub left-unfinished : LeftByRun d → (n : ℕ) → n < turns_needed d → Missing (pass_verdict (passed_turns d n)) (n - 1)
  left-unfinished w = pass-unfinished d (to_whole w)
