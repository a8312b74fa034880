-- Uses and totals by the bytes, of every disk that an accepted run leaves, and so of every disk that the reader accepts whole.
-- Assumes nothing.
use mathlib.Core.Path.{◌≡◌, refl, sym, ap, ◌∙◌}
use mathlib.Core.List.{List}
use Prim.Native.Nat.{ℕ, ◌<◌}
use Rattle.endian.specs.Bytes.{Octets}
use Rattle.geometry.specs.declared.Geometry.{Geometry}
use Rattle.request.specs.declared.Request.{Request}
use Rattle.plan_summary.specs.declared.Summary.{Summary}
use Rattle.plan_summary.specs.Summaries.{row_by_summary as row_of_summary}
use Rattle.plan_summary.proofs.Laws.{its-summary}
use Rattle.plan_summary.proofs.Rows.{rows_agree, totals-agree}
use Rattle.run.specs.Runs.{run_of}
use Rattle.list_records.specs.Device.{Device, applied, read}
use Rattle.list_spec.specs.Listing.{list_of, head_left}
use Rattle.list_spec.specs.Left.{head_at, head_bytes_of}
use Rattle.list_spec.proofs.Left.{left as device-left}
use Rattle.list_accepted.specs.Accepted.{AcceptedRun, Source}
use Rattle.list_accepted.proofs.Runs.{source-plans, source-label, source-uuid, source_of}
use Rattle.list_accepted.proofs.Sound.{sound}
use Rattle.reader_exact.specs.Read.{read_group0}
use Rattle.reader_exact.specs.Left.{ReadWhole}
use Rattle.reader_exact.proofs.Example.{disk, disk-accepted}
use Rattle.reader_exact.proofs.Whole.{whole-source, whole-heads}
use Rattle.reader_uses.specs.ByUse.{LeftHeads, Used, Printed}
use Rattle.reader_uses.proofs.OneUse.{one-use, no-use}
use Rattle.reader_uses.proofs.Totals.{free-total, count-total}
use Rattle.reader_uses.proofs.Table.{row_is, total-is}

used : (g : Geometry) (u : List ℕ) (heads : ℕ → List ℕ) → LeftHeads g u heads → Used g heads
used g u heads d =
    record {
      one-use = λ k b i j. one-use g u heads d k i b j;
      no-use = λ k b i j v. no-use g u heads d k i b j v;
      free-total = free-total g u heads d;
      count-total = count-total g u heads d;
      rows = λ k i. row_is g u heads d k i;
      last_line = total-is g u heads d;
    }

-- heads that an accepted run with this geometry and UUID leaves
left : (g : Geometry) (u : List ℕ) (heads : ℕ → List ℕ) → Source g u → ((k : ℕ) → k < g.agcount → heads k ≡ head_left g u k) → LeftHeads g u heads
left g u heads s e = record { label = source-label g u s; uuid = source-uuid g u s; plans = source-plans g u s; bytes = e }

-- WHAT EVERY ACCEPTED RUN LEAVES
pub run-used : (r : Request) → AcceptedRun r → Used (run_of r).geometry (head_left (run_of r).geometry (run_of r).uuid)
run-used r a =
    let g = (run_of r).geometry in
    let u = (run_of r).uuid in
    used g u (head_left g u) (left g u (head_left g u) (source_of r a) (λ k i. refl))

-- WHAT A DEVICE HOLDS AFTER ITS RECORDS WERE APPLIED TO ANY OLD CONTENTS, read where the heads stand
pub device-used : (r : Request) → AcceptedRun r → (d : Device)
    → Used (run_of r).geometry (λ k. read (applied (list_of (run_of r) r.device) d) (head_at (run_of r) k) (head_bytes_of (run_of r)))
device-used r a d =
    let run = run_of r in
    let heads : ℕ → List ℕ = λ k. read (applied (list_of run r.device) d) (head_at run k) (head_bytes_of run) in
    used run.geometry run.uuid heads
    (left run.geometry run.uuid heads (source_of r a) (device-left run r.device (sound r a) d).head)

-- EVERY DISK THAT THE READER ACCEPTS WHOLE, with the geometry that group 0's head gives
pub whole-used : (heads : ℕ → List ℕ) (log : List ℕ) → Octets (heads 0) → ReadWhole heads log → Used (read_group0 (heads 0)).geometry heads
whole-used heads log o r =
    let g = (read_group0 (heads 0)).geometry in
    let u = (read_group0 (heads 0)).uuid in
    used g u heads (left g u heads (whole-source heads log o r) (whole-heads heads log o r))

-- A TABLE THAT IS PRINTED FROM THE GEOMETRY SAYS WHAT THE BYTES SAY, on every disk that the reader accepts whole
pub whole-printed : (heads : ℕ → List ℕ) (log : List ℕ) → Octets (heads 0) → ReadWhole heads log → Printed (read_group0 (heads 0)).geometry heads
whole-printed heads log o r =
    let g = (read_group0 (heads 0)).geometry in
    let u = (read_group0 (heads 0)).uuid in
    let s = whole-source heads log o r in
    let w = whole-used heads log o r in
    let e = its-summary g (source-plans g u s) in
    record {
      rows = λ k i. ap (λ (t : Summary). row_of_summary t k) e ∙ rows_agree g (source-label g u s) (source-plans g u s) k ∙ sym (w.rows k i);
      last_line = ap (λ (t : Summary). t.total) e ∙ totals-agree g (source-label g u s) (source-plans g u s) ∙ sym w.last_line;
    }

-- an accepted run, so that nothing here is said of nothing
pub example-used : Used (run_of disk).geometry (head_left (run_of disk).geometry (run_of disk).uuid)
example-used = run-used disk disk-accepted
