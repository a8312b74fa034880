-- WHOLE DISK: all heads and the log block are accepted, the others read with what group 0's head gives, exactly where the written records of one
-- accepted run leave them all, whatever the device held.
-- Assumes nothing.
use mathlib.Core.Path.{◌≡◌, refl, ap, sym, subst, ◌∙◌}
use mathlib.Core.Bool.{Bool, true, false}
use mathlib.Core.List.{List}
use Prim.Native.Nat.{ℕ, ◌<◌}
use native.Mathlib.Omega.{arith}
use borrow.Author.Tests.{eqb-true, eqb-false}
use lib.Dec.{eqb}
use Rattle.endian.specs.Bytes.{Octets}
use Rattle.geometry.specs.declared.Geometry.{Geometry}
use Rattle.plan.specs.declared.Planned.{Planned}
use Rattle.plan.specs.Plan.{planned}
use Rattle.request.specs.declared.Request.{Request}
use Rattle.run.specs.Runs.{run_of}
use Rattle.list_records.specs.Device.{Device}
use Rattle.list_spec.specs.Listing.{log_block, head_left}
use Rattle.list_accepted.specs.Accepted.{AcceptedRun, Source}
use Rattle.list_accepted.proofs.Runs.{source_of}
use Rattle.reader_exact.specs.declared.Found.{Found}
use Rattle.reader_exact.specs.Read.{found, read_group0, read_group, read_log}
use Rattle.reader_exact.specs.Left.{HeadLeftBy, ReadWhole, reported}
use Rattle.reader_exact.specs.Disk.{head_on, log_on, formatted, ByRecords}
use Rattle.reader_exact.proofs.Heads.{source-handed, some-group}
use Rattle.reader_exact.proofs.Sizings.{reported-plain, reported-source, reported-log, reported-here}
use Rattle.reader_exact.proofs.First.{complete-first, exact-first}
use Rattle.reader_exact.proofs.Others.{group-sound, complete-group, exact-log}
use Rattle.reader_exact.proofs.Disk.{head-formatted, log-formatted}

module _ (heads : ℕ → List ℕ) (log : List ℕ) where
  -- a run for a geometry and a UUID whose bytes all are leaves all
  by-source : (g : Geometry) (u : List ℕ) (s : Source g u) → ((k : ℕ) → k < g.agcount → heads k ≡ head_left g u k) → log ≡ log_block g u → ByRecords heads log
  by-source g u s h l =
      let r = s.request in
      let its-head : (k : ℕ) → k < (run_of r).geometry.agcount → heads k ≡ head_left (run_of r).geometry (run_of r).uuid k =
      λ k lt. rw (s.geometry, s.uuid) (h k (subst (λ (x : Geometry). k < x.agcount) s.geometry lt)) in
      let its-log : log ≡ log_block (run_of r).geometry (run_of r).uuid = rw (s.geometry, s.uuid) l in
      record {
        request = r;
        accepted = s.accepted;
        head = λ old k lt. its-head k lt ∙ sym (head-formatted r s.accepted old k lt);
        log-block = λ old. its-log ∙ sym (log-formatted r s.accepted old);
      }

  -- what the records of a run leave are the bytes of its geometry and UUID
  module _ (w : ByRecords heads log) where
    pub head-by : (k : ℕ) → k < (run_of w.request).geometry.agcount → heads k ≡ head_left (run_of w.request).geometry (run_of w.request).uuid k
    head-by k h = let old : Device = λ x. 0 in w.head old k h ∙ head-formatted w.request w.accepted old k h

    pub log-by : log ≡ log_block (run_of w.request).geometry (run_of w.request).uuid
    log-by = let old : Device = λ x. 0 in w.log-block old ∙ log-formatted w.request w.accepted old

  -- group 0's head, or another
  each : (g : Geometry) (u : List ℕ) → heads 0 ≡ head_left g u 0 → ((k : ℕ) → 0 < k → k < g.agcount → heads k ≡ head_left g u k)
      → (k : ℕ) → k < g.agcount → (t : Bool) → eqb k 0 ≡ t → heads k ≡ head_left g u k
  each g u z n k h true e = rw (eqb-true k 0 e) z
  each g u z n k h false e = n k (let o = eqb-false k 0 e in omega arith) h

  module _ (o : Octets (heads 0)) (r : ReadWhole heads log) where
    abbrev g : Geometry
    g = (read_group0 (heads 0)).geometry

    abbrev u : List ℕ
    u = (read_group0 (heads 0)).uuid

    first-left : HeadLeftBy g u 0 (heads 0)
    first-left =
        let n = r.first in
        let p = (read_group0 (heads 0)).plan in
        let e : read_group0 (heads 0) ≡ found g u p = λ i. record { number = n i; geometry = g; uuid = u; plan = p } in
        ((exact-first (heads 0) g u p o).0 e).0

    -- some accepted run has the geometry and the UUID that group 0's head gives
    pub whole-source : Source (read_group0 (heads 0)).geometry (read_group0 (heads 0)).uuid
    whole-source = first-left.source

    -- and leaves all heads
    pub whole-heads : (k : ℕ) → k < (read_group0 (heads 0)).geometry.agcount → heads k ≡ head_left (read_group0 (heads 0)).geometry (read_group0 (heads 0)).uuid k
    whole-heads k h =
        each g u first-left.bytes (λ j p q. (group-sound g u j (heads j) (source-handed g u whole-source) (r.others j p q)).bytes) k h (eqb k 0) refl

    whole-sound : ByRecords heads log
    whole-sound = by-source g u whole-source whole-heads ((exact-log g u log (source-handed g u whole-source)).0 r.log-block).bytes

  pub whole-complete : ByRecords heads log → ReadWhole heads log
  whole-complete w =
      let g = (run_of w.request).geometry in
      let u = (run_of w.request).uuid in
      let s = source_of w.request w.accepted in
      let h = reported g in
      let t = reported-source g u s in
      let e : read_group0 (heads 0) ≡ found h u (planned g 0).plan = ap read_group0 (head-by w 0 (some-group g u s)) ∙ complete-first g u s in
      record {
        first = ap (λ (x : Found). x.number) e;
        others =
            λ k p m.
            let n : k < h.agcount = subst (λ (x : Found). k < x.geometry.agcount) e m in
            let q : k < g.agcount = subst (λ (x : Geometry). k < x.agcount) (reported-plain g) n in
            subst (λ (x : Found). (read_group x.geometry x.uuid k (heads k)).number ≡ 0) (sym e)
            (ap (λ (x : Planned). x.number) (complete-group h u k (heads k) (reported-here g u s k (heads k) (record { source = s; group = q; bytes = head-by w k q }))));
        log-block =
            subst (λ (x : Found). read_log x.geometry x.uuid log ≡ 0) (sym e)
            ((exact-log h u log (source-handed h u t)).1 (record { source = t; bytes = log-by w ∙ sym (reported-log g u s) }));
      }

  -- heads by their groups and a log block are accepted whole exactly where the written records of one accepted run leave them all
  pub exact-whole : Octets (heads 0) → (ReadWhole heads log → ByRecords heads log) × (ByRecords heads log → ReadWhole heads log)
  exact-whole o = (whole-sound o, whole-complete)

  -- and then group 0's head gives that run's geometry, as it is reported, and UUID
  pub whole-found : (w : ByRecords heads log) → read_group0 (heads 0) ≡ found (reported (run_of w.request).geometry) (run_of w.request).uuid (planned (run_of w.request).geometry 0).plan
  whole-found w =
      let s = source_of w.request w.accepted in
      ap read_group0 (head-by w 0 (some-group (run_of w.request).geometry (run_of w.request).uuid s)) ∙ complete-first (run_of w.request).geometry (run_of w.request).uuid s

-- what a run's records leave is accepted whole
pub formatted-read : (r : Request) → AcceptedRun r → (old : Device) → ReadWhole (head_on (run_of r).geometry (formatted r old)) (log_on (run_of r).geometry (formatted r old))
formatted-read r a old =
    let g = (run_of r).geometry in
    let u = (run_of r).uuid in
    whole-complete (head_on g (formatted r old)) (log_on g (formatted r old))
    (by-source (head_on g (formatted r old)) (log_on g (formatted r old)) g u (source_of r a) (head-formatted r a old) (log-formatted r a old))
