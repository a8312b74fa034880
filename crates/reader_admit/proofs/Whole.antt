-- A WHOLE DISK IS ADMITTED EXACTLY WHERE ONE ACCEPTED RUN UNDER THE PROFILE LEAVES IT, and 37 comes only where nothing else refuses. An admitted disk
-- is an accepted one: what is recovered, the uses of its blocks and their totals hold of it.
-- Assumes nothing.
use mathlib.Core.Path.{◌≡◌, refl, sym, ap, subst, ◌∙◌}
use mathlib.Core.Bool.{Bool, true, false}
use mathlib.Core.List.{List}
use mathlib.Core.Logic.{◌↔◌}
use Prim.Native.Nat.{ℕ, ◌+◌, ◌<◌, ◌≤◌}
use Rattle.endian.specs.Bytes.{Octets}
use Rattle.refusals.specs.Numbers.{not_in_profile}
use Rattle.geometry.specs.declared.Geometry.{Geometry}
use Rattle.profile.specs.Rules.{in_profile, label_on}
use Rattle.request.specs.declared.Request.{Request}
use Rattle.run.specs.Runs.{run_of}
use Rattle.list_records.specs.Device.{Device}
use Rattle.list_spec.specs.Listing.{log_block, head_left}
use Rattle.list_accepted.specs.Accepted.{AcceptedRun}
use Rattle.reader_exact.specs.Read.{read_group0}
use Rattle.reader_exact.specs.Left.{ReadWhole}
use Rattle.reader_exact.specs.Disk.{ByRecords, head_on, log_on}
use Rattle.reader_exact.proofs.Disk.{head-formatted, log-formatted}
use Rattle.reader_exact.proofs.Heads.{source-handed}
use Rattle.reader_exact.proofs.Others.{exact-log}
use Rattle.reader_exact.proofs.Recovery.{Recovered, recovered}
use Rattle.reader_exact.proofs.Whole.{whole-source, whole-heads}
use Rattle.reader_pass.specs.Passing.{pass_verdict}
use Rattle.reader_pass.specs.Device.{ByteDevice, passed_turns, fed_by, groups_fed, sector_named, turns_needed, LeftByRun}
use Rattle.reader_pass.proofs.Accepted.{pass-sound, pass-geometry}
use Rattle.reader_pass.proofs.Fed.{fed-whole}
use Rattle.reader_pass.proofs.Left.{octets, run-leaves, left-accepted, left-geometry}
use Rattle.reader_uses.specs.ByUse.{Used}
use Rattle.reader_uses.proofs.Accepted.{run-used, whole-used}
use Rattle.reader_admit.specs.Admit.{admitted}
use Rattle.reader_admit.specs.Profile.{ProfileSource, ProfileRecords, ProfileDisk}
use Rattle.reader_admit.proofs.Within.{source-within, within-source, reported-within}
use Rattle.reader_admit.proofs.Admitted.{admitted-zero, zero-admitted, outside-37}

-- ---- heads and log block that are accepted whole, on a disk within the profile

module _ (heads : ℕ → List ℕ) (log : List ℕ) (o : Octets (heads 0)) (w : ReadWhole heads log)
    (e : in_profile (read_group0 (heads 0)).geometry (label_on (read_group0 (heads 0)).geometry) ≡ true) where
  abbrev g : Geometry
  g = (read_group0 (heads 0)).geometry

  abbrev u : List ℕ
  u = (read_group0 (heads 0)).uuid

  its-source : ProfileSource g u
  its-source = within-source g u (whole-source heads log o w) e

  its-log : log ≡ log_block g u
  its-log = ((exact-log g u log (source-handed g u (whole-source heads log o w))).0 w.log-block).bytes

  -- are left by one run under the profile
  unfoldable profile-run : ByRecords heads log
  profile-run =
      let s = its-source.run in
      let r = s.request in
      let h : (k : ℕ) → k < (run_of r).geometry.agcount → heads k ≡ head_left (run_of r).geometry (run_of r).uuid k =
      λ k lt. rw (s.geometry, s.uuid) (whole-heads heads log o w k (subst (λ (x : Geometry). k < x.agcount) s.geometry lt)) in
      let l : log ≡ log_block (run_of r).geometry (run_of r).uuid = rw (s.geometry, s.uuid) its-log in
      record {
        request = r;
        accepted = s.accepted;
        head = λ old k lt. h k lt ∙ sym (head-formatted r s.accepted old k lt);
        log-block = λ old. l ∙ sym (log-formatted r s.accepted old);
      }

  profile-is : profile-run.request.profile ≡ true
  unfolding profile-run
  profile-is = its-source.profile

  profile-records : ProfileRecords heads log
  profile-records = record { records = profile-run; profile = profile-is }

-- ---- a pass

-- WHATEVER IS FED, from a file that changes while it is read too: admitted says that one run under the profile leaves all of it, and that all was fed
pub admit-fed : (parts : ℕ → List ℕ) → Octets (parts 1) → (n : ℕ) → admitted true (pass_verdict (fed_by parts n)).geometry (pass_verdict (fed_by parts n)).number ≡ 0
    → ProfileRecords (λ k. parts (k + 1)) (parts (groups_fed parts + 1)) × (groups_fed parts + 2 ≤ n)
admit-fed parts o n e =
    let p = admitted-zero (pass_verdict (fed_by parts n)).geometry (pass_verdict (fed_by parts n)).number e in
    let f = fed-whole parts n p.0 in
    let i = subst (λ (x : Geometry). in_profile x (label_on x) ≡ true) f.1.1 p.1 in
    (profile-records (λ k. parts (k + 1)) (parts (groups_fed parts + 1)) o f.0 i, f.1.0)

module _ (d : Device) (n : ℕ) where
  abbrev number : ℕ
  number = (pass_verdict (passed_turns d n)).number

  abbrev geometry : Geometry
  geometry = (pass_verdict (passed_turns d n)).geometry

  disk-left : ByteDevice d → admitted true (pass_verdict (passed_turns d n)).geometry (pass_verdict (passed_turns d n)).number ≡ 0 → ProfileDisk d
  unfolding run-leaves
  disk-left b e =
      let p = admitted-zero geometry number e in
      let w = pass-sound d n p.0 in
      let i = subst (λ (x : Geometry). in_profile x (label_on x) ≡ true) (pass-geometry d n p.0) p.1 in
      let heads = head_on (sector_named d) d in
      let log = log_on (sector_named d) d in
      let o = octets d b (sector_named d) in
      record { left = run-leaves d w (profile-run heads log o w i); profile = profile-is heads log o w i }

  left-within : ByteDevice d → turns_needed d ≤ n → ProfileDisk d → admitted true (pass_verdict (passed_turns d n)).geometry (pass_verdict (passed_turns d n)).number ≡ 0
  left-within b h w =
      let r = w.left.request in
      let z = left-accepted d b n h w.left in
      let q = pass-geometry d n z ∙ left-geometry d w.left in
      let i = source-within (run_of r).geometry (run_of r).uuid (record { run = record { request = r; accepted = w.left.accepted; geometry = refl; uuid = refl }; profile = w.profile }) in
      zero-admitted geometry number z (ap (λ (x : Geometry). in_profile x (label_on x)) q ∙ reported-within (run_of r).geometry ∙ i)

  -- A DISK, once all was read
  pub admit-disk : ByteDevice d → turns_needed d ≤ n → (admitted true (pass_verdict (passed_turns d n)).geometry (pass_verdict (passed_turns d n)).number ≡ 0) ↔ ProfileDisk d
  admit-disk b h = (disk-left b, left-within b h)

  -- 37 WHERE A RUN LEAVES IT, AND NONE UNDER THE PROFILE DOES
  pub disk-37 : ByteDevice d → turns_needed d ≤ n → LeftByRun d → (ProfileDisk d → ⊥) → admitted true (pass_verdict (passed_turns d n)).geometry (pass_verdict (passed_turns d n)).number ≡ not_in_profile
  disk-37 b h l q =
      let z = left-accepted d b n h l in
      outside-37 geometry number z (go (in_profile geometry (label_on geometry)) refl z)
    where
      go : (t : Bool) → in_profile geometry (label_on geometry) ≡ t → number ≡ 0 → t ≡ false
      go true e z = absurd (q (disk-left b (zero-admitted geometry number z e)))
      go false e z = refl

-- ---- profile disks are accepted disks

-- what a run under the profile leaves is read back, and each of its blocks has one use
pub profile-recovered : (r : Request) → AcceptedRun r → r.profile ≡ true
    → Recovered (run_of r).geometry (run_of r).uuid × Used (run_of r).geometry (head_left (run_of r).geometry (run_of r).uuid)
profile-recovered r a t = (recovered r a, run-used r a)

-- and so of every disk that is admitted whole
pub admitted-used : (heads : ℕ → List ℕ) (log : List ℕ) → Octets (heads 0) → ReadWhole heads log
    → admitted true (read_group0 (heads 0)).geometry (read_group0 (heads 0)).number ≡ 0 → Used (read_group0 (heads 0)).geometry heads
admitted-used heads log o w e = whole-used heads log o w
