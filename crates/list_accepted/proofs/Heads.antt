-- What every accepted run leaves on a device, whatever stood there, and that heads of two groups or of two disks differ.
-- Assumes nothing.
use mathlib.Core.Path.{◌≡◌, sym, ap, ◌∙◌}
use mathlib.Core.List.{List, [], ◌∷◌, ◌++◌}
use Prim.Native.Nat.{ℕ, ◌+◌, ◌<◌}
use lib.ListN.{length}
use Rattle.endian.specs.Bytes.{be_at}
use Rattle.endian.specs.Fields.{part}
use Rattle.geometry.specs.declared.Geometry.{Geometry}
use Rattle.list_records.specs.Records.{Record, FL}
use Rattle.list_records.specs.Device.{Device, applied}
use Rattle.request.specs.declared.Request.{Request}
use Rattle.run.specs.Runs.{run_of}
use Rattle.list_spec.specs.Listing.{head_left, list_of}
use Rattle.list_spec.specs.Left.{unfinished, DeviceLeft, OwnRecords, FirstBlockUnfinished}
use Rattle.list_spec.specs.Order.{Ordered}
use Rattle.list_spec.proofs.Left.{left}
use Rattle.list_spec.proofs.Alone.{alone}
use Rattle.list_spec.proofs.Order.{ordered}
use Rattle.list_spec.proofs.Early.{early}
use Rattle.list_spec.proofs.After as finishing
use Rattle.list_accepted.specs.Accepted.{AcceptedRun, Source}
use Rattle.list_accepted.specs.Superblocks.{left_in, Says}
use Rattle.list_accepted.proofs.Runs.{source_of}
use Rattle.list_accepted.proofs.Superblocks.{says}
use Rattle.list_accepted.proofs.Sound.{sound}

-- a device after the run of a request, whatever stood there
abbrev after : Request → Device → Device
after r d = applied (list_of (run_of r) r.device) d

module _ (r : Request) (a : AcceptedRun r) where
  -- WHAT AN ACCEPTED RUN LEAVES
  pub run-left : (d : Device) → DeviceLeft (run_of r) r.device (after r d)
  run-left d = left (run_of r) r.device (sound r a) d

  -- no record but those named touches a head
  pub run_alone : (k : ℕ) → k < (run_of r).geometry.agcount → OwnRecords (run_of r) r.device k
  run_alone k h = alone (run_of r) r.device (sound r a) k h

  -- the form of its list
  pub run-ordered : Ordered (run_of r) r.device
  run-ordered = ordered (run_of r) r.device (sound r a)

  -- after every cut up to the first flush, and from the finished superblock's block on
  pub run-early : (cut rest : List Record) → cut ++ rest ≡ unfinished (run_of r) r.device ++ (FL ∷ []) → 0 < length cut → (d : Device) → FirstBlockUnfinished (run_of r) (applied cut d)
  run-early cut rest e h d = early (run_of r) r.device (sound r a) cut rest e h d

  pub run-finished : (cut rest : List Record) → cut ++ rest ≡ list_of (run_of r) r.device → length (unfinished (run_of r) r.device) + 1 < length cut → (d : Device) → applied cut d ≡ after r d
  run-finished cut rest e h d = finishing.after (run_of r) r.device (sound r a) cut rest e h d

  -- WHAT THE HEADS SAY THAT IT LEAVES
  pub run-says : (k : ℕ) → k < (run_of r).geometry.agcount → Says (run_of r).geometry (run_of r).uuid k (left_in (run_of r) k)
  unfolding left_in
  run-says k h = says (run_of r).geometry (run_of r).uuid (source_of r a) k h

-- ---- one head is not another's

-- two groups of a disk have different heads
pub groups-apart : (g : Geometry) (uuid : List ℕ) → Source g uuid → (j k : ℕ) → j < g.agcount → k < g.agcount → head_left g uuid j ≡ head_left g uuid k → j ≡ k
groups-apart g uuid z j k h l e =
    sym (says g uuid z j h).group ∙ ap (be_at 4 (g.sectsize + 8)) e ∙ (says g uuid z k l).group

-- two disks with the same head in some group have one UUID, one block count and one count of groups
pub disks-apart : (g h : Geometry) (u v : List ℕ) → Source g u → Source h v → (k : ℕ) → k < g.agcount → k < h.agcount → head_left g u k ≡ head_left h v k
    → (u ≡ v) × (g.dblocks ≡ h.dblocks) × (g.agcount ≡ h.agcount)
disks-apart g h u v y z k i j e =
    let a = says g u y k i in
    let b = says h v z k j in
    (sym a.id ∙ ap (λ (xs : List ℕ). part 32 16 xs) e ∙ b.id, sym a.blocks ∙ ap (be_at 8 8) e ∙ b.blocks, sym a.groups ∙ ap (be_at 4 88) e ∙ b.groups)
