-- Heads and log block as a device holds them, and as the written records of a run leave them there.
-- Assumes nothing.
use Rattle.std.specs.Prelude.{◌≡◌, List, ℕ, ◌<◌}
use Rattle.geometry.specs.declared.Geometry.{Geometry}
use Rattle.geometry_layout.specs.Places.{byte_of}
use Rattle.request.specs.declared.Request.{Request}
use Rattle.run.specs.Runs.{run_of}
use Rattle.head_bytes.specs.Head.{head_length}
use Rattle.list_records.specs.Device.{Device, applied, read}
use Rattle.list_spec.specs.Listing.{log_offset, list_of}
use Rattle.list_accepted.specs.Accepted.{AcceptedRun}

-- where the geometry puts them: the head of group k, and the log's first block
unfoldable pub head_on : Geometry → Device → ℕ → List ℕ
head_on g d k = read d (byte_of g.blocksize g.agsize k 0) (head_length g)

unfoldable pub log_on : Geometry → Device → List ℕ
log_on g d = read d (log_offset g) g.blocksize

-- the device after the whole list of the run that is asked for was applied to old contents
unfoldable pub formatted : Request → Device → Device
formatted r old = applied (list_of (run_of r) r.device) old

-- the written records of one accepted run leave all these heads and this log block, whatever stood on the device
pub record ByRecords (heads : ℕ → List ℕ) (log : List ℕ) : Type 0 where
  pub request : Request
  pub accepted : AcceptedRun request
  pub head : (old : Device) (k : ℕ) → k < (run_of request).geometry.agcount
      → heads k ≡ head_on (run_of request).geometry (formatted request old) k
  pub log-block : (old : Device) → log ≡ log_on (run_of request).geometry (formatted request old)
