-- A pass that is fed part by part, or from a device; and a device that one accepted run leaves.
-- Assumes nothing.
use Rattle.std.specs.Prelude.{◌≡◌, false, List, ℕ, zero, suc, ◌+◌, ◌<◌}
use Rattle.refusals.specs.Numbers.{wrong_length}
use Rattle.geometry.specs.declared.Geometry.{Geometry}
use Rattle.request.specs.declared.Request.{Request}
use Rattle.run.specs.Runs.{run_of}
use Rattle.list_records.specs.Device.{Device, read}
use Rattle.reader_names.specs.Named.{named_by}
use Rattle.list_accepted.specs.Accepted.{AcceptedRun}
use Rattle.reader_exact.specs.Read.{least_sector, read_group0}
use Rattle.reader_exact.specs.Left.{ReadWhole}
use Rattle.reader_exact.specs.Disk.{head_on, log_on, formatted}
use Rattle.reader_pass.specs.declared.Pass.{Pass}
use Rattle.reader_pass.specs.declared.Verdict.{Verdict}
use Rattle.reader_pass.specs.Passing.{pass_begun, pass_wanted, pass_fed}

-- every byte is one
abbrev pub ByteDevice : Device → Type 0
ByteDevice d = (x : ℕ) → d x < 256

-- one turn: what is wanted is read and fed
unfoldable pub pass_turn : Device → Pass → Pass
pass_turn d p = pass_fed p (read d (pass_wanted p).offset (pass_wanted p).length)

-- n turns
unfoldable pub pass_turns : Device → ℕ → Pass → Pass
pass_turns d zero p = p
pass_turns d (suc n) p = pass_turns d n (pass_turn d p)

-- n turns from the start
abbrev pub passed_turns : Device → ℕ → Pass
passed_turns d n = pass_turns d n pass_begun

-- n parts fed in order, whatever they are
unfoldable pub fed_by : (ℕ → List ℕ) → ℕ → Pass
fed_by parts zero = pass_begun
fed_by parts (suc n) = pass_fed (fed_by parts n) (parts n)

-- the number of groups by group 0's head, which is fed behind the first sector
abbrev pub groups_fed : (ℕ → List ℕ) → ℕ
groups_fed parts = (read_group0 (parts 1)).geometry.agcount

-- the geometry that the first sector names, in plain sizing: the other sizing puts heads and log block in the same places
abbrev pub sector_named : Device → Geometry
sector_named d = (named_by false (read d 0 least_sector)).geometry

-- a turn for the first sector, one for each head and one for the log block
abbrev pub turns_needed : Device → ℕ
turns_needed d = (sector_named d).agcount + 2

-- the verdict 27 at the place k
abbrev pub Missing : Verdict → ℕ → Type 0
Missing v k = (v.number ≡ wrong_length) × (v.place ≡ k)

-- the reader accepts the heads and the log block that stand where this geometry puts them
abbrev pub AcceptedWhole : Device → Type 0
AcceptedWhole d = ReadWhole (head_on (sector_named d) d) (log_on (sector_named d) d)

-- the written records of one accepted run leave, on any old device, what stands here in all its heads and its log block
pub record LeftByRun (d : Device) : Type 0 where
  pub request : Request
  pub accepted : AcceptedRun request
  pub head : (old : Device) (k : ℕ) → k < (run_of request).geometry.agcount
      → head_on (run_of request).geometry d k ≡ head_on (run_of request).geometry (formatted request old) k
  pub log-block : (old : Device) → log_on (run_of request).geometry d ≡ log_on (run_of request).geometry (formatted request old)
