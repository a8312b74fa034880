-- The words of the page: those that no crate below has (a device that is read back; a run that is stopped), and, by `pub use`, where each
-- other word stands.
-- Assumes nothing.
use Rattle.std.specs.Prelude.{◌≡◌, Bool, true, false, ◌||◌, List, [], ◌∷◌, ◌++◌, ◌⊎◌, ℕ, ◌+◌, ◌*◌, ◌<◌, eqb, length, take}
pub use Rattle.arith.specs.Choice.{when}
use Rattle.endian.specs.Answer.{room, answer, Put}
use Rattle.endian.specs.Bytes.{patch}
pub use Rattle.endian.specs.Bytes.{Octets}
use Rattle.endian.specs.Fields.{write_fields, table, table_fits, PutAll}
use Rattle.table_lines.specs.Lines.{PutLine}
use Rattle.chunk.specs.Chunk.{ChunkMade}
pub use Rattle.refusals.specs.Numbers.{free_list_short, wrong_length, no_place, not_left, no_answer}
pub use Rattle.refusals.specs.Table.{Refusal, ◌if◌, first}
pub use Rattle.params.specs.declared.Params.{Params}
pub use Rattle.params.specs.Params.{no_options, with_roomy}
pub use Rattle.geometry.specs.SizeLimits.{max_supported_block}
pub use Rattle.geometry.specs.Limits.{mib}
pub use Rattle.geometry.specs.declared.Geometry.{Geometry}
pub use Rattle.geometry.specs.Compute.{chosen_of, refusals, compute_def}
pub use Rattle.geometry_answers.specs.Named.{named_on, names_of, is_answer}
pub use Rattle.geometry_answers.specs.Answers.{Answered, TypedGeometry}
pub use Rattle.structs.specs.Written.{Written}
use Rattle.structs.specs.Encoded.{Encoded}
pub use Rattle.crc.specs.Crc.{stamped, verified}
pub use Rattle.crc.specs.Vectors.{Vectors}
pub use Rattle.geometry_layout.specs.Places.{group_blocks, freelist_of}
pub use Rattle.plan_site.specs.Sites.{site_of}
pub use Rattle.plan.specs.Plan.{planned}
pub use Rattle.plan_closed.specs.Closed.{free_before_list, closed_plan}
pub use Rattle.plan_totals.specs.Totals.{plans_number}
pub use Rattle.plan_summary.specs.Narrow.{NarrowGroup}
pub use Rattle.plan_orders.specs.Orders.{Order, AddsUp}
pub use Rattle.plan_uses.specs.Uses.{uses_of, used_of, mapped_of}
pub use Rattle.request.specs.declared.Request.{Request}
pub use Rattle.request.specs.Parse.{request, parse_def}
pub use Rattle.request.specs.Defaults.{time_of}
pub use Rattle.profile.specs.Rules.{profile_number, label_on}
pub use Rattle.run.specs.Runs.{or_next, step_of, time_refusal, run_of, accepted}
pub use Rattle.list_records.specs.Records.{Record, Among, list_bytes}
use Rattle.list_records.specs.Records.{FL, flushes}
pub use Rattle.list_read.specs.Records.{largest_offset}
pub use Rattle.list_read.specs.Whole.{read_list, whole_list}
pub use Rattle.list_records.specs.Device.{Device, applied}
pub use Rattle.list_apply_laws.specs.Lists.{AppliesFront}
pub use Rattle.list_spec.specs.Listing.{head_blocks, list_of}
use Rattle.list_spec.specs.Listing.{chunk_blocks}
pub use Rattle.list_spec.specs.Order.{Ordered}
pub use Rattle.list_spec.specs.Left.{DeviceLeft, finishing_record}
pub use Rattle.list_accepted.specs.Accepted.{AcceptedRun}
pub use Rattle.list_send.specs.Sending.{sending_begun, longest_piece, handed}
pub use Rattle.reader_exact.specs.Read.{read_group0, read_group, read_log}
use Rattle.reader_exact.specs.Read.{found}
pub use Rattle.reader_names.specs.Sizings.{plain}
pub use Rattle.reader_exact.specs.Asked.{AskedFor}
pub use Rattle.reader_exact.specs.Left.{Handed, ReadWhole, reported}
pub use Rattle.reader_exact.specs.Disk.{head_on, formatted, ByRecords}
use Rattle.reader_exact.specs.Disk.{log_on}
pub use Rattle.reader_vouch.specs.Leaving.{Leaves, LeavesLog, SomeLeaves}
pub use Rattle.reader_pass.specs.Passing.{pass_verdict}
pub use Rattle.reader_pass.specs.Device.{ByteDevice, passed_turns, fed_by, turns_needed, LeftByRun}
pub use Rattle.reader_pass.specs.Parts.{parts_needed, RunParts}
pub use Rattle.reader_decoded.specs.Decoded.{sector_at, log_run_in, count_in}
pub use Rattle.reader_decoded.specs.Checks.{Checked}
pub use Rattle.reader_layout.specs.Layouts.{SuperblockAt, AgfAt, AgiAt, FreeListAt, RootsAt}
pub use Rattle.reader_layout.specs.Chunk.{chunk_on, inode_in, Inodes, DirectoryAt}
pub use Rattle.reader_admit.specs.Admit.{admitted}
pub use Rattle.reader_uses.specs.ByUse.{uses_in, Once, free_total, list_total, chunk_total}

-- Each promise on a lent buffer is `Written`, of its own test's number and its own bytes: of a write that asks for `m` bytes, of one by a
-- table of fields, of a line at an offset, of an encoder that stamps, and of a root chunk.
pub record OneForm : Type 0 where
  pub by_length : (m r : ℕ) (new old left : List ℕ) → Put m new old r left → Written (answer (room m old)) new old r left
  pub by-table : (at vs old left : List ℕ) (r : ℕ) → PutAll at vs old r left
      → Written (answer (table_fits (length old) at (length vs))) (write_fields (table at vs) old) old r left
  pub of-a-line : (at r end : ℕ) (bytes old left : List ℕ) → PutLine at bytes old r end left
      → Written (answer (room (at + length bytes) old)) (patch at bytes old) old r left
  pub encoded : (n r : ℕ) (right : Bool) (sums new old left : List ℕ) → Encoded n sums new old r right left → Written n new old r left
  pub of-a-chunk : (n next r state : ℕ) (right : Bool) (sums new old left : List ℕ) → ChunkMade n next sums new old r state right left
      → Written n new old r left

-- The reader gets everything of the run back from a device: its geometry as it is reported, its UUID, the plan of every group; and it
-- accepts the log block.
pub record ReadBack (r : Request) (d : Device) : Type 0 where
  pub first : read_group0 (head_on (run_of r).geometry d 0)
      ≡ found (reported (run_of r).geometry) (run_of r).uuid (planned (run_of r).geometry 0).plan
  pub group : (k : ℕ) → k < (run_of r).geometry.agcount
      → read_group (reported (run_of r).geometry) (run_of r).uuid k (head_on (run_of r).geometry d k)
      ≡ record { number = 0; plan = (planned (run_of r).geometry k).plan }
  pub log-block : read_log (reported (run_of r).geometry) (run_of r).uuid (log_on (run_of r).geometry d) ≡ 0

-- Every head and the log block on a device are those that the run leaves.
pub record AsLeft (r : Request) (old d : Device) : Type 0 where
  pub head : (k : ℕ) → k < (run_of r).geometry.agcount → head_on (run_of r).geometry d k ≡ head_on (run_of r).geometry (formatted r old) k
  pub log-block : log_on (run_of r).geometry d ≡ log_on (run_of r).geometry (formatted r old)

-- The run's written records.
abbrev pub run_records : Request → List Record
run_records r = list_of (run_of r) r.device

-- The device when only the first n of them have been applied.
abbrev pub stopped_after : Request → ℕ → Device → Device
stopped_after r n old = applied (take n (run_records r)) old

-- How many records come before the one with the finished superblock: three of zeros, the log block, the heads, the root chunk, a flush.
unfoldable pub before_finished : Geometry → ℕ
before_finished g = 5 + g.agcount * head_blocks g + chunk_blocks g

-- The finishing record has that place: at once behind the first flush.
pub record Finishing (r : Request) : Type 0 where
  pub before : List Record
  pub behind : List Record
  pub list : run_records r ≡ before ++ (FL ∷ finishing_record (run_of r) ∷ behind)
  pub no-flush : flushes before ≡ 0
  pub place : length before + 1 ≡ before_finished (run_of r).geometry

-- What the reader answers to group 0's head on a device, handed as many bytes as this run's head has; told to admit profile disks only, or
-- not.
abbrev pub first_number : Bool → Request → Device → ℕ
first_number told r d = admitted told (read_group0 (head_on (run_of r).geometry d 0)).geometry
    (read_group0 (head_on (run_of r).geometry d 0)).number

-- Told so, it gives one number to every head and to the log block.
pub record Admits (number : ℕ) (r : Request) (d : Device) : Type 0 where
  pub first : first_number true r d ≡ number
  pub group : (k : ℕ) → k < (run_of r).geometry.agcount
      → admitted true (reported (run_of r).geometry)
      (read_group (reported (run_of r).geometry) (run_of r).uuid k (head_on (run_of r).geometry d k)).number ≡ number
  pub log-block : admitted true (reported (run_of r).geometry)
      (read_log (reported (run_of r).geometry) (run_of r).uuid (log_on (run_of r).geometry d)) ≡ number

-- n is one of these numbers.
abbrev pub one_of : List ℕ → ℕ → Bool
one_of [] n = false
one_of (m ∷ ms) n = eqb n m || one_of ms n

-- m is the number of a line of the table whose test holds.
abbrev pub Listed : ℕ → List Refusal → Type 0
Listed m [] = ⊥
Listed m ((n if test) ∷ table) = ((m ≡ n) × (test ≡ true)) ⊎ Listed m table
