-- How much a run sends: the records of its list, their bytes in all, and how many of these are payload of `Wb`.
-- Assumes nothing.
use Rattle.std.specs.Prelude.{cond, List, ℕ, eqb, length}
use Rattle.request.specs.Parse.{parse_def}
use Rattle.run.specs.declared.Run.{Run}
use Rattle.run.specs.Runs.{accepted}
use Rattle.list_records.specs.Records.{Record, list_bytes, payload as carried_by}
use Rattle.list_spec.specs.Listing.{list_of}
use Rattle.list_size.specs.declared.ListSize.{ListSize}

-- of a list: its records, its bytes with every mark, offset and length, and the bytes of its WB's blocks
abbrev pub size_of : List Record → ListSize
size_of ws = record { number = 0; records = length ws; bytes = length (list_bytes ws); payload = carried_by ws }

-- of a refusal: its number beside zeros
abbrev pub no_size : ℕ → ListSize
no_size n = record { number = n; records = 0; bytes = 0; payload = 0 }

-- of a run on a device of so many bytes: that of its list, or its refusal
unfoldable pub run_size : Run → ℕ → ListSize
run_size run device = cond (eqb run.number 0) (size_of (list_of run device)) (no_size run.number)

-- of the run that input records ask for
unfoldable pub input_size : List ℕ → ListSize
input_size xs = run_size (accepted xs) (parse_def xs).device
