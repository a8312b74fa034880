-- A disk of 1 GiB without options has 43 records, 3 WZ, 38 WB and 2 FL, of 156,390 bytes.
-- Assumes nothing.
use mathlib.Core.Path.{◌≡◌, refl, ap, ◌∙◌}
use Prim.Native.Nat.{ℕ}
use Rattle.arith.specs.Choice.{when, bit}
use Rattle.arith.specs.Numbers.{ceil_div}
use Rattle.arith.specs.Powers.{power_in, power_log, least_from, log2_up}
use Rattle.params.specs.Params.{no_options}
use Rattle.geometry.specs.Sizes.{default_sector, sizes_of, sizes_refusals}
use Rattle.geometry.specs.Groups.{asked_blocks, default_size, initial_groups, is_short, trim, options_refusals, groups_refusals}
use Rattle.geometry.specs.Log.{header_of, prealloc_of, log_limit, log_blocks, default_imaxpct, last_refusals}
use Rattle.geometry.specs.declared.Geometry.{Geometry}
use Rattle.geometry.specs.Compute.{with_groups, with_sizes, chosen_of, refusals, refusal_of, label_of, geometry_of, zero_geometry, compute_def, step_answer}
use Rattle.geometry_layout.specs.Places.{chunk_of}
use Rattle.run.specs.declared.Run.{Run}
use Rattle.list_records.specs.Records.{zeroings, block_writes, flushes}
use Rattle.list_spec.specs.Listing.{list_of, block_count, record_count, list_length}
use Rattle.list_spec.proofs.Counts.{list-zeros, list-flushes, list-blocks}

abbrev gib : Geometry
gib = (compute_def no_options 1073741824 512 512).geometry

pub example : (record_count gib ≡ 43) × (block_count gib ≡ 38) × (list_length gib ≡ 156390)
unfolding when bit ceil_div power_in power_log least_from log2_up default_sector sizes_of sizes_refusals asked_blocks default_size initial_groups is_short trim options_refusals groups_refusals header_of prealloc_of log_limit log_blocks default_imaxpct last_refusals with_groups with_sizes chosen_of refusals refusal_of label_of geometry_of zero_geometry step_answer compute_def chunk_of record_count list_length block_count
example = (refl, refl, refl)

-- the list of every run with its geometry
pub example-kinds : (run : Run) (device : ℕ) → run.geometry ≡ gib
    → (zeroings (list_of run device) ≡ 3) × (block_writes (list_of run device) ≡ 38) × (flushes (list_of run device) ≡ 2)
example-kinds run device e = (list-zeros run device, list-blocks run device ∙ ap block_count e ∙ example.1, list-flushes run device)
