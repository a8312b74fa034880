-- Ranges worked out: station case K2, a range across the size option, the ends of 36, and 1 to 8 before it.
-- Assumes nothing.
use mathlib.Core.Path.{◌≡◌, refl}
use mathlib.Core.Bool.{false}
use Prim.Native.Nat.{ℕ, ◌+◌, ◌*◌, ◌-◌, ◌/◌, ◌^◌}
use Rattle.refusals.specs.Numbers.{bad_range, block_of512}
use Rattle.arith.specs.Choice.{when, bit}
use Rattle.arith.specs.Numbers.{ceil_div}
use Rattle.arith.specs.Powers.{power_in, power_log}
use Rattle.params.specs.declared.Params.{Params}
use Rattle.params.specs.Params.{no_options, with_size, with_block_size}
use Rattle.geometry.specs.Sizes.{default_sector, sizes_of, sizes_refusals}
use Rattle.geometry.specs.Groups.{group_blocks, is_short, trim, options_refusals}
use Rattle.geometry.specs.Log.{header_of, prealloc_of, freelist_of, log_limit, default_imaxpct}
use Rattle.inquire_sizes.specs.declared.Range.{Range}
use Rattle.inquire_sizes.specs.First.{first_from}
use Rattle.inquire_sizes.specs.Ranges.{smallest_refused, all_formatted, refused_size, range_of, options_number, no_range, sizes_question, sizes_call_refused, sizes_answer}
use Rattle.inquire_sizes.specs.Step.{in_blocks, limits_of, early_number, late_number, fixed_with, fixed_of, default_group_size, groups_with, groups_at, log_at, at_of, size_refusals, group_refusals, disk_refusals, number_with, number_at}

-- sizes in blocks, with sectors of 512 bytes
abbrev ranged : Params → ℕ → ℕ → Range
ranged p from to = range_of (number_at (fixed_of p 512 512)) from to

-- K2: 299 MiB is refused by 21, and so is 300 MiB less a block; from 300 MiB on sizes are formatted
pub k2 : (ranged no_options (299 * 256) (300 * 256) ≡ refused_size 76544 21)
    × (ranged no_options (300 * 256 - 1) (300 * 256) ≡ refused_size 76799 21)
    × (ranged no_options (300 * 256) (300 * 256 + 3) ≡ all_formatted)
unfolding first_from smallest_refused range_of in_blocks limits_of early_number late_number fixed_with fixed_of default_group_size groups_with groups_at log_at at_of size_refusals group_refusals disk_refusals number_with number_at sizes_of default_sector when bit ceil_div group_blocks is_short trim options_refusals header_of prealloc_of freelist_of log_limit default_imaxpct
k2 = (refl, refl, refl)

-- a size option of 1 GiB stays in force: below it 9, from it on one answer
pub sized : (ranged (with_size no_options (2 ^ 30)) (262144 - 2) 262146 ≡ refused_size 262142 9)
    × (ranged (with_size no_options (2 ^ 30)) 262144 262146 ≡ all_formatted)
unfolding first_from smallest_refused range_of in_blocks limits_of early_number late_number fixed_with fixed_of default_group_size groups_with groups_at log_at at_of size_refusals group_refusals disk_refusals number_with number_at sizes_of default_sector when bit ceil_div group_blocks is_short trim options_refusals header_of prealloc_of freelist_of log_limit default_imaxpct
sized = (refl, refl)

-- 36: 65,537 blocks apart, or a block the wrong way round, but not within a block
pub ends : (sizes_answer no_options 512 512 (2 ^ 30) (2 ^ 30 + 65537 * 4096) ≡ sizes_call_refused bad_range)
    × (sizes_answer no_options 512 512 (2 ^ 30 + 4096) (2 ^ 30 + 4095) ≡ sizes_call_refused bad_range)
    × (no_range 262144 (262144 + 65536) ≡ false)
    × (no_range ((2 ^ 30 + 5) / 4096) ((2 ^ 30 + 3) / 4096) ≡ false)
unfolding sizes_answer sizes_question options_number no_range sizes_of sizes_refusals default_sector power_log power_in when
ends = (refl, refl, refl, refl)

-- blocks of 512 bytes are 3, whatever the ends
pub early : sizes_answer (with_block_size no_options 512) 512 512 1 0 ≡ sizes_call_refused block_of512
unfolding sizes_answer sizes_question options_number no_range sizes_of sizes_refusals default_sector power_log power_in when
early = refl
