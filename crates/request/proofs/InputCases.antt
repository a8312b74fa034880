-- The definition gives the table's numbers, and planlist's example its device; the longest input is as long as is said.
-- Assumes nothing.
use mathlib.Core.Path.{◌≡◌, refl}
use lib.Dec.{T}
use lib.IntN.{pos}
use lib.ListN.{length, replicate}
use Rattle.endian.specs.Bytes.{be_bytes, be_at}
use Rattle.params.specs.Params.{no_options}
use Rattle.request_input.specs.Records.{option_bits, option_fits, record_at, split_records, records, value_with, sound, starts_with_device, well_formed}
use Rattle.request.specs.Options.{signed, features_in, label_at, params_of, profile_of}
use Rattle.request.specs.Parse.{longest_input, request, parse_def}
use Rattle.request.specs.Defaults.{uuid_of, time_of, seed_of}
use Rattle.request.specs.Cases.{dv, op, lb, id, disk, full, all_cases, cases}

pub cases-hold : T (all_cases cases)
unfolding be_bytes be_at option_bits option_fits record_at split_records records value_with sound starts_with_device well_formed parse_def dv op lb id disk full cases
cases-hold = tt

pub example : parse_def disk ≡ request 0 no_options 1_073_741_824 512 512
unfolding be_bytes be_at option_bits option_fits record_at split_records records value_with sound starts_with_device well_formed signed features_in label_at params_of profile_of parse_def dv disk
example = refl

pub full-length : length full ≡ longest_input
unfolding be_bytes dv op lb id disk full
full-length = refl

-- without options: zeros, 1970 and 0
pub absent : (uuid_of no_options ≡ replicate 16 0) × (time_of no_options ≡ record { secs = pos 0; nsecs = 0 }) × (seed_of no_options ≡ 0)
unfolding uuid_of time_of seed_of
absent = (refl, refl, refl)
