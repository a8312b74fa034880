-- What the input asks for: options and device of a well-formed input, or 28.
-- Assumes nothing.
use Rattle.std.specs.Prelude.{List, Bool, true, false, ℕ}
use Rattle.refusals.specs.Numbers.{malformed}
use Rattle.endian.specs.Bytes.{be_at}
use Rattle.params.specs.Params.{no_options}
use Rattle.params.specs.declared.Params.{Params}
use Rattle.request.specs.declared.Request.{Request}
use Rattle.request_input.specs.Records.{well_formed}
use Rattle.request.specs.Options.{params_of, profile_of}

-- a request that isn't under the profile
abbrev pub request : ℕ → Params → ℕ → ℕ → ℕ → Request
request number params device logical physical =
    record { number = number; params = params; device = device; logical = logical; physical = physical; profile = false }

-- the same request under the profile, or not
abbrev pub under : Bool → Request → Request
under on r =
    record { number = r.number; params = r.params; device = r.device; logical = r.logical; physical = r.physical; profile = on }

-- no option, and a device of zeros
abbrev pub malformed_request : Request
malformed_request = request malformed no_options 0 0 0

-- bytes of the longest well-formed input: each record at most once, the label of 255 bytes
abbrev pub longest_input : ℕ
longest_input = 437

-- `DV` stands first: the device's size in 8 bytes, the logical and the physical sector in 4 each
abbrev pub read_request : List ℕ → Request
read_request xs = under (profile_of xs) (request 0 (params_of xs) (be_at 8 2 xs) (be_at 4 10 xs) (be_at 4 14 xs))

abbrev pub parsed_if : Bool → List ℕ → Request
parsed_if true xs = read_request xs
parsed_if false xs = malformed_request

unfoldable pub parse_def : List ℕ → Request
parse_def xs = parsed_if (well_formed xs) xs
