-- Accepted runs: requests of the machine's types whose geometry, plans and time are accepted, under the profile or not.
-- Assumes nothing.
use Rattle.std.specs.Prelude.{◌≡◌, List, ℕ, ◌^◌, ◌<◌, ℤ, pos, negsuc, length, get_or}
use Rattle.geometry.specs.declared.Geometry.{Geometry}
use Rattle.geometry_answers.specs.Answers.{TypedOptions}
use Rattle.request.specs.declared.Request.{Request}
use Rattle.request.specs.Defaults.{uuid_of, time_of, seed_of}
use Rattle.run.specs.Runs.{run_number, run_of}

-- a signed number fits 64 bits
abbrev pub Signed64 : ℤ → Type 0
Signed64 (pos n) = n < 2 ^ 63
Signed64 (negsuc n) = n < 2 ^ 63

-- the request's numbers fit their types, and the UUID's bytes are 16 bytes
pub record TypedRequest (r : Request) : Type 0 where
  pub options : TypedOptions r.params
  pub device : r.device < 2 ^ 64
  pub logical : r.logical < 2 ^ 32
  pub physical : r.physical < 2 ^ 32
  pub uuid-size : length (uuid_of r.params) ≡ 16
  pub uuid-bytes : (i : ℕ) → get_or (uuid_of r.params) i 0 < 2 ^ 8
  pub seconds : Signed64 (time_of r.params).secs
  pub nanoseconds : (time_of r.params).nsecs < 2 ^ 32
  pub seed : seed_of r.params < 2 ^ 64

-- a run is accepted if its geometry, all its plans and its time are, and under the profile its rules hold
pub record AcceptedRun (r : Request) : Type 0 where
  pub typed : TypedRequest r
  pub number : run_number r ≡ 0

-- some accepted run has this geometry and this UUID
pub record Source (g : Geometry) (u : List ℕ) : Type 0 where
  pub request : Request
  pub accepted : AcceptedRun request
  pub geometry : (run_of request).geometry ≡ g
  pub uuid : (run_of request).uuid ≡ u
