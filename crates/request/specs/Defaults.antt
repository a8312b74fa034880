-- What stands for an absent UUID, time and seed: zeros.
-- Assumes nothing.
use Rattle.std.specs.Prelude.{List, ℕ, pos, replicate, Option, unwrap_or}
use Rattle.params.specs.declared.Timestamp.{Timestamp}
use Rattle.params.specs.declared.Params.{Params}

-- the time where it is given, else 0 s after the epoch
abbrev pub or_epoch : Option Timestamp → Timestamp
or_epoch t = unwrap_or t (record { secs = pos 0; nsecs = 0 })

unfoldable pub uuid_of : Params → List ℕ
uuid_of p = unwrap_or p.uuid (replicate 16 0)

unfoldable pub time_of : Params → Timestamp
time_of p = or_epoch p.time

unfoldable pub seed_of : Params → ℕ
seed_of p = unwrap_or p.gen_seed 0
