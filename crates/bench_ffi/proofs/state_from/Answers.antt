-- `bench_ffi::state_from` meets its contract: each field is its number.
-- Assumes nothing.
use mathlib.Core.Path.{refl}
use Rattle.bench_ffi.specs.Fields.{state_from}
use Rattle.bench_ffi.proofs.state_from.Goals as goal

pub returns : goal.returns
unfolding state_from
returns c = refl
