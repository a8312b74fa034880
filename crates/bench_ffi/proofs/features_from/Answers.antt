-- `bench_ffi::features_from` meets its contract: each feature is its number.
-- Assumes nothing.
use mathlib.Core.Path.{refl}
use Rattle.bench_ffi.specs.Fields.{features_from}
use Rattle.bench_ffi.proofs.features_from.Goals as goal

pub returns : goal.returns
unfolding features_from
returns c = refl
