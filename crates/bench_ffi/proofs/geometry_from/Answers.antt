-- `bench_ffi::geometry_from` meets its contract: each field is its number.
-- Assumes nothing.
use mathlib.Core.Path.{refl}
use Rattle.bench_ffi.specs.Fields.{geometry_from}
use Rattle.bench_ffi.proofs.geometry_from.Goals as goal

pub returns : goal.returns
unfolding geometry_from
returns c = rw c.features_from-features.ensures refl
