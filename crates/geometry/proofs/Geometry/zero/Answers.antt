-- `geometry::Geometry::zero` meets its contract: each field is what the definition says.
-- Assumes nothing.
use mathlib.Core.Path.{refl}
use Rattle.geometry.specs.Compute.{zero_geometry}
use Rattle.geometry.proofs.Geometry.zero.Goals as goal

pub returns : goal.returns
unfolding zero_geometry
returns c = refl
