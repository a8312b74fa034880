-- Geometries that are asked for: what 31 goes by.
-- Assumes nothing.
use Rattle.std.specs.Prelude.{◌≡◌}
use Rattle.geometry.specs.declared.Geometry.{Geometry}
use Rattle.request.specs.declared.Request.{Request}
use Rattle.run.specs.Runs.{step_of}
use Rattle.list_accepted.specs.Accepted.{TypedRequest}

-- the geometry step answers g, with the number 0, for some request in which every option (UUID, time and seed too), the device's size and
-- its sectors are of their types
pub record AskedFor (g : Geometry) : Type 0 where
  pub request : Request
  pub typed : TypedRequest request
  pub answer : step_of request ≡ record { number = 0; geometry = g }
