-- `group_bytes::logs::log_unit` meets its contract.
-- Assumes nothing.
use mathlib.Core.Path.{refl, ◌∙◌}
use Rattle.list_spec.specs.Listing.{log_unit}
use Rattle.group_bytes.proofs.logs.log_unit.Goals as goal

pub returns : goal.returns
unfolding log_unit
returns c = c.clear_sunit.ensures ∙ rw (c.pick-sector.ensures, c.logsunit_of-stored.ensures, c.lsunit_of.ensures) refl
