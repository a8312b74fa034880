-- `geometry::groups::options_refusal` meets its contract.
-- Assumes nothing.
use Rattle.std.proofs.Common.{rules}
use Rattle.geometry.specs.Groups.{options_refusals}
use Rattle.geometry.proofs.groups.options_refusal.Goals as goal

pub returns : goal.returns
unfolding options_refusals
returns c = search rules
