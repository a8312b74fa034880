-- `geometry::step::refusal` meets its contract.
-- Assumes nothing.
use Rattle.std.proofs.Common.{rules}
use Rattle.geometry.specs.Compute.{refusals, refusal_of}
use Rattle.geometry.specs.Sizes.{sizes_refusals}
use Rattle.geometry.specs.Groups.{options_refusals, groups_refusals}
use Rattle.geometry.specs.Log.{last_refusals}
use Rattle.geometry.proofs.step.refusal.Goals as goal

pub returns : goal.returns
unfolding sizes_refusals options_refusals groups_refusals last_refusals refusals refusal_of
returns c = search rules
