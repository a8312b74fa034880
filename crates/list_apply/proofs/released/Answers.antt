-- `list_apply::released` meets its contract.
-- Assumes nothing.
use Rattle.std.proofs.Common.{refl}
use Rattle.list_apply.proofs.Steps.{released-step}
use Rattle.list_apply.proofs.released.Goals as goal

pub returns : goal.returns
returns c = released-step _ _ _ _ _ _ _ c.following_of-ordinal.ensures refl
