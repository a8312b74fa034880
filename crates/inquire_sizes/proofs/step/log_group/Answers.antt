-- `inquire_sizes::step::log_group` meets its contract.
-- Assumes nothing.
use mathlib.Core.Path.{sym, ◌∙◌}
use native.Mathlib.Omega.{arith}
use Rattle.geometry.proofs.LogGroup.{alone, second, middle}
use Rattle.inquire_sizes.proofs.step.log_group.Goals as goal

pub returns-in-2 : goal.returns-in-2
returns-in-2 c = c.saturating_sub.ensures ∙ sym (second _ _ _ (omega arith))

pub returns-in-0 : goal.returns-in-0
returns-in-0 c = sym (alone _ _ _ (omega arith))

pub returns-in_default : goal.returns-in_default
returns-in_default c = sym (middle _ _ _ (omega arith))
