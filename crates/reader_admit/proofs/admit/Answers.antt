-- `reader_admit::admit` meets its contract.
-- Assumes nothing.
use mathlib.Core.Path.{◌≡◌, refl, ◌∙◌}
use mathlib.Core.Bool.{Bool, true, false, cond}
use Prim.Native.Nat.{ℕ}
use Rattle.arith.specs.Choice.{when}
use Rattle.reader_admit.specs.Admit.{admitted}
use Rattle.reader_admit.proofs.admit.Goals as goal

picked : (t : Bool) (a b : ℕ) → when t a b ≡ cond t a b
unfolding when
picked true a b = refl
picked false a b = refl

pub returns : goal.returns
unfolding admitted
returns c = c.pick.ensures ∙ rw (c.profile_number-n.ensures, c.label_on-label.ensures) (picked _ _ _)
