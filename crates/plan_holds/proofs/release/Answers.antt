-- `plan_holds::release` meets its contract.
-- Assumes nothing.
use mathlib.Core.Path.{refl, ◌∙◌, sym}
use Rattle.plan_holds.specs.Holding.{held_of, drop_run, release_def}
use Rattle.plan_holds.proofs.Laws.{state-few, dropped-few, held-packed}
use Rattle.plan_holds.proofs.release.Goals as goal

pub is_held-requires : goal.is_held-requires
is_held-requires c = state-few c.args.g c.args.s (sym c.is_state.ensures ∙ c.if-is_state.true)

pub drop_run-left-requires : goal.drop_run-left-requires
drop_run-left-requires c = state-few c.args.g c.args.s (sym c.is_state.ensures ∙ c.if-is_state.true)

pub replay-requires : goal.replay-requires
replay-requires c = let f = state-few c.args.g c.args.s (sym c.is_state.ensures ∙ c.if-is_state.true) in
    rw c.drop_run-left.ensures (dropped-few c.args.s.held c.args.at f)

pub returns-then-is_held : goal.returns-then-is_held
unfolding release_def
returns-then-is_held c = c.replay.ensures
    ∙ rw (sym c.is_state.ensures ∙ c.if-is_state.true, sym c.is_held.ensures ∙ c.if-is_held.true, c.drop_run-left.ensures, held-packed (drop_run c.args.at (held_of c.args.s.held))) refl

pub returns-then-is_state : goal.returns-then-is_state
unfolding release_def
returns-then-is_state c = c.refused.ensures ∙ rw (sym c.is_state.ensures ∙ c.if-is_state.true, sym c.is_held.ensures ∙ c.if-is_held.false)

pub returns : goal.returns
unfolding release_def
returns c = c.refused-2.ensures ∙ rw (sym c.is_state.ensures ∙ c.if-is_state.false)
