-- `request_input::all_sound` meets its contract. Invariant: whether the records are sound is whether those from `at` on are.
-- Assumes nothing.
use Rattle.std.specs.Prelude.{is_some}
use mathlib.Core.Path.{refl, sym, ap, ◌∙◌}
use native.Mathlib.Omega.{arith}
use Rattle.request_input.proofs.Splitting.{sound-unknown, sound-twice, sound-later, sound-end}
use Rattle.request_input.proofs.all_sound.Goals as goal

pub loop-at-init : goal.loop-at-init
loop-at-init c = refl

pub returns-then-not-is_known : goal.returns-then-not-is_known
returns-then-not-is_known c = sym (c.loop-at.invariant ∙ sound-unknown _ _ _ c.record_at-r.ensures.0 c.loop-at-test.true (sym c.is_known.ensures ∙ c.if-not-is_known.true))

pub returns-then-is_given : goal.returns-then-is_given
returns-then-is_given c = sym (c.loop-at.invariant ∙ sound-twice _ _ _ c.record_at-r.ensures.0 c.loop-at-test.true (sym c.is_known.ensures ∙ c.if-not-is_known.false) (ap is_some (sym c.value_of.ensures) ∙ sym c.is_given.ensures ∙ c.if-is_given.true))

pub loop-at-preserved : goal.loop-at-preserved
loop-at-preserved c = c.loop-at.invariant ∙ sound-later _ _ _ c.record_at-r.ensures.0 c.loop-at-test.true (sym c.is_known.ensures ∙ c.if-not-is_known.false) (ap is_some (sym c.value_of.ensures) ∙ sym c.is_given.ensures ∙ c.if-is_given.false)

pub returns : goal.returns
returns c = sym (c.loop-at.invariant ∙ sound-end _ _ (omega arith))
