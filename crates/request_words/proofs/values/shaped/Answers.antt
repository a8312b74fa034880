-- `request_words::values::shaped` meets its contract. Invariant: every byte before i fits.
-- Assumes nothing.
use Rattle.request_words.proofs.Valuing.{shaped-turn, shaped-not, shaped-end}
use native.Mathlib.Omega.{arith}
use mathlib.Core.Path.{refl, sym, ◌∙◌}
use Rattle.request_words.proofs.values.shaped.Goals as goal

pub loop-i-init : goal.loop-i-init
loop-i-init c = refl

pub returns-then-not-fits_at : goal.returns-then-not-fits_at
returns-then-not-fits_at c = sym (c.loop-i.invariant ∙ shaped-not c.args.text.now c.loop-i.i (omega arith) (sym c.fits_at.ensures ∙ c.if-not-fits_at.true))

pub loop-i-preserved : goal.loop-i-preserved
loop-i-preserved c = c.loop-i.invariant ∙ shaped-turn c.args.text.now c.loop-i.i (omega arith) (sym c.fits_at.ensures ∙ c.if-not-fits_at.false)

pub returns : goal.returns
returns c = sym (c.loop-i.invariant ∙ shaped-end c.args.text.now c.loop-i.i (omega arith))
