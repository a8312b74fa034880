-- `geometry_answers::Named::answer` meets its contract: where the bytes fit, the options that are named are computed.
-- Assumes nothing.
use mathlib.Core.Path.{◌∙◌, sym}
use borrow.Author.Tests.{ltb-true}
use Rattle.arith.proofs.Both.{left-true, right-true}
use Rattle.geometry_answers.specs.Named.{named_on, named_fits, named_answer}
use Rattle.geometry_answers.proofs.Named.answer.Goals as goal

pub returns-then-not-both : goal.returns-then-not-both
unfolding named_answer named_fits
returns-then-not-both c = rw (
  c.zero-geometry.ensures,
  ← c.product_fits-blocks_fit.ensures,
  ← c.product_fits-group_fits.ensures,
  ← c.both.ensures,
  c.if-not-both.true,
)

pub options-requires : goal.options-requires
options-requires c = let h = sym c.both.ensures ∙ c.if-not-both.false in
    ltb-true _ _ (sym c.product_fits-group_fits.ensures ∙ right-true c.product_fits-blocks_fit.result _ h)

pub overflow_mul-self : goal.overflow_mul-self
overflow_mul-self c = let h = sym c.both.ensures ∙ c.if-not-both.false in
    record {
      fits =
          ltb-true _ _ (sym c.product_fits-blocks_fit.ensures ∙ left-true c.product_fits-blocks_fit.result _ h);
    }

pub returns : goal.returns
unfolding named_answer named_fits named_on
returns c = rw (
  c.compute.ensures,
  c.options.ensures,
  ← c.product_fits-blocks_fit.ensures,
  ← c.product_fits-group_fits.ensures,
  ← c.both.ensures,
  c.if-not-both.false,
)
