-- `crc_loops::register::update_zeroed` meets its contract.
-- Assumes nothing.
use borrow.Author.Tests.{leb-true}
use mathlib.Core.Path.{sym, ◌∙◌}
use Rattle.crc_loops.proofs.register.update_zeroed.Goals as goal

pub inside_zeroed-requires : goal.inside_zeroed-requires
inside_zeroed-requires c = leb-true _ _ (sym c.inside.ensures ∙ c.if-inside.true)

pub returns-then-inside : goal.returns-then-inside
returns-then-inside c = rw (sym c.inside.ensures ∙ c.if-inside.true) c.inside_zeroed.ensures

pub returns : goal.returns
returns c = rw (sym c.inside.ensures ∙ c.if-inside.false) c.update.ensures
