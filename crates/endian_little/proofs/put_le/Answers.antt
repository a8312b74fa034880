-- `endian_little::put_le` meets its contract.
-- Assumes nothing.
use mathlib.Core.Path.{sym, ◌∙◌}
use borrow.Author.Tests.{leb-true}
use Rattle.endian.proofs.Laws.{refused-by, done-by}
use Rattle.endian_little.proofs.put_le.Goals as goal

pub store_le-requires : goal.store_le-requires
store_le-requires c = leb-true _ _ (sym c.inside.ensures ∙ c.if-inside.true)

pub returns-then-inside : goal.returns-then-inside
returns-then-inside c = done-by (sym c.inside.ensures ∙ c.if-inside.true) c.store_le.ensures

pub returns : goal.returns
returns c = refused-by (sym c.inside.ensures ∙ c.if-inside.false)
