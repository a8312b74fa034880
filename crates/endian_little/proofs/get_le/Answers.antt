-- `endian_little::get_le` meets its contract.
-- Assumes nothing.
use Rattle.endian.proofs.Laws.{unread-by, read_by}
use borrow.Author.Tests.{leb-true}
use lib.Dec.{lit<}
use native.Mathlib.Nat.{one-le-pow}
use mathlib.Core.Path.{sym, ◌∙◌}
use Rattle.endian_little.proofs.get_le.Goals as goal

pub load_le-requires : goal.load_le-requires
load_le-requires c = (leb-true _ _ (sym c.inside.ensures ∙ c.if-inside.true), c.requires)

pub returns-then-inside : goal.returns-then-inside
returns-then-inside c = (read_by (sym c.inside.ensures ∙ c.if-inside.true) c.load_le.ensures.0, c.load_le.ensures.1)

pub returns : goal.returns
returns c = (unread-by (sym c.inside.ensures ∙ c.if-inside.false), one-le-pow c.args.n 256 (lit< tt))
