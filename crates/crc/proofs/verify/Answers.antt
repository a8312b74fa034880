-- `crc::verify` meets its contract.
-- Assumes nothing.
use mathlib.Core.Path.{sym, ◌∙◌}
use borrow.Author.Tests.{leb-true}
use Rattle.endian.proofs.Laws.{got_in}
use Rattle.crc.proofs.Laws.{is-verified, not-verified}
use Rattle.crc.proofs.verify.Goals as goal

pub returns-then-inside : goal.returns-then-inside
returns-then-inside c = let e = sym c.inside.ensures ∙ c.if-inside.true in let h = leb-true _ _ e in let a = c.args in is-verified a.off _ _ a.buf.now e (got_in c.le32-stood.ensures h) (got_in c.cksum-right.ensures h)

pub returns : goal.returns
returns c = let a = c.args in not-verified a.off a.buf.now (sym c.inside.ensures ∙ c.if-inside.false)
