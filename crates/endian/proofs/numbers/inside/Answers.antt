-- `endian::numbers::inside` meets its contract.
-- Assumes nothing.
use Rattle.endian.proofs.Laws.{inside-not, inside_is}
use Rattle.endian.proofs.numbers.inside.Goals as goal

pub returns-then-len-n : goal.returns-then-len-n
returns-then-len-n c = let a = c.args in inside-not a.len a.off a.n c.if-len-n.true

pub returns : goal.returns
returns c = let a = c.args in inside_is a.len a.off a.n c.if-len-n.false
