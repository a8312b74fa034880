-- `list_read::write_head` meets its contract.
-- Assumes nothing.
use Rattle.list_read.proofs.Heads.{write-cut, write-held}
use Rattle.endian.proofs.Laws.{got_in}
use native.Mathlib.Omega.{arith}
use mathlib.Core.Path.{◌∙◌}
use Rattle.list_read.proofs.write_head.Goals as goal

pub returns-then-bytes-lt-HEAD_SIZE : goal.returns-then-bytes-lt-HEAD_SIZE
returns-then-bytes-lt-HEAD_SIZE c = c.too_few.ensures ∙ write-cut _ _ _ (omega arith)

pub returns : goal.returns
returns c = write-held _ _ _ _ _ (omega arith) (got_in c.be64-at.ensures (omega arith)) (got_in c.be64-len.ensures (omega arith))
