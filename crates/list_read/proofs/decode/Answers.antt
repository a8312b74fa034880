-- `list_read::decode` meets its contract.
-- Assumes nothing.
use Rattle.list_read.proofs.Heads.{no-mark, flush-at, zeros-at, bytes-at, unknown-at}
use Rattle.endian.proofs.Laws.{got_in}
use native.Mathlib.Omega.{arith}
use mathlib.Core.Path.{◌∙◌}
use Rattle.list_read.proofs.decode.Goals as goal

pub returns-then-bytes-lt-MARK_SIZE : goal.returns-then-bytes-lt-MARK_SIZE
returns-then-bytes-lt-MARK_SIZE c = c.too_few.ensures ∙ no-mark _ _ (omega arith)

pub returns-then-mark-eq-FLUSH_MARK : goal.returns-then-mark-eq-FLUSH_MARK
returns-then-mark-eq-FLUSH_MARK c = flush-at _ _ _ (omega arith) (got_in c.be16-mark.ensures (omega arith)) c.if-mark-eq-FLUSH_MARK.true

pub returns-then-mark-eq-ZEROS_MARK : goal.returns-then-mark-eq-ZEROS_MARK
returns-then-mark-eq-ZEROS_MARK c = c.write_head.ensures ∙ zeros-at _ _ _ (omega arith) (got_in c.be16-mark.ensures (omega arith)) c.if-mark-eq-ZEROS_MARK.true

pub returns-then-mark-eq-BLOCK_MARK : goal.returns-then-mark-eq-BLOCK_MARK
returns-then-mark-eq-BLOCK_MARK c = c.write_head-then-mark-eq-BLOCK_MARK.ensures ∙ bytes-at _ _ _ (omega arith) (got_in c.be16-mark.ensures (omega arith)) c.if-mark-eq-BLOCK_MARK.true

pub returns : goal.returns
returns c = c.malformed.ensures ∙ unknown-at _ _ _ (omega arith) (got_in c.be16-mark.ensures (omega arith)) c.if-mark-eq-FLUSH_MARK.false c.if-mark-eq-ZEROS_MARK.false c.if-mark-eq-BLOCK_MARK.false
