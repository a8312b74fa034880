-- `reader_names::uuid_of` meets its contract.
-- Assumes nothing.
use mathlib.Core.Path.{sym, ◌∙◌}
use native.Mathlib.Omega.{arith}
use Rattle.reader_names.specs.Named.{uuid_at}
use Rattle.reader_names.proofs.Laws.{short-uuid, full-uuid}
use Rattle.reader_names.proofs.uuid_of.Goals as goal

pub returns-then-head-lt-LEAST_SECTOR : goal.returns-then-head-lt-LEAST_SECTOR
returns-then-head-lt-LEAST_SECTOR c = sym (short-uuid c.args.head.now c.if-head-lt-LEAST_SECTOR.true)

pub returns : goal.returns
unfolding uuid_at
returns c = c.bytes_at.ensures ∙ sym (full-uuid c.args.head.now (omega arith))
