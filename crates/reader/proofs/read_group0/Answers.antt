-- `reader::read_group0` meets its contract.
-- Assumes nothing.
use native.Mathlib.Omega.{arith}
use Rattle.reader.proofs.First.{old-given, roomy-given, old-kept}
use Rattle.reader.proofs.read_group0.Goals as goal

pub returns-then-old-eq0 : goal.returns-then-old-eq0
returns-then-old-eq0 c = old-given c.args.head.now _ c.read_as-old.ensures c.if-old-eq0.true

pub returns-then-roomy-old : goal.returns-then-roomy-old
returns-then-roomy-old c = roomy-given c.args.head.now _ c.read_as-old.ensures _ c.read_as-roomy.ensures c.if-roomy-old.true

pub returns : goal.returns
returns c = old-kept c.args.head.now _ c.read_as-old.ensures _ c.read_as-roomy.ensures (omega arith)
