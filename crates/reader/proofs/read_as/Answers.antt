-- `reader::read_as` meets its contract.
-- Assumes nothing.
use mathlib.Core.Path.{◌∙◌}
use native.Mathlib.Omega.{arith}
use Rattle.reader.proofs.Answers.{short}
use Rattle.reader.proofs.First.{unnamed, refused-read, accepted-read}
use Rattle.reader.proofs.read_as.Goals as goal

pub returns-then-head-lt-LEAST_SECTOR : goal.returns-then-head-lt-LEAST_SECTOR
returns-then-head-lt-LEAST_SECTOR c = c.not_found.ensures ∙ short c.args.roomy c.args.head.now c.if-head-lt-LEAST_SECTOR.true

pub returns-then-named-ne0 : goal.returns-then-named-ne0
returns-then-named-ne0 c = c.not_found-then-named-ne0.ensures ∙ unnamed c.args.roomy c.args.head.now (omega arith) _ c.named_by-named.ensures c.if-named-ne0.true

pub returns-then-n-ne0 : goal.returns-then-n-ne0
returns-then-n-ne0 c = c.not_found-then-n-ne0.ensures
    ∙ refused-read c.args.roomy c.args.head.now (omega arith) _ c.named_by-named.ensures c.if-named-ne0.false _ c.uuid_of-uuid.ensures _ c.group_number-n.ensures c.if-n-ne0.true

pub returns : goal.returns
returns c = accepted-read c.args.roomy c.args.head.now (omega arith) _ c.named_by-named.ensures c.if-named-ne0.false _ c.uuid_of-uuid.ensures _ c.group_number-n.ensures c.if-n-ne0.false _ c.plan_ag-planned.ensures
