-- `reader_pass::stage_at` meets its contract.
-- Assumes nothing.
use native.Mathlib.Omega.{arith}
use Rattle.reader_pass.proofs.States.{some-head, no-head}
use Rattle.reader_pass.proofs.stage_at.Goals as goal

pub returns-then-k-g : goal.returns-then-k-g
returns-then-k-g c = some-head c.args.g c.args.k c.if-k-g.true

pub returns : goal.returns
returns c = no-head c.args.g c.args.k (omega arith)
