-- `list_size::list_size` meets its contract.
-- Assumes nothing.
use Rattle.list_size.proofs.Closed.{run-refused, run-bounded, run-sent}
use Rattle.list_size.proofs.list_size.Goals as goal

pub returns-then-run-ne0 : goal.returns-then-run-ne0
returns-then-run-ne0 c = run-refused _ _ c.accept-run.ensures _ c.refused.ensures c.if-run-ne0.true

pub size_in-requires : goal.size_in-requires
size_in-requires c = run-bounded _ _ c.accept-run.ensures (λ k. (c.type_inv.input k).fits) c.if-run-ne0.false

pub returns : goal.returns
returns c = run-sent _ _ c.accept-run.ensures (λ k. (c.type_inv.input k).fits) c.if-run-ne0.false _ c.size_in.ensures
