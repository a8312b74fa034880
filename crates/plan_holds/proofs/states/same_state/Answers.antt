-- `plan_holds::states::same_state` meets its contract.
-- Assumes nothing.
use mathlib.Core.Path.{◌≡◌}
use mathlib.Core.Bool.{◌&&◌}
use lib.Dec.{eqb}
use lib.Pointwise.{pointwise}
use Rattle.btree.specs.contracts.records.AllocRecPartialEq.TheImpl as allocs
use Rattle.plan_same.specs.Same.{same_alloc}
use Rattle.plan_same.proofs.Derived.{alloc-is, free-is, counted}
use Rattle.plan_holds.specs.declared.HeldList.{HeldList}
use Rattle.plan_holds.specs.Holding.{same_held, same_state}
use Rattle.plan_holds.proofs.states.same_state.Goals as goal

held-is : (a b : HeldList) → (pointwise (allocs.eq-value).it a.recs b.recs && eqb a.len b.len) ≡ same_held a b
unfolding same_held
held-is a b = counted _ same_alloc alloc-is a.recs b.recs (eqb a.len b.len)

pub returns : goal.returns
unfolding same_state
returns c = rw (free-is c.args.a.free c.args.b.free, held-is c.args.a.held c.args.b.held) at c.eq.ensures
