-- `plan_free::list::is_valid` meets its contract. Invariant: the list is valid exactly where the records that are left are, from `lo` on.
-- Assumes nothing.
use mathlib.Core.Path.{sym, ◌∙◌}
use native.Mathlib.Omega.{arith}
use Rattle.plan_free.specs.Free.{free_of, alloc_start, alloc_count, zero_free_rec}
use Rattle.seqs.proofs.Chains.{rest-valid, rest-not-valid, nothing-valid}
use Rattle.plan_free.proofs.list.is_valid.Goals as goal

pub returns-then-not-may_follow : goal.returns-then-not-may_follow
returns-then-not-may_follow c =
    sym (c.loop-r.invariant
    ∙ rest-not-valid alloc_start alloc_count zero_free_rec c.loop-r.lo (free_of c.args.l) c.loop-r.r-index c.loop-r-test.true
    (sym c.may_follow.ensures ∙ c.if-not-may_follow.true))

pub loop-r-preserved : goal.loop-r-preserved
loop-r-preserved c = rw c.end_of-lo.ensures (c.loop-r.invariant
    ∙ rest-valid alloc_start alloc_count zero_free_rec c.loop-r.lo (free_of c.args.l) c.loop-r.r-index c.loop-r-test.true
    (sym c.may_follow.ensures ∙ c.if-not-may_follow.false))

pub returns : goal.returns
returns c = sym (c.loop-r.invariant ∙ nothing-valid alloc_start alloc_count zero_free_rec _ (free_of c.args.l) c.loop-r.r-index (omega arith))
