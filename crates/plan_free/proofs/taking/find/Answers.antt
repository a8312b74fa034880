-- `plan_free::taking::find` meets its contract. Invariant: no record before i holds the run, so the first that does is found from i on.
-- Assumes nothing.
use mathlib.Core.Path.{◌≡◌, sym, ◌∙◌}
use borrow.Author.Rules.{rules}
use native.Mathlib.Omega.{arith}
use lib.ListN.{length}
use Rattle.plan_free.specs.Free.{zero_free_rec}
use Rattle.seqs.proofs.Laws.{index-step, index-none, index-found}
use Rattle.plan_free.proofs.taking.find.Goals as goal

pub loop-i-preserved : goal.loop-i-preserved
loop-i-preserved c = let k : length c.args.l.recs ≡ 64 = c.well_formed.0.1.1.0.1.0.1 in (
  search rules,
  c.loop-i.invariant.1
      ∙ index-step _ c.args.l.recs zero_free_rec c.args.l.len c.loop-i.i (search rules) (omega arith) (sym c.holds.ensures ∙ c.if-holds.false),
)

pub returns-then-i-n : goal.returns-then-i-n
returns-then-i-n c = let e : c.loop-i.i ≡ c.args.l.len = omega arith in
    sym (c.loop-i.invariant.1 ∙ index-none _ c.args.l.recs zero_free_rec _ _ e ∙ e)

pub returns-then-holds : goal.returns-then-holds
returns-then-holds c = let k : length c.args.l.recs ≡ 64 = c.well_formed.0.1.1.0.1.0.1 in
    sym (c.loop-i.invariant.1
    ∙ index-found _ c.args.l.recs zero_free_rec c.args.l.len c.loop-i.i (search rules) (omega arith) (sym c.holds.ensures ∙ c.if-holds.true))
