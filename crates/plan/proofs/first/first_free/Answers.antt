-- `plan::first::first_free` meets its contract.
-- Assumes nothing.
use Rattle.plan.proofs.Laws.{two-gaps, appended-from}
use Rattle.plan.specs.Plan.{gap, free_at_first}
use Rattle.plan_free.specs.Free.{zero_free_rec, to_free}
use Rattle.seqs.proofs.Laws.{pushed-packed}
use mathlib.Core.List.{[]}
use Prim.Native.Nat.{◌+◌}
use native.Mathlib.Omega.{arith}
use mathlib.Core.Path.{ap, ◌∙◌}
use Rattle.plan.proofs.first.first_free.Goals as goal

pub returns-then-s : goal.returns-then-s
unfolding free_at_first
returns-then-s c = let s = c.args.s in c.put_gap.ensures ∙ rw (c.put_gap-one.ensures, c.empty-none.ensures, c.if-s.true) (ap to_free (appended-from zero_free_rec (gap s.head s.log_at) (gap (s.log_at + s.log_blocks) s.length) (two-gaps s.head s.log_at (s.log_at + s.log_blocks) s.length)))

pub returns : goal.returns
unfolding free_at_first
returns c = c.push.ensures ∙ rw (c.empty-none.ensures, c.if-s.false) (ap to_free (pushed-packed zero_free_rec [] _ (omega arith)))
