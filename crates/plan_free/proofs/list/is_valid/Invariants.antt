-- `plan_free::list::is_valid` meets its contract. Invariant: the list is valid exactly where the records that are left are, from `lo` on.
-- Assumes nothing.
use mathlib.Core.Path.{◌≡◌}
use lib.ListN.{drop}
use Rattle.seqs.specs.Runs.{valid}
use Rattle.plan_free.specs.Free.{free_of, alloc_start, alloc_count}
use Rattle.plan_free.proofs.list.is_valid.Given as goal

abbrev pub invariant-loop-r : goal.invariant-loop-r
invariant-loop-r l = valid alloc_start alloc_count 0 (free_of l.fn.l) ≡ valid alloc_start alloc_count l.lo (drop l.r-index (free_of l.fn.l))
