-- `plan_rmap::list::is_valid` meets its contract. Invariant: the list is valid exactly where the records that are left are, from `lo` on.
-- Assumes nothing.
use mathlib.Core.Path.{◌≡◌}
use lib.ListN.{drop}
use Rattle.seqs.specs.Runs.{valid}
use Rattle.plan_rmap.specs.Rmap.{rmap_of, rmap_start, rmap_count}
use Rattle.plan_rmap.proofs.list.is_valid.Given as goal

abbrev pub invariant-loop-r : goal.invariant-loop-r
invariant-loop-r l = valid rmap_start rmap_count 0 (rmap_of l.fn.l) ≡ valid rmap_start rmap_count l.lo (drop l.r-index (rmap_of l.fn.l))
