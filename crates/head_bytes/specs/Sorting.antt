-- Free extents by size: sorted by count, and by start where counts are equal.
-- Assumes nothing.
use Rattle.std.specs.Prelude.{cond, List, [], ◌∷◌}
use Rattle.btree.specs.declared.records.AllocRec.{AllocRec}
use Rattle.plan_free.specs.Free.{smaller}

-- a record put before the first that it is smaller than
unfoldable pub inserted_by_size : AllocRec → List AllocRec → List AllocRec
inserted_by_size r [] = r ∷ []
inserted_by_size r (x ∷ xs) = cond (smaller r x) (r ∷ x ∷ xs) (x ∷ inserted_by_size r xs)

-- each record put in its place, from the last to the first
unfoldable pub by_size : List AllocRec → List AllocRec
by_size [] = []
by_size (r ∷ rs) = inserted_by_size r (by_size rs)
