-- How the loops over the held runs make a list: what the code alone needs.
-- Assumes nothing.
use Rattle.std.specs.Prelude.{Bool, cond, ℕ, ◌+◌, ltb, set}
use Rattle.btree.specs.declared.records.AllocRec.{AllocRec}
use Rattle.plan_holds.specs.declared.HeldList.{HeldList}
use Rattle.plan_holds.specs.Holding.{starts_on}

-- one run put behind the last where the test holds; a full list stays as it is
unfoldable pub added_if : Bool → HeldList → AllocRec → HeldList
added_if t l r = cond t (cond (ltb l.len 8) (record { recs = set l.recs l.len r; len = l.len + 1 }) l) l

-- a run put behind the last where it starts on that side of block a
abbrev pub added_side : Bool → ℕ → HeldList → AllocRec → HeldList
added_side low a o r = added_if (starts_on low a r) o r
