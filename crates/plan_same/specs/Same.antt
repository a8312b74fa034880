-- Two plans are the same, as a test; and whether a plan is the planner's for its group.
-- Assumes nothing.
use Rattle.std.specs.Prelude.{Bool, true, false, ◌&&◌, List, [], ◌∷◌, eqb, Option, Some, None, ℕ}
use Rattle.geometry.specs.declared.Geometry.{Geometry}
use Rattle.btree.specs.declared.records.AllocRec.{AllocRec}
use Rattle.btree.specs.declared.records.RmapRec.{RmapRec}
use Rattle.plan_free.specs.declared.FreeList.{FreeList}
use Rattle.plan_rmap.specs.declared.RmapList.{RmapList}
use Rattle.plan.specs.declared.Agfl.{Agfl}
use Rattle.plan.specs.declared.AgPlan.{AgPlan}
use Rattle.plan.specs.Plan.{planned}

-- two lists are of one length, and each element is the same as the other list's in its place
unfoldable pub eq_list : {A : Type 0} → (A → A → Bool) → List A → List A → Bool
eq_list same [] [] = true
eq_list same [] (y ∷ ys) = false
eq_list same (x ∷ xs) [] = false
eq_list same (x ∷ xs) (y ∷ ys) = same x y && eq_list same xs ys

-- records
unfoldable pub same_alloc : AllocRec → AllocRec → Bool
same_alloc a b = eqb a.start b.start && eqb a.count b.count

unfoldable pub same_map : RmapRec → RmapRec → Bool
same_map a b = (eqb a.start b.start && eqb a.count b.count) && eqb a.owner b.owner

-- the root chunk's block, or none
unfoldable pub same_chunk : Option ℕ → Option ℕ → Bool
same_chunk None None = true
same_chunk None (Some y) = false
same_chunk (Some x) None = false
same_chunk (Some x) (Some y) = eqb x y

-- lists: the counts, and all 64 slots
unfoldable pub same_free : FreeList → FreeList → Bool
same_free a b = eqb a.len b.len && eq_list same_alloc a.recs b.recs

unfoldable pub same_agfl : Agfl → Agfl → Bool
same_agfl a b = eqb a.len b.len && eq_list eqb a.blocks b.blocks

unfoldable pub same_rmap : RmapList → RmapList → Bool
same_rmap a b = eqb a.len b.len && eq_list same_map a.recs b.recs

-- every field
unfoldable pub same_plan : AgPlan → AgPlan → Bool
same_plan a b =
    (eqb a.agno b.agno && eqb a.length b.length)
    && (same_free a.free b.free && (same_agfl a.agfl b.agfl && (same_rmap a.rmap b.rmap && same_chunk a.chunk b.chunk)))

-- the plan is what the planner answers for its group
unfoldable pub is_plan : Geometry → AgPlan → Bool
is_plan g p = eqb (planned g p.agno).number 0 && same_plan (planned g p.agno).plan p
