-- Runs held back from a group's free records: the state, its start, `hold` and `release`.
-- Assumes nothing.
use Rattle.std.specs.Prelude.{Bool, true, false, ◌&&◌, cond, List, [], ◌∷◌, ◌++◌, ℕ, ◌-◌, leb, ltb, eqb, length, take, replicate}
use Rattle.refusals.specs.Numbers.{no_answer, too_many_records, not_holdable, not_held}
use Rattle.seqs.specs.Lists.{fold}
use Rattle.btree.specs.declared.records.AllocRec.{AllocRec}
use Rattle.geometry.specs.declared.Geometry.{Geometry}
use Rattle.plan_free.specs.Free.{zero_free_rec, pack_free, taken}
use Rattle.plan.specs.Plan.{planned}
use Rattle.plan_same.specs.Same.{eq_list, same_alloc, same_free}
use Rattle.plan_holds.specs.declared.HeldList.{HeldList}
use Rattle.plan_holds.specs.declared.Holds.{Holds}
use Rattle.plan_holds.specs.declared.Held.{Held}

-- ---- the held runs: an array of eight with a count

-- the list that a struct holds
abbrev pub held_of : HeldList → List AllocRec
held_of l = take l.len l.recs

-- a list as a struct: the slots past the count are zero records
abbrev pub pack_held : List AllocRec → HeldList
pack_held xs = record { recs = xs ++ replicate (8 - length xs) zero_free_rec; len = length xs }

-- the run of n blocks from block a
abbrev pub block_run : ℕ → ℕ → AllocRec
block_run a n = record { start = a; count = n }

abbrev pub is_run : ℕ → ℕ → AllocRec → Bool
is_run a n r = eqb r.start a && eqb r.count n

-- one of the runs is that of n blocks from block a
unfoldable pub any_run : ℕ → ℕ → List AllocRec → Bool
any_run a n [] = false
any_run a n (r ∷ rs) = cond (is_run a n r) true (any_run a n rs)

-- a run starts below block a, or above it
unfoldable pub starts_on : Bool → ℕ → AllocRec → Bool
starts_on low a r = cond low (ltb r.start a) (ltb a r.start)

-- the runs that start below block a, or those that start above it
unfoldable pub side : Bool → ℕ → List AllocRec → List AllocRec
side low a [] = []
side low a (r ∷ rs) = cond (starts_on low a r) (r ∷ side low a rs) (side low a rs)

-- a run put between those that start below it and those that start above; the runs that don't start at block a
abbrev pub put_run : AllocRec → List AllocRec → List AllocRec
put_run r rs = side true r.start rs ++ (r ∷ side false r.start rs)

abbrev pub drop_run : ℕ → List AllocRec → List AllocRec
drop_run a rs = side true a rs ++ side false a rs

-- ---- answers

abbrev pub zero_holds : Holds
zero_holds = record { agno = 0; free = pack_free []; held = pack_held [] }

-- a number beside a state of zeros; 0 and the state that a call leaves
abbrev pub hold_refused : ℕ → Held
hold_refused n = record { number = n; state = zero_holds }

abbrev pub held_as : Holds → Held
held_as s = record { number = 0; state = s }

-- `start`: 31, 29, 25, or the plan's free records and nothing held
unfoldable pub started : Geometry → ℕ → Held
started g k =
    cond (eqb (planned g k).number 0)
    (held_as (record { agno = k; free = (planned g k).plan.free; held = pack_held [] }))
    (hold_refused (planned g k).number)

-- a run taken out of the free records and put to those held: 42 where it is empty or not wholly free, then 34 where eight are held
unfoldable pub held_with : Holds → ℕ → ℕ → Held
held_with s a n =
    cond (ltb 0 n && eqb (taken s.free a n).number 0)
    (cond (ltb s.held.len 8)
    (held_as (record { agno = s.agno; free = (taken s.free a n).list; held = pack_held (put_run (block_run a n) (held_of s.held)) }))
    (hold_refused too_many_records))
    (hold_refused not_holdable)

-- ---- the states that calls leave: those that holding their runs, one after the other from the start, gives

-- the next run held; a refusal stays
unfoldable pub held_next : Held → AllocRec → Held
held_next t r = cond (eqb t.number 0) (held_with t.state r.start r.count) t

unfoldable pub replayed : Geometry → ℕ → List AllocRec → Held
replayed g k rs = fold held_next (started g k) rs

unfoldable pub same_held : HeldList → HeldList → Bool
same_held a b = eqb a.len b.len && eq_list same_alloc a.recs b.recs

unfoldable pub same_state : Holds → Holds → Bool
same_state a b = eqb a.agno b.agno && (same_free a.free b.free && same_held a.held b.held)

unfoldable pub is_state : Geometry → Holds → Bool
is_state g s =
    leb s.held.len 8
    && (eqb (replayed g s.agno (held_of s.held)).number 0 && same_state (replayed g s.agno (held_of s.held)).state s)

-- ---- the calls

-- `hold`: 31, then what holding the run gives
unfoldable pub hold_def : Geometry → Holds → ℕ → ℕ → Held
hold_def g s a n = cond (is_state g s) (held_with s a n) (hold_refused no_answer)

-- `release`: 31, then 43 where no run of this start and length is held; else the state in which the others are held
unfoldable pub release_def : Geometry → Holds → ℕ → ℕ → Held
release_def g s a n =
    cond (is_state g s)
    (cond (any_run a n (held_of s.held)) (replayed g s.agno (drop_run a (held_of s.held))) (hold_refused not_held))
    (hold_refused no_answer)
