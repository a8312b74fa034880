-- Any calls, one after the other, and what holds of the state that they leave.
-- Assumes nothing.
use Rattle.std.specs.Prelude.{◌≡◌, Bool, true, false, ◌&&◌, cond, List, [], ◌∷◌, ◌↔◌, ℕ, ◌+◌, ◌-◌, ◌≤◌, ◌<◌, ◌^◌, eqb}
use Rattle.refusals.specs.Numbers.{no_answer, too_many_records, not_holdable, not_held}
use Rattle.seqs.specs.Lists.{fold, total}
use Rattle.seqs.specs.Runs.{valid}
use Rattle.btree.specs.declared.records.AllocRec.{AllocRec}
use Rattle.geometry.specs.declared.Geometry.{Geometry}
use Rattle.plan_free.specs.Free.{free_of, pack_free, alloc_start, alloc_count, alloc_end}
use Rattle.plan_extents.specs.Takes.{holding}
use Rattle.plan.specs.Plan.{planned}
use Rattle.plan_totals.specs.Totals.{freeblks_of, free_of_plan}
use Rattle.plan_uses.specs.Uses.{used_of}
use Rattle.plan_holds.specs.declared.Holds.{Holds}
use Rattle.plan_holds.specs.declared.Held.{Held}
use Rattle.plan_holds.specs.Holding.{held_of, pack_held, is_run, started, hold_def, release_def}

-- ---- calls

pub data Call : Type 0 where
  hold : ℕ → ℕ → Call
  release : ℕ → ℕ → Call

abbrev pub answer_to : Geometry → Holds → Call → Held
answer_to g s (hold a n) = hold_def g s a n
answer_to g s (release a n) = release_def g s a n

-- the state after a call: a refused one leaves it as it is
unfoldable pub state_stepped : Geometry → Holds → Call → Holds
state_stepped g s c = cond (eqb (answer_to g s c).number 0) (answer_to g s c).state s

-- the state after calls, one after the other
unfoldable pub after_calls : Geometry → Holds → List Call → Holds
after_calls g s cs = fold (state_stepped g) s cs

-- the first state of group k
abbrev pub first_of : Geometry → ℕ → Holds
first_of g k = (started g k).state

-- how often the run of n blocks from a is held, and how often given back, by those calls from the start of group k that aren't refused
abbrev pub holds_it : ℕ → ℕ → Call → Bool
holds_it a n (hold b m) = eqb b a && eqb m n
holds_it a n (release b m) = false

abbrev pub releases_it : ℕ → ℕ → Call → Bool
releases_it a n (hold b m) = false
releases_it a n (release b m) = eqb b a && eqb m n

unfoldable pub times_called : (Call → Bool) → Geometry → Holds → List Call → ℕ
times_called p g s [] = 0
times_called p g s (c ∷ cs) = cond (p c && eqb (answer_to g s c).number 0) 1 0 + times_called p g (state_stepped g s c) cs

abbrev pub times_held : Geometry → ℕ → List Call → ℕ → ℕ → ℕ
times_held g k cs a n = times_called (holds_it a n) g (first_of g k) cs

abbrev pub times_given : Geometry → ℕ → List Call → ℕ → ℕ → ℕ
times_given g k cs a n = times_called (releases_it a n) g (first_of g k) cs

-- how often a list has the run of n blocks from a
abbrev pub times : ℕ → ℕ → List AllocRec → ℕ
times a n rs = total (λ r. cond (is_run a n r) 1 0) rs

-- ---- runs of blocks

-- sorted by start, none empty, no end above 2^32 − 1, and a block at least between any two, from block lo on
abbrev pub Separate : ℕ → List AllocRec → Type 0
Separate lo [] = Unit {0}
Separate lo (r ∷ rs) = (lo ≤ r.start) × (0 < r.count) × (alloc_end r < 2 ^ 32) × Separate (alloc_end r + 1) rs

-- the maximal runs of some blocks, sorted: block b is one of them where `has b` is 1
pub record Maximal (has : ℕ → ℕ) (rs : List AllocRec) : Type 0 where
  pub separate : Separate 0 rs
  pub covers : (b : ℕ) → holding b rs ≡ has b

-- 1 where the plan of group k has block b free, else 0
abbrev pub plan_free : Geometry → ℕ → ℕ → ℕ
plan_free g k b = holding b (free_of (planned g k).plan.free)

-- ---- states

-- a state in blocks: the group is planned, at most eight runs are held, sorted by start, none empty, no block in two, each block free in
-- the plan; free are the maximal runs of the plan-free blocks that aren't held; slots past the counts are zero records
pub record State (g : Geometry) (s : Holds) : Type 0 where
  pub accepted : (planned g s.agno).number ≡ 0
  pub few : s.held.len ≤ 8
  pub sorted : valid alloc_start alloc_count 0 (held_of s.held) ≡ true
  pub inside : (b : ℕ) → holding b (held_of s.held) ≤ plan_free g s.agno b
  pub free : Maximal (λ b. plan_free g s.agno b - holding b (held_of s.held)) (free_of s.free)
  pub held-slots : s.held ≡ pack_held (held_of s.held)
  pub free-slots : s.free ≡ pack_free (free_of s.free)

-- calls from the start of its group leave the state
pub record Reached (g : Geometry) (s : Holds) : Type 0 where
  pub accepted : (planned g s.agno).number ≡ 0
  pub calls : List Call
  pub left : after_calls g (first_of g s.agno) calls ≡ s

-- what calls cs from the start of group k leave
pub record CallsLeft (g : Geometry) (k : ℕ) (cs : List Call) (s : Holds) : Type 0 where
  pub group : s.agno ≡ k
  pub state : State g s
  -- the runs held and not given back
  pub held : (a n : ℕ) → times a n (held_of s.held) + times_given g k cs a n ≡ times_held g k cs a n
  -- head, log, free list and chunk are never held
  pub unused : (b : ℕ) → 0 < holding b (held_of s.held) → used_of g k b ≡ 0
  -- free, held and free-list blocks stay what free and free list are in the plan
  pub stays : freeblks_of s.free + total alloc_count (held_of s.held) + (planned g k).plan.agfl.len ≡ free_of_plan (planned g k).plan

-- ---- numbers

-- the run of n blocks from a isn't empty, and each of its blocks is free in the state
pub record WhollyFree (s : Holds) (a n : ℕ) : Type 0 where
  pub some : 0 < n
  pub free : (b : ℕ) → a ≤ b → b < a + n → 0 < holding b (free_of s.free)

-- `hold`: each number exactly where
pub record HoldNumbers (g : Geometry) (s : Holds) (a n : ℕ) : Type 0 where
  pub no-calls : ((hold_def g s a n).number ≡ no_answer) ↔ (Reached g s → ⊥)
  pub not-holdable : Reached g s → ((hold_def g s a n).number ≡ not_holdable) ↔ (WhollyFree s a n → ⊥)
  pub full : Reached g s → ((hold_def g s a n).number ≡ too_many_records) ↔ (WhollyFree s a n × (s.held.len ≡ 8))
  pub held : Reached g s → ((hold_def g s a n).number ≡ 0) ↔ (WhollyFree s a n × (s.held.len < 8))

-- `release`: each number exactly where
pub record ReleaseNumbers (g : Geometry) (s : Holds) (a n : ℕ) : Type 0 where
  pub no-calls : ((release_def g s a n).number ≡ no_answer) ↔ (Reached g s → ⊥)
  pub not-held : Reached g s → ((release_def g s a n).number ≡ not_held) ↔ (times a n (held_of s.held) ≡ 0)
  pub given : Reached g s → ((release_def g s a n).number ≡ 0) ↔ (0 < times a n (held_of s.held))
