-- One free record: what is picked of it, and what a run taken out of it leaves.
-- Assumes nothing.
use mathlib.Core.Path.{◌≡◌, refl}
use mathlib.Core.Bool.{Bool, true, false, cond, ◌&&◌}
use mathlib.Core.List.{[], ◌∷◌, ◌++◌}
use Prim.Native.Nat.{ℕ, ◌+◌, ◌-◌, ◌≤◌, ◌<◌, ◌^◌}
use native.Mathlib.Omega.{arith}
use borrow.Author.Tests.{lt-ltb, le-leb}
use lib.Dec.{leb, ltb}
use Rattle.seqs.specs.Lists.{first_index, fold}
use Rattle.seqs.specs.Runs.{valid}
use Rattle.btree.specs.declared.records.AllocRec.{AllocRec}
use Rattle.plan_free.specs.Free.{pack_free, alloc_start, alloc_count, holds_run, without_run, taken_list, taken_at, taken_from, taken, no_choice, choice_of, fitter, bigger, picked_from, pick_answer}
use Rattle.plan.specs.Plan.{gap}

-- the one record is picked, whether it holds all that is wanted or not
one-picked-at : (t : Bool) (r : AllocRec) → cond (cond (t && true) (choice_of r) no_choice).found (cond (t && true) (choice_of r) no_choice) (choice_of r) ≡ choice_of r
one-picked-at true r = refl
one-picked-at false r = refl

pub one-picked : (r : AllocRec) (want : ℕ) → pick_answer (pack_free (r ∷ [])) want ≡ choice_of r
unfolding pick_answer picked_from fold fitter bigger
one-picked r want = one-picked-at (leb want r.count) r

pub none-picked : (want : ℕ) → pick_answer (pack_free []) want ≡ no_choice
unfolding pick_answer picked_from fold
none-picked want = refl

-- two records at most are kept
two-kept : (t u : Bool) (x y : AllocRec) → taken_list ((cond t (x ∷ []) [] ++ cond u (y ∷ []) []) ++ []) ≡ record { number = 0; list = pack_free (cond t (x ∷ []) [] ++ cond u (y ∷ []) []) }
two-kept true true x y = refl
two-kept true false x y = refl
two-kept false true x y = refl
two-kept false false x y = refl

-- a run of n blocks from s taken out of the record from a on with c blocks
module _ (a c s n : ℕ) (some : 0 < c) (low : a ≤ s) (high : s + n ≤ a + c) (wide : a + c < 2 ^ 32) where
  abbrev r : AllocRec
  r = record { start = a; count = c }

  one-valid : valid alloc_start alloc_count 0 (r ∷ []) ≡ true
  unfolding valid
  one-valid = rw (le-leb 0 a (omega arith), lt-ltb 0 c some, lt-ltb (a + c) (2 ^ 32) wide)

  one_holds : holds_run s (s + n) r ≡ true
  one_holds = rw (le-leb a s low, le-leb (s + n) (a + c) high)

  from_one : taken_from (r ∷ []) s (s + n) ≡ record { number = 0; list = pack_free (gap a s ++ gap (s + n) (a + c)) }
  unfolding taken_from taken_at first_index without_run
  from_one = rw one_holds (two-kept (ltb a s) (ltb (s + n) (a + c)) (record { start = a; count = s - a }) (record { start = s + n; count = a + c - (s + n) }))

  pub one-taken : taken (pack_free (r ∷ [])) s n ≡ record { number = 0; list = pack_free (gap a s ++ gap (s + n) (a + c)) }
  unfolding taken
  one-taken = rw (one-valid, lt-ltb (s + n) (2 ^ 64) (omega arith)) from_one
