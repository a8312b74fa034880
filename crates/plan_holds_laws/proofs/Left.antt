-- What any calls leave, and which states some calls leave.
-- Assumes nothing.
use mathlib.Core.Path.{◌≡◌, refl, sym, subst, ap, ◌∙◌}
use mathlib.Core.Bool.{Bool, true, false, ◌&&◌, cond}
use mathlib.Core.List.{List, [], ◌∷◌, ◌++◌, append-nil}
use mathlib.Core.Logic.{◌↔◌, ⊎_elim}
use Prim.Native.Nat.{ℕ, ◌+◌, ◌≤◌, ◌<◌}
use native.Mathlib.Omega.{arith}
use borrow.Author.Tests.{eqb-true}
use lib.Dec.{eqb}
use lib.ListN.{length}
use lib.Seq.{append_snoc}
use Rattle.refusals.specs.Numbers.{not_held}
use Rattle.seqs.specs.Lists.{fold, total}
use Rattle.seqs.specs.Runs.{valid, has, run_length, weigh}
use Rattle.seqs.proofs.Laws.{lt-or-le}
use Rattle.seqs.proofs.Weights.{additive-has, additive-blocks}
use Rattle.btree.specs.declared.records.AllocRec.{AllocRec}
use Rattle.geometry.specs.declared.Geometry.{Geometry}
use Rattle.geometry_layout.specs.Places.{group_blocks}
use Rattle.geometry_places.proofs.Refused.{a-group}
use Rattle.plan_free.specs.declared.FreeList.{FreeList}
use Rattle.plan_free.specs.Free.{free_of, alloc_start, alloc_count}
use Rattle.plan_extents.specs.Takes.{holding}
use Rattle.plan.specs.Plan.{planned}
use Rattle.plan_same.proofs.Planners.{planned-there}
use Rattle.plan_totals.specs.Totals.{add_count, freeblks_of}
use Rattle.plan_uses.specs.Uses.{used_of, uses_of}
use Rattle.plan_uses.proofs.OneUse.{one-use, no-use}
use Rattle.plan_holds.specs.declared.Holds.{Holds}
use Rattle.plan_holds.specs.declared.Held.{Held}
use Rattle.plan_holds.specs.Holding.{held_of, block_run, is_run, any_run, put_run, drop_run, hold_refused, held_as, held_with, replayed, is_state, hold_def, release_def}
use Rattle.plan_holds_laws.specs.Calls.{Call, hold, release, answer_to, state_stepped, after_calls, first_of, holds_it, releases_it, times_called, times, plan_free, Reached, CallsLeft}
use Rattle.plan_holds_laws.proofs.Inserted.{Ins, ins-weighs, ins-total, ins-length, ins-valid, drop-ins}
use Rattle.plan_holds_laws.proofs.Kept.{Kept, Holdable, with_run, held_with_lem, holdable, kept-runs, step_kept, step-ins, next-holdable, next-kept, kept_same}
use Rattle.plan_holds_laws.proofs.First.{plan-separate, first-is, first-kept}
use Rattle.plan_holds_laws.proofs.Exactly.{Keeps, keeps-state, passed-keeps, state-passes, replay-held}

-- ---- tests
and-true : (x : Bool) → (x && true) ≡ x
and-true true = refl
and-true false = refl

and-false : (x : Bool) → (x && false) ≡ false
and-false true = refl
and-false false = refl

answer_at : (t : Held) (x : Bool) (s : Holds) → eqb t.number 0 ≡ x → cond (eqb t.number 0) t.state s ≡ cond x t.state s
answer_at t x s e = rw e

held_at : (x : Bool) (t : Held) (n : ℕ) → 0 < n → (cond x t (hold_refused n)).number ≡ 0 → x ≡ true
held_at true t n h e = refl
held_at false t n h e = absurd (omega arith)

-- ---- one call
-- hs after a call are the runs ks: one more of what it holds, one fewer of what it gives back
pub record Moves (g : Geometry) (k : ℕ) (hs : List AllocRec) (s : Holds) (c : Call) : Type 0 where
  pub runs : List AllocRec
  pub kept : Kept g k runs (state_stepped g s c)
  pub moved : (a n : ℕ) → times a n runs + cond (releases_it a n c && eqb (answer_to g s c).number 0) 1 0 ≡ times a n hs + cond (holds_it a n c && eqb (answer_to g s c).number 0) 1 0

module _ (g : Geometry) (l : length g.label ≡ 12) (k : ℕ) (q : (planned g k).number ≡ 0) where
  pub kept-passes : (hs : List AllocRec) (s : Holds) → Kept g k hs s → is_state g s ≡ true
  kept-passes hs s p = state-passes g l s (keeps-state g l k s (record { planned = q; runs = hs; kept = p }))

  pub hold-is : (hs : List AllocRec) (s : Holds) → Kept g k hs s → (a n : ℕ) → hold_def g s a n ≡ held_with s a n
  unfolding hold_def
  hold-is hs s p a n = rw (kept-passes hs s p)

  pub release-is : (hs : List AllocRec) (s : Holds) → Kept g k hs s → (a n : ℕ) → release_def g s a n ≡ cond (any_run a n hs) (replayed g k (drop_run a hs)) (hold_refused not_held)
  unfolding release_def
  release-is hs s p a n = rw (kept-passes hs s p, kept-runs g k hs s p, p.group)

  -- a held run can be given back
  pub gives_back : (hs : List AllocRec) (s : Holds) → Kept g k hs s → (a n : ℕ) → any_run a n hs ≡ true → (t : Holds) × ((replayed g k (drop_run a hs) ≡ held_as t) × Kept g k (drop_run a hs) t)
  gives_back hs s p a n e =
      let i = drop-ins a n 0 hs p.sorted e in
      let m = ins-length (block_run a n) (drop_run a hs) hs i in
      let f = p.few in
      replay-held g l k q (drop_run a hs) (ins-valid (block_run a n) 0 (drop_run a hs) hs i p.sorted) (omega arith)
      (λ b. let u = p.weighs (has b) (additive-has b) in let v = ins-weighs (has b) (block_run a n) (drop_run a hs) hs i in omega arith)

  refused-moves : (hs : List AllocRec) (s : Holds) → Kept g k hs s → (c : Call) → eqb (answer_to g s c).number 0 ≡ false → Moves g k hs s c
  unfolding state_stepped
  refused-moves hs s p c e =
      record {
        runs = hs;
        kept = rw e p;
        moved = λ a n. rw (e, and-false (releases_it a n c), and-false (holds_it a n c));
      }

  held-moves : (hs : List AllocRec) (s : Holds) → Kept g k hs s → (a n : ℕ) → eqb (answer_to g s (hold a n)).number 0 ≡ true → Moves g k hs s (hold a n)
  unfolding state_stepped
  held-moves hs s p a n e =
      let d = plan-separate g l k q in
      let z = hold-is hs s p a n in
      let m = ap (λ (t : Held). t.number) (sym z) ∙ eqb-true _ 0 e in
      let h = holdable s a n m in
      let y = step-ins g k d hs s p a n h in
      let w : hold_def g s a n ≡ held_as (with_run s a n) = z ∙ held_with_lem s a n h in
      record {
        runs = put_run (block_run a n) hs;
        kept = rw w (step_kept g k d hs s p a n h);
        moved = λ b c. let t = ins-total (λ r. cond (is_run b c r) 1 0) (block_run a n) hs (put_run (block_run a n) hs) y in rw (e, and-true (holds_it b c (hold a n))) (omega arith);
      }

  given-moves : (hs : List AllocRec) (s : Holds) → Kept g k hs s → (a n : ℕ) → eqb (answer_to g s (release a n)).number 0 ≡ true → Moves g k hs s (release a n)
  unfolding state_stepped
  given-moves hs s p a n e =
      let z = release-is hs s p a n in
      let m = ap (λ (t : Held). t.number) (sym z) ∙ eqb-true _ 0 e in
      let x = held_at (any_run a n hs) (replayed g k (drop_run a hs)) not_held (omega arith) m in
      let y = drop-ins a n 0 hs p.sorted x in
      let r = gives_back hs s p a n x in
      let w : release_def g s a n ≡ held_as r.0 = z ∙ ap (λ (t : Bool). cond t (replayed g k (drop_run a hs)) (hold_refused not_held)) x ∙ r.1.0 in
      record {
        runs = drop_run a hs;
        kept = rw w r.1.1;
        moved = λ b c. let t = ins-total (λ r. cond (is_run b c r) 1 0) (block_run a n) (drop_run a hs) hs y in rw (e, and-true (releases_it b c (release a n))) (omega arith);
      }

  moves-at : (hs : List AllocRec) (s : Holds) → Kept g k hs s → (c : Call) (x : Bool) → eqb (answer_to g s c).number 0 ≡ x → Moves g k hs s c
  moves-at hs s p c false e = refused-moves hs s p c e
  moves-at hs s p (hold a n) true e = held-moves hs s p a n e
  moves-at hs s p (release a n) true e = given-moves hs s p a n e

  -- ---- any calls
  pub record Called (hs : List AllocRec) (s : Holds) (cs : List Call) : Type 0 where
    pub runs : List AllocRec
    pub kept : Kept g k runs (after_calls g s cs)
    pub moved : (a n : ℕ) → times a n runs + times_called (releases_it a n) g s cs ≡ times a n hs + times_called (holds_it a n) g s cs

  pub called : (cs : List Call) (hs : List AllocRec) (s : Holds) → Kept g k hs s → Called hs s cs
  unfolding after_calls fold times_called
  called [] hs s p = record { runs = hs; kept = p; moved = λ a n. refl }
  called (c ∷ cs) hs s p =
      let m = moves-at hs s p c (eqb (answer_to g s c).number 0) refl in
      let r = called cs m.runs (state_stepped g s c) m.kept in
      record { runs = r.runs; kept = r.kept; moved = λ a n. let u = m.moved a n in let v = r.moved a n in omega arith }

  pub from_start : (cs : List Call) → Called [] (first_of g k) cs
  from_start cs = called cs [] (first_of g k) (rw (first-is g l k q) (first-kept g l k q))

  -- ---- blocks that are used, and how many there are
  uses-are : (b : ℕ) → uses_of g k b ≡ used_of g k b + plan_free g k b
  unfolding uses_of used_of
  uses-are b = refl

  free-unused : (b : ℕ) → 0 < plan_free g k b → used_of g k b ≡ 0
  free-unused b h =
      let a = a-group g k (planned-there g k q) in
      let e : uses_of g k b ≡ used_of g k b + plan_free g k b = uses-are b in
      ⊎_elim
      (λ i. let u = one-use g l a.0 k a.1 q b i in omega arith)
      (λ i. let u = no-use g l a.0 k a.1 q b i in omega arith)
      (lt-or-le b (group_blocks g.dblocks g.agsize g.agcount k))

-- how many blocks there are, added up or weighed
count-weighs : (xs : List AllocRec) → total alloc_count xs ≡ weigh alloc_start alloc_count run_length xs
unfolding total weigh run_length
count-weighs [] = refl
count-weighs (x ∷ xs) = let i = count-weighs xs in omega arith

fold-weighs : (xs : List AllocRec) (n : ℕ) → fold add_count n xs ≡ n + weigh alloc_start alloc_count run_length xs
unfolding fold weigh run_length
fold-weighs [] n = omega arith
fold-weighs (x ∷ xs) n = let i = fold-weighs xs (n + x.count) in omega arith

free-weighs : (l : FreeList) → freeblks_of l ≡ weigh alloc_start alloc_count run_length (free_of l)
unfolding freeblks_of
free-weighs l = let i = fold-weighs (free_of l) 0 in omega arith

module _ (g : Geometry) (l : length g.label ≡ 12) (k : ℕ) (q : (planned g k).number ≡ 0) where
  -- WHAT ANY CALLS FROM THE START OF A PLANNED GROUP LEAVE
  pub calls-leave : (cs : List Call) → CallsLeft g k cs (after_calls g (first_of g k) cs)
  unfolding total
  calls-leave cs =
      let r = from_start g l k q cs in
      let s = after_calls g (first_of g k) cs in
      let p = r.kept in
      let e = kept-runs g k r.runs s p in
      record {
        group = p.group;
        state = keeps-state g l k s (record { planned = q; runs = r.runs; kept = p });
        held = λ a n. let m = r.moved a n in rw e (omega arith);
        unused = λ b h. let i : holding b (held_of s.held) ≡ holding b r.runs = ap (holding b) e in let w = p.weighs (has b) (additive-has b) in free-unused g l k q b (omega arith);
        stays = let w = p.weighs run_length additive-blocks in
            let a = free-weighs s.free in
            let b = free-weighs (planned g k).plan.free in
            let c : total alloc_count (held_of s.held) ≡ weigh alloc_start alloc_count run_length r.runs = ap (total alloc_count) e ∙ count-weighs r.runs in
            omega arith;
      }

  -- ---- the calls that hold a list of runs
  abbrev pub hold_all : List AllocRec → List Call
  hold_all [] = []
  hold_all (r ∷ rs) = hold r.start r.count ∷ hold_all rs

  hold-steps : (xs : List AllocRec) (s : Holds) → Kept g k xs s → (a n : ℕ) → Holdable s a n → state_stepped g s (hold a n) ≡ with_run s a n
  unfolding state_stepped
  hold-steps xs s p a n h = rw (hold-is g l k q xs s p a n ∙ held_with_lem s a n h) refl

  hold-on : (ys xs : List AllocRec) (s : Holds) → Kept g k xs s → valid alloc_start alloc_count 0 (xs ++ ys) ≡ true → length (xs ++ ys) ≤ 8 → ((b : ℕ) → holding b (xs ++ ys) ≤ plan_free g k b)
      → Kept g k (xs ++ ys) (after_calls g s (hold_all ys))
  unfolding after_calls fold
  hold-on [] xs s p v n w = rw append-nil p
  hold-on (y ∷ ys) xs s p v n w =
      let h = next-holdable g k (plan-separate g l k q) xs y ys s p v n w in
      let e : (xs ++ y ∷ []) ++ ys ≡ xs ++ y ∷ ys = append_snoc xs y ys in
      let m = next-kept g k (plan-separate g l k q) xs y ys s p v h in
      let r = hold-on ys (xs ++ y ∷ []) (with_run s y.start y.count) m (rw e v) (rw e n) (λ b. rw e (w b)) in
      let i = hold-steps xs s p y.start y.count h in
      subst (λ (t : Holds). Kept g k (xs ++ y ∷ ys) (fold (state_stepped g) t (hold_all ys))) (sym i)
      (subst (λ (zs : List AllocRec). Kept g k zs (fold (state_stepped g) (with_run s y.start y.count) (hold_all ys))) e r)

  pub kept-reached : (hs : List AllocRec) (s : Holds) → Kept g k hs s → after_calls g (first_of g k) (hold_all hs) ≡ s
  kept-reached hs s p =
      let d = plan-separate g l k q in
      let t = hold-on hs [] (first_of g k) (rw (first-is g l k q) (first-kept g l k q)) p.sorted p.few (λ b. let w = p.weighs (has b) (additive-has b) in omega arith) in
      kept_same g k d hs (after_calls g (first_of g k) (hold_all hs)) s t p

-- 31: A STATE IS TAKEN EXACTLY WHERE SOME CALLS LEAVE IT
module _ (g : Geometry) (l : length g.label ≡ 12) where
  pub passed-reached : (s : Holds) → is_state g s ≡ true → Reached g s
  passed-reached s e =
      let p = passed-keeps g l s e in
      record { accepted = p.planned; calls = hold_all g l s.agno p.planned p.runs; left = kept-reached g l s.agno p.planned p.runs s p.kept }

  pub reached-passed : (s : Holds) → Reached g s → is_state g s ≡ true
  reached-passed s r =
      let c = from_start g l s.agno r.accepted r.calls in
      let p : Kept g s.agno c.runs s = subst (λ (t : Holds). Kept g s.agno c.runs t) r.left c.kept in
      kept-passes g l s.agno r.accepted c.runs s p

  pub taken-exactly : (s : Holds) → (is_state g s ≡ true) ↔ Reached g s
  taken-exactly s = (passed-reached s, reached-passed s)
