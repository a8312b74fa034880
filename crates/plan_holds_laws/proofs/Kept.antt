-- What every state that calls leave keeps, and that it is all that a state has to have.
-- Assumes nothing.
use mathlib.Core.Path.{◌≡◌, refl, sym, subst, ap, ◌∙◌}
use mathlib.Core.Bool.{Bool, true, false, ◌&&◌, cond}
use mathlib.Core.List.{List, [], ◌∷◌, ◌++◌, append-nil}
use Prim.Native.Nat.{ℕ, suc, ◌+◌, ◌≤◌, ◌<◌}
use native.Mathlib.Omega.{arith}
use borrow.Author.Tests.{lt-ltb, ltb-true, eq-eqb, eqb-true}
use lib.Dec.{ltb, eqb}
use lib.ListN.{length, length-append}
use lib.Seq.{append_snoc}
use Rattle.refusals.specs.Numbers.{not_holdable, too_many_records}
use Rattle.arith.proofs.Both.{left-true, right-true}
use Rattle.seqs.specs.Lists.{fold}
use Rattle.seqs.specs.Runs.{valid, has}
use Rattle.seqs.proofs.Laws.{never}
use Rattle.seqs.proofs.Parts.{ended, valid-uncons, valid-unjoin}
use Rattle.seqs.proofs.Weights.{Additive, additive-has, inside-in, weigh-append, valid-once}
use Rattle.btree.specs.declared.records.AllocRec.{AllocRec}
use Rattle.geometry.specs.declared.Geometry.{Geometry}
use Rattle.plan_free.specs.declared.FreeList.{FreeList}
use Rattle.plan_free.specs.declared.Taken.{Taken}
use Rattle.plan_free.specs.Free.{free_of, pack_free, alloc_start, alloc_count, taken}
use Rattle.plan_free.proofs.Laws.{taken-ends}
use Rattle.plan_free.proofs.Uses.{weigh_free, taken-weighs}
use Rattle.plan_extents.specs.Takes.{holding, NoneHolds, TakeAnswers, long, unsorted, unheld, split, done}
use Rattle.plan_extents.proofs.Take.{take-answers}
use Rattle.plan.specs.Plan.{planned}
use Rattle.plan_holds.specs.declared.HeldList.{HeldList}
use Rattle.plan_holds.specs.declared.Holds.{Holds}
use Rattle.plan_holds.specs.declared.Held.{Held}
use Rattle.plan_holds.specs.Holding.{held_of, pack_held, block_run, put_run, hold_refused, held_as, held_with, held_next}
use Rattle.plan_holds.proofs.Laws.{held-packed}
use Rattle.plan_holds_laws.specs.Calls.{Separate, plan_free}
use Rattle.plan_holds_laws.proofs.Separated.{sep-valid, in-first, separate-same, one_holds, taken-separate, taken-length, taken-slots}
use Rattle.plan_holds_laws.proofs.Inserted.{Ins, PutOk, ins-weighs, ins-length, put-ok, put_last}

-- ---- `take` where the blocks are free
free-taken : (l : FreeList) (a n : ℕ) (t : Taken) → l.len ≤ 64 → valid alloc_start alloc_count 0 (free_of l) ≡ true → length (free_of l) < 64 → (NoneHolds (free_of l) a (a + n) → ⊥) → TakeAnswers l a n t → t.number ≡ 0
free-taken l a n t few v k some (long x e) = absurd (omega arith)
free-taken l a n t few v k some (unsorted x w e) = never (sym w ∙ v)
free-taken l a n t few v k some (unheld x w h e) = absurd (some h)
free-taken l a n t few v k some (split x w r p e) = let f = p.full in absurd (omega arith)
free-taken l a n t few v k some (done x w r m h p e) = e

-- ---- one run held
pub record Holdable (s : Holds) (a n : ℕ) : Type 0 where
  pub some : 0 < n
  pub free : (taken s.free a n).number ≡ 0
  pub few : s.held.len < 8

abbrev pub with_run : Holds → ℕ → ℕ → Holds
with_run s a n = record { agno = s.agno; free = (taken s.free a n).list; held = pack_held (put_run (block_run a n) (held_of s.held)) }

pub held_with_lem : (s : Holds) (a n : ℕ) → Holdable s a n → held_with s a n ≡ held_as (with_run s a n)
unfolding held_with
held_with_lem s a n h = rw (lt-ltb 0 n h.some, eq-eqb _ 0 h.free, lt-ltb _ 8 h.few)

holdable-at : (x y : Bool) (t : Held) → t.number ≡ 0 → (cond x (cond y t (hold_refused too_many_records)) (hold_refused not_holdable)).number ≡ 0 → (x ≡ true) × (y ≡ true)
holdable-at true true t e f = (refl, refl)
holdable-at true false t e f = absurd (omega arith)
holdable-at false y t e f = absurd (omega arith)

pub holdable : (s : Holds) (a n : ℕ) → (held_with s a n).number ≡ 0 → Holdable s a n
unfolding held_with
holdable s a n e =
    let u = holdable-at (ltb 0 n && eqb (taken s.free a n).number 0) (ltb s.held.len 8) (held_as (with_run s a n)) refl e in
    record {
      some = ltb-true 0 n (left-true _ _ u.0);
      free = eqb-true _ 0 (right-true (ltb 0 n) _ u.0);
      few = ltb-true _ 8 u.1;
    }

-- ---- what is kept: hs are the runs held in state s of group k
pub record Kept (g : Geometry) (k : ℕ) (hs : List AllocRec) (s : Holds) : Type 0 where
  pub group : s.agno ≡ k
  pub held : s.held ≡ pack_held hs
  pub sorted : valid alloc_start alloc_count 0 hs ≡ true
  pub few : length hs ≤ 8
  pub separate : Separate 0 (free_of s.free)
  pub slots : s.free ≡ pack_free (free_of s.free)
  pub count : length (free_of s.free) ≤ 2 + length hs
  pub weighs : (f : ℕ → ℕ → ℕ) → Additive f → weigh_free f (free_of (planned g k).plan.free) ≡ weigh_free f (free_of s.free) + weigh_free f hs

pub kept-runs : (g : Geometry) (k : ℕ) (hs : List AllocRec) (s : Holds) → Kept g k hs s → held_of s.held ≡ hs
kept-runs g k hs s p = ap (λ (l : HeldList). held_of l) p.held ∙ held-packed hs

pub kept-len : (g : Geometry) (k : ℕ) (hs : List AllocRec) (s : Holds) → Kept g k hs s → s.held.len ≡ length hs
kept-len g k hs s p = ap (λ (l : HeldList). l.len) p.held

module _ (g : Geometry) (k : ℕ) (first : Separate 0 (free_of (planned g k).plan.free)) where
  -- a block that is free isn't held
  pub free-apart : (hs : List AllocRec) (s : Holds) → Kept g k hs s → (b : ℕ) → 0 < holding b (free_of s.free) → holding b hs ≡ 0
  free-apart hs s p b h =
      let w = p.weighs (has b) (additive-has b) in
      let o = (valid-once alloc_start alloc_count 0 (free_of (planned g k).plan.free) b (sep-valid 0 (free_of (planned g k).plan.free) first)).once in
      omega arith

  pub taken-had : (s : Holds) (a n : ℕ) → (taken s.free a n).number ≡ 0 → (b : ℕ) → a ≤ b → b < a + n → 0 < holding b (free_of s.free)
  taken-had s a n q b i j =
      let w = taken-weighs (has b) (additive-has b) s.free a n q in
      let o = inside-in a (a + n) b i j in
      omega arith

  step-put : (hs : List AllocRec) (s : Holds) → Kept g k hs s → (a n : ℕ) → Holdable s a n → PutOk 0 (block_run a n) hs (put_run (block_run a n) hs)
  step-put hs s p a n h =
      put-ok (block_run a n) h.some (taken-ends s.free a n h.free) 0 hs p.sorted (omega arith)
      (λ b i j. free-apart hs s p b (taken-had s a n h.free b i j))

  pub step-ins : (hs : List AllocRec) (s : Holds) → Kept g k hs s → (a n : ℕ) → Holdable s a n → Ins (block_run a n) hs (put_run (block_run a n) hs)
  step-ins hs s p a n h = (step-put hs s p a n h).ins

  -- a run more is kept
  pub step_kept : (hs : List AllocRec) (s : Holds) → Kept g k hs s → (a n : ℕ) → Holdable s a n → Kept g k (put_run (block_run a n) hs) (with_run s a n)
  step_kept hs s p a n h =
      let q = h.free in
      let y = step-put hs s p a n h in
      let m = ins-length (block_run a n) hs (put_run (block_run a n) hs) y.ins in
      let e = kept-len g k hs s p in
      let f = h.few in
      let c = p.count in
      let t = taken-length s.free a n h.some q in
      record {
        group = p.group;
        held = ap (λ (rs : List AllocRec). pack_held (put_run (block_run a n) rs)) (kept-runs g k hs s p);
        sorted = y.sorted;
        few = omega arith;
        separate = taken-separate s.free a n h.some q p.separate;
        slots = taken-slots s.free a n h.some q;
        count = omega arith;
        weighs = λ w add. let u = p.weighs w add in let v = taken-weighs w add s.free a n q in let x = ins-weighs w (block_run a n) hs (put_run (block_run a n) hs) y.ins in omega arith;
      }

  -- a run whose blocks are all free can be taken, and held while fewer than eight are
  pub can-take : (hs : List AllocRec) (s : Holds) → Kept g k hs s → (a n : ℕ) → 0 < n → ((b : ℕ) → a ≤ b → b < a + n → 0 < holding b (free_of s.free)) → (taken s.free a n).number ≡ 0
  can-take hs s p a n some f =
      let c = p.count in
      let m = p.few in
      let l : s.free.len ≡ length (free_of s.free) = ap (λ (l : FreeList). l.len) p.slots in
      free-taken s.free a n (taken s.free a n) (omega arith) (sep-valid 0 (free_of s.free) p.separate) (omega arith) (one_holds 0 (free_of s.free) p.separate a n some f) (take-answers s.free a n)

  can-hold : (hs : List AllocRec) (s : Holds) → Kept g k hs s → (a n : ℕ) → 0 < n → length hs < 8 → ((b : ℕ) → a ≤ b → b < a + n → 0 < holding b (free_of s.free)) → Holdable s a n
  can-hold hs s p a n some few f = let e = kept-len g k hs s p in record { some = some; free = can-take hs s p a n some f; few = omega arith }

  -- ---- runs held one after the other
  -- what a run more keeps stays through all of them
  pub carried : (P : Holds → Type 0) → ((s : Holds) (a n : ℕ) → P s → (held_with s a n).number ≡ 0 → P (held_with s a n).state)
      → (rs : List AllocRec) (t : Held) → (t.number ≡ 0 → P t.state) → (fold held_next t rs).number ≡ 0 → P (fold held_next t rs).state
  unfolding fold held_next
  carried P step [] t base e = base e
  carried P step (r ∷ rs) t base e = carried P step rs (held_next t r) (next-at t r (eqb t.number 0) refl base) e
    where
      next-at : (t : Held) (r : AllocRec) (x : Bool) → eqb t.number 0 ≡ x → (t.number ≡ 0 → P t.state) → (held_next t r).number ≡ 0 → P (held_next t r).state
      next-at t r true q base e = rw q (step t.state r.start r.count (base (eqb-true _ 0 q)) (rw q at e))
      next-at t r false q base e = rw q (base (rw q at e))

  pub record Some (s : Holds) : Type 0 where
    pub runs : List AllocRec
    pub kept : Kept g k runs s

  pub some-step : (s : Holds) (a n : ℕ) → Some s → (held_with s a n).number ≡ 0 → Some (held_with s a n).state
  some-step s a n p e =
      let h = holdable s a n e in
      rw (held_with_lem s a n h) (record { runs = put_run (block_run a n) p.runs; kept = step_kept p.runs s p.kept a n h })

  -- the next of a sorted list of at most eight runs of plan-free blocks can be held, and stands behind those before it
  module _ (xs : List AllocRec) (y : AllocRec) (ys : List AllocRec) (s : Holds) (p : Kept g k xs s) (v : valid alloc_start alloc_count 0 (xs ++ y ∷ ys) ≡ true) where
    pub next-holdable : length (xs ++ y ∷ ys) ≤ 8 → ((b : ℕ) → holding b (xs ++ y ∷ ys) ≤ plan_free g k b) → Holdable s y.start y.count
    next-holdable l w =
        let f = (valid-uncons alloc_start alloc_count (ended alloc_start alloc_count 0 xs) y ys (valid-unjoin alloc_start alloc_count 0 xs (y ∷ ys) v).1).0 in
        let n : length (xs ++ y ∷ ys) ≡ length xs + suc (length ys) = simp length-append in
        can-hold xs s p y.start y.count f.some (omega arith)
        (λ b i j. let x = w b in
        let a = weigh-append alloc_start alloc_count (has b) xs (y ∷ ys) in
        let c = in-first b y ys i j in
        let q = p.weighs (has b) (additive-has b) in
        omega arith)

    pub next-kept : Holdable s y.start y.count → Kept g k (xs ++ y ∷ []) (with_run s y.start y.count)
    next-kept h = subst (λ (zs : List AllocRec). Kept g k zs (with_run s y.start y.count)) (put_last 0 xs y ys v) (step_kept xs s p y.start y.count h)

  -- so the list can be held, run by run
  pub record Replayed (s : Holds) (rs ks : List AllocRec) : Type 0 where
    pub left : Holds
    pub same : fold held_next (held_as s) rs ≡ held_as left
    pub kept : Kept g k ks left

  pub replay-on : (ys xs : List AllocRec) (s : Holds) → Kept g k xs s → valid alloc_start alloc_count 0 (xs ++ ys) ≡ true → length (xs ++ ys) ≤ 8 → ((b : ℕ) → holding b (xs ++ ys) ≤ plan_free g k b)
      → Replayed s ys (xs ++ ys)
  unfolding fold held_next
  replay-on [] xs s p v l w = record { left = s; same = refl; kept = rw append-nil p }
  replay-on (y ∷ ys) xs s p v l w =
      let h = next-holdable xs y ys s p v l w in
      let e : (xs ++ y ∷ []) ++ ys ≡ xs ++ y ∷ ys = append_snoc xs y ys in
      let m = next-kept xs y ys s p v h in
      let r = replay-on ys (xs ++ y ∷ []) (with_run s y.start y.count) m (rw e v) (rw e l) (λ b. rw e (w b)) in
      record { left = r.left; same = rw (held_with_lem s y.start y.count h) r.same; kept = subst (λ (zs : List AllocRec). Kept g k zs r.left) e r.kept }

  -- ---- the runs fix the state
  pub kept_same : (hs : List AllocRec) (s t : Holds) → Kept g k hs s → Kept g k hs t → s ≡ t
  kept_same hs s t p q =
      let f = separate-same 0 0 (free_of s.free) (free_of t.free) p.separate q.separate
      (λ b. let u = p.weighs (has b) (additive-has b) in let v = q.weighs (has b) (additive-has b) in omega arith) in
      states-same s t (p.group ∙ sym q.group) (p.slots ∙ ap pack_free f ∙ sym q.slots) (p.held ∙ sym q.held)
    where
      states-same : (s t : Holds) → s.agno ≡ t.agno → s.free ≡ t.free → s.held ≡ t.held → s ≡ t
      states-same s t a b c = rw (a, b, c) refl
