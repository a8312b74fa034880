-- One use, by the bytes: on every disk that an accepted run leaves Each block of Each group has exactly one use.
-- Assumes nothing.
use Rattle.std.specs.Prelude.{Option, Some, None}
use mathlib.Core.Path.{◌≡◌, refl, ap, ◌∙◌}
use mathlib.Core.Logic.{⊎_elim}
use mathlib.Core.List.{List, [], ◌∷◌}
use Prim.Native.Nat.{ℕ, ◌≤◌, ◌<◌}
use native.Mathlib.Nat.{add-zero}
use native.Mathlib.Omega.{arith}
use Rattle.seqs.specs.Lists.{total}
use Rattle.seqs.proofs.Laws.{lt-or-le}
use Rattle.seqs.specs.Runs.{weigh, run_length, has}
use Rattle.geometry.specs.declared.Geometry.{Geometry}
use Rattle.geometry_layout.specs.Places.{group_blocks, chunk_of}
use Rattle.btree.specs.declared.records.AllocRec.{AllocRec}
use Rattle.btree.specs.Decode.{Each}
use Rattle.plan_site.specs.Sites.{site_of}
use Rattle.plan_free.specs.Free.{alloc_start, alloc_count}
use Rattle.plan.specs.declared.AgPlan.{AgPlan}
use Rattle.plan.specs.Plan.{planned}
use Rattle.plan_uses.specs.Uses.{self, one, chunk_from, head_use, log_use, list_use, chunk_use, free_use, all_parts, uses_of, used_blocks}
use Rattle.plan_uses.proofs.OneUse.{one-use as plan-use, no-use as plan-none, totals as plan-blocks}
use Rattle.reader_decoded.specs.Decoded.{LogRun, chunk_list}
use Rattle.reader_uses.specs.ByUse.{head_part, log_runs, log_part, list_part, chunk_length_of, chunk_part, free_part, Use, head, log, list, chunk, free, use_weight, uses_in, blocks_in, all_uses, Once, LeftHeads}
use Rattle.reader_uses.proofs.Decodings.{answer, numbered, list-is, free-is, chunks-are, log_is}

-- a chunk as a list weighs what it weighs in the plan
chunk-weighs : (f : ℕ → ℕ → ℕ) (g : Geometry) (c : Option ℕ) → weigh self (chunk_length_of g) f (chunk_list c) ≡ chunk_from f c (chunk_of g.inodesize g.blocksize)
unfolding weigh chunk_list
chunk-weighs f g None = refl
chunk-weighs f g (Some c) = add-zero _

-- ---- numbers that add up to 0, and to 1

module _ {A : Type 0} (n : A → ℕ) where
  all_none : (xs : List A) → total n xs ≡ 0 → Each (λ v. n v ≡ 0) xs
  unfolding total
  all_none [] e = tt
  all_none (x ∷ xs) e = (omega arith, all_none xs (omega arith))

  -- all but x have none
  abbrev unless : A → A → Type 0
  unless x v = (v ≡ x → ⊥) → n v ≡ 0

  all-unless : (x : A) (xs : List A) → Each (λ v. n v ≡ 0) xs → Each (unless x) xs
  all-unless x [] e = tt
  all-unless x (y ∷ xs) e = (λ o. e.0, all-unless x xs e.1)

  record OneOf (xs : List A) : Type 0 where
    it : A
    there : n it ≡ 1
    rest : Each (unless it) xs

  one-of : (xs : List A) → total n xs ≡ 1 → OneOf xs
  unfolding total
  one-of [] e = absurd (omega arith)
  one-of (x ∷ xs) e =
      ⊎_elim
      (λ p. record { it = x; there = omega arith; rest = (λ o. absurd (o refl), all-unless x xs (all_none xs (omega arith))) })
      (λ q. let r = one-of xs (omega arith) in record { it = r.it; there = r.there; rest = (λ o. omega arith, r.rest) })
      (lt-or-le 0 (n x))

-- of the five uses
module _ (n : Use → ℕ) where
  none : all_uses n ≡ 0 → (v : Use) → n v ≡ 0
  none e head = (all_none n _ e).0
  none e log = (all_none n _ e).1.0
  none e list = (all_none n _ e).1.1.0
  none e chunk = (all_none n _ e).1.1.1.0
  none e free = (all_none n _ e).1.1.1.1.0

  others : (u v : Use) → Each (unless n u) (head ∷ log ∷ list ∷ chunk ∷ free ∷ []) → unless n u v
  others u head e = e.0
  others u log e = e.1.0
  others u list e = e.1.1.0
  others u chunk e = e.1.1.1.0
  others u free e = e.1.1.1.1.0

  once : all_uses n ≡ 1 → Once n
  once e = let r = one-of n (head ∷ log ∷ list ∷ chunk ∷ free ∷ []) e in record { it = r.it; there = r.there; others = λ v. others r.it v r.rest }

module _ (g : Geometry) (u : List ℕ) (heads : ℕ → List ℕ) (d : LeftHeads g u heads) (k : ℕ) (i : k < g.agcount) where
  abbrev its : AgPlan
  its = (planned g k).plan

  module _ (f : ℕ → ℕ → ℕ) where
    head-part : head_part f g ≡ head_use f (site_of g k)
    unfolding head_part site_of
    head-part = refl

    log-part : log_part f g (heads 0) k ≡ log_use f (site_of g k)
    unfolding log_part site_of
    log-part = ap (λ (r : LogRun). log_runs f r k) (log_is g u heads d)

    list-part : list_part f g (heads k) ≡ list_use f its
    unfolding list_part
    list-part = ap (λ (bs : List ℕ). weigh self one f bs) (list-is g u heads d k i)

    chunk_part_lem : chunk_part f g (heads k) ≡ chunk_use f (site_of g k) its
    unfolding chunk_part site_of
    chunk_part_lem = ap (λ (bs : List ℕ). weigh self (chunk_length_of g) f bs) (chunks-are g u heads d k i) ∙ chunk-weighs f g its.chunk

    free_part_lem : free_part f g (heads k) ≡ free_use f its
    unfolding free_part
    free_part_lem = ap (λ (rs : List AllocRec). weigh alloc_start alloc_count f rs) (free-is g u heads d k i)

    -- every weight of the uses is the same by the bytes and by the plan
    pub parts_are : all_uses (use_weight f g (heads 0) (heads k) k) ≡ all_parts f (site_of g k) its
    unfolding total
    parts_are =
        let a = head-part in
        let b = log-part in
        let c = list-part in
        let e = chunk_part_lem in
        let x = free_part_lem in
        omega arith

  uses-are : (b : ℕ) → all_uses (uses_in g (heads 0) (heads k) k b) ≡ uses_of g k b
  unfolding uses_in uses_of
  uses-are b = parts_are (has b)

  -- EVERY BLOCK OF EVERY GROUP HAS EXACTLY ONE USE, BY THE BYTES
  pub one-use : (b : ℕ) → b < group_blocks g.dblocks g.agsize g.agcount k → Once (uses_in g (heads 0) (heads k) k b)
  one-use b j = once (uses_in g (heads 0) (heads k) k b) (uses-are b ∙ plan-use g d.label (answer g u heads d) k i (numbered g u heads d k i) b j)

  -- and nothing past the group has one
  pub no-use : (b : ℕ) → group_blocks g.dblocks g.agsize g.agcount k ≤ b → (v : Use) → uses_in g (heads 0) (heads k) k b v ≡ 0
  no-use b j v = none (uses_in g (heads 0) (heads k) k b) (uses-are b ∙ plan-none g d.label (answer g u heads d) k i (numbered g u heads d k i) b j) v

  -- THE BLOCKS OF ITS USES ARE AS MANY AS THE GROUP HAS
  pub group-blocks : all_uses (blocks_in g (heads 0) (heads k) k) ≡ group_blocks g.dblocks g.agsize g.agcount k
  unfolding blocks_in used_blocks
  group-blocks = parts_are run_length ∙ plan-blocks g d.label (answer g u heads d) k i (numbered g u heads d k i)
