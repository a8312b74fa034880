-- A planned group's uses in closed form weigh what the whole group weighs.
-- Assumes nothing.
use Rattle.std.specs.Prelude.{Some, None}
use mathlib.Core.Path.{◌≡◌, refl, sym}
use mathlib.Core.Bool.{Bool, true, false, cond, ◌&&◌}
use mathlib.Core.List.{List, ◌++◌}
use Prim.Native.Nat.{ℕ, zero, suc, ◌+◌, ◌-◌}
use native.Mathlib.Omega.{arith}
use borrow.Author.Tests.{ltb-false, eqb-true}
use lib.Dec.{ltb}
use lib.ListN.{length, replicate}
use lib.Seq.{take-append_seam}
use Rattle.seqs.specs.Lists.{up_from}
use Rattle.seqs.specs.Runs.{weigh}
use Rattle.seqs.proofs.Weights.{Additive, weigh-append}
use Rattle.plan_site.specs.declared.Site.{Site}
use Rattle.plan_site.specs.Sites.{SoundSite}
use Rattle.plan_free.specs.Free.{alloc_start, alloc_count}
use Rattle.plan_free.proofs.Uses.{free-packed, piece-weighs}
use Rattle.plan.specs.Plan.{pack_agfl, gap}
use Rattle.plan_closed.specs.Closed.{has_root_chunk, list_at, closed_free, closed_list, list_short, closed_ag_plan}
use Rattle.plan_uses.specs.Uses.{free_list_entries, self, one, chunk_from, all_parts}

list-packed : (ys : List ℕ) → free_list_entries (pack_agfl ys) ≡ ys
list-packed ys = take-append_seam ys (replicate (64 - length ys) 0)

module _ (f : ℕ → ℕ → ℕ) (add : Additive f) where
  -- blocks that follow each other weigh what their run weighs
  pub run-weighs : (a n : ℕ) → weigh self one f (up_from a n) ≡ f a (a + n)
  unfolding up_from weigh
  run-weighs a zero = sym (add.none a (a + 0) (omega arith))
  run-weighs a (suc n) =
      let h = run-weighs (a + 1) n in
      let e : a + suc n ≡ a + 1 + n = omega arith in
      rw e (let s = add.split a (a + 1) (a + 1 + n) (omega arith) (omega arith) in omega arith)

  module _ (s : Site) (ok : SoundSite s) where
    pub list-weighs : weigh self one f (free_list_entries (pack_agfl (closed_list s))) ≡ f (list_at s) (list_at s + s.need)
    unfolding closed_list
    list-weighs = rw (list-packed (up_from (list_at s) s.need)) (run-weighs (list_at s) s.need)

    chunk-at : (t : Bool) → chunk_from f (cond t (Some s.chunk_at) None) s.chunk_blocks ≡ cond t (f s.chunk_at (s.chunk_at + s.chunk_blocks)) 0
    chunk-at true = refl
    chunk-at false = refl

    pub chunk-weighs : chunk_from f (cond (has_root_chunk s) (Some s.chunk_at) None) s.chunk_blocks ≡ cond (has_root_chunk s) (f s.chunk_at (s.chunk_at + s.chunk_blocks)) 0
    chunk-weighs = chunk-at (has_root_chunk s)

    free-at : (t : Bool)
        → weigh alloc_start alloc_count f (cond t (gap (s.head + s.need) s.chunk_at ++ gap (s.chunk_at + s.chunk_blocks) s.length) (gap (list_at s + s.need) s.length))
        ≡ cond t (f (s.head + s.need) s.chunk_at + f (s.chunk_at + s.chunk_blocks) s.length) (f (list_at s + s.need) s.length)
    free-at true =
        let u = weigh-append alloc_start alloc_count f (gap (s.head + s.need) s.chunk_at) (gap (s.chunk_at + s.chunk_blocks) s.length) in
        let p = piece-weighs f add (s.head + s.need) s.chunk_at in
        let q = piece-weighs f add (s.chunk_at + s.chunk_blocks) s.length in
        omega arith
    free-at false = piece-weighs f add (list_at s + s.need) s.length

    free-weighs : weigh alloc_start alloc_count f (closed_free s) ≡ cond (has_root_chunk s) (f (s.head + s.need) s.chunk_at + f (s.chunk_at + s.chunk_blocks) s.length) (f (list_at s + s.need) s.length)
    unfolding closed_free
    free-weighs = free-at (has_root_chunk s)

    -- the free list's first block, by the test that decides it
    abbrev from : Bool → ℕ
    from u = cond u (s.log_at + s.log_blocks) s.head

    sum-at : (t u : Bool) → has_root_chunk s ≡ t → s.has_log ≡ u → (u && ltb (s.length - from u) s.need) ≡ false
        → f 0 s.head + cond u (f s.log_at (s.log_at + s.log_blocks)) 0 + f (from u) (from u + s.need) + cond t (f s.chunk_at (s.chunk_at + s.chunk_blocks)) 0
        + cond t (f (s.head + s.need) s.chunk_at + f (s.chunk_at + s.chunk_blocks) s.length) (f (from u + s.need) s.length)
        ≡ f 0 s.length
    sum-at true true z e q = let n = ok.log-not-first (eqb-true s.agno 0 z) in let o : ◌≡◌ {A = ℕ} 0 1 = cc in absurd (omega arith)
    sum-at true false z e q =
        let a = ok.chunk-after in
        let c = ok.chunk-ends in
        let l = ok.length-least in
        let v = add.split 0 s.head s.length (omega arith) (omega arith) in
        let w = add.split s.head (s.head + s.need) s.length (omega arith) (omega arith) in
        let x = add.split (s.head + s.need) s.chunk_at s.length a (omega arith) in
        let y = add.split s.chunk_at (s.chunk_at + s.chunk_blocks) s.length (omega arith) (omega arith) in
        omega arith
    sum-at false true z e q =
        let m = ltb-false (s.length - (s.log_at + s.log_blocks)) s.need q in
        let n = ok.need-least in
        let a = ok.log-after in
        let v = add.split 0 s.head s.length (omega arith) (omega arith) in
        let w = add.split s.log_at (s.log_at + s.log_blocks) s.length (omega arith) (omega arith) in
        let x = add.split (s.log_at + s.log_blocks) (s.log_at + s.log_blocks + s.need) s.length (omega arith) (omega arith) in
        let i : f s.head s.length ≡ f s.log_at s.length = rw a in
        omega arith
    sum-at false false z e q =
        let b = ok.head-most in
        let n = ok.need-most in
        let l = ok.length-least in
        let v = add.split 0 s.head s.length (omega arith) (omega arith) in
        let w = add.split s.head (s.head + s.need) s.length (omega arith) (omega arith) in
        omega arith

    -- EVERY ADDITIVE WEIGHT OF THE GROUP IS THAT OF ITS FIVE USES
    pub parts-weigh : list_short s ≡ false → all_parts f s (closed_ag_plan s) ≡ f 0 s.length
    unfolding list_short list_at
    parts-weigh q =
        rw (list-weighs, chunk-weighs, free-packed (closed_free s), free-weighs) (sum-at (has_root_chunk s) s.has_log refl refl q)
