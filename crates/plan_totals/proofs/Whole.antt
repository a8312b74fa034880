-- The whole disk: every group of an answer adds up, and so do all.
-- Assumes nothing.
use Rattle.std.specs.Prelude.{Ok, Err}
use mathlib.Core.Path.{◌≡◌, refl, sym, ap, ◌∙◌}
use mathlib.Core.Bool.{Bool, true, false, cond, ◌&&◌}
use Prim.Native.Nat.{ℕ, ◌+◌, ◌*◌, ◌-◌, ◌<◌}
use native.Mathlib.Omega.{arith}
use borrow.Author.Tests.{ltb-false, eqb-true, eqb-false}
use lib.Dec.{ltb, eqb}
use lib.ListN.{length}
use Rattle.refusals.specs.Numbers.{free_list_short, no_answer}
use Rattle.geometry.specs.declared.Geometry.{Geometry}
use Rattle.geometry.specs.Log.{prealloc_of}
use Rattle.geometry_answers.specs.Named.{is_answer}
use Rattle.geometry_layout.specs.Places.{freelist_of, chunk_of, group_blocks, initial_free}
use Rattle.geometry_layout.proofs.Bounding.{answer-bounds}
use Rattle.geometry_places.specs.Answers.{unless64, initial_fdblocks}
use Rattle.plan_site.specs.declared.Site.{Site}
use Rattle.plan_site.specs.Sites.{site_of, SoundSite}
use Rattle.plan_site.proofs.Sites.{site-sound}
use Rattle.plan.specs.Plan.{planned}
use Rattle.plan_closed.specs.Closed.{has_root_chunk, list_at, list_short}
use Rattle.plan_closed.proofs.Planning.{planned-number, planned-plan, elsewhere-long, others-planned}
use Rattle.plan_totals.specs.Totals.{sum_to, first_to, plans_number, free_of_plan, free_count, free_count_answer, const_number, const_count, row_of, before_chunk, after_chunk, after_list, closed_row, total_of, closed_total}
use Rattle.plan_totals.proofs.Sums.{sum_same, sum-plus, sum_alike, only, sum-only, first-only, sum-lengths}
use Rattle.plan_totals.proofs.Rows.{free-is, list-is, row-closed}

-- ---- one group

-- blocks of the log, and of the root chunk, where they are here
abbrev log_in : Site → ℕ
log_in s = cond s.has_log s.log_blocks 0

abbrev chunk_here : Site → ℕ
chunk_here s = cond (has_root_chunk s) s.chunk_blocks 0

abbrev free_in : Site → ℕ
free_in s = cond (has_root_chunk s) (before_chunk s + after_chunk s) (after_list s)

module _ (s : Site) (ok : SoundSite s) where
  adds-at : (t u : Bool) → has_root_chunk s ≡ t → s.has_log ≡ u → (u && ltb (s.length - cond u (s.log_at + s.log_blocks) s.head) s.need) ≡ false
      → cond t (before_chunk s + after_chunk s) (s.length - (cond u (s.log_at + s.log_blocks) s.head + s.need)) + s.need + cond t s.chunk_blocks 0 + cond u s.log_blocks 0 + s.head ≡ s.length
  adds-at true true z e q = let f = ok.log-not-first (eqb-true s.agno 0 z) in let o : ◌≡◌ {A = ℕ} 0 1 = cc in absurd (omega arith)
  adds-at true false z e q = let a = ok.chunk-after in let c = ok.chunk-ends in let l = ok.length-least in omega arith
  adds-at false true z e q =
      let f = ltb-false (s.length - (s.log_at + s.log_blocks)) s.need q in
      let n = ok.need-least in
      let a = ok.log-after in
      omega arith
  adds-at false false z e q = let h = ok.head-most in let n = ok.need-most in let l = ok.length-least in omega arith

  -- free, free list, chunk, log and head are the group
  pub adds-up : list_short s ≡ false → free_in s + s.need + chunk_here s + log_in s + s.head ≡ s.length
  unfolding list_short list_at
  adds-up q = adds-at (has_root_chunk s) s.has_log refl refl q

-- ---- all groups

module _ (g : Geometry) (l : length g.label ≡ 12) (h : is_answer g ≡ true) where
  abbrev log_site : Site
  log_site = site_of g g.logagno

  one-number-at : (k : ℕ) → k < g.agcount → (t : Bool) → eqb k g.logagno ≡ t → (planned g k).number ≡ cond t (cond (list_short log_site) free_list_short 0) 0
  one-number-at k i true e = planned-number g l h k i ∙ ap (λ (n : ℕ). cond (list_short (site_of g n)) free_list_short 0) (eqb-true k g.logagno e)
  one-number-at k i false e = others-planned g l h k i (eqb-false k g.logagno e)

  -- some group is refused exactly where the log group is
  pub all-numbers : first_to g.agcount (λ k. (planned g k).number) ≡ cond (list_short log_site) free_list_short 0
  all-numbers =
      first-only g.logagno (cond (list_short log_site) free_list_short 0) (λ k. (planned g k).number) g.agcount (answer-bounds g l h).places.log-inside
      (λ k i. one-number-at k i (eqb k g.logagno) refl)

  some-groups : 1 < g.agcount
  some-groups = (answer-bounds g l h).groups.count-least

  -- THE LENGTHS OF ALL GROUPS ARE THE DISK
  pub lengths : sum_to g.agcount (group_blocks g.dblocks g.agsize g.agcount) ≡ g.dblocks
  lengths = let n = some-groups in sum-lengths g.dblocks g.agsize g.agcount (omega arith) (answer-bounds g l h).groups.before_last

  module _ (full : list_short log_site ≡ false) where
    none-short-at : (k : ℕ) (t : Bool) → eqb k g.logagno ≡ t → list_short (site_of g k) ≡ false
    none-short-at k true e = ap (λ (n : ℕ). list_short (site_of g n)) (eqb-true k g.logagno e) ∙ full
    none-short-at k false e = elsewhere-long g l h k e

    none-short : (k : ℕ) → list_short (site_of g k) ≡ false
    none-short k = none-short-at k (eqb k g.logagno) refl

    free_of : (k : ℕ) → k < g.agcount → free_of_plan (planned g k).plan ≡ free_in (site_of g k) + (site_of g k).need
    free_of k i = let a = free-is (site_of g k) in let b = list-is (site_of g k) in rw (planned-plan g l h k i (none-short k)) (omega arith)

    -- head, log and chunk of a group
    abbrev head : ℕ
    head = prealloc_of g.features g.sectsize g.blocksize

    abbrev chunk : ℕ
    chunk = chunk_of g.inodesize g.blocksize

    abbrev list : ℕ
    list = freelist_of g.features

    abbrev count : ℕ → ℕ
    count k = free_of_plan (planned g k).plan

    abbrev used : ℕ → ℕ
    used k = only 0 chunk k + (only g.logagno g.logblocks k + head)

    group-adds : (k : ℕ) → k < g.agcount → count k + used k ≡ group_blocks g.dblocks g.agsize g.agcount k
    unfolding site_of
    group-adds k i =
        let a = adds-up (site_of g k) (site-sound g k l h) (none-short k) in
        let b = free_of k i in
        omega arith

    all-used : sum_to g.agcount used ≡ chunk + (g.logblocks + g.agcount * head)
    all-used =
        let n = some-groups in
        let a = sum-plus g.agcount (only 0 chunk) (λ k. only g.logagno g.logblocks k + head) in
        let b = sum-plus g.agcount (only g.logagno g.logblocks) (λ k. head) in
        let c = sum-only 0 chunk g.agcount (omega arith) in
        let d = sum-only g.logagno g.logblocks g.agcount (answer-bounds g l h).places.log-inside in
        let e = sum_alike g.agcount head in
        omega arith

    -- over all groups: free and free-list blocks, chunk, log and heads are the disk
    pub disk-adds : free_count g + (chunk + (g.logblocks + g.agcount * head)) ≡ g.dblocks
    unfolding free_count
    disk-adds =
        let a = sum_same g.agcount (λ k. count k + used k) (group_blocks g.dblocks g.agsize g.agcount) group-adds in
        let b = sum-plus g.agcount count used in
        let c = all-used in
        let d = lengths in
        omega arith

    -- THE FREE COUNT IN CONSTANT TIME
    pub count-const : free_count g ≡ const_count g
    unfolding const_count
    count-const = let a = disk-adds in omega arith

    -- THE COUNT OF THE SECONDARY SUPERBLOCKS INCLUDES THE CHUNK
    pub initial-count : initial_fdblocks g ≡ free_count g + chunk
    unfolding initial_fdblocks initial_free
    initial-count = let a = disk-adds in omega arith

    -- ---- the last line

    -- what a row has of a group
    abbrev Summed : ℕ → Type 0
    Summed k =
        ((row_of g k).length ≡ group_blocks g.dblocks g.agsize g.agcount k)
        × ((row_of g k).log ≡ only g.logagno g.logblocks k)
        × ((row_of g k).list ≡ list)
        × ((row_of g k).chunk ≡ only 0 chunk k)
        × ((row_of g k).free + list ≡ count k)

    summed : (k : ℕ) → k < g.agcount → Summed k
    unfolding closed_row site_of
    summed k i = let b = free_of k i in rw (row-closed g l h k i, none-short k) (refl, refl, refl, refl, sym b)

    all-free : sum_to g.agcount (λ k. (row_of g k).free) + g.agcount * list ≡ free_count g
    unfolding free_count
    all-free =
        let a = sum_same g.agcount (λ k. (row_of g k).free + list) count (λ k i. (summed k i).4) in
        let b = sum-plus g.agcount (λ k. (row_of g k).free) (λ k. list) in
        let c = sum_alike g.agcount list in
        omega arith

    -- THE LAST LINE IN CONSTANT TIME
    pub total-closed : total_of g ≡ closed_total g
    unfolding total_of closed_total
    total-closed =
        let n = some-groups in
        let a = sum_same g.agcount (λ k. (row_of g k).length) (group_blocks g.dblocks g.agsize g.agcount) (λ k i. (summed k i).0) ∙ lengths in
        let b = sum_same g.agcount (λ k. (row_of g k).log) (only g.logagno g.logblocks) (λ k i. (summed k i).1) ∙ sum-only g.logagno g.logblocks g.agcount (answer-bounds g l h).places.log-inside in
        let c = sum_same g.agcount (λ k. (row_of g k).list) (λ k. list) (λ k i. (summed k i).2) ∙ sum_alike g.agcount list in
        let d = sum_same g.agcount (λ k. (row_of g k).chunk) (only 0 chunk) (λ k i. (summed k i).3) ∙ sum-only 0 chunk g.agcount (omega arith) in
        let f : sum_to g.agcount (λ k. (row_of g k).free) ≡ const_count g - g.agcount * list = let x = all-free in let y = count-const in omega arith in
        rw (a, b, c, d, f)

-- ---- every geometry, an answer or not

module _ (g : Geometry) (l : length g.label ≡ 12) where
  number-at : (t : Bool) → is_answer g ≡ t → cond t (first_to g.agcount (λ k. (planned g k).number)) no_answer ≡ cond t (cond (list_short (site_of g g.logagno)) free_list_short 0) no_answer
  number-at true h = all-numbers g l h
  number-at false h = refl

  -- WHETHER ALL GROUPS ARE PLANNED, IN CONSTANT TIME
  pub plans-number : plans_number g ≡ const_number g
  unfolding plans_number const_number
  plans-number = number-at (is_answer g) refl

  planned-at : (t u : Bool) → cond {A = ℕ} t (cond u free_list_short 0) no_answer ≡ 0 → (t ≡ true) × (u ≡ false)
  planned-at true true e = absurd (omega arith)
  planned-at true false e = (refl, refl)
  planned-at false u e = absurd (omega arith)

  -- number 0: an answer whose log group has blocks enough
  pub all-planned : plans_number g ≡ 0 → (is_answer g ≡ true) × (list_short (site_of g g.logagno) ≡ false)
  unfolding const_number
  all-planned e = planned-at (is_answer g) (list_short (site_of g g.logagno)) (sym plans-number ∙ e)

  count_at : (t : Bool) → eqb (plans_number g) 0 ≡ t → cond t (Ok (free_count g)) (Err (plans_number g)) ≡ cond t (Ok (const_count g)) (Err (plans_number g))
  count_at true e = let p = all-planned (eqb-true (plans_number g) 0 e) in ap Ok (count-const g l p.0 p.1)
  count_at false e = refl

  -- THE ANSWER OF `free_count` IN CONSTANT TIME
  pub free-count : free_count_answer g ≡ unless64 (const_number g) (const_count g)
  unfolding free_count_answer unless64
  free-count = count_at (eqb (plans_number g) 0) refl ∙ rw plans-number
