-- Every group of an answer: its plan, and which groups are refused.
-- Assumes nothing.
use mathlib.Core.Path.{◌≡◌, refl, ap, ◌∙◌}
use mathlib.Core.Bool.{Bool, true, false, cond, ◌&&◌}
use mathlib.Core.Logic.{◌⊎◌, inl, inr}
use mathlib.Core.List.{[], ◌∷◌, ◌++◌}
use Prim.Native.Nat.{ℕ, ◌+◌, ◌-◌, ◌≤◌, ◌<◌}
use native.Mathlib.Omega.{arith}
use borrow.Author.Tests.{eq-eqb, ne_eqb, eqb-true, le-ltb}
use lib.Dec.{ltb, eqb}
use lib.ListN.{length}
use Rattle.refusals.specs.Numbers.{free_list_short}
use Rattle.seqs.specs.Runs.{weigh, run_length}
use Rattle.seqs.proofs.Weights.{additive-blocks, weigh-append, weigh-one}
use Rattle.geometry.specs.declared.Geometry.{Geometry}
use Rattle.geometry_answers.specs.Named.{is_answer}
use Rattle.geometry_layout.specs.Places.{freelist_of, group_blocks}
use Rattle.geometry_layout.proofs.Bounding.{answer-bounds}
use Rattle.geometry_places.proofs.Refused.{group-there}
use Rattle.plan_site.specs.declared.Site.{Site}
use Rattle.plan_site.specs.Sites.{site_of, SoundSite}
use Rattle.plan_site.proofs.Sites.{site-sound}
use Rattle.plan_free.specs.Free.{alloc_start, alloc_count}
use Rattle.plan_free.proofs.Uses.{piece-weighs}
use Rattle.plan.specs.declared.Planned.{Planned}
use Rattle.plan.specs.Plan.{gap, free_at_first, refused_plan, planned}
use Rattle.plan_closed.specs.Closed.{list_at, free_before_list, list_short, closed_ag_plan, closed_plan}
use Rattle.plan_closed.proofs.ClosedForm.{closed-form}

-- the number of a choice between 25 and a plan
number-at : (t : Bool) (p : Planned) → p.number ≡ 0 → (cond t (refused_plan free_list_short) p).number ≡ cond t free_list_short 0
number-at true p e = refl
number-at false p e = e

either-at : (t : Bool) (n : ℕ) → n ≡ cond t free_list_short 0 → (n ≡ 0) ⊎ (n ≡ free_list_short)
either-at true n e = inr e
either-at false n e = inl e

-- ---- the blocks that are free before the free list is filled

module _ (s : Site) (ok : SoundSite s) where
  blocks_at : (t : Bool)
      → weigh alloc_start alloc_count run_length (cond t (gap s.head s.log_at ++ gap (s.log_at + s.log_blocks) s.length) (record { start = s.head; count = s.length - s.head } ∷ []))
      ≡ s.length - cond t (s.log_at + s.log_blocks) s.head
  unfolding run_length
  blocks_at true =
      let l = ok.log-after in
      let u = weigh-append alloc_start alloc_count run_length (gap s.head s.log_at) (gap (s.log_at + s.log_blocks) s.length) in
      let p = piece-weighs run_length additive-blocks s.head s.log_at in
      let q = piece-weighs run_length additive-blocks (s.log_at + s.log_blocks) s.length in
      omega arith
  blocks_at false = let u = weigh-one alloc_start alloc_count run_length (record { start = s.head; count = s.length - s.head }) in omega arith

  pub free-blocks : free_before_list s ≡ s.length - list_at s
  unfolding free_at_first list_at
  free-blocks = blocks_at s.has_log

  pub short-means : list_short s ≡ (s.has_log && ltb (free_before_list s) s.need)
  unfolding list_short
  short-means = rw free-blocks

  -- the number is 25 where the log group is short, else 0
  pub its-number : (closed_plan s).number ≡ cond (list_short s) free_list_short 0
  unfolding closed_plan
  its-number = number-at (list_short s) (record { number = 0; plan = closed_ag_plan s }) refl

module _ (g : Geometry) (l : length g.label ≡ 12) (h : is_answer g ≡ true) where
  -- THE PLAN OF EVERY GROUP OF AN ANSWER
  pub closed-plan : (k : ℕ) → k < g.agcount → planned g k ≡ closed_plan (site_of g k)
  unfolding planned
  closed-plan k i = rw (group-there g k h i) (closed-form (site_of g k) (site-sound g k l h))

  pub planned-number : (k : ℕ) → k < g.agcount → (planned g k).number ≡ cond (list_short (site_of g k)) free_list_short 0
  planned-number k i = ap (λ (p : Planned). p.number) (closed-plan k i) ∙ its-number (site_of g k) (site-sound g k l h)

  -- the plan of a group that isn't short
  pub planned-plan : (k : ℕ) → k < g.agcount → list_short (site_of g k) ≡ false → (planned g k).plan ≡ closed_ag_plan (site_of g k)
  unfolding closed_plan
  planned-plan k i f = rw (closed-plan k i, f)

  -- NO NUMBER BUT 25 COMES UP INSIDE
  pub refused-or-not : (k : ℕ) → k < g.agcount → ((planned g k).number ≡ 0) ⊎ ((planned g k).number ≡ free_list_short)
  refused-or-not k i = either-at (list_short (site_of g k)) (planned g k).number (planned-number k i)

  pub elsewhere-long : (k : ℕ) → eqb k g.logagno ≡ false → list_short (site_of g k) ≡ false
  unfolding list_short site_of
  elsewhere-long k e = rw e

  -- NO GROUP BUT THE LOG GROUP IS REFUSED
  pub others-planned : (k : ℕ) → k < g.agcount → (k ≡ g.logagno → ⊥) → (planned g k).number ≡ 0
  others-planned k i n = planned-number k i ∙ rw (elsewhere-long k (ne_eqb k g.logagno n))

  log-short : list_short (site_of g g.logagno) ≡ ltb (free_before_list (site_of g g.logagno)) (freelist_of g.features)
  unfolding site_of
  log-short = short-means (site_of g g.logagno) (site-sound g g.logagno l h) ∙ rw (eq-eqb g.logagno g.logagno refl)

  -- THE LOG GROUP IS REFUSED EXACTLY WHERE ITS FREE BLOCKS ARE FEWER THAN ITS FREE LIST
  pub log-group-refused : (planned g g.logagno).number ≡ cond (ltb (free_before_list (site_of g g.logagno)) (freelist_of g.features)) free_list_short 0
  log-group-refused = planned-number g.logagno (answer-bounds g l h).places.log-inside ∙ rw log-short

  roomy-long : g.roomy ≡ true → list_short (site_of g g.logagno) ≡ false
  unfolding list_short site_of list_at
  roomy-long e =
      let z = (answer-bounds g l h).places in
      let w = z.log-roomy e in
      let s : g.log_agbno + g.logblocks + freelist_of g.features ≤ group_blocks g.dblocks g.agsize g.agcount g.logagno = w in
      rw (eq-eqb g.logagno g.logagno refl) (le-ltb _ (freelist_of g.features) (omega arith))

  -- IN ROOMY SIZING NO GROUP IS REFUSED
  pub roomy-planned : g.roomy ≡ true → (k : ℕ) → k < g.agcount → (planned g k).number ≡ 0
  roomy-planned e k i = planned-number k i ∙ ap (λ (t : Bool). cond t free_list_short 0) (by-group k (eqb k g.logagno) refl)
    where
      by-group : (k : ℕ) (t : Bool) → eqb k g.logagno ≡ t → list_short (site_of g k) ≡ false
      by-group k true q = rw (eqb-true k g.logagno q) (roomy-long e)
      by-group k false q = elsewhere-long k q

  -- GROUP 0 IS PLANNED
  pub first-planned : (planned g 0).number ≡ 0
  first-planned =
      let b = (answer-bounds g l h).places.log-not-first in
      let c = (answer-bounds g l h).groups.count-least in
      others-planned 0 (omega arith) (λ e. omega arith)
