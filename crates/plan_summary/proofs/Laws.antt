-- Laws of the summary's definitions.
-- Assumes nothing.
use Rattle.std.specs.Prelude.{Ok}
use mathlib.Core.Path.{◌≡◌, refl, sym, ◌∙◌}
use mathlib.Core.Bool.{Bool, true, false, cond}
use Prim.Native.Nat.{ℕ, ◌+◌, ◌*◌, ◌-◌, ◌^◌, ◌≤◌, ◌<◌}
use native.Mathlib.Omega.{arith}
use native.Mathlib.Nat.{mul-le-mul_left}
use borrow.Author.Tests.{eq-eqb, eqb-true}
use lib.Dec.{ltb, eqb}
use lib.ListN.{length}
use lib.Pow.{pow_pos}
use Rattle.refusals.specs.Numbers.{free_list_short, no_answer}
use Rattle.geometry.specs.declared.Geometry.{Geometry}
use Rattle.geometry_answers.specs.Named.{is_answer}
use Rattle.arith.specs.Choice.{when}
use Rattle.geometry_layout.specs.Places.{group_blocks}
use Rattle.geometry_layout.proofs.Bounding.{answer-bounds}
use Rattle.geometry_places.specs.Answers.{group_refusal, unless64}
use Rattle.geometry_places.proofs.Refused.{group-no-answer, group-there}
use Rattle.plan_site.specs.declared.Site.{Site}
use Rattle.plan_site.specs.Sites.{site_of}
use Rattle.plan_site.proofs.Sites.{site-sound}
use Rattle.plan_closed.specs.Closed.{list_at, list_short}
use Rattle.plan_totals.specs.Totals.{plans_number, free_count_answer, const_number}
use Rattle.plan_totals.proofs.Whole.{plans-number, free-count}
use Rattle.plan_summary.specs.declared.Summarised.{Summarised}
use Rattle.plan_summary.specs.Summaries.{summary_of, no_summary, summarised}

-- the log group is short where what lies behind the log is less than its free list
pub short-after : (s : Site) → s.has_log ≡ true → list_short s ≡ ltb (s.length - (s.log_at + s.log_blocks)) s.need
unfolding list_short list_at
short-after s e = rw e

module _ (g : Geometry) where
  pub no_answer_lem : is_answer g ≡ false → const_number g ≡ no_answer
  unfolding const_number
  no_answer_lem e = rw e

  pub log-short : is_answer g ≡ true → list_short (site_of g g.logagno) ≡ true → const_number g ≡ free_list_short
  unfolding const_number
  log-short e h = rw (e, h)

  pub all-planned : is_answer g ≡ true → list_short (site_of g g.logagno) ≡ false → const_number g ≡ 0
  unfolding const_number
  all-planned e h = rw (e, h)

  -- the log's group is there in every answer, so its refusal is 31
  refusal-at : (t : Bool) → is_answer g ≡ t → length g.label ≡ 12 → (group_refusal g g.logagno ≡ 0 → ⊥) → const_number g ≡ group_refusal g g.logagno
  refusal-at true e l n = absurd (n (group-there g g.logagno e (answer-bounds g l e).places.log-inside))
  refusal-at false e l n = no_answer_lem e ∙ sym (group-no-answer g g.logagno e)

  pub log-refused : length g.label ≡ 12 → (group_refusal g g.logagno ≡ 0 → ⊥) → const_number g ≡ group_refusal g g.logagno
  log-refused = refusal-at (is_answer g) refl

  pub has-log : (site_of g g.logagno).has_log ≡ true
  unfolding site_of
  has-log = eq-eqb g.logagno g.logagno refl

  pub before-fits : length g.label ≡ 12 → is_answer g ≡ true → (g.agcount - 1) * g.agsize < 2 ^ 64
  before-fits l h =
      let b = answer-bounds g l h in
      let w = b.groups.before_last in
      let v = b.groups.disk-most in
      let e = b.sizes.block-power in
      let p : 0 < 2 ^ g.blocklog = pow_pos g.blocklog in
      let o : 1 ≤ g.blocksize = omega arith in
      let m = mul-le-mul_left g.dblocks o in
      omega arith

  last-length : (site_of g (g.agcount - 1)).length ≡ g.dblocks - (g.agcount - 1) * g.agsize
  unfolding site_of group_blocks when
  last-length = rw (eq-eqb (g.agcount - 1) (g.agcount - 1) refl)

  pub last_fits : length g.label ≡ 12 → is_answer g ≡ true → g.dblocks - (g.agcount - 1) * g.agsize < 2 ^ 30
  last_fits l h = rw (← last-length) (site-sound g (g.agcount - 1) l h).length_most

-- a few blocks of each group fit
pub each_fits : (n b : ℕ) → n < 2 ^ 32 → b ≤ 10 → n * b < 2 ^ 64
each_fits n b h k = let w = mul-le-mul_left n k in omega arith

module _ (g : Geometry) (l : length g.label ≡ 12) (h : is_answer g ≡ true) where
  pub few-groups : g.agcount < 2 ^ 32
  few-groups = let w = (answer-bounds g l h).groups.count_most in omega arith

  pub few-heads : (site_of g g.logagno).head ≤ 10
  few-heads = (site-sound g g.logagno l h).head-most

  pub few-lists : (site_of g g.logagno).need ≤ 10
  few-lists = let w = (site-sound g g.logagno l h).need-most in omega arith

-- ---- what an answer of `summary_of` says

number-at : (g : Geometry) (n : ℕ) (t : Bool) → eqb n 0 ≡ t
    → (cond {A = Summarised} t (record { number = 0; summary = summary_of g }) (record { number = n; summary = no_summary })).number ≡ n
number-at g n true e = sym (eqb-true n 0 e)
number-at g n false e = refl

pub its-number : (g : Geometry) → (summarised g).number ≡ plans_number g
unfolding summarised
its-number g = number-at g (plans_number g) (eqb (plans_number g) 0) refl

pub its-summary : (g : Geometry) → plans_number g ≡ 0 → (summarised g).summary ≡ summary_of g
unfolding summarised
its-summary g e = rw (eq-eqb (plans_number g) 0 e)

-- the free count of accepted plans
pub count-is : (g : Geometry) → length g.label ≡ 12 → plans_number g ≡ 0 → free_count_answer g ≡ Ok (summary_of g).count
unfolding unless64 summary_of
count-is g l e = free-count g l ∙ rw (← plans-number g l, eq-eqb (plans_number g) 0 e)
