-- What the code works out of a block count is the number of a device of so many blocks.
-- Assumes nothing.
use Rattle.std.specs.Prelude.{Option, Some, None, is_some, unwrap_or}
use mathlib.Core.Path.{◌≡◌, refl, sym, ap, ◌∙◌}
use mathlib.Core.Bool.{Bool, true, false, ◌&&◌, cond}
use mathlib.Core.List.{List, [], ◌∷◌, ◌++◌}
use Prim.Native.Nat.{ℕ, ◌+◌, ◌*◌, ◌-◌, ◌/◌, ◌^◌, ◌<◌}
use native.Mathlib.Omega.{arith}
use native.Mathlib.Nat.{mul-div_cancel, le_refl}
use borrow.Author.Tests.{le-ltb, eqb-true}
use lib.Dec.{ltb, eqb}
use lib.ListN.{length}
use Rattle.refusals.specs.Numbers.{free_list_short, imaxpct_above100, label_too_long}
use Rattle.arith.specs.Choice.{when}
use Rattle.refusals.specs.Table.{Refusal, ◌if◌, first}
use Rattle.params.specs.declared.Params.{Params}
use Rattle.geometry.specs.Sizes.{sizes_of}
use Rattle.geometry.specs.declared.groups.Groups.{Groups}
use Rattle.geometry.specs.declared.Geometry.{Geometry}
use Rattle.geometry.specs.declared.Computed.{Computed}
use Rattle.geometry.specs.Limits.{min_group, tib}
use Rattle.geometry.specs.Groups.{asked_blocks, default_size, initial_groups, group_blocks, options_refusals, groups_refusals}
use Rattle.geometry.specs.Log.{freelist_of, log_blocks, default_imaxpct, imaxpct_of, last_refusals}
use Rattle.geometry.specs.Compute.{with_groups, with_sizes, chosen_of, geometry_of, compute_def}
use Rattle.geometry_answers.specs.Answers.{Answered}
use Rattle.geometry_answers.specs.Named.{is_answer}
use Rattle.geometry_answers.proofs.Again.{its-geometry, label_kept}
use Rattle.geometry_answers.proofs.Exact.{complete}
use Rattle.geometry_answers.proofs.Tests.{options-part, groups-part, last-part}
use Rattle.plan_site.specs.Sites.{site_of}
use Rattle.plan_closed.specs.Closed.{list_short}
use Rattle.plan_totals.specs.Totals.{plans_number, const_number}
use Rattle.plan_totals.proofs.Whole.{plans-number}
use Rattle.plan_summary.proofs.Laws.{short-after, has-log}
use Rattle.run.specs.Runs.{or_next}
use Rattle.inquire_sizes.specs.declared.step.Fixed.{Fixed}
use Rattle.inquire_sizes.specs.Ranges.{size_number, block_bytes, blocks_number, options_number}
use Rattle.inquire_sizes.specs.Step.{in_blocks, limits_of, early_number, late_number, fixed_with, fixed_of, default_group_size, groups_with, groups_at, log_at, at_with, at_of, size_refusals, group_refusals, disk_refusals, number_with, number_at}
use Rattle.inquire_sizes.proofs.Tables.{first-append, next-first}
use Rattle.inquire_sizes.proofs.Blocks.{late-part, sizes, asked, kept, step-late, block-pos}

-- ---- single tests

and-false : (b : Bool) → (b && false) ≡ false
and-false true = refl
and-false false = refl

choose-when : (t : Bool) (a b : ℕ) → cond t a b ≡ when t a b
unfolding when
choose-when true a b = refl
choose-when false a b = refl

default-few : (a b : Bool) → ltb 100 (when a 25 (when b 5 1)) ≡ false
unfolding when
default-few true b = refl
default-few false true = refl
default-few false false = refl

-- 19 goes by the option alone: what stands for an absent one is at most 25
percent-alike : (o : Option ℕ) (bs d e : ℕ) → ltb 100 (imaxpct_of o bs d) ≡ ltb 100 (imaxpct_of o bs e)
unfolding default_imaxpct
percent-alike (Some n) bs d e = refl
percent-alike None bs d e =
    default-few (ltb d (tib / bs)) (ltb d (50 * tib / bs)) ∙ sym (default-few (ltb e (tib / bs)) (ltb e (50 * tib / bs)))

less_both : (x a b : ℕ) → x - (a + b) ≡ x - a - b
less_both x a b = omega arith

-- ---- the log group of an answer

-- what lies behind the log
abbrev behind : Geometry → ℕ
behind g = group_blocks g.dblocks g.agsize g.agcount g.logagno - (g.log_agbno + g.logblocks)

short-is : (g : Geometry) → list_short (site_of g g.logagno) ≡ ltb (behind g) (freelist_of g.features)
unfolding site_of
short-is g = short-after (site_of g g.logagno) (has-log g)

-- 25 of an answer
answer-number : (g : Geometry) → length g.label ≡ 12 → is_answer g ≡ true → plans_number g ≡ when (ltb (behind g) (freelist_of g.features)) 25 0
unfolding const_number
answer-number g l h = plans-number g l ∙ rw (h, short-is g) (choose-when (ltb (behind g) (freelist_of g.features)) free_list_short 0)

module _ (p : Params) (logical physical : ℕ) (z : options_number p logical physical ≡ 0) (n : ℕ) where
  abbrev bs : ℕ
  bs = block_bytes p

  abbrev device : ℕ
  device = n * bs

  abbrev f : Fixed
  f = fixed_of p logical physical

  -- ---- groups

  asked_is : (o : Option ℕ) → asked_blocks o device bs ≡ unwrap_or (in_blocks o bs) n
  unfolding asked_blocks in_blocks
  asked_is (Some b) = refl
  asked_is None = mul-div_cancel n (block-pos p logical physical z)

  groups-is : (a c : Option ℕ) (d : ℕ) → initial_groups a c bs d ≡ groups_with (limits_of bs) d (in_blocks a bs) c
  unfolding initial_groups groups_with in_blocks limits_of default_group_size default_size
  groups-is (Some s) c d = refl
  groups-is None (Some m) d = refl
  groups-is None None d = refl

  abbrev a : Groups
  a = asked p logical physical device

  asked-at : a ≡ groups_at f (unwrap_or f.size n)
  unfolding groups_at fixed_of fixed_with sizes_of
  asked-at =
      ap (initial_groups p.agsize p.agcount bs) (asked_is p.size)
      ∙ groups-is p.agsize p.agcount (unwrap_or (in_blocks p.size bs) n)

  at-is : at_with f a ≡ at_of f n
  unfolding at_of
  at-is = ap (at_with f) asked-at

  -- ---- the tables

  abbrev g : Groups
  g = kept p logical physical device

  abbrev log : ℕ
  log = log_at f g

  -- 25, of these groups
  abbrev last : ℕ
  last = when (ltb (group_blocks g.dblocks g.agsize g.agcount (g.agcount / 2) - f.head - log) (freelist_of p.features)) free_list_short 0

  abbrev early-table : List Refusal
  early-table = options_refusals p.agsize p.agcount bs (min_group bs) (min_group bs) false

  abbrev late-table : List Refusal
  late-table = imaxpct_above100 if ltb 100 (imaxpct_of p.imaxpct bs 0) ∷ label_too_long if ltb 12 p.label.length ∷ []

  abbrev disk-part : ℕ
  disk-part = first (disk_refusals f g log) 0

  -- the numbers that were worked out before are tables again
  tabled : number_with f n (at_with f a) ≡ first (size_refusals f n (at_with f a)) (first early-table (first (group_refusals f (at_with f a)) (first late-table disk-part)))
  unfolding number_with fixed_of fixed_with limits_of early_number late_number sizes_of options_refusals
  tabled =
      let c = at_with f a in
      ap (first (size_refusals f n c)) (next-first early-table (first (group_refusals f c) (or_next f.late disk-part)) tt)
      ∙ ap (λ (r : ℕ). first (size_refusals f n c) (first early-table (first (group_refusals f c) r))) (next-first late-table disk-part tt)

  -- and these are the step's
  same_tests : first (options-part p device (sizes p logical physical) a) (first (groups-part (sizes p logical physical) g) (first (last-part p (sizes p logical physical) a g) last))
      ≡ first (size_refusals f n (at_with f a)) (first early-table (first (group_refusals f (at_with f a)) (first late-table disk-part)))
  unfolding options_refusals groups_refusals last_refusals size_refusals group_refusals disk_refusals with_groups log_blocks log_at fixed_of fixed_with limits_of sizes_of when
  same_tests =
      rw (
        mul-div_cancel n (block-pos p logical physical z),
        percent-alike p.imaxpct bs g.dblocks 0,
        le-ltb (min_group bs) (min_group bs) (le_refl (min_group bs)),
        and-false (is_some p.agcount),
      )

  abbrev late : List Refusal
  late = late-part p device (sizes p logical physical) a g

  from-tables : first late last ≡ number_at f n
  unfolding number_at
  from-tables =
      let s = sizes p logical physical in
      first-append (options-part p device s a ++ groups-part s g) (last-part p s a g) last
      ∙ first-append (options-part p device s a) (groups-part s g) (first (last-part p s a g) last)
      ∙ same_tests
      ∙ sym tabled
      ∙ ap (number_with f n) at-is

  -- ---- the plans

  module _ (label : length p.label.bytes ≡ 12) (small : device < 2 ^ 64) where
    abbrev step : Computed
    step = compute_def p device logical physical

    answered : step.number ≡ 0 → Answered step.geometry
    answered e =
        record {
          options = p;
          label = label;
          device = device;
          small = small;
          logical = logical;
          physical = physical;
          accepted = λ i. record { number = e i; geometry = step.geometry };
        }

    behind-is : behind (geometry_of p (chosen_of p device logical physical)) ≡ group_blocks g.dblocks g.agsize g.agcount (g.agcount / 2) - f.head - log
    unfolding geometry_of chosen_of with_sizes with_groups log_blocks log_at fixed_of fixed_with limits_of sizes_of
    behind-is = less_both (group_blocks g.dblocks g.agsize g.agcount (g.agcount / 2)) f.head log

    features-is : (geometry_of p (chosen_of p device logical physical)).features ≡ p.features
    unfolding geometry_of
    features-is = refl

    plans-are : step.number ≡ 0 → plans_number step.geometry ≡ last
    plans-are e =
        answer-number step.geometry (label_kept p device logical physical label e) (complete step.geometry (answered e))
        ∙ ap (λ (x : Geometry). when (ltb (behind x) (freelist_of x.features)) free_list_short 0) (its-geometry p device logical physical e)
        ∙ rw (behind-is, features-is)

    number-at : (t : Bool) → eqb step.number 0 ≡ t → cond t (plans_number step.geometry) step.number ≡ cond t last step.number
    number-at true e = plans-are (eqb-true step.number 0 e)
    number-at false e = refl

    positive-tables : or_next (first late 0) last ≡ first late last
    unfolding options_refusals groups_refusals last_refusals
    positive-tables = next-first late last tt

    -- WHAT IS WORKED OUT IS THE NUMBER
    pub step_is : number_at f n ≡ blocks_number p logical physical n
    unfolding blocks_number size_number
    step_is =
        sym (number-at (eqb step.number 0) refl
        ∙ ap (λ (m : ℕ). or_next m last) (step-late p logical physical z device)
        ∙ positive-tables
        ∙ from-tables)
