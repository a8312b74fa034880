-- What roomy sizing accepts, plain sizing accepts too: its log is no shorter, and every other test is the same.
-- Assumes nothing.
use mathlib.Core.Path.{◌≡◌, refl, sym, ap, subst, ◌∙◌}
use mathlib.Core.Bool.{true, false}
use mathlib.Core.List.{◌++◌}
use Prim.Native.Nat.{ℕ, ◌*◌, ◌-◌, ◌/◌, ◌≤◌, ◌<◌, min, max}
use native.Mathlib.Omega.{arith}
use borrow.Author.Tests.{le-ltb, ltb-false}
use lib.Dec.{eqb}
use Rattle.arith.specs.Choice.{when}
use Rattle.refusals.proofs.Clear.{Clear, joined}
use Rattle.params.specs.declared.Features.{Features}
use Rattle.params.specs.declared.Params.{Params}
use Rattle.params.specs.Params.{with_roomy}
use Rattle.geometry.specs.declared.sizes.Sizes.{Sizes}
use Rattle.geometry.specs.Sizes.{sizes_of}
use Rattle.geometry.specs.declared.groups.Groups.{Groups}
use Rattle.geometry.specs.Limits.{min_group, realistic_log_bytes, log_ratio}
use Rattle.geometry.specs.Groups.{group_blocks, trim}
use Rattle.geometry.specs.Log.{prealloc_of, log_limit, log_blocks, last_refusals}
use Rattle.geometry.specs.declared.Geometry.{Geometry}
use Rattle.geometry.specs.declared.Computed.{Computed}
use Rattle.geometry.specs.Compute.{with_groups, asked_groups, with_sizes, chosen_of, refusals, refusal_of, geometry_of, compute_def}
use Rattle.geometry.proofs.Answer.{number_of}
use Rattle.geometry_answers.specs.declared.Named.{Named}
use Rattle.geometry_answers.specs.Named.{named_options, named_on, named_answer}
use Rattle.geometry_answers.proofs.Tests.{all-clear, none-again, sizes-part, options-part, groups-part, last-part, sizes-clear, options-clear, groups-clear, last-clear, groups_of, rest_of, group-pos}
use Rattle.geometry_answers.proofs.Again.{is-accepted, its-geometry}
use Rattle.geometry_answers.proofs.Exact.{fitting, accepted-fits}
use Rattle.geometry_layout.proofs.Ceil.{counted, group-within}

-- the roomy limit is no higher
limits : (f : Features) (d s n pre : ℕ) → d ≤ n * s → n / 2 < n → log_limit true f d s n pre ≤ log_limit false f d s n pre
unfolding log_limit group_blocks when
limits f d s n pre w h = let g = group-within d s n (n / 2) (eqb (n / 2) (n - 1)) refl w h in omega arith

min-mono : (w l m : ℕ) → l ≤ m → min w l ≤ min w m
min-mono w l m h = omega arith

min-left : (a b w : ℕ) → a ≤ b → min a w ≤ min b w
min-left a b w h = omega arith

logs : (d l m bs : ℕ) → l ≤ m → log_blocks d l bs ≤ log_blocks d m bs
unfolding log_blocks
logs d l m bs h = min-left _ _ _ (min-left _ _ _ (min-mono (max (d / log_ratio) (realistic_log_bytes / bs)) l m h))

-- a longer log passes where a shorter one does
last_more : (imaxpct label bs d size n log more : ℕ) → log ≤ more → Clear (last_refusals imaxpct label bs d size n log) → Clear (last_refusals imaxpct label bs d size n more)
unfolding last_refusals
last_more imaxpct label bs d size n log more h c =
    (c.0, (c.1.0, (c.1.1.0, (le-ltb more (realistic_log_bytes / bs) (let w = ltb-false log (realistic_log_bytes / bs) c.1.1.1.0 in omega arith), c.1.1.1.1))))

module _ (p : Params) (device : ℕ) (s : Sizes) (a g : Groups) where
  abbrev roomy : Params
  roomy = with_roomy p true

  abbrev old : Params
  old = with_roomy p false

  module _ (c : Clear (refusals roomy device (with_groups roomy s a g))) where
    enough : g.dblocks ≤ g.agcount * g.agsize
    enough =
        let q = groups_of roomy device s a g c in
        let r = rest_of roomy device s a g c in
        let b = group-pos roomy device s a g c in
        subst (λ (x : ℕ). g.dblocks ≤ x * g.agsize) (sym r.count) (counted g.dblocks g.agsize (let w = q.within in omega arith) b).enough

    no-shorter : (with_groups roomy s a g).log ≤ (with_groups old s a g).log
    unfolding with_groups
    no-shorter =
        logs g.dblocks (log_limit true p.features g.dblocks g.agsize g.agcount (prealloc_of p.features s.sector s.block))
        (log_limit false p.features g.dblocks g.agsize g.agcount (prealloc_of p.features s.sector s.block)) s.block
        (limits p.features g.dblocks g.agsize g.agcount (prealloc_of p.features s.sector s.block) enough (let w = (rest_of roomy device s a g c).count-least in omega arith))

    last-old : Clear (last-part old s a g)
    unfolding with_groups
    last-old =
        last_more (with_groups roomy s a g).imaxpct roomy.label.length s.block g.dblocks g.agsize g.agcount (with_groups roomy s a g).log (with_groups old s a g).log
        no-shorter (last-clear roomy device s a g c)

    clear-old : Clear (refusals old device (with_groups old s a g))
    unfolding refusals with_groups
    clear-old = (
      c.0,
      joined (sizes-part s ++ options-part old device s a ++ groups-part s g) (last-part old s a g)
          (joined (sizes-part s ++ options-part old device s a) (groups-part s g)
          (joined (sizes-part s) (options-part old device s a) (sizes-clear roomy device s a g c) (options-clear roomy device s a g c))
          (groups-clear roomy device s a g c))
          last-old,
    )

-- the second is accepted, and its log is no shorter than the first's
abbrev pub NoShorter : Computed → Computed → Type 0
NoShorter roomy old = (old.number ≡ 0) × (roomy.geometry.logblocks ≤ old.geometry.logblocks)

module _ (p : Params) (device logical physical : ℕ) where
  step-number : refusal_of p device (chosen_of p device logical physical) ≡ 0 → (compute_def p device logical physical).number ≡ 0
  unfolding compute_def
  step-number o = number_of (refusal_of p device (chosen_of p device logical physical)) (geometry_of p (chosen_of p device logical physical)) ∙ o

  step-log : (compute_def p device logical physical).number ≡ 0 → (compute_def p device logical physical).geometry.logblocks ≡ (chosen_of p device logical physical).log
  unfolding geometry_of
  step-log e = ap (λ (x : Geometry). x.logblocks) (its-geometry p device logical physical e)

-- WHAT THE STEP ACCEPTS IN ROOMY SIZING IT ACCEPTS IN PLAIN SIZING, WITH A LOG NO SHORTER: for all options and every device
pub step-old : (p : Params) (device logical physical : ℕ) → (compute_def (with_roomy p true) device logical physical).number ≡ 0
    → NoShorter (compute_def (with_roomy p true) device logical physical) (compute_def (with_roomy p false) device logical physical)
unfolding chosen_of with_sizes sizes_of
step-old p device logical physical e =
    let q = with_roomy p true in
    let r = with_roomy p false in
    let s = sizes_of p logical physical in
    let a = asked_groups p device s in
    let g = trim a (min_group s.block) in
    let c = all-clear q device (with_groups q s a g) (is-accepted q device logical physical e) in
    let n : (compute_def r device logical physical).number ≡ 0 = step-number r device logical physical (none-again r device (with_groups r s a g) (clear-old p device s a g c)) in
    (n, omega (arith, no-shorter p device s a g c, step-log q device logical physical e, step-log r device logical physical n))

-- WHAT A SUPERBLOCK NAMES: accepted under either sizing, accepted under plain sizing
pub old-accepts : (n : Named) → (named_answer true n).number ≡ 0 → NoShorter (named_answer true n) (named_answer false n)
unfolding named_on named_options
old-accepts n e =
    let f = accepted-fits true n e in
    let i : (named_on true n 512).number ≡ 0 = ap (λ (x : Computed). x.number) (sym (fitting true n f)) ∙ e in
    rw (fitting true n f, fitting false n f) (step-old (named_options true n) (n.dblocks * n.blocksize) 512 512 i)
