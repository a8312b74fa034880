-- The geometry step looks at a device's size by its whole blocks alone, and not at all for 1 to 8.
-- Assumes nothing.
use Rattle.std.specs.Prelude.{Option, Some, None}
use mathlib.Core.Path.{◌≡◌, refl, ap, ◌∙◌}
use mathlib.Core.Bool.{not, ◌&&◌}
use mathlib.Core.List.{List, ◌∷◌, ◌++◌, append_assoc}
use Prim.Native.Nat.{ℕ, ◌/◌, ◌≤◌, ◌<◌, ◌^◌}
use native.Mathlib.Omega.{arith}
use native.Mathlib.Nat.{div-mul-le_self, mul-le-mul_left}
use borrow.Author.Tests.{ltb-false}
use Rattle.refusals.specs.Numbers.{inobtcount_alone}
use Rattle.refusals.specs.Table.{Refusal, ◌if◌, first}
use Rattle.refusals.proofs.Clear.{Clear, passed}
use Rattle.params.specs.declared.Params.{Params}
use Rattle.geometry.specs.declared.sizes.Sizes.{Sizes}
use Rattle.geometry.specs.Sizes.{sizes_of, sizes_refusals}
use Rattle.geometry.specs.declared.groups.Groups.{Groups}
use Rattle.geometry.specs.declared.Chosen.{Chosen}
use Rattle.geometry.specs.declared.Computed.{Computed}
use Rattle.geometry.specs.Limits.{min_group}
use Rattle.geometry.specs.Groups.{asked_blocks, initial_groups, trim}
use Rattle.geometry.specs.Compute.{with_groups, with_sizes, chosen_of, refusals, refusal_of, geometry_of, step_answer, compute_def}
use Rattle.geometry.proofs.Answer.{number_of}
use Rattle.geometry_answers.proofs.Tests.{sizes-part, options-part, groups-part, last-part}
use Rattle.plan_totals.specs.Totals.{plans_number}
use Rattle.run.specs.Runs.{or_next}
use Rattle.inquire_sizes.specs.Ranges.{size_number, block_bytes, options_number}
use Rattle.inquire_sizes.proofs.Tables.{first-append, first-clear}

-- ---- whole blocks

asked-alike : (o : Option ℕ) (d e bs : ℕ) → d / bs ≡ e / bs → asked_blocks o d bs ≡ asked_blocks o e bs
unfolding asked_blocks
asked-alike (Some n) d e bs h = refl
asked-alike None d e bs h = h

-- what is chosen for so many blocks
abbrev chosen_for : Params → Sizes → ℕ → Chosen
chosen_for p s d =
    with_groups p s (initial_groups p.agsize p.agcount s.block d) (trim (initial_groups p.agsize p.agcount s.block d) (min_group s.block))

module _ (p : Params) (d e logical physical : ℕ) (h : d / block_bytes p ≡ e / block_bytes p) where
  chosen-alike : chosen_of p d logical physical ≡ chosen_of p e logical physical
  unfolding chosen_of with_sizes sizes_of
  chosen-alike = ap (chosen_for p (sizes_of p logical physical)) (asked-alike p.size d e (block_bytes p) h)

  refusal-alike : refusal_of p d (chosen_of p d logical physical) ≡ refusal_of p e (chosen_of p d logical physical)
  unfolding refusal_of refusals chosen_of with_sizes with_groups sizes_of
  refusal-alike = rw h

  -- two sizes of as many whole blocks have one answer
  pub step-alike : compute_def p d logical physical ≡ compute_def p e logical physical
  unfolding compute_def
  step-alike =
      ap (λ (n : ℕ). step_answer n (geometry_of p (chosen_of p d logical physical))) refusal-alike
      ∙ ap (λ (c : Chosen). step_answer (refusal_of p e c) (geometry_of p c)) chosen-alike

  pub size-alike : size_number p logical physical d ≡ size_number p logical physical e
  unfolding size_number
  size-alike = ap (λ (c : Computed). or_next c.number (plans_number c.geometry)) step-alike

-- ---- 1 to 8

-- the tests that the size has no part in
abbrev pub early-part : Params → Sizes → List Refusal
early-part p s = inobtcount_alone if (p.features.inobtcount && not p.features.finobt) ∷ sizes-part s

-- the others, of what is chosen
abbrev pub late-part : Params → ℕ → Sizes → Groups → Groups → List Refusal
late-part p device s a g = options-part p device s a ++ groups-part s g ++ last-part p s a g

parts : (p : Params) (device : ℕ) (s : Sizes) (a g : Groups) → refusals p device (with_groups p s a g) ≡ early-part p s ++ late-part p device s a g
unfolding refusals with_groups
parts p device s a g = simp append_assoc

module _ (p : Params) (logical physical : ℕ) where
  abbrev pub sizes : Sizes
  sizes = sizes_of p logical physical

  abbrev pub asked : ℕ → Groups
  asked device = initial_groups p.agsize p.agcount sizes.block (asked_blocks p.size device sizes.block)

  abbrev pub kept : ℕ → Groups
  kept device = trim (asked device) (min_group sizes.block)

  -- the number of the step: 1 to 8, then the others
  pub step-number : (device : ℕ) → (compute_def p device logical physical).number ≡ first (early-part p sizes) (first (late-part p device sizes (asked device) (kept device)) 0)
  unfolding compute_def refusal_of chosen_of with_sizes
  step-number device =
      number_of (refusal_of p device (chosen_of p device logical physical)) (geometry_of p (chosen_of p device logical physical))
      ∙ ap (λ (ts : List Refusal). first ts 0) (parts p device sizes (asked device) (kept device))
      ∙ first-append (early-part p sizes) (late-part p device sizes (asked device) (kept device)) 0

  options-clear : options_number p logical physical ≡ 0 → Clear (early-part p sizes)
  unfolding options_number sizes_refusals
  options-clear z = passed (early-part p sizes) tt z

  -- past 1 to 8 the others decide
  pub step-late : options_number p logical physical ≡ 0 → (device : ℕ) → (compute_def p device logical physical).number ≡ first (late-part p device sizes (asked device) (kept device)) 0
  step-late z device = step-number device ∙ first-clear (early-part p sizes) (first (late-part p device sizes (asked device) (kept device)) 0) (options-clear z)

  -- blocks have 1024 bytes or more
  pub block-least : options_number p logical physical ≡ 0 → 1024 ≤ block_bytes p
  unfolding sizes_refusals sizes_of
  block-least z = ltb-false (block_bytes p) 1024 (options-clear z).1.1.0

  pub block-pos : options_number p logical physical ≡ 0 → 0 < block_bytes p
  block-pos z = let b = block-least z in omega arith

  -- so a size has fewer blocks than 2^63
  pub few-blocks : options_number p logical physical ≡ 0 → (device : ℕ) → device < 2 ^ 64 → device / block_bytes p < 2 ^ 63
  few-blocks z device h =
      let a = div-mul-le_self device (block_bytes p) in
      let b = mul-le-mul_left (device / block_bytes p) (block-least z) in
      omega arith
