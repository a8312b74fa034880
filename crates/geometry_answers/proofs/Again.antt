-- Naming: computing from what an accepted geometry names gives that geometry again.
-- Assumes nothing.
use Rattle.std.specs.Prelude.{Some, None}
use mathlib.Core.Path.{◌≡◌, refl, ap, sym, ◌∙◌}
use mathlib.Core.Bool.{Bool, false}
use mathlib.Core.List.{List, ◌++◌, append-nil}
use Prim.Native.Nat.{ℕ, ◌*◌, ◌/◌, ◌≤◌, ◌<◌}
use native.Mathlib.Omega.{arith}
use native.Mathlib.Nat.{mul-mod_left, mul-div_cancel, mul-pos, le_trans}
use borrow.Author.Tests.{le-ltb, ne_eqb, eqb-false}
use lib.ListN.{length, length-append, length-take, length-replicate}
use lib.Seq.{take_all}
use Rattle.arith.specs.Numbers.{ceil_div}
use Rattle.arith.specs.Powers.{power_log}
use Rattle.arith.proofs.PowerLaws.{power-least}
use Rattle.refusals.proofs.Clear.{Clear, joined}
use Rattle.params.specs.declared.Params.{Params}
use Rattle.geometry.specs.declared.sizes.Sizes.{Sizes}
use Rattle.geometry.specs.declared.groups.Groups.{Groups}
use Rattle.geometry.specs.declared.Geometry.{Geometry}
use Rattle.geometry.specs.declared.Computed.{Computed}
use Rattle.geometry.specs.Limits.{min_group}
use Rattle.geometry.specs.Sizes.{sizes_of, sizes_refusals}
use Rattle.geometry.specs.Groups.{is_short, trim, options_refusals}
use Rattle.geometry.specs.Log.{last_refusals}
use Rattle.geometry.specs.Compute.{with_groups, asked_groups, with_sizes, chosen_of, refusals, refusal_of, label_of, geometry_of, step_answer, compute_def}
use Rattle.geometry_answers.specs.Named.{named_options, named_on, names_of}
use Rattle.geometry.proofs.Answer.{accepted, number_of}
use Rattle.geometry_answers.proofs.AfterTrim.{trim-long, trim-le, not_short, named-groups}
use Rattle.geometry_answers.proofs.Tests.{all-clear, none-again, sizes-part, options-part, groups-part, last-part, sizes-clear, groups-clear, last-clear, groups_of, rest_of, block-pos, group-pos, bytes_le, group-le}

-- ---- the tests

sizes-again : (b s i l : ℕ) → Clear (sizes_refusals b s i l) → Clear (sizes_refusals b s i 512)
unfolding sizes_refusals
sizes-again b s i l c = (
  c.0,
  (
    c.1.0,
    (
      c.1.1.0,
      (
        c.1.1.1.0,
        (
          c.1.1.1.1.0,
          (
            c.1.1.1.1.1.0,
            (le-ltb s 512 (power-least s (eqb-false (power_log s) 0 c.1.1.1.0)), c.1.1.1.1.1.1.1),
          ),
        ),
      ),
    ),
  ),
)

options-again : (bs d size : ℕ) (short : Bool) → 0 < bs → min_group bs ≤ d → 0 < size → Clear (options_refusals (Some (size * bs)) None bs (d * bs / bs) d short)
unfolding options_refusals
options-again bs d size short h k m = (
  rw (mul-div_cancel d h) (le-ltb d d (omega arith)),
  (
    le-ltb d (min_group bs) k,
    (
      rw (mul-mod_left size bs) refl,
      (ne_eqb (size * bs) 0 (λ q. let w = mul-pos m h in omega arith), (refl, (refl, tt))),
    ),
  ),
)

last-again : (imaxpct label bs d size n log : ℕ) → Clear (last_refusals imaxpct label bs d size n log) → Clear (last_refusals imaxpct 12 bs d size n log)
unfolding last_refusals
last-again imaxpct label bs d size n log c = (c.0, (refl, c.1.1))

-- ---- the label

label-length : (n : ℕ) (l : List ℕ) → length l ≡ 12 → length (label_of n l) ≡ 12
unfolding label_of
label-length n l e = simp (length-append, length-take, length-replicate) (omega arith)

label-again : (n : ℕ) (l : List ℕ) → length l ≡ 12 → label_of 12 (label_of n l) ≡ label_of n l
unfolding label_of
label-again n l e = append-nil _ ∙ take_all 12 _ (let h = label-length n l e in omega arith)

-- ---- the choice

-- the sizes that are named
abbrev named-sizes : Sizes → Sizes
named-sizes s = record { block = s.block; sector = s.sector; inode = s.inode; logical = 512 }

-- the options that the geometry of a choice names
abbrev named_by : Params → Sizes → Groups → Groups → Params
named_by p s a g = named_options p.roomy (names_of (geometry_of p (with_groups p s a g)))

chosen-again : (p : Params) (s : Sizes) (a g : Groups) (other : ℕ) → 0 < s.block → is_short g (min_group s.block) ≡ false → g.agcount ≡ ceil_div g.dblocks g.agsize → chosen_of (named_by p s a g) (g.dblocks * s.block) 512 other ≡ with_groups (named_by p s a g) (named-sizes s) g g
unfolding chosen_of with_sizes sizes_of named_options names_of geometry_of with_groups
chosen-again p s a g other h k e =
    ap (λ (x : Groups). with_groups (named_by p s a g) (named-sizes s) x (trim x (min_group s.block))) (named-groups g s.block h e)
    ∙ ap (λ (x : Groups). with_groups (named_by p s a g) (named-sizes s) g x) (trim-long g (min_group s.block) k)

module _ (p : Params) (device : ℕ) (s : Sizes) (a g : Groups) (c : Clear (refusals p device (with_groups p s a g))) where
  clear-again : Clear (refusals (named_by p s a g) (g.dblocks * s.block) (with_groups (named_by p s a g) (named-sizes s) g g))
  unfolding refusals named_options names_of geometry_of with_groups
  clear-again =
      let q = groups_of p device s a g c in
      let m = group-pos p device s a g c in
      let n = named_by p s a g in
      let d = g.dblocks * s.block in
      let t = named-sizes s in (
        c.0,
        joined (sizes-part t ++ options-part n d t g ++ groups-part t g) (last-part n t g g)
            (joined (sizes-part t ++ options-part n d t g) (groups-part t g)
            (joined (sizes-part t) (options-part n d t g)
            (sizes-again s.block s.sector s.inode s.logical (sizes-clear p device s a g c))
            (options-again s.block g.dblocks g.agsize (is_short g (min_group s.block)) (block-pos p device s a g c) (le_trans q.least q.within) m))
            (groups-clear p device s a g c))
            (last-again (with_groups p s a g).imaxpct p.label.length s.block g.dblocks g.agsize g.agcount (with_groups p s a g).log (last-clear p device s a g c)),
      )

geometry-again : (p : Params) (s : Sizes) (a g : Groups) → length p.label.bytes ≡ 12 → geometry_of (named_by p s a g) (with_groups (named_by p s a g) (named-sizes s) g g) ≡ geometry_of p (with_groups p s a g)
unfolding named_options names_of geometry_of with_groups
geometry-again p s a g e = rw (label-again p.label.length p.label.bytes e)

module _ (p : Params) (device : ℕ) (s : Sizes) (a g : Groups) (short : is_short g (min_group s.block) ≡ false) (label : length p.label.bytes ≡ 12) (none : refusal_of p device (with_groups p s a g) ≡ 0) where
  tests : Clear (refusals p device (with_groups p s a g))
  tests = all-clear p device (with_groups p s a g) none

  again-at : (other : ℕ) → compute_def (named_by p s a g) (g.dblocks * s.block) 512 other ≡ step_answer (refusal_of p device (with_groups p s a g)) (geometry_of p (with_groups p s a g))
  unfolding compute_def
  again-at other =
      rw (
        chosen-again p s a g other (block-pos p device s a g tests) short (rest_of p device s a g tests).count,
        none-again (named_by p s a g) (g.dblocks * s.block) (with_groups (named_by p s a g) (named-sizes s) g g) (clear-again p device s a g tests),
        none,
        geometry-again p s a g label,
      )

-- ---- the theorem

module _ (p : Params) (device logical physical : ℕ) where
  -- the geometry that is chosen
  abbrev pub chosen : Geometry
  chosen = geometry_of p (chosen_of p device logical physical)

  abbrev pub number : ℕ
  number = refusal_of p device (chosen_of p device logical physical)

  pub is-accepted : (compute_def p device logical physical).number ≡ 0 → number ≡ 0
  unfolding compute_def
  is-accepted e = sym (number_of number chosen) ∙ e

  pub its-geometry : (compute_def p device logical physical).number ≡ 0 → (compute_def p device logical physical).geometry ≡ chosen
  unfolding compute_def
  its-geometry e = ap (λ (r : Computed). r.geometry) (accepted number chosen (is-accepted e))

  chosen-named : (other : ℕ) → length p.label.bytes ≡ 12 → number ≡ 0 → named_on p.roomy (names_of chosen) other ≡ step_answer number chosen
  unfolding chosen_of with_sizes geometry_of with_groups named_on names_of
  chosen-named other label z =
      let s = sizes_of p logical physical in
      let a = asked_groups p device s in
      again-at p device s a (trim a (min_group s.block)) (not_short a (min_group s.block)) label z other

  -- an accepted answer comes again from what its geometry names, under its sizing, with any physical sector
  pub again : (other : ℕ) → length p.label.bytes ≡ 12 → (compute_def p device logical physical).number ≡ 0 → named_on p.roomy (names_of (compute_def p device logical physical).geometry) other ≡ compute_def p device logical physical
  unfolding compute_def
  again other label e =
      ap (λ (x : Geometry). named_on p.roomy (names_of x) other) (its-geometry e) ∙ chosen-named other label (is-accepted e)

  chosen-sizing : chosen.roomy ≡ p.roomy
  unfolding geometry_of
  chosen-sizing = refl

  -- the geometry carries the sizing
  pub sizing-kept : (compute_def p device logical physical).number ≡ 0 → (compute_def p device logical physical).geometry.roomy ≡ p.roomy
  sizing-kept e = rw (its-geometry e) chosen-sizing

  chosen-bytes : number ≡ 0 → (chosen.dblocks * chosen.blocksize ≤ device) × (chosen.agsize * chosen.blocksize ≤ device)
  unfolding chosen_of with_sizes geometry_of with_groups
  chosen-bytes z =
      let s = sizes_of p logical physical in
      let a = asked_groups p device s in
      let g = trim a (min_group s.block) in
      let c = all-clear p device (with_groups p s a g) z in
      let b = bytes_le p device s a g c (trim-le a (min_group s.block)) in
      (b, le_trans (group-le p device s a g c) b)

  -- its blocks, and a group's, lie on the device
  pub bytes : (compute_def p device logical physical).number ≡ 0 → ((compute_def p device logical physical).geometry.dblocks * (compute_def p device logical physical).geometry.blocksize ≤ device) × ((compute_def p device logical physical).geometry.agsize * (compute_def p device logical physical).geometry.blocksize ≤ device)
  bytes e = rw (its-geometry e) (chosen-bytes (is-accepted e))

  chosen-label : length p.label.bytes ≡ 12 → length chosen.label ≡ 12
  unfolding geometry_of
  chosen-label label = label-length p.label.length p.label.bytes label

  pub label_kept : length p.label.bytes ≡ 12 → (compute_def p device logical physical).number ≡ 0 → length (compute_def p device logical physical).geometry.label ≡ 12
  label_kept label e = rw (its-geometry e) (chosen-label label)
