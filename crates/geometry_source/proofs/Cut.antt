-- WITH THE SOURCE'S CUT OF A LOG IN GROUP 0 EVERY NUMBER OF THE GEOMETRY STEP COMES OUT THE SAME: a single group of 300 MiB has room for
-- 64 MiB of log and four chunks of inodes, so that 22 isn't given for the cut, and then 23 is.
-- Assumes nothing.
use Rattle.std.specs.Prelude.{Option, Some, None, is_some}
use mathlib.Core.Path.{◌≡◌, refl, sym, ap, ◌∙◌}
use mathlib.Core.Bool.{Bool, true, false, not, ◌&&◌}
use mathlib.Core.List.{List, [], ◌∷◌, ◌++◌}
use Prim.Native.Nat.{ℕ, ◌+◌, ◌*◌, ◌-◌, ◌/◌, ◌≤◌, ◌<◌, min}
use native.Mathlib.Omega.{arith}
use native.Mathlib.Nat.{le-div_iff_mul-le, div-mul-le_self, mul_assoc, mul_comm, mul-le-mul_right, one-mul}
use borrow.Author.Tests.{ltb-true, ltb-false, lt-ltb, le-ltb, eqb-true, eqb-false, ne_eqb}
use lib.Dec.{ltb, eqb}
use Rattle.arith.specs.Choice.{when}
use Rattle.arith.specs.Numbers.{ceil_div}
use Rattle.arith.proofs.PowerLaws.{power-least}
use Rattle.refusals.specs.Numbers.{imaxpct_above100, label_too_long, disk_too_small, log_too_small, too_few_groups, agcount_unlike, inobtcount_alone}
use Rattle.refusals.specs.Table.{Refusal, ◌if◌, first}
use Rattle.refusals.proofs.Clear.{Clear, left, right}
use Rattle.params.specs.Options.{zero64}
use Rattle.params.specs.declared.Params.{Params}
use Rattle.geometry.specs.declared.sizes.Sizes.{Sizes}
use Rattle.geometry.specs.Sizes.{sizes_of}
use Rattle.geometry.specs.declared.groups.Groups.{Groups}
use Rattle.geometry.specs.declared.Chosen.{Chosen}
use Rattle.geometry.specs.Limits.{min_group, min_bytes, realistic_log_bytes, min_groups, max_imaxpct, label_room}
use Rattle.geometry.specs.Groups.{default_size, initial_groups, is_short, trim, options_refusals}
use Rattle.geometry.specs.Log.{prealloc_of, last_refusals}
use Rattle.geometry.specs.Compute.{with_groups, asked_groups, with_sizes, chosen_of, refusals, refusal_of}
use Rattle.geometry_answers.proofs.Tests.{Sized, Grouped, sized, grouped, all-clear, sizes-part, options-part, groups-part, rest_of}
use Rattle.geometry_layout.specs.Places.{usable_of, chunk_of}
use Rattle.geometry_layout.proofs.Ceil.{counted}
use Rattle.geometry_layout.proofs.Small.{head-most, chunk-most}
use Rattle.geometry_source.specs.Source.{cut_chunks, cut_log, cut_chosen}

-- ---- tables

-- two tables behind the same tests give the same where they do behind tests that are Clear
same_first : (ts xs ys : List Refusal) → (Clear ts → first xs 0 ≡ first ys 0) → first (ts ++ xs) 0 ≡ first (ts ++ ys) 0
unfolding when
same_first [] xs ys h = h tt
same_first ((n if true) ∷ ts) xs ys h = refl
same_first ((n if false) ∷ ts) xs ys h = same_first ts xs ys (λ c. h (refl, c))

-- refusals 19 to 24 of two logs
last-same : (imaxpct label bs d size n cut log : ℕ) → (min_bytes / bs ≤ d → ltb cut (realistic_log_bytes / bs) ≡ ltb log (realistic_log_bytes / bs))
    → first (last_refusals imaxpct label bs d size n cut) 0 ≡ first (last_refusals imaxpct label bs d size n log) 0
unfolding last_refusals
last-same imaxpct label bs d size n cut log e =
    same_first (imaxpct_above100 if ltb max_imaxpct imaxpct ∷ label_too_long if ltb label_room label ∷ disk_too_small if ltb d (min_bytes / bs) ∷ [])
    (log_too_small if ltb cut (realistic_log_bytes / bs) ∷ too_few_groups if ltb n min_groups ∷ agcount_unlike if not (eqb n (ceil_div d size)) ∷ [])
    (log_too_small if ltb log (realistic_log_bytes / bs) ∷ too_few_groups if ltb n min_groups ∷ agcount_unlike if not (eqb n (ceil_div d size)) ∷ [])
    (λ c.
    ap (λ (t : Bool). first (log_too_small if t ∷ too_few_groups if ltb n min_groups ∷ agcount_unlike if not (eqb n (ceil_div d size)) ∷ []) 0)
    (e (ltb-false d (min_bytes / bs) c.1.1.0)))

-- ---- 64 MiB and 300 MiB in blocks

module _ (bs : ℕ) (least : 0 < bs) (most : bs ≤ 16384) where
  log-some : 4096 ≤ realistic_log_bytes / bs
  log-some = (le-div_iff_mul-le least).1 (omega arith)

  four-times : (x : ℕ) → x * 4 * bs ≡ x * bs * 4
  four-times x = mul_assoc x 4 bs ∙ ap (λ (y : ℕ). x * y) (mul_comm 4 bs) ∙ sym (mul_assoc x bs 4)

  log-few : realistic_log_bytes / bs * 4 ≤ min_bytes / bs
  log-few =
      let w = div-mul-le_self realistic_log_bytes bs in
      let e = four-times (realistic_log_bytes / bs) in
      (le-div_iff_mul-le least).1 (omega arith)

-- ---- the test of the log

min-test : (log x lim : ℕ) (t : Bool) → ltb log lim ≡ t → lim ≤ x → ltb (min log x) lim ≡ t
min-test log x lim true e h = let l = ltb-true log lim e in lt-ltb (min log x) lim (omega arith)
min-test log x lim false e h = let l = ltb-false log lim e in le-ltb (min log x) lim (omega arith)

-- a single group is as large as the disk
single : (d n size : ℕ) → d ≤ n * size → n / 2 ≡ 0 → d ≤ size
single d n size h e =
    let w : n * size ≤ 1 * size = mul-le-mul_right size (omega arith) in
    omega (arith, w, one-mul size)

-- the log that is cut is under 64 MiB exactly where it was before
cut-test : (bs d n size pre chunk log : ℕ) → 0 < bs → bs ≤ 16384 → d ≤ n * size → pre ≤ 10 → chunk ≤ 32 → min_bytes / bs ≤ d → (t : Bool) → eqb (n / 2) 0 ≡ t
    → ltb (cut_log n (usable_of size pre - 1) chunk log) (realistic_log_bytes / bs) ≡ ltb log (realistic_log_bytes / bs)
unfolding cut_log usable_of when
cut-test bs d n size pre chunk log p q w h k b true e =
    let s = single d n size w (eqb-true (n / 2) 0 e) in
    let x = log-some bs p q in
    let y = log-few bs p q in
    rw e (min-test log (size - (pre + 4) - 1 - chunk * cut_chunks) (realistic_log_bytes / bs) (ltb log (realistic_log_bytes / bs)) refl (omega arith))
cut-test bs d n size pre chunk log p q w h k b false e = rw e refl

-- ---- the groups cover the blocks

initial-covers : (agsize agcount : Option ℕ) (bs d : ℕ) → 0 < (initial_groups agsize agcount bs d).dblocks → 0 < (initial_groups agsize agcount bs d).agsize
    → (not (is_some agsize) && zero64 agcount) ≡ false
    → (initial_groups agsize agcount bs d).dblocks ≤ (initial_groups agsize agcount bs d).agcount * (initial_groups agsize agcount bs d).agsize
unfolding initial_groups
initial-covers (Some a) agcount bs d h k z = (counted d (a / bs) h k).enough
initial-covers None (Some n) bs d h k z =
    let o = eqb-false n 0 z in
    let p : 0 < n = pos n o in
    omega (arith, (counted d n h p).enough, mul_comm (ceil_div d n) n)
  where
    pos : (m : ℕ) → (m ≡ 0 → ⊥) → 0 < m
    pos m o = omega arith
initial-covers None None bs d h k z = (counted d (default_size bs d) h k).enough

covers_at : (d n s : ℕ) (t : Bool) → d ≤ n * s → when t (d / s * s) d ≤ when t (d / s) n * s
unfolding when
covers_at d n s true h = omega arith
covers_at d n s false h = h

trim-covers : (a : Groups) (least : ℕ) → a.dblocks ≤ a.agcount * a.agsize → (trim a least).dblocks ≤ (trim a least).agcount * (trim a least).agsize
unfolding trim
trim-covers a least h = covers_at a.dblocks a.agcount a.agsize (is_short a least) h

-- ---- the step

module _ (p : Params) (device : ℕ) (s : Sizes) where
  abbrev a : Groups
  a = asked_groups p device s

  abbrev g : Groups
  g = trim a (min_group s.block)

  abbrev c : Chosen
  c = with_groups p s a g

  -- all tests before the last six
  abbrev earlier : List Refusal
  earlier =
      inobtcount_alone if (p.features.inobtcount && not p.features.finobt)
      ∷ ((sizes-part s ++ options-part p device s a) ++ groups-part s g)

  module _ (z : Clear earlier) where
    sizes-are : Sized s.block s.sector s.inode
    sizes-are =
        sized s.block s.sector s.inode s.logical
        (left (sizes-part s) (options-part p device s a) (left (sizes-part s ++ options-part p device s a) (groups-part s g) z.1))

    options-clear : Clear (options-part p device s a)
    options-clear = right (sizes-part s) (options-part p device s a) (left (sizes-part s ++ options-part p device s a) (groups-part s g) z.1)

    groups-are : Grouped s.block g.dblocks g.agsize g.agcount
    groups-are = grouped s.block g.dblocks g.agsize g.agcount (right (sizes-part s ++ options-part p device s a) (groups-part s g) z.1)

    block-pos : 0 < s.block
    block-pos = let w = sizes-are.block-least in omega arith

    -- the least group is some blocks
    some-blocks : 0 < min_group s.block
    some-blocks = (le-div_iff_mul-le block-pos).1 (let w = sizes-are.block-most in omega arith)

    asked-some : 0 < a.dblocks
    unfolding options_refusals
    asked-some = let w = ltb-false a.dblocks (min_group s.block) options-clear.1.0 in let v = some-blocks in omega arith

    group-some : 0 < a.agsize
    unfolding trim
    group-some = let w = groups-are.least in let v = some-blocks in omega arith

    covered : g.dblocks ≤ g.agcount * g.agsize
    unfolding options_refusals
    covered = trim-covers a (min_group s.block) (initial-covers p.agsize p.agcount s.block _ asked-some group-some options-clear.1.1.1.1.0)

    head_few : prealloc_of p.features s.sector s.block ≤ 10
    head_few = head-most p.features s.sector s.block (let w = power-least s.sector sizes-are.sector-power in omega arith) sizes-are.sector-block

    cut-same : min_bytes / s.block ≤ g.dblocks → ltb (cut_chosen c).log (realistic_log_bytes / s.block) ≡ ltb c.log (realistic_log_bytes / s.block)
    unfolding cut_chosen with_groups
    cut-same b =
        cut-test s.block g.dblocks g.agcount g.agsize (prealloc_of p.features s.sector s.block) (chunk_of s.inode s.block) c.log
        block-pos sizes-are.block-most covered head_few (chunk-most s.inode s.block block-pos sizes-are.inode-half) b (eqb (g.agcount / 2) 0) refl

  number_same : refusal_of p device (cut_chosen c) ≡ refusal_of p device c
  unfolding refusal_of refusals cut_chosen with_groups
  number_same =
      same_first earlier
      (last_refusals c.imaxpct p.label.length s.block g.dblocks g.agsize g.agcount (cut_chosen c).log)
      (last_refusals c.imaxpct p.label.length s.block g.dblocks g.agsize g.agcount c.log)
      (λ z. last-same c.imaxpct p.label.length s.block g.dblocks g.agsize g.agcount (cut_chosen c).log c.log (cut-same z))

  log-kept : refusal_of p device c ≡ 0 → (cut_chosen c).log ≡ c.log
  unfolding cut_chosen cut_log with_groups when
  log-kept e =
      let w = (rest_of p device s a g (all-clear p device c e)).count-least in
      rw (ne_eqb (g.agcount / 2) 0 (λ q. omega arith)) refl

module _ (p : Params) (device logical physical : ℕ) where
  -- WITH THE CUT THE STEP'S NUMBER IS THE SAME, for all options and every device
  pub cut-number : refusal_of p device (cut_chosen (chosen_of p device logical physical)) ≡ refusal_of p device (chosen_of p device logical physical)
  unfolding chosen_of with_sizes
  cut-number = number_same p device (sizes_of p logical physical)

  -- and what is accepted has the same log
  pub cut-accepted : refusal_of p device (chosen_of p device logical physical) ≡ 0
      → (cut_chosen (chosen_of p device logical physical)).log ≡ (chosen_of p device logical physical).log
  unfolding chosen_of with_sizes
  cut-accepted e = log-kept p device (sizes_of p logical physical) e

-- a log of all that it may have is cut in a single group, and not in two
cut-example : (cut_log 1 20_000 8 20_000 ≡ 19_968) × (cut_log 2 20_000 8 20_000 ≡ 20_000)
unfolding cut_log when
cut-example = (refl, refl)
