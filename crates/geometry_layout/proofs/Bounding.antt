-- Every answer of the geometry step has the bounds.
-- Assumes nothing.
use mathlib.Core.Path.{◌≡◌, refl, sym, ap, subst, ◌∙◌}
use mathlib.Core.Bool.{Bool, true, false}
use Prim.Native.Nat.{ℕ, ◌+◌, ◌*◌, ◌-◌, ◌/◌, ◌^◌, ◌≤◌, ◌<◌}
use native.Mathlib.Omega.{arith}
use native.Mathlib.Nat.{le-div_iff_mul-le, mul-le-mul_left, pow-succ'}
use native.Mathlib.Numerals.{add-one}
use lib.ListN.{length}
use Rattle.arith.specs.Powers.{power_log}
use Rattle.arith.proofs.PowerLaws.{log-power, power-least, power_div}
use Rattle.arith.proofs.PowerLaws as power
use Rattle.arith.proofs.Least as least
use Rattle.params.specs.declared.Params.{Params}
use Rattle.geometry.specs.declared.sizes.Sizes.{Sizes}
use Rattle.geometry.specs.Sizes.{sizes_of}
use Rattle.geometry.specs.declared.groups.Groups.{Groups}
use Rattle.geometry.specs.declared.Geometry.{Geometry}
use Rattle.geometry.specs.Limits.{mib, min_group, max_group, realistic_log_bytes}
use Rattle.geometry.specs.Groups.{group_blocks, is_short, trim}
use Rattle.geometry.specs.Log.{prealloc_of, freelist_of, log_limit, log_blocks}
use Rattle.arith.specs.Choice.{when}
use Rattle.params.specs.declared.Features.{Features}
use lib.Dec.{eqb}
use Rattle.geometry.specs.Compute.{with_groups, asked_groups, with_sizes, chosen_of, refusal_of, geometry_of, compute_def}
use Rattle.geometry.specs.declared.Computed.{Computed}
use Rattle.geometry_answers.specs.Named.{is_answer}
use Rattle.geometry_answers.specs.Answers.{Answered}
use Rattle.geometry_answers.proofs.AfterTrim.{not_short}
use Rattle.geometry_answers.proofs.Tests.{Sized, Grouped, Ended, all-clear, sizes-of, groups_of, rest_of, block-pos, group-pos}
use Rattle.geometry_answers.proofs.Again.{chosen, number, is-accepted, its-geometry, bytes}
use Rattle.geometry_answers.proofs.Exact.{sound}
use Rattle.geometry_layout.specs.Bounds.{SizeBounds, GroupBounds, PlaceBounds, Bounds}
use Rattle.geometry_layout.proofs.Ceil.{Counted, last_of, counted, last-least, group-within}
use Rattle.geometry_layout.proofs.Wide.{pow-order, block-bytes}
use Rattle.geometry_layout.proofs.Small.{header-most, head-most, chunk-most, cluster-most, chunk-after, chunk-room}

-- ---- sizes

module _ (b s i : ℕ) (z : Sized b s i) where
  abbrev bl : ℕ
  bl = power_log b

  abbrev il : ℕ
  il = power_log i

  block-is : b ≡ 2 ^ bl
  block-is = log-power b z.block-power

  inode-is : i ≡ 2 ^ il
  inode-is = log-power i z.inode-power

  block-log-least : 10 ≤ bl
  block-log-least = pow-order 10 bl (let e = block-is in let w = z.block-least in omega arith)

  block-log-most : bl ≤ 14
  block-log-most = pow-order bl 14 (let e = block-is in let w = z.block-most in omega arith)

  sector-log-most : power_log s ≤ bl
  sector-log-most =
      pow-order (power_log s) bl (let e = block-is in let f = log-power s z.sector-power in let w = z.sector-block in omega arith)

  inode-log-most : il ≤ 11
  inode-log-most = pow-order il 11 (let e = inode-is in let w = z.inode-most in omega arith)

  inode-log-half : il + 1 ≤ bl
  inode-log-half =
      pow-order (il + 1) bl
      (rw (add-one, pow-succ')
      (let e = block-is in let f = inode-is in let w = z.inode-half in omega arith))

  inodes-is : b / i ≡ 2 ^ (bl - il)
  inodes-is =
      ap (λ (x : ℕ). x / i) block-is
      ∙ ap (λ (x : ℕ). 2 ^ bl / x) inode-is
      ∙ power_div bl il (let w = inode-log-half in omega arith)

-- ---- groups

group-most : (bs size : ℕ) → 1024 ≤ bs → size ≤ max_group bs → size < 2 ^ 30
group-most bs size h w =
    let p : 0 < bs = omega arith in
    let v = (le-div_iff_mul-le p).0 w in
    omega (arith, mul-le-mul_left size h)

-- ---- the log

log-blocks : (d limit bs : ℕ) → log_blocks d limit bs ≤ 1048576
unfolding log_blocks
log-blocks d limit bs = omega arith

log-limit : (d limit bs : ℕ) → log_blocks d limit bs ≤ limit
unfolding log_blocks
log-limit d limit bs = omega arith

-- the limit of either sizing leaves 5 blocks of a whole group
limit-room : (f : Features) (d s n pre log : ℕ) (roomy : Bool) → d ≤ n * s → n / 2 < n → 0 < log → log ≤ log_limit roomy f d s n pre → pre + log + 5 ≤ s
unfolding log_limit group_blocks when
limit-room f d s n pre log true w h p l = let g = group-within d s n (n / 2) (eqb (n / 2) (n - 1)) refl w h in omega arith
limit-room f d s n pre log false w h p l = omega arith

-- the roomy limit leaves the free list's blocks of the log group
limit-roomy : (f : Features) (d s n pre log : ℕ) (roomy : Bool) → roomy ≡ true → 0 < log → log ≤ log_limit roomy f d s n pre → pre + log + freelist_of f ≤ group_blocks d s n (n / 2)
unfolding log_limit when
limit-roomy f d s n pre log roomy e p l = let q = rw e at l in omega arith

log-some : (bs log : ℕ) → 0 < bs → bs ≤ 16384 → realistic_log_bytes / bs ≤ log → 0 < log
log-some bs log p h w = let v : 4096 ≤ realistic_log_bytes / bs = (le-div_iff_mul-le p).1 (omega arith) in omega arith

group-some : (bs size : ℕ) → 0 < bs → bs ≤ 16384 → min_group bs ≤ size → 80 ≤ size
group-some bs size p h w = let v : 1024 ≤ min_group bs = (le-div_iff_mul-le p).1 (omega arith) in omega arith

-- ---- the record

module _ (p : Params) (device : ℕ) (s : Sizes) (a g : Groups) (z : refusal_of p device (with_groups p s a g) ≡ 0) where
  t : Sized s.block s.sector s.inode
  t = sizes-of p device s a g (all-clear p device (with_groups p s a g) z)

  q : Grouped s.block g.dblocks g.agsize g.agcount
  q = groups_of p device s a g (all-clear p device (with_groups p s a g) z)

  r : Ended (with_groups p s a g).imaxpct s.block g.dblocks g.agsize g.agcount (with_groups p s a g).log
  r = rest_of p device s a g (all-clear p device (with_groups p s a g) z)

  bp : 0 < s.block
  bp = block-pos p device s a g (all-clear p device (with_groups p s a g) z)

  gp : 0 < g.agsize
  gp = group-pos p device s a g (all-clear p device (with_groups p s a g) z)

  sp : 0 < s.sector
  sp = let w = power-least s.sector t.sector-power in omega arith

  size-bounds : SizeBounds (geometry_of p (with_groups p s a g))
  unfolding geometry_of with_groups
  size-bounds =
      record {
        block-power = block-is s.block s.sector s.inode t;
        block-least = block-log-least s.block s.sector s.inode t;
        block-most = block-log-most s.block s.sector s.inode t;
        sector-power = log-power s.sector t.sector-power;
        sector-least = power.log-least s.sector t.sector-power;
        sector-block = sector-log-most s.block s.sector s.inode t;
        log-sector = refl;
        log-sector-log = refl;
        inode-power = inode-is s.block s.sector s.inode t;
        inode-least = power.log-least s.inode t.inode-power;
        inode-most = inode-log-most s.block s.sector s.inode t;
        inode-half = inode-log-half s.block s.sector s.inode t;
        inodes-power = inodes-is s.block s.sector s.inode t;
        inodes-log = refl;
        imaxpct-most = r.imaxpct-most;
      }

  count_of : Counted g.dblocks g.agsize g.agcount (last_of g.dblocks g.agsize)
  count_of =
      subst (λ (n : ℕ). Counted g.dblocks g.agsize n (last_of g.dblocks g.agsize)) (sym r.count)
      (counted g.dblocks g.agsize (let w = q.within in let v = gp in omega arith) gp)

  in_bytes : (m n : ℕ) → m * mib / s.block ≤ n → m * mib ≤ n * s.block
  in_bytes m n w =
      block-bytes m 20 (power_log s.block) n s.block
      (let h = block-log-most s.block s.sector s.inode t in omega arith)
      (block-is s.block s.sector s.inode t)
      w

  last-blocks : is_short g (min_group s.block) ≡ false → min_group s.block ≤ g.dblocks - (g.agcount - 1) * g.agsize
  unfolding is_short
  last-blocks short =
      rw count_of.left (last-least g.dblocks g.agsize (min_group s.block) short q.least)

  group-bounds : is_short g (min_group s.block) ≡ false → g.dblocks * s.block < 2 ^ 64 → GroupBounds (geometry_of p (with_groups p s a g))
  unfolding geometry_of with_groups
  group-bounds short small =
      let most = group-most s.block g.agsize t.block-least q.most in
      record {
        count-least = r.count-least;
        count_most = q.count_most;
        count = r.count;
        group-least = in_bytes 16 g.agsize q.least;
        last-least = in_bytes 16 (g.dblocks - (g.agcount - 1) * g.agsize) (last-blocks short);
        group-most = most;
        before_last = count_of.before;
        all-groups = count_of.enough;
        disk-least = in_bytes 300 g.dblocks r.bytes-least;
        disk-most = small;
        log-enough = least.log-reaches g.agsize (omega arith);
        log-least = least.log-least g.agsize;
        log-most = least.log-stays g.agsize 30 (omega arith) (omega arith);
      }

  place-bounds : PlaceBounds (geometry_of p (with_groups p s a g))
  unfolding geometry_of with_groups
  place-bounds =
      record {
        header-most = header-most s.sector s.block sp t.sector-block;
        head-most = head-most p.features s.sector s.block sp t.sector-block;
        log-start = refl;
        log-group = refl;
        log-not-first = let w = r.count-least in omega arith;
        log-inside = let w = r.count-least in omega arith;
        log-bytes = in_bytes 64 (with_groups p s a g).log r.log-least;
        log-blocks = log-blocks g.dblocks (log_limit p.roomy p.features g.dblocks g.agsize g.agcount (prealloc_of p.features s.sector s.block)) s.block;
        log-room =
            limit-room p.features g.dblocks g.agsize g.agcount (prealloc_of p.features s.sector s.block) (with_groups p s a g).log p.roomy
            count_of.enough (let w = r.count-least in omega arith)
            (log-some s.block (with_groups p s a g).log bp t.block-most r.log-least)
            (log-limit g.dblocks (log_limit p.roomy p.features g.dblocks g.agsize g.agcount (prealloc_of p.features s.sector s.block)) s.block);
        log-roomy =
            λ e.
            limit-roomy p.features g.dblocks g.agsize g.agcount (prealloc_of p.features s.sector s.block) (with_groups p s a g).log p.roomy e
            (log-some s.block (with_groups p s a g).log bp t.block-most r.log-least)
            (log-limit g.dblocks (log_limit p.roomy p.features g.dblocks g.agsize g.agcount (prealloc_of p.features s.sector s.block)) s.block);
        chunk-most = chunk-most s.inode s.block bp t.inode-half;
        cluster-most = cluster-most s.inode s.block bp t.inode-half;
        chunk-after = chunk-after p.features s.sector s.inode s.block sp t.sector-block t.inode-half;
        chunk-room = chunk-room p.features s.sector s.inode s.block sp t.sector-block t.inode-half;
        chunk_inside = group-some s.block g.agsize bp t.block-most q.least;
      }

module _ (p : Params) (device logical physical : ℕ) where
  chosen-bounds : (chosen p device logical physical).dblocks * (chosen p device logical physical).blocksize < 2 ^ 64 → number p device logical physical ≡ 0 → Bounds (chosen p device logical physical)
  unfolding chosen_of with_sizes geometry_of with_groups
  chosen-bounds small z =
      let s = sizes_of p logical physical in
      let a = asked_groups p device s in
      let g = trim a (min_group s.block) in
      record {
        sizes = size-bounds p device s a g z;
        groups = group-bounds p device s a g z (not_short a (min_group s.block)) small;
        places = place-bounds p device s a g z;
      }

  -- the geometry of an accepted run on a device of at most 2 ^ 64 - 1 bytes has the bounds
  pub bounds : device < 2 ^ 64 → (compute_def p device logical physical).number ≡ 0 → Bounds (compute_def p device logical physical).geometry
  bounds small e =
      let b = bytes p device logical physical e in
      let w : (compute_def p device logical physical).geometry.dblocks * (compute_def p device logical physical).geometry.blocksize < 2 ^ 64 = omega arith in
      rw (its-geometry p device logical physical e) (chosen-bounds (rw (its-geometry p device logical physical e) at w) (is-accepted p device logical physical e))

-- an answer has the bounds
pub answered-bounds : (g : Geometry) → Answered g → Bounds g
answered-bounds g a =
    subst Bounds (ap (λ (x : Computed). x.geometry) a.accepted)
    (bounds a.options a.device a.logical a.physical a.small (ap (λ (x : Computed). x.number) a.accepted))

-- what callers cite: a geometry that is an answer has the bounds
pub answer-bounds : (g : Geometry) → length g.label ≡ 12 → is_answer g ≡ true → Bounds g
answer-bounds g label h = answered-bounds g (sound g label h)
