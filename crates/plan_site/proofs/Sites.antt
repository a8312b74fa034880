-- The site of every group of an answer is sound.
-- Assumes nothing.
use Rattle.std.specs.Prelude.{Ok, Err}
use mathlib.Core.Path.{◌≡◌, refl, sym, ap, ◌∙◌}
use mathlib.Core.Bool.{Bool, true, false, cond}
use Prim.Native.Nat.{ℕ, zero, suc, ◌+◌, ◌*◌, ◌-◌, ◌^◌, ◌≤◌, ◌<◌}
use native.Mathlib.Omega.{arith}
use native.Mathlib.Nat.{le-div_iff_mul-le, mul-le-mul_left, zero-mul}
use lib.Dec.{eqb}
use lib.Pow.{pow_mono}
use lib.ListN.{length}
use borrow.Author.Tests.{eqb-true, eq-eqb, ne_eqb}
use Rattle.arith.specs.Choice.{when, bit}
use Rattle.arith.proofs.Laws.{bit_le}
use Rattle.params.specs.declared.Features.{Features}
use Rattle.geometry.specs.declared.Geometry.{Geometry}
use Rattle.geometry.specs.Log.{header_of, prealloc_of}
use Rattle.geometry_answers.specs.Named.{is_answer}
use Rattle.geometry_layout.specs.Places.{ibt_block, rmap_block, refc_block, freelist_of, chunk_of, group_blocks}
use Rattle.geometry_layout.specs.Bounds.{Bounds}
use Rattle.geometry_layout.proofs.Bounding.{answer-bounds}
use Rattle.geometry_layout.proofs.Ceil.{counted, one_more}
use Rattle.geometry_layout.proofs.Small.{freelist-most}
use Rattle.geometry_counts.specs.Known.{number_in, value_in}
use Rattle.geometry_places.specs.Answers.{unless64, group_refusal, ag_blocks}
use Rattle.geometry_places.proofs.Refused.{a-group}
use Rattle.plan_site.specs.declared.Sited.{Sited}
use Rattle.plan_site.specs.Sites.{site_of, no_site, sited, Narrow, SoundSite}

-- 16 MiB are at least 1024 blocks, 64 MiB at least one
blocks-least : (a b : ℕ) → b ≤ 2 ^ 14 → 2 ^ 24 ≤ a * b → 1024 ≤ a
blocks-least a b h k = let w = mul-le-mul_left a h in omega arith

module _ (g : Geometry) (b : Bounds g) where
  block-most : g.blocksize ≤ 2 ^ 14
  block-most = let e = b.sizes.block-power in let w : 2 ^ g.blocklog ≤ 2 ^ 14 = pow_mono {j = 14} b.sizes.block-most in omega arith

  block-pos : 0 < g.blocksize
  block-pos = let e = b.sizes.block-power in let w : 2 ^ 10 ≤ 2 ^ g.blocklog = pow_mono {i = 10} b.sizes.block-least in omega arith

  sector-pos : 0 < g.sectsize
  sector-pos = let e = b.sizes.sector-power in let w : 2 ^ 9 ≤ 2 ^ g.sectlog = pow_mono {i = 9} b.sizes.sector-least in omega arith

  chunk-some : 0 < chunk_of g.inodesize g.blocksize
  unfolding chunk_of
  chunk-some =
      let e = b.sizes.inode-power in
      let w : 2 ^ 9 ≤ 2 ^ g.inodelog = pow_mono {i = 9} b.sizes.inode-least in
      let m = block-most in
      (le-div_iff_mul-le block-pos).1 (omega arith)

  header-some : 0 < header_of g.sectsize g.blocksize
  unfolding header_of
  header-some = (counted (4 * g.sectsize) g.blocksize (let w = sector-pos in omega arith) block-pos).some

  length_at : (k : ℕ) (t : Bool) → eqb k (g.agcount - 1) ≡ t → (1024 ≤ when t (g.dblocks - k * g.agsize) g.agsize) × (when t (g.dblocks - k * g.agsize) g.agsize < 2 ^ 30)
  unfolding when
  length_at k true e =
      let i : k ≡ g.agcount - 1 = eqb-true k (g.agcount - 1) e in
      let o = one_more g.agcount g.agsize (let w = b.groups.count-least in omega arith) in
      let l = blocks-least (g.dblocks - (g.agcount - 1) * g.agsize) g.blocksize block-most b.groups.last-least in
      let w = b.groups.all-groups in
      let m = b.groups.group-most in
      rw i (l, omega arith)
  length_at k false e = (blocks-least g.agsize g.blocksize block-most b.groups.group-least, b.groups.group-most)

  pub length-range : (k : ℕ) → (1024 ≤ group_blocks g.dblocks g.agsize g.agcount k) × (group_blocks g.dblocks g.agsize g.agcount k < 2 ^ 30)
  unfolding group_blocks
  length-range k = length_at k (eqb k (g.agcount - 1)) refl

need-at : (t : Bool) → 4 ≤ when t 6 4
unfolding when
need-at true = omega arith
need-at false = omega arith

need-least : (f : Features) → 4 ≤ freelist_of f
unfolding freelist_of
need-least f = need-at f.rmapbt

bit-on : (t : Bool) → t ≡ true → bit t ≡ 1
unfolding bit
bit-on true e = refl
bit-on false e = ap bit e

log-some : (n b : ℕ) → 2 ^ 26 ≤ n * b → 0 < n
log-some zero b h = absurd (omega (arith, zero-mul b))
log-some (suc n) b h = omega arith

head-is : (f : Features) (s b : ℕ) → bit f.rmapbt ≡ 1 → prealloc_of f s b ≡ header_of s b + 3 + bit f.finobt + 1 + bit f.reflink
unfolding prealloc_of
head-is f s b e = omega arith

pub bounds-sound : (g : Geometry) (k : ℕ) → Bounds g → SoundSite (site_of g k)
unfolding site_of ibt_block rmap_block refc_block
bounds-sound g k b =
    record {
      length-least = (length-range g b k).0;
      length_most = (length-range g b k).1;
      head-most = b.places.head-most;
      need-least = need-least g.features;
      need-most = freelist-most g.features;
      log-after = b.places.log-start;
      log-least = log-some g.logblocks g.blocksize b.places.log-bytes;
      log-most = let w = b.places.log-blocks in omega arith;
      log-not-first = λ e. let w = b.places.log-not-first in ne_eqb k g.logagno (λ q. omega arith);
      chunk-after = b.places.chunk-after;
      chunk-least = chunk-some g b;
      chunk-ends = b.places.chunk-room;
      bno-least = header-some g b;
      ibt-next = refl;
      rmap-after = omega arith;
      refc-next = λ e. let w = bit-on g.features.rmapbt e in omega arith;
      head-next = λ e. let w = bit-on g.features.rmapbt e in head-is g.features g.sectsize g.blocksize w;
    }

-- THE SITE OF A GROUP OF AN ANSWER
pub site-sound : (g : Geometry) (k : ℕ) → length g.label ≡ 12 → is_answer g ≡ true → SoundSite (site_of g k)
site-sound g k l h = bounds-sound g k (answer-bounds g l h)

-- no number of an answer's site passes 32 bits
pub narrow : (g : Geometry) (k : ℕ) → length g.label ≡ 12 → is_answer g ≡ true → Narrow g k
narrow g k l h =
    let b = answer-bounds g l h in
    record {
      header = b.places.header-most;
      length = let w = (length-range g b k).1 in omega arith;
      head = let w = b.places.head-most in omega arith;
      list = let w = freelist-most g.features in omega arith;
      log-at = let w = b.places.log-start in let v = b.places.head-most in omega arith;
      log-blocks = let w = b.places.log-blocks in omega arith;
      chunk-at = let w = b.places.chunk-room in omega arith;
      chunk-blocks = let w = b.places.chunk-most in omega arith;
      finobt = bit_le g.features.finobt;
      rmapbt = bit_le g.features.rmapbt;
    }

-- ---- what an answer of `ag_blocks` says

number-at : (n v : ℕ) (t : Bool) → eqb n 0 ≡ t → number_in (cond t (Ok v) (Err n)) ≡ n
number-at n v true e = sym (eqb-true n 0 e)
number-at n v false e = refl

pub its-number : (g : Geometry) (k : ℕ) → number_in (ag_blocks g k) ≡ group_refusal g k
unfolding ag_blocks unless64
its-number g k = number-at (group_refusal g k) (group_blocks g.dblocks g.agsize g.agcount k) (eqb (group_refusal g k) 0) refl

pub its-value : (g : Geometry) (k : ℕ) → group_refusal g k ≡ 0 → value_in (ag_blocks g k) ≡ group_blocks g.dblocks g.agsize g.agcount k
unfolding ag_blocks unless64
its-value g k e = rw (eq-eqb (group_refusal g k) 0 e)

-- ---- what an answer of `site_of` says

site-number-at : (g : Geometry) (k n : ℕ) (t : Bool) → eqb n 0 ≡ t
    → (cond {A = Sited} t (record { number = 0; site = site_of g k }) (record { number = n; site = no_site })).number ≡ n
site-number-at g k n true e = sym (eqb-true n 0 e)
site-number-at g k n false e = refl

pub site-number : (g : Geometry) (k : ℕ) → (sited g k).number ≡ group_refusal g k
unfolding sited
site-number g k = site-number-at g k (group_refusal g k) (eqb (group_refusal g k) 0) refl

pub site-is : (g : Geometry) (k : ℕ) → group_refusal g k ≡ 0 → (sited g k).site ≡ site_of g k
unfolding sited
site-is g k e = rw (eq-eqb (group_refusal g k) 0 e)

-- a site that was answered is sound
pub answered-sound : (g : Geometry) (k : ℕ) → length g.label ≡ 12 → (sited g k).number ≡ 0 → SoundSite (sited g k).site
answered-sound g k l e =
    let r = sym (site-number g k) ∙ e in
    rw (site-is g k r) (site-sound g k l (a-group g k r).0)
