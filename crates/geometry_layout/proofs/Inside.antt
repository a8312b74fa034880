-- A block of a group lies within the block count, and none of its units passes 64 bits.
-- Assumes nothing.
use mathlib.Core.Path.{◌≡◌, refl, sym, ap, ◌∙◌}
use mathlib.Core.Bool.{Bool, true, false}
use Prim.Native.Nat.{ℕ, zero, suc, ◌+◌, ◌*◌, ◌-◌, ◌/◌, ◌^◌, ◌≤◌, ◌<◌}
use native.Mathlib.Omega.{arith}
use native.Mathlib.Nat.{add-mul, one-mul, mul-le-mul_right, mul-le-mul_left, div-le_self, mul_assoc, mul_comm, pow-succ'}
use borrow.Author.Tests.{eqb-true, eqb-false}
use lib.Dec.{eqb}
use lib.Pow.{pow_mono}
use Rattle.arith.specs.Choice.{when}
use Rattle.geometry.specs.declared.Geometry.{Geometry}
use Rattle.geometry.specs.Limits.{mib}
use Rattle.geometry_layout.specs.Places.{group_blocks}
use Rattle.geometry_layout.specs.Bounds.{Bounds}
use Rattle.geometry_layout.proofs.Ceil.{one_more}

module _ (d s n k b : ℕ) where
  inside-at : (t : Bool) → eqb k (n - 1) ≡ t → (n - 1) * s < d → k < n → b < when t (d - k * s) s → k * s + b < d
  unfolding when
  inside-at true e w h l = omega arith
  inside-at false e w h l =
      let i = eqb-false k (n - 1) e in
      let j : k + 1 ≤ n - 1 = omega arith in
      omega (arith, mul-le-mul_right s j, add-mul k 1 s, one-mul s)

  -- the block lies before the end of the disk
  pub inside : (n - 1) * s < d → k < n → b < group_blocks d s n k → k * s + b < d
  unfolding group_blocks
  inside w h l = inside-at (eqb k (n - 1)) refl w h l

  block-at : (t : Bool) → eqb k (n - 1) ≡ t → d ≤ n * s → k < n → b < when t (d - k * s) s → b < s
  unfolding when
  block-at true e w h l =
      let i : k ≡ n - 1 = eqb-true k (n - 1) e in
      let o = one_more n s (omega arith) in
      let v = ap (λ (x : ℕ). x * s) i in
      omega arith
  block-at false e w h l = l

  -- the block's number is below agsize
  pub block-below : d ≤ n * s → k < n → b < group_blocks d s n k → b < s
  unfolding group_blocks
  block-below w h l = block-at (eqb k (n - 1)) refl w h l

-- the least power that is at least s is at most twice s
pub twice : (s l : ℕ) → 0 < s → ((j : ℕ) → j < l → 2 ^ j < s) → 2 ^ l ≤ 2 * s
twice s zero h f = omega arith
twice s (suc l) h f = let w = f l (omega arith) in rw pow-succ' (omega arith)

-- a product is at most a product of larger numbers, below a bound
pub below : (x y m bound : ℕ) → x ≤ y → y * m < bound → x * m < bound
below x y m bound h w = omega (arith, mul-le-mul_right m h)

-- what the conversions of block b of group k need
pub record Fits (g : Geometry) (k b : ℕ) : Type 0 where
  pub before-disk : k * g.agsize + b < g.dblocks
  pub below-size : b < g.agsize
  pub fsb-most : k * 2 ^ g.agblklog + b < 2 ^ 56
  pub daddr-most : (k * g.agsize + b) * (g.blocksize / 512) < 2 ^ 64
  pub byte-most : (k * g.agsize + b) * g.blocksize < 2 ^ 64
  pub ino-most : (slot : ℕ) → slot < g.inopblock → (k * 2 ^ g.agblklog + b) * 2 ^ g.inopblog + slot < 2 ^ 63

module _ (g : Geometry) (z : Bounds g) where
  block-least : 1024 ≤ g.blocksize
  block-least =
      let w : 2 ^ 10 ≤ 2 ^ g.blocklog = pow_mono {i = 10} z.sizes.block-least in
      let e = z.sizes.block-power in
      omega arith

  -- the disk has fewer than 2 ^ 54 blocks
  pub few-blocks : g.dblocks < 2 ^ 54
  few-blocks =
      let w = mul-le-mul_left g.dblocks block-least in
      let v = z.groups.disk-most in
      omega arith

  pub inodes-most : 2 ^ g.inopblog ≤ 32
  inodes-most =
      let e = z.sizes.inodes-log in
      let a = z.sizes.block-most in
      let b = z.sizes.inode-least in
      let w : 2 ^ g.inopblog ≤ 2 ^ 5 = pow_mono {j = 5} (omega arith) in
      omega arith

  size-pos : 0 < g.agsize
  size-pos = let w = z.places.chunk_inside in omega arith

  -- 16 MiB are at least 1024 blocks
  in_blocks : (x : ℕ) → 16 * mib ≤ x * g.blocksize → 1024 ≤ x
  in_blocks x w =
      let p : 2 ^ g.blocklog ≤ 2 ^ 14 = pow_mono {j = 14} z.sizes.block-most in
      let e = z.sizes.block-power in
      let v = mul-le-mul_left x (let u : g.blocksize ≤ 16384 = omega arith in u) in
      omega arith

  blocks_at : (k : ℕ) (t : Bool) → eqb k (g.agcount - 1) ≡ t → 1024 ≤ when t (g.dblocks - k * g.agsize) g.agsize
  unfolding when
  blocks_at k true e =
      let i : k ≡ g.agcount - 1 = eqb-true k (g.agcount - 1) e in
      rw i (in_blocks (g.dblocks - (g.agcount - 1) * g.agsize) z.groups.last-least)
  blocks_at k false e = in_blocks g.agsize z.groups.group-least

  -- every group has at least 1024 blocks
  pub blocks-least : (k : ℕ) → 1024 ≤ group_blocks g.dblocks g.agsize g.agcount k
  unfolding group_blocks
  blocks-least k = blocks_at k (eqb k (g.agcount - 1)) refl

  module _ (k b : ℕ) (h : k < g.agcount) (l : b < group_blocks g.dblocks g.agsize g.agcount k) where
    in-disk : k * g.agsize + b < g.dblocks
    in-disk = inside g.dblocks g.agsize g.agcount k b z.groups.before_last h l

    fsb-below : k * 2 ^ g.agblklog + b < 2 ^ 56
    fsb-below =
        let t = twice g.agsize g.agblklog size-pos z.groups.log-least in
        let m = mul-le-mul_left k t in
        let e : k * (2 * g.agsize) ≡ 2 * (k * g.agsize) = sym (mul_assoc k 2 g.agsize) ∙ ap (λ (x : ℕ). x * g.agsize) (mul_comm k 2) ∙ mul_assoc 2 k g.agsize in
        let i = in-disk in
        let f = few-blocks in
        omega arith

    -- every unit of a place of the disk fits
    pub fitting : Fits g k b
    fitting =
        let i = in-disk in
        record {
          before-disk = in-disk;
          below-size = block-below g.dblocks g.agsize g.agcount k b z.groups.all-groups h l;
          fsb-most = fsb-below;
          daddr-most =
              below (k * g.agsize + b) g.dblocks (g.blocksize / 512) (2 ^ 64) (omega arith)
              (let w = mul-le-mul_left g.dblocks (div-le_self g.blocksize 512) in let v = z.groups.disk-most in omega arith);
          byte-most = below (k * g.agsize + b) g.dblocks g.blocksize (2 ^ 64) (omega arith) z.groups.disk-most;
          ino-most =
              λ slot q.
              let a = fsb-below in
              let w = mul-le-mul_left (k * 2 ^ g.agblklog + b) inodes-most in
              let e = z.sizes.inodes-power in
              let n = inodes-most in
              omega arith;
        }
