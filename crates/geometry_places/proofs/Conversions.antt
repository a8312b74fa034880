-- The conversions of an answer: file system block and back is the identity, two places have the same address only if
-- they are the same, and a byte offset is 512 times the address.
-- Assumes nothing.
use Rattle.std.specs.Prelude.{Ok}
use mathlib.Core.Path.{◌≡◌, refl, sym, ap, ◌∙◌}
use mathlib.Core.Bool.{Bool, true, false}
use Prim.Native.Nat.{ℕ, ◌+◌, ◌*◌, ◌/◌, ◌%◌, ◌^◌, ◌≤◌, ◌<◌}
use native.Mathlib.Omega.{arith}
use native.Mathlib.Nat.{one-mul, add-zero, mul_comm, mul_assoc, mul-add-div_right, mul-add-mod_self_right, div-eq_of_lt, mod-eq_of_lt, eq_of_mul-eq-mul_right, le-div_iff_mul-le}
use borrow.Author.Tests.{eq-eqb, leb-true, leb-false}
use lib.Dec.{leb}
use lib.ListN.{length}
use lib.Pow.{pow_mono}
use Rattle.geometry.specs.declared.Geometry.{Geometry}
use Rattle.geometry_layout.specs.Places.{fsb_of, disk_blocks_before, daddr_of, byte_of}
use Rattle.geometry_layout.specs.Bounds.{Bounds}
use Rattle.geometry_layout.proofs.Wide.{whole-blocks}
use Rattle.geometry_layout.proofs.Bounding.{answer-bounds}
use Rattle.geometry_layout.proofs.Inside.{Fits, fitting}
use Rattle.geometry_places.specs.Answers.{place_refusal, to_group_block}
use Rattle.geometry_places.proofs.Refused.{a-place}
use Rattle.geometry_places.specs.There.{There}

-- ---- numbers in two digits, the lower below m

module _ (m k b : ℕ) (h : b < m) where
  upper : (k * m + b) / m ≡ k
  upper = mul-add-div_right (let w : 0 < m = omega arith in w) k b ∙ ap (λ (x : ℕ). k + x) (div-eq_of_lt h) ∙ add-zero k

  lower : (k * m + b) % m ≡ b
  lower = mul-add-mod_self_right k m b ∙ mod-eq_of_lt h

same_digits : (m k b k' b' : ℕ) → b < m → b' < m → k * m + b ≡ k' * m + b' → (k ≡ k') × (b ≡ b')
same_digits m k b k' b' h h' e =
    (sym (upper m k b h) ∙ ap (λ (x : ℕ). x / m) e ∙ upper m k' b' h', sym (lower m k b h) ∙ ap (λ (x : ℕ). x % m) e ∙ lower m k' b' h')

same-factor : (x y m : ℕ) → 0 < m → x * m ≡ y * m → x ≡ y
same-factor x y m h e = eq_of_mul-eq-mul_right m h x y e

-- ---- places of the disk

module _ (g : Geometry) (label : length g.label ≡ 12) where
  bounds-at : (k b : ℕ) → There g k b → Bounds g
  bounds-at k b p = answer-bounds g label (a-place g k b p).0

  fits-at : (k b : ℕ) → There g k b → Fits g k b
  fits-at k b p = let q = a-place g k b p in fitting g (bounds-at k b p) k b q.1 q.2

  below_power : (k b : ℕ) → There g k b → b < 2 ^ g.agblklog
  below_power k b p = let f = (fits-at k b p).below-size in let e = (bounds-at k b p).groups.log-enough in omega arith

  -- file system block and back is the identity
  pub fsb-back : (k b : ℕ) → There g k b → to_group_block g (record { 0 = fsb_of g.agblklog k b }) ≡ Ok (record { 0 = k; 1 = b })
  unfolding to_group_block fsb_of
  fsb-back k b p =
      rw (upper (2 ^ g.agblklog) k b (below_power k b p), lower (2 ^ g.agblklog) k b (below_power k b p), eq-eqb (place_refusal g k b) 0 p)

  module _ (k b k' b' : ℕ) (p : There g k b) (p' : There g k' b') where
    -- two places with one file system block are the same
    pub same-fsb : fsb_of g.agblklog k b ≡ fsb_of g.agblklog k' b' → (k ≡ k') × (b ≡ b')
    unfolding fsb_of
    same-fsb e = same_digits (2 ^ g.agblklog) k b k' b' (below_power k b p) (below_power k' b' p') e

    same-before : disk_blocks_before g.agsize k b ≡ disk_blocks_before g.agsize k' b' → (k ≡ k') × (b ≡ b')
    unfolding disk_blocks_before
    same-before e = same_digits g.agsize k b k' b' (fits-at k b p).below-size (fits-at k' b' p').below-size e

    block-least : 1024 ≤ g.blocksize
    block-least =
        let z = (bounds-at k b p).sizes in
        let w : 2 ^ 10 ≤ 2 ^ g.blocklog = pow_mono {i = 10} z.block-least in
        let e = z.block-power in
        omega arith

    units-pos : 0 < g.blocksize / 512
    units-pos =
        let h : 0 < 512 = omega arith in
        let w : 1 ≤ g.blocksize / 512 = (le-div_iff_mul-le h).1 (let v = block-least in omega arith) in
        omega arith

    -- two places with one 512-byte address are the same
    pub same-daddr : daddr_of g.blocksize g.agsize k b ≡ daddr_of g.blocksize g.agsize k' b' → (k ≡ k') × (b ≡ b')
    unfolding daddr_of
    same-daddr e =
        same-before (same-factor (disk_blocks_before g.agsize k b) (disk_blocks_before g.agsize k' b') (g.blocksize / 512) units-pos e)

    -- two places with one byte offset are the same
    pub same_byte : byte_of g.blocksize g.agsize k b ≡ byte_of g.blocksize g.agsize k' b' → (k ≡ k') × (b ≡ b')
    unfolding byte_of
    same_byte e =
        same-before (same-factor (disk_blocks_before g.agsize k b) (disk_blocks_before g.agsize k' b') g.blocksize (let v = block-least in omega arith) e)

-- a block is a whole number of 512-byte units
block-units : (g : Geometry) → Bounds g → g.blocksize / 512 * 512 ≡ g.blocksize
block-units g z =
    let e = z.sizes.block-power in
    let h = z.sizes.block-least in
    let w : 1 * 2 ^ g.blocklog / 2 ^ 9 * 2 ^ 9 ≡ 1 * 2 ^ g.blocklog = whole-blocks 1 g.blocklog 9 (omega arith) in
    rw e (rw one-mul at w)

-- the byte offset is 512 times the address
pub byte-daddr : (g : Geometry) → Bounds g → (k b : ℕ) → byte_of g.blocksize g.agsize k b ≡ 512 * daddr_of g.blocksize g.agsize k b
unfolding byte_of daddr_of
byte-daddr g z k b =
    let n = disk_blocks_before g.agsize k b in
    ap (λ (x : ℕ). n * x) (sym (block-units g z)) ∙ sym (mul_assoc n (g.blocksize / 512) 512) ∙ mul_comm (n * (g.blocksize / 512)) 512

-- agblklog is the least power of two that is at least agsize
pub least-power : (g : Geometry) → Bounds g → (g.agsize ≤ 2 ^ g.agblklog) × ((j : ℕ) → g.agsize ≤ 2 ^ j → g.agblklog ≤ j)
least-power g z = (z.groups.log-enough, λ j h. by_order (leb g.agblklog j) refl h)
  where
    by_order : {j : ℕ} (t : Bool) → leb g.agblklog j ≡ t → g.agsize ≤ 2 ^ j → g.agblklog ≤ j
    by_order {j} true e h = leb-true g.agblklog j e
    by_order {j} false e h = absurd (let w = z.groups.log-least j (leb-false g.agblklog j e) in omega arith)
