-- Head, free list and chunk of an answer are small: their blocks for sizes that are accepted.
-- Assumes nothing.
use mathlib.Core.Path.{◌≡◌, refl}
use mathlib.Core.Bool.{Bool, true, false}
use Prim.Native.Nat.{ℕ, ◌+◌, ◌*◌, ◌/◌, ◌≤◌, ◌<◌}
use native.Mathlib.Omega.{arith}
use native.Mathlib.Nat.{div-le_of_le-mul, div-mul-le_self, mul_comm}
use borrow.Author.Tests.{ltb-true}
use lib.Dec.{ltb}
use Rattle.arith.specs.Choice.{when}
use Rattle.arith.specs.Numbers.{ceil_div}
use Rattle.arith.proofs.Laws.{bit_le}
use Rattle.params.specs.declared.Features.{Features}
use Rattle.geometry.specs.Log.{header_of, prealloc_of}
use Rattle.geometry_layout.specs.Places.{freelist_of, chunk_of, cluster_of, align_of, round_up, aligned, root_chunk_of}
use Rattle.geometry_layout.proofs.Ceil.{counted, ceil-most, one_more}

pub header-most : (s b : ℕ) → 0 < s → s ≤ b → header_of s b ≤ 4
unfolding header_of
header-most s b h k = ceil-most (4 * s) b 4 (omega arith) (omega arith) (omega arith)

pub head-most : (f : Features) (s b : ℕ) → 0 < s → s ≤ b → prealloc_of f s b ≤ 10
unfolding prealloc_of
head-most f s b h k = omega (arith, header-most s b h k, bit_le f.finobt, bit_le f.rmapbt, bit_le f.reflink)

freelist-case : (t : Bool) → when t 6 4 ≤ 6
unfolding when
freelist-case true = omega arith
freelist-case false = omega arith

pub freelist-most : (f : Features) → freelist_of f ≤ 6
unfolding freelist_of
freelist-most f = freelist-case f.rmapbt

-- an inode is at most half a block
half : (i b : ℕ) → i ≤ b / 2 → 2 * i ≤ b
half i b h = omega (arith, div-mul-le_self b 2)

pub chunk-most : (i b : ℕ) → 0 < b → i ≤ b / 2 → chunk_of i b ≤ 32
unfolding chunk_of
chunk-most i b p h = div-le_of_le-mul b (let w = half i b h in let e = mul_comm b 32 in omega arith)

pub cluster-most : (i b : ℕ) → 0 < b → i ≤ b / 2 → cluster_of i b ≤ 32
unfolding cluster_of
cluster-most i b p h =
    div-le_of_le-mul b (let w = half i b h in let v = div-mul-le_self i 256 in let e = mul_comm b 32 in omega arith)

align-case : (t : Bool) (x y : ℕ) → x ≤ 32 → y ≤ 32 → when t x y ≤ 32
unfolding when
align-case true x y h k = h
align-case false x y h k = k

align-most : (t : Bool) (i b : ℕ) → 0 < b → i ≤ b / 2 → align_of t i b ≤ 32
unfolding align_of
align-most t i b p h = align-case t (chunk_of i b) (cluster_of i b) (chunk-most i b p h) (cluster-most i b p h)

-- rounding up adds less than a multiple
pub round-most : (n m : ℕ) → 0 < n → 0 < m → ceil_div n m * m ≤ n + m
round-most n m h k =
    let c = counted n m h k in
    let o = one_more (ceil_div n m) m c.some in
    let b = c.before in
    omega arith

aligned-case : (n m : ℕ) (t : Bool) → ltb 1 m ≡ t → 0 < n → (n ≤ when t (round_up n m) n) × (when t (round_up n m) n ≤ n + m)
unfolding when round_up
aligned-case n m true e h =
    let p = ltb-true 1 m e in
    let c = counted n m h (omega arith) in
    (c.enough, round-most n m h (omega arith))
aligned-case n m false e h = (omega arith, omega arith)

aligned-range : (n m : ℕ) → 0 < n → (n ≤ aligned n m) × (aligned n m ≤ n + m)
unfolding aligned
aligned-range n m h = aligned-case n m (ltb 1 m) refl h

module _ (f : Features) (s i b : ℕ) (sp : 0 < s) (sb : s ≤ b) (ib : i ≤ b / 2) where
  first_pos : 0 < prealloc_of f s b + freelist_of f
  unfolding prealloc_of
  first_pos = omega arith

  pub chunk-after : prealloc_of f s b + freelist_of f ≤ root_chunk_of f s i b
  unfolding root_chunk_of
  chunk-after = (aligned-range (prealloc_of f s b + freelist_of f) (align_of f.sparse i b) first_pos).0

  pub chunk-room : root_chunk_of f s i b + chunk_of i b ≤ 80
  unfolding root_chunk_of
  chunk-room =
      let p : 0 < b = omega arith in
      let a = (aligned-range (prealloc_of f s b + freelist_of f) (align_of f.sparse i b) first_pos).1 in
      omega (arith, a, head-most f s b sp sb, freelist-most f, align-most f.sparse i b p ib, chunk-most i b p ib)
