-- Head, free list and alignment of any sizes are far below 64 bits.
-- Assumes nothing.
use mathlib.Core.Bool.{Bool, true, false}
use Prim.Native.Nat.{ℕ, ◌+◌, ◌*◌, ◌/◌, ◌≤◌, ◌<◌}
use native.Mathlib.Omega.{arith}
use native.Mathlib.Nat.{div-le_self, div-mul-le_self}
use Rattle.arith.specs.Choice.{when}
use Rattle.arith.proofs.Laws.{bit_le}
use Rattle.params.specs.declared.Features.{Features}
use Rattle.geometry.specs.Log.{prealloc_of}
use Rattle.geometry.proofs.Header.{header-le}
use Rattle.geometry_layout.specs.Places.{chunk_of, cluster_of, align_of}

pub prealloc-le : (f : Features) (s b : ℕ) → prealloc_of f s b ≤ 4 * s + 6
unfolding prealloc_of
prealloc-le f s b = omega (arith, header-le s b, bit_le f.finobt, bit_le f.rmapbt, bit_le f.reflink)

pub prealloc-pos : (f : Features) (s b : ℕ) → 0 < prealloc_of f s b
unfolding prealloc_of
prealloc-pos f s b = omega arith

chunk-le : (i b : ℕ) → chunk_of i b ≤ 64 * i
unfolding chunk_of
chunk-le i b = div-le_self (64 * i) b

cluster-le : (i b : ℕ) → cluster_of i b ≤ 64 * i
unfolding cluster_of
cluster-le i b = omega (arith, div-le_self (8192 * (i / 256)) b, div-mul-le_self i 256)

by-case : (t : Bool) (x y m : ℕ) → x ≤ m → y ≤ m → when t x y ≤ m
unfolding when
by-case true x y m h k = h
by-case false x y m h k = k

pub align-le : (t : Bool) (i b : ℕ) → align_of t i b ≤ 64 * i
unfolding align_of
align-le t i b = by-case t (chunk_of i b) (cluster_of i b) (64 * i) (chunk-le i b) (cluster-le i b)

-- a test that picks 0 or a number picks at most it
pub picked-le : (t : Bool) (x m : ℕ) → x ≤ m → when t x 0 ≤ m
picked-le t x m h = by-case t x 0 m h (omega arith)
