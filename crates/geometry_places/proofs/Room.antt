-- What the conversions of a place ask for: no unit of a place of the disk passes 64 bits.
-- Assumes nothing.
use mathlib.Core.Path.{◌≡◌}
use Prim.Native.Nat.{ℕ, ◌+◌, ◌*◌, ◌/◌, ◌^◌, ◌≤◌, ◌<◌}
use native.Mathlib.Omega.{arith}
use native.Mathlib.Nat.{mul-le-mul}
use lib.ListN.{length}
use lib.Pow.{pow_mono}
use Rattle.geometry.specs.declared.Geometry.{Geometry}
use Rattle.geometry.specs.Log.{prealloc_of}
use Rattle.geometry_layout.specs.Places.{group_blocks, root_chunk_of}
use Rattle.geometry_layout.specs.Bounds.{Bounds}
use Rattle.geometry_layout.proofs.Bounding.{answer-bounds}
use Rattle.geometry_layout.proofs.Inside.{few-blocks, blocks-least, fitting}
use Rattle.geometry_places.specs.Answers.{place_refusal}
use Rattle.geometry_places.proofs.Refused.{a-place}

-- a part of a sum is below what the sum is below
pub part-below : (x y m : ℕ) → x + y < m → x < m
part-below x y m h = omega arith

pub record Room (g : Geometry) (k b : ℕ) : Type 0 where
  pub fsb : (g.agblklog < 64) × (k * 2 ^ g.agblklog + b < 2 ^ 64)
  pub daddr : (k * g.agsize + b < 2 ^ 64) × ((k * g.agsize + b) * (g.blocksize / 512) < 2 ^ 64)
  pub byte : (k * g.agsize + b < 2 ^ 64) × ((k * g.agsize + b) * g.blocksize < 2 ^ 64)
  pub ino : (slot : ℕ) → slot < g.inopblock → (g.agblklog < 64) × (g.inopblog < 64) × (k * 2 ^ g.agblklog + b < 2 ^ 64) × ((k * 2 ^ g.agblklog + b) * 2 ^ g.inopblog + slot < 2 ^ 64)

module _ (g : Geometry) (z : Bounds g) where
  pub room_at : (k b : ℕ) → k < g.agcount → b < group_blocks g.dblocks g.agsize g.agcount k → Room g k b
  room_at k b h l =
      let f = fitting g z k b h l in
      let d = few-blocks g z in
      let n = z.groups.log-most in
      record {
        fsb = (omega arith, let w = f.fsb-most in omega arith);
        daddr = (let w = f.before-disk in omega arith, f.daddr-most);
        byte = (let w = f.before-disk in omega arith, f.byte-most);
        ino =
            λ slot q. (
              omega arith,
              let e = z.sizes.inodes-log in let a = z.sizes.block-most in omega arith,
              let w = f.fsb-most in omega arith,
              let w = f.ino-most slot q in omega arith,
            );
      }

  -- the log's first block
  pub log-place : Room g g.logagno g.log_agbno
  log-place =
      room_at g.logagno g.log_agbno z.places.log-inside
      (let w = blocks-least g z g.logagno in let e = z.places.log-start in let h = z.places.head-most in omega arith)

  -- the root chunk's first block
  pub root-place : Room g 0 (root_chunk_of g.features g.sectsize g.inodesize g.blocksize)
  root-place =
      room_at 0 (root_chunk_of g.features g.sectsize g.inodesize g.blocksize) (let c = z.groups.count-least in omega arith)
      (let w = blocks-least g z 0 in let r = z.places.chunk-room in omega arith)

  pub some-inode : 0 < g.inopblock
  some-inode =
      let e = z.sizes.inodes-power in
      let w : 2 ^ 0 ≤ 2 ^ g.inopblog = pow_mono {i = 0} (omega arith) in
      omega arith

  pub heads-fit : g.agcount * prealloc_of g.features g.sectsize g.blocksize < 2 ^ 64
  heads-fit = let w = mul-le-mul z.groups.count_most z.places.head-most in omega arith

-- a place that is not refused has room
pub place-room : (g : Geometry) (k b : ℕ) → length g.label ≡ 12 → place_refusal g k b ≡ 0 → Room g k b
place-room g k b label e =
    let p = a-place g k b e in
    room_at g (answer-bounds g label p.0) k b p.1 p.2
