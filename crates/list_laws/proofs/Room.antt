-- How long the pieces of a list can be, and the parts that they are split from.
-- Assumes nothing.
use mathlib.Core.Path.{◌≡◌}
use mathlib.Core.Bool.{Bool, true, false}
use Prim.Native.Nat.{ℕ, ◌+◌, ◌*◌, ◌≤◌, ◌^◌}
use native.Mathlib.Omega.{arith}
use native.Mathlib.Nat.{mul-le-mul, mul-le-mul_right}
use lib.Dec.{leb, eqb}
use lib.Pow.{pow_mono}
use Rattle.arith.specs.Choice.{when}
use Rattle.geometry.specs.declared.Geometry.{Geometry}
use Rattle.geometry.specs.Log.{prealloc_of}
use Rattle.geometry_layout.specs.Bounds.{Bounds}
use Rattle.chunk.specs.Chunk.{chunk_length}
use Rattle.chunk.proofs.Chunks.{whole_chunk}
use Rattle.list_spec.specs.Listing.{head_blocks, header_blocks, chunk_blocks}
use Rattle.group_bytes.proofs.Accepted.{size-least, size-most, head-most}
use Rattle.list_lengths.specs.Lengths.{blocks_length, piece_list_length, split_part}
use Rattle.list_lengths.specs.Pieces.{listed_length, part_length}
use Rattle.list_laws.specs.Whole.{largest_head}
use Rattle.list_laws.specs.Room.{longest_piece_bytes}

most-of-3 : (a b : Bool) (m x y z : ℕ) → x ≤ m → y ≤ m → z ≤ m → when a x (when b y z) ≤ m
unfolding when
most-of-3 true b m x y z p q r = p
most-of-3 false true m x y z p q r = q
most-of-3 false false m x y z p q r = r

most-of-4 : (a b c : Bool) (m w x y z : ℕ) → w ≤ m → x ≤ m → y ≤ m → z ≤ m → when a w (when b x (when c y z)) ≤ m
unfolding when
most-of-4 true b c m w x y z o p q r = o
most-of-4 false b c m w x y z o p q r = most-of-3 b c m x y z p q r

module _ (g : Geometry) (z : Bounds g) where
  -- a root chunk has 64 inodes of at most 2048 bytes
  root-most : chunk_blocks g * g.blocksize ≤ 131072
  unfolding chunk_length
  root-most =
      let e : chunk_length g ≡ 64 * g.inodesize = whole_chunk g z in
      let p : 2 ^ g.inodelog ≤ 2 ^ 11 = pow_mono {j = 11} z.sizes.inode-most in
      let i = z.sizes.inode-power in
      omega arith

  -- NO PART IS LONGER THAN THE LARGEST HEAD
  pub part-most : (k : ℕ) → part_length g k ≤ largest_head
  unfolding split_part
  part-most k =
      let b = size-most g z in
      let c = root-most in
      most-of-3 (eqb k 0) (eqb k (g.agcount + 1)) largest_head _ _ _ (omega arith) (omega arith) (head-most g z)

  -- a head is longer than header blocks and two flushes, and than the opening
  header-less : header_blocks g + 3 ≤ head_blocks g
  unfolding prealloc_of
  header-less = omega arith

  module _ (n : ℕ) (h : blocks_length g.blocksize (head_blocks g) ≤ n) (c : blocks_length g.blocksize (chunk_blocks g) ≤ n) where
    pub chunk-within : (k : ℕ) → listed_length g k ≤ n
    unfolding piece_list_length blocks_length
    chunk-within k =
        let b = size-least g z in
        let m = mul-le-mul_right (18 + g.blocksize) header-less in
        most-of-4 (eqb k 0) (leb k g.agcount) (eqb k (g.agcount + 1)) n _ _ _ _ (omega arith) h c (omega arith)

    pub part-within : (k : ℕ) → part_length g k ≤ n
    unfolding split_part blocks_length
    part-within k =
        let m = mul-le-mul_right (18 + g.blocksize) header-less in
        most-of-3 (eqb k 0) (eqb k (g.agcount + 1)) n _ _ _ (omega arith) (omega arith) (omega arith)

  pub head-within : blocks_length g.blocksize (head_blocks g) ≤ longest_piece_bytes
  unfolding blocks_length
  head-within =
      let b : 18 + g.blocksize ≤ 18 + 16384 = let m = size-most g z in omega arith in
      let w : head_blocks g * (18 + g.blocksize) ≤ 10 * (18 + 16384) = mul-le-mul z.places.head-most b in
      omega arith

  pub root-within : blocks_length g.blocksize (chunk_blocks g) ≤ longest_piece_bytes
  unfolding blocks_length
  root-within = let r = root-most in let c = z.places.chunk-room in omega arith
