-- The checksums of a head and of a root chunk lie inside the bytes that are lent for them, so that a yes speaks of each.
-- Assumes nothing.
use mathlib.Core.Path.{◌≡◌, refl, ap, sym, ◌∙◌, subst}
use mathlib.Core.Bool.{Bool, true}
use mathlib.Core.List.{List}
use Prim.Native.Nat.{ℕ, ◌+◌, ◌*◌, ◌≤◌}
use native.Mathlib.Nat.{add-mul}
use native.Mathlib.Omega.{arith}
use lib.ListN.{length}
use Rattle.endian.specs.Bytes.{Octets}
use Rattle.arith.specs.Choice.{bit}
use Rattle.crc.specs.Right.{spaced}
use Rattle.crc.specs.Means.{Inside, SameSums}
use Rattle.crc.proofs.Right.{spaced-inside}
use Rattle.structs.specs.Encoded.{Encoded}
use Rattle.structs.specs.Sizes.{is_inode}
use Rattle.structs.proofs.Encoded.{right-means}
use Rattle.structs.proofs.Lengths.{sector-least, block-least, inode-least}
use Rattle.geometry.specs.declared.Geometry.{Geometry}
use Rattle.plan.specs.declared.AgPlan.{AgPlan}
use Rattle.plan_same.specs.Same.{is_plan}
use Rattle.sb.specs.declared.SbState.{SbState}
use Rattle.head_frame.specs.declared.Frame.{Frame}
use Rattle.head_frame.specs.Frames.{frame_of, FrameBounds}
use Rattle.head_bytes.specs.Head.{frame_blocks, head_bytes, head_length, head_number}
use Rattle.head_bytes.specs.Places.{places_of, head_places}
use Rattle.head_bytes.proofs.Asked.{frame-places}
use Rattle.head_bytes.proofs.Ready.{ready}
use Rattle.chunk.specs.Chunk.{chunk_places}

-- the blocks of a head: header blocks and roots
pub roots-fit : (w : Frame) → w.header * w.block + (3 + bit w.features.finobt + bit w.features.rmapbt + bit w.features.reflink) * w.block ≤ frame_blocks w * w.block
unfolding frame_blocks
roots-fit w =
    let n = 3 + bit w.features.finobt + bit w.features.rmapbt + bit w.features.reflink in
    let e : w.header + 3 + bit w.features.finobt + bit w.features.rmapbt + bit w.features.reflink ≡ w.header + n = omega arith in
    rw e (omega (arith, add-mul w.header n w.block))

module _ (w : Frame) (f : FrameBounds w) where
  pub frame-inside : Inside (places_of w.header w.sector w.block w.features) (frame_blocks w * w.block)
  unfolding places_of
  frame-inside =
      let n = 3 + bit w.features.finobt + bit w.features.rmapbt + bit w.features.reflink in
      let s = sector-least w.sector f.sector-is in
      let b = block-least w.block f.block-is in
      let q = f.sectors-fit in
      let k = roots-fit w in
      (omega arith, (omega arith, (omega arith, (omega arith, spaced-inside 52 (w.header * w.block) w.block n _ (omega arith) k))))

module _ (g : Geometry) (p : AgPlan) (l : length g.label ≡ 12) (h : is_plan g p ≡ true) where
  pub head-inside : Inside (head_places g) (head_length g)
  head-inside =
      let r = ready g p (frame_of g p) (head_length g) l h refl refl in
      rw (← frame-places g p (frame_of g p) refl, r.exact) (frame-inside (frame_of g p) r.fine)

  -- A YES OF A HEAD: each of its sectors and roots had the same checksum bytes before as after.
  pub head-means : {n r : ℕ} {right : Bool} {new old left : List ℕ} → Encoded n (head_places g) new old r right left → right ≡ true → length old ≡ head_length g → length left ≡ length old
      → Octets old → Octets left → SameSums (head_places g) old left
  head-means w y e d b c = (right-means w y b c d (rw e head-inside)).1

pub chunk_inside : (size : ℕ) → is_inode size ≡ true → Inside (chunk_places size) (64 * size)
unfolding chunk_places
chunk_inside size i = spaced-inside 100 0 size 64 (64 * size) (let s = inode-least size i in omega arith) (omega arith)

-- A YES OF A ROOT CHUNK: each of its 64 inodes had the same checksum bytes before as after.
pub chunk-means : {n r : ℕ} {right : Bool} {new old left : List ℕ} (size : ℕ) → is_inode size ≡ true → Encoded n (chunk_places size) new old r right left → right ≡ true
    → length old ≡ 64 * size → length left ≡ length old → Octets old → Octets left → SameSums (chunk_places size) old left
chunk-means size i w y e d b c = (right-means w y b c d (rw e (chunk_inside size i))).1
