-- A head and a root chunk answer yes exactly if every stamped part was right.
-- Assumes nothing.
use mathlib.Core.Path.{◌≡◌, refl, ap, sym, ◌∙◌}
use mathlib.Core.Bool.{Bool, true, ◌&&◌}
use mathlib.Core.List.{List, ◌∷◌}
use Prim.Native.Nat.{ℕ, ◌+◌, ◌*◌, ◌≤◌}
use native.Mathlib.Omega.{arith}
use lib.ListN.{length}
use Rattle.arith.specs.Choice.{bit}
use Rattle.crc.specs.Right.{already_right, spaced}
use Rattle.crc.specs.Means.{part_right}
use Rattle.crc.proofs.Parts.{part-first, parts_all}
use Rattle.structs.specs.Sizes.{is_inode}
use Rattle.structs.proofs.Lengths.{sector-least, block-least, inode-least}
use Rattle.geometry.specs.declared.Geometry.{Geometry}
use Rattle.plan.specs.declared.AgPlan.{AgPlan}
use Rattle.plan_same.specs.Same.{is_plan}
use Rattle.head_frame.specs.declared.Frame.{Frame}
use Rattle.head_frame.specs.Frames.{frame_of, FrameBounds}
use Rattle.head_bytes.specs.Head.{frame_blocks, head_length}
use Rattle.head_bytes.specs.Places.{places_of, head_places}
use Rattle.head_bytes.proofs.Asked.{frame-places}
use Rattle.head_bytes.proofs.Ready.{ready}
use Rattle.chunk.specs.Chunk.{chunk_places}
use Rattle.head_right.specs.Parts.{head_right, inodes_right}
use Rattle.head_right.proofs.Inside.{roots-fit}

module _ (w : Frame) (f : FrameBounds w) (xs ys : List ℕ) (lx : length xs ≡ frame_blocks w * w.block) (ly : length ys ≡ frame_blocks w * w.block) where
  pub frame-parts : already_right (places_of w.header w.sector w.block w.features) xs ys ≡ head_right w.header w.sector w.block w.features xs ys
  unfolding places_of head_right
  frame-parts =
      let n = 3 + bit w.features.finobt + bit w.features.rmapbt + bit w.features.reflink in
      let s = sector-least w.sector f.sector-is in
      let b = block-least w.block f.block-is in
      let q = f.sectors-fit in
      let k = roots-fit w in
      let roots = spaced (w.header * w.block + 52) w.block n in
      let list = (3 * w.sector + 32) ∷ roots in
      let inodes = (2 * w.sector + 312) ∷ list in
      part-first 224 w.sector xs ys (omega arith) 0 ((w.sector + 216) ∷ inodes) (omega arith) (omega arith)
      ∙ ap (λ (t : Bool). part_right 224 0 w.sector xs ys && t)
      (part-first 216 w.sector xs ys (omega arith) w.sector inodes (omega arith) (omega arith)
      ∙ ap (λ (t : Bool). part_right 216 w.sector w.sector xs ys && t)
      (part-first 312 w.sector xs ys (omega arith) (2 * w.sector) list (omega arith) (omega arith)
      ∙ ap (λ (t : Bool). part_right 312 (2 * w.sector) w.sector xs ys && t)
      (part-first 32 w.sector xs ys (omega arith) (3 * w.sector) roots (omega arith) (omega arith)
      ∙ ap (λ (t : Bool). part_right 32 (3 * w.sector) w.sector xs ys && t)
      (parts_all 52 w.block xs ys (omega arith) (w.header * w.block) n (omega arith) (omega arith)))))

module _ (g : Geometry) (p : AgPlan) (l : length g.label ≡ 12) (h : is_plan g p ≡ true) (xs ys : List ℕ) (lx : length xs ≡ head_length g) (ly : length ys ≡ head_length g) where
  -- A HEAD SAYS YES exactly if its four sectors and its roots do, each by its own bytes before and after.
  pub head-parts : already_right (head_places g) xs ys ≡ head_right (frame_of g p).header (frame_of g p).sector (frame_of g p).block (frame_of g p).features xs ys
  head-parts =
      let r = ready g p (frame_of g p) (head_length g) l h refl refl in
      ap (λ (ps : List ℕ). already_right ps xs ys) (sym (frame-places g p (frame_of g p) refl))
      ∙ frame-parts (frame_of g p) r.fine xs ys (lx ∙ r.exact) (ly ∙ r.exact)

-- A ROOT CHUNK SAYS YES exactly if each of its 64 inodes does.
pub chunk-parts : (size : ℕ) (xs ys : List ℕ) → is_inode size ≡ true → length xs ≡ 64 * size → length ys ≡ 64 * size → already_right (chunk_places size) xs ys ≡ inodes_right size xs ys
unfolding chunk_places inodes_right
chunk-parts size xs ys i lx ly = let s = inode-least size i in parts_all 100 size xs ys (omega arith) 0 64 (omega arith) (omega arith)
