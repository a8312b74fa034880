-- Laws of a head's bytes, for the formatter and the reader.
-- Assumes nothing.
use mathlib.Core.Path.{◌≡◌, refl, ap, sym, ◌∙◌}
use mathlib.Core.Bool.{true}
use mathlib.Core.List.{List, ◌++◌}
use Prim.Native.Nat.{ℕ, ◌*◌}
use lib.ListN.{length, take, drop, replicate, length-replicate}
use lib.Seq.{take_at, drop_at}
use Rattle.endian.specs.Bytes.{zeros}
use Rattle.geometry.specs.declared.Geometry.{Geometry}
use Rattle.sb.specs.declared.SbState.{SbState}
use Rattle.sb.specs.Superblock.{sb_bytes}
use Rattle.plan.specs.declared.AgPlan.{AgPlan}
use Rattle.plan_same.specs.Same.{is_plan}
use Rattle.head_frame.specs.Frames.{frame_of}
use Rattle.head_bytes.specs.Head.{behind_bytes, head_bytes, head_length}
use Rattle.head_bytes.proofs.Lending.{sb-length}
use Rattle.head_bytes.proofs.Ready.{blocks-are, ready, head-from}
use Rattle.head_bytes.proofs.Whole.{whole_length}

module _ (g : Geometry) (p : AgPlan) (uuid : List ℕ) (s : SbState) where
  first-length : length (sb_bytes g s (zeros g.sectsize)) ≡ g.sectsize
  first-length = sb-length g s (zeros g.sectsize) ∙ length-replicate {A = ℕ} g.sectsize 0

  -- THE FIRST SECTOR IS THE SUPERBLOCK
  pub head_first : take g.sectsize (head_bytes g p uuid s) ≡ sb_bytes g s (zeros g.sectsize)
  unfolding head_bytes
  head_first = take_at (sb_bytes g s (zeros g.sectsize)) (behind_bytes (frame_of g p) p uuid) g.sectsize first-length

  -- WHAT LIES BEHIND IT DEPENDS ON GEOMETRY, PLAN AND UUID ALONE
  pub head-behind : drop g.sectsize (head_bytes g p uuid s) ≡ behind_bytes (frame_of g p) p uuid
  unfolding head_bytes
  head-behind = drop_at (sb_bytes g s (zeros g.sectsize)) (behind_bytes (frame_of g p) p uuid) g.sectsize first-length

  -- A HEAD HAS THE LENGTH OF ITS BLOCKS
  pub head-length : length g.label ≡ 12 → is_plan g p ≡ true → length (head_bytes g p uuid s) ≡ head_length g
  head-length l h =
      let lent = replicate {A = ℕ} (head_length g) 0 in
      let r = ready g p (frame_of g p) (length lent) l h refl (length-replicate {A = ℕ} (head_length g) 0) in
      ap (λ (x : List ℕ). length x) (sym (head-from g p (frame_of g p) uuid s refl))
      ∙ whole_length (frame_of g p) p g s uuid lent r.fine r.exact
      ∙ blocks-are g p

-- two states leave the same bytes behind the superblock
pub behind-same : (g : Geometry) (p : AgPlan) (uuid : List ℕ) (s t : SbState) → drop g.sectsize (head_bytes g p uuid s) ≡ drop g.sectsize (head_bytes g p uuid t)
behind-same g p uuid s t = head-behind g p uuid s ∙ sym (head-behind g p uuid t)
