-- What a plan of the planner says of its head, and which number is answered.
-- Assumes nothing.
use mathlib.Core.Path.{◌≡◌, refl, ap, sym, ◌∙◌}
use mathlib.Core.Bool.{Bool, true, false, cond}
use mathlib.Core.List.{List, ◌++◌}
use Prim.Native.Nat.{ℕ, ◌+◌, ◌*◌, ◌≤◌, ◌<◌, ◌^◌}
use native.Mathlib.Nat.{mul-le-mul, mul-le-mul_right}
use native.Mathlib.Omega.{arith}
use lib.Dec.{eqb}
use lib.ListN.{length}
use borrow.Author.Tests.{eq-eqb, ne_eqb}
use Rattle.endian.specs.Bytes.{zeros}
use Rattle.refusals.specs.Numbers.{no_answer}
use Rattle.geometry.specs.declared.Geometry.{Geometry}
use Rattle.geometry.specs.Log.{prealloc_of}
use Rattle.geometry_answers.specs.Named.{is_answer}
use Rattle.geometry_layout.proofs.Bounding.{answer-bounds}
use Rattle.structs.specs.Written.{require}
use Rattle.sb.specs.declared.SbState.{SbState}
use Rattle.sb.specs.Superblock.{sb_number, sb_bytes}
use Rattle.plan.specs.declared.AgPlan.{AgPlan}
use Rattle.plan.specs.Plan.{planned}
use Rattle.plan_same.specs.Same.{is_plan}
use Rattle.head_frame.specs.declared.Frame.{Frame}
use Rattle.head_frame.specs.Frames.{frame_of, framed, FrameBounds, FewRecords, Counted}
use Rattle.plan_summary.proofs.Narrow.{plan-answer}
use Rattle.head_frame.proofs.Fitting.{plan-few, plan-fine, framed-number}
use Rattle.head_bytes.specs.Head.{frame_blocks, behind_bytes, head_bytes, head_length, head_number, group_head_number}
use Rattle.head_bytes.proofs.Whole.{three-inside}

pub sb-accepted : (g : Geometry) (len : ℕ) → is_answer g ≡ true → len ≡ g.sectsize → sb_number g len ≡ 0
unfolding sb_number
sb-accepted g len h e = rw (h, eq-eqb len g.sectsize e) refl

-- the head's blocks are the preallocated ones
pub blocks-are : (g : Geometry) (p : AgPlan) → frame_blocks (frame_of g p) * (frame_of g p).block ≡ head_length g
unfolding frame_of frame_blocks head_length prealloc_of
blocks-are g p = refl

pub record Ready (g : Geometry) (p : AgPlan) (w : Frame) (len : ℕ) : Type 0 where
  pub answer : is_answer g ≡ true
  pub sector : w.sector ≡ g.sectsize
  pub fine : FrameBounds w
  pub few : FewRecords p
  pub counted : Counted w p
  pub headers : w.header * w.block ≤ len
  pub exact : len ≡ frame_blocks w * w.block
  pub all : frame_blocks w * w.block ≤ len

sector-is : (g : Geometry) (p : AgPlan) → (frame_of g p).sector ≡ g.sectsize
unfolding frame_of
sector-is g p = refl

counted_is : (g : Geometry) (p : AgPlan) → Counted (frame_of g p) p
unfolding frame_of
counted_is g p = record { blocks = refl; longest = refl; list = refl }

pub ready : (g : Geometry) (p : AgPlan) (w : Frame) (len : ℕ) → length g.label ≡ 12 → is_plan g p ≡ true → w ≡ frame_of g p → len ≡ head_length g → Ready g p w len
ready g p w len l h e n =
    let x : len ≡ frame_blocks w * w.block = n ∙ sym (blocks-are g p) ∙ rw e refl in
    let t = three-inside w in
    let m : w.header * w.block ≤ frame_blocks w * w.block = mul-le-mul_right w.block (omega arith) in
    record {
      answer = (plan-answer g p l h).0;
      sector = rw e (sector-is g p);
      fine = rw e (plan-fine g p l h);
      few = plan-few g p l h;
      counted = rw e (counted_is g p);
      headers = omega arith;
      exact = x;
      all = omega arith;
    }

-- the head's bytes from its parts
pub head-from : (g : Geometry) (p : AgPlan) (w : Frame) (uuid : List ℕ) (s : SbState) → w ≡ frame_of g p
    → sb_bytes g s (zeros w.sector) ++ behind_bytes w p uuid ≡ head_bytes g p uuid s
unfolding head_bytes
head-from g p w uuid s e = rw e (rw (sector-is g p) refl)

-- its length fits 64 bits
pub length-fits : (g : Geometry) (p : AgPlan) → length g.label ≡ 12 → is_plan g p ≡ true → prealloc_of g.features g.sectsize g.blocksize * g.blocksize < 2 ^ 64
unfolding frame_of
length-fits g p l h =
    let a = (answer-bounds g l (plan-answer g p l h).0).places.head-most in
    let b : g.blocksize ≤ 16384 = (plan-fine g p l h).block-most in
    let m : prealloc_of g.features g.sectsize g.blocksize * g.blocksize ≤ 10 * 16384 = mul-le-mul a b in
    omega arith

-- ---- the number

refused-at : (t : Bool) (n rest : ℕ) → n ≡ cond t 0 no_answer → (n ≡ 0 → ⊥) → t ≡ false
refused-at true n rest e z = absurd (z e)
refused-at false n rest e z = refl

pub head-refused : (g : Geometry) (p : AgPlan) (len : ℕ) → ((framed g p).number ≡ 0 → ⊥) → head_number g p len ≡ (framed g p).number
unfolding head_number
head-refused g p len z =
    let t = refused-at (is_plan g p) (framed g p).number 0 (framed-number g p) z in
    let a : head_number g p len ≡ no_answer = rw t refl in
    let b : (framed g p).number ≡ no_answer = framed-number g p ∙ ap (λ (x : Bool). cond {A = ℕ} x 0 no_answer) t in
    a ∙ sym b

-- what the length alone says
pub length-wrong : (g : Geometry) (len : ℕ) → (len ≡ head_length g → ⊥) → require 27 (eqb len (head_length g)) 0 ≡ 27
length-wrong g len z = rw (ne_eqb len (head_length g) z) refl

pub length-right : (g : Geometry) (len : ℕ) → len ≡ head_length g → require 27 (eqb len (head_length g)) 0 ≡ 0
length-right g len e = rw (eq-eqb len (head_length g) e) refl

-- the length is what is left to ask of a plan of the planner
pub plan-numbered : (g : Geometry) (p : AgPlan) (len : ℕ) → is_plan g p ≡ true → head_number g p len ≡ require 27 (eqb len (head_length g)) 0
unfolding head_number
plan-numbered g p len h = rw h refl

-- ---- of a group by its number

pub group-refused : (g : Geometry) (k len : ℕ) → ((planned g k).number ≡ 0 → ⊥) → group_head_number g k len ≡ (planned g k).number
unfolding group_head_number
group-refused g k len z = rw (ne_eqb (planned g k).number 0 z) refl

pub group-numbered : (g : Geometry) (k len : ℕ) → (planned g k).number ≡ 0 → group_head_number g k len ≡ require 27 (eqb len (head_length g)) 0
unfolding group_head_number
group-numbered g k len e = rw e refl

pub group-accepted : (g : Geometry) (k len : ℕ) → (planned g k).number ≡ 0 → len ≡ head_length g → group_head_number g k len ≡ 0
group-accepted g k len e n = group-numbered g k len e ∙ length-right g len n
