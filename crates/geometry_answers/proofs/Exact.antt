-- 31 is exact: `is_answer` holds exactly of the answers of the geometry step.
-- Assumes nothing.
use mathlib.Core.Path.{◌≡◌, refl, ap, sym, ◌∙◌}
use mathlib.Core.Bool.{Bool, true, false, cond}
use Prim.Native.Nat.{ℕ, ◌*◌, ◌^◌}
use native.Mathlib.Omega.{arith}
use borrow.Author.Tests.{eqb-true, lt-ltb, ltb-true}
use lib.Dec.{eqb, ltb}
use lib.ListN.{length}
use Rattle.refusals.specs.Numbers.{not_left}
use Rattle.arith.proofs.Both.{both_true, left-true, right-true}
use Rattle.geometry_answers.specs.declared.Named.{Named}
use Rattle.geometry.specs.declared.Geometry.{Geometry}
use Rattle.geometry.specs.declared.Computed.{Computed}
use Rattle.geometry.specs.Compute.{compute_def, step_refused}
use Rattle.geometry_answers.specs.Same.{same_geometry}
use Rattle.geometry_answers.specs.Named.{named_options, named_on, named_fits, named_answer, names_of, is_answer}
use Rattle.geometry_answers.specs.Answers.{Answered, TypedOptions, TypedGeometry, TypedAnswer}
use Rattle.geometry_answers.proofs.Again.{again, sizing-kept, bytes, label_kept}
use Rattle.geometry_answers.proofs.Equal.{geometry-refl, same-is}

-- where the bytes fit, the answer is the step's
pub fitting : (roomy : Bool) (n : Named) → named_fits n ≡ true → named_answer roomy n ≡ named_on roomy n 512
unfolding named_answer
fitting roomy n h = rw h

-- a named geometry that is accepted has bytes that fit
fit-case : (roomy : Bool) (n : Named) (t : Bool) → named_fits n ≡ t → (named_answer roomy n).number ≡ 0 → named_fits n ≡ true
unfolding named_answer
fit-case roomy n true h e = h
fit-case roomy n false h e = absurd (let z : ◌≡◌ {A = ℕ} not_left 0 = sym (ap (λ (t : Bool). (cond t (named_on roomy n 512) (step_refused not_left)).number) h) ∙ e in omega arith)

pub accepted-fits : (roomy : Bool) (n : Named) → (named_answer roomy n).number ≡ 0 → named_fits n ≡ true
accepted-fits roomy n e = fit-case roomy n (named_fits n) refl e

module _ (g : Geometry) (a : Answered g) where
  its-number : (compute_def a.options a.device a.logical a.physical).number ≡ 0
  its-number = ap (λ (x : Computed). x.number) a.accepted

  its-geometry : (compute_def a.options a.device a.logical a.physical).geometry ≡ g
  its-geometry = ap (λ (x : Computed). x.geometry) a.accepted

  answer-fits : named_fits (names_of g) ≡ true
  unfolding named_fits names_of
  answer-fits =
      let b = rw its-geometry at (bytes a.options a.device a.logical a.physical its-number) in
      let s = a.small in
      both_true (ltb (g.dblocks * g.blocksize) (2 ^ 64)) (ltb (g.agsize * g.blocksize) (2 ^ 64))
      (lt-ltb (g.dblocks * g.blocksize) (2 ^ 64) (omega arith))
      (lt-ltb (g.agsize * g.blocksize) (2 ^ 64) (omega arith))

  -- what an answer names gives it again, with any physical sector
  pub named_again : (other : ℕ) → named_on g.roomy (names_of g) other ≡ record { number = 0; geometry = g }
  named_again other =
      ap (λ (x : Geometry). named_on x.roomy (names_of x) other) (sym its-geometry)
      ∙ ap (λ (t : Bool). named_on t (names_of (compute_def a.options a.device a.logical a.physical).geometry) other) (sizing-kept a.options a.device a.logical a.physical its-number)
      ∙ again a.options a.device a.logical a.physical other a.label its-number
      ∙ a.accepted

  pub answer-again : named_answer g.roomy (names_of g) ≡ record { number = 0; geometry = g }
  answer-again = fitting g.roomy (names_of g) answer-fits ∙ named_again 512

  -- the geometry of an accepted answer is an answer
  pub complete : is_answer g ≡ true
  unfolding is_answer
  complete = rw (answer-again, geometry-refl g)

-- what is named, and the same as g, is an answer
unfoldable pub named-answered : (g : Geometry) → length g.label ≡ 12 → named_fits (names_of g) ≡ true → (named_on g.roomy (names_of g) 512).number ≡ 0 → same_geometry (named_on g.roomy (names_of g) 512).geometry g ≡ true → Answered g
unfolding named_fits names_of named_on named_options
named-answered g label f z s =
    let p = named_options g.roomy (names_of g) in
    let d = g.dblocks * g.blocksize in
    let r = compute_def p d 512 512 in
    let e : r.geometry ≡ g = same-is r.geometry g (label_kept p d 512 512 label z) label s in
    record {
      options = p;
      label = label;
      device = d;
      small = ltb-true d (2 ^ 64) (left-true (ltb d (2 ^ 64)) _ f);
      logical = 512;
      physical = 512;
      accepted = λ i. record { number = z i; geometry = e i };
    }

-- an answer comes from what it names
unfoldable pub sound : (g : Geometry) → length g.label ≡ 12 → is_answer g ≡ true → Answered g
unfolding is_answer
sound g label h =
    let n = names_of g in
    let z : (named_answer g.roomy n).number ≡ 0 = eqb-true (named_answer g.roomy n).number 0 (left-true (eqb (named_answer g.roomy n).number 0) _ h) in
    let f : named_fits n ≡ true = accepted-fits g.roomy n z in
    named-answered g label f (sym (ap (λ (x : Computed). x.number) (fitting g.roomy n f)) ∙ z)
    (rw (fitting g.roomy n f) at (right-true (eqb (named_answer g.roomy n).number 0) _ h))

named-typed : (g : Geometry) → TypedGeometry g → named_fits (names_of g) ≡ true → TypedOptions (named_options g.roomy (names_of g))
unfolding named_options names_of named_fits
named-typed g t f =
    record {
      size = omega arith;
      block_size = t.blocksize;
      sector-size = t.sectsize;
      inode-size = t.inodesize;
      agcount = omega arith;
      agsize =
          ltb-true (g.agsize * g.blocksize) (2 ^ 64) (right-true (ltb (g.dblocks * g.blocksize) (2 ^ 64)) _ f);
      imaxpct = t.imaxpct;
      label-length = omega arith;
      label-size = t.label-size;
      label-bytes = t.label-bytes;
    }

typed : (g : Geometry) → TypedGeometry g → is_answer g ≡ true → TypedAnswer g
unfolding is_answer sound named-answered
typed g t h =
    let z : (named_answer g.roomy (names_of g)).number ≡ 0 = eqb-true (named_answer g.roomy (names_of g)).number 0 (left-true (eqb (named_answer g.roomy (names_of g)).number 0) _ h) in
    record {
      answered = sound g t.label-size h;
      options = named-typed g t (accepted-fits g.roomy (names_of g) z);
      logical = omega arith;
      physical = omega arith;
    }

-- 31 is exact: a geometry passes exactly where some options and some device have it as their accepted answer
pub exact : (g : Geometry) → TypedGeometry g → (is_answer g ≡ true → TypedAnswer g) × (Answered g → is_answer g ≡ true)
exact g t = (typed g t, complete g)
