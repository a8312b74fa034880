-- The two geometries that one name gives, under the two sizings, differ in log and sizing alone; and their heads have the length that the name gives.
-- Assumes nothing.
use mathlib.Core.Path.{◌≡◌, refl, ap, ap₂, sym, ◌∙◌}
use mathlib.Core.Bool.{Bool, true, false}
use Prim.Native.Nat.{ℕ, ◌*◌}
use lib.ListN.{length}
use Rattle.geometry.specs.Sizes.{sizes_of}
use Rattle.geometry.specs.declared.Geometry.{Geometry}
use Rattle.geometry.specs.declared.Computed.{Computed}
use Rattle.geometry.specs.Compute.{with_groups, with_sizes, chosen_of, geometry_of}
use Rattle.geometry_answers.specs.declared.Named.{Named}
use Rattle.geometry_answers.specs.Named.{named_options, named_on, named_answer, names_of, is_answer}
use Rattle.geometry_answers.proofs.Again.{its-geometry}
use Rattle.geometry_answers.proofs.Exact.{fitting, accepted-fits, answer-again, complete, sound}
use Rattle.geometry_layout.proofs.Sizings.{old-accepts}
use Rattle.reader_names.specs.Sizings.{sized, plain}
use Rattle.reader_names.proofs.Answer.{answered}

module _ (n : Named) where
  -- what the geometry step chooses for the name
  unfoldable chosen : Bool → Geometry
  chosen roomy = geometry_of (named_options roomy n) (chosen_of (named_options roomy n) (n.dblocks * n.blocksize) 512 512)

  answer-chosen : (roomy : Bool) → (named_answer roomy n).number ≡ 0 → (named_answer roomy n).geometry ≡ chosen roomy
  unfolding named_on chosen
  answer-chosen roomy z =
      let i = fitting roomy n (accepted-fits roomy n z) in
      let e : (named_on roomy n 512).number ≡ 0 = ap (λ (c : Computed). c.number) (sym i) ∙ z in
      ap (λ (c : Computed). c.geometry) i ∙ its-geometry (named_options roomy n) (n.dblocks * n.blocksize) 512 512 e

  chosen-both : plain (chosen true) ≡ sized (chosen false) (chosen true).logblocks false
  unfolding chosen geometry_of chosen_of with_sizes with_groups sizes_of named_options
  chosen-both = refl

  chosen-false : (chosen false).roomy ≡ false
  unfolding chosen geometry_of named_options
  chosen-false = refl

  -- what is accepted under a sizing is what is accepted under plain sizing, but for log and sizing
  pub but-for-log : (roomy : Bool) → (named_answer roomy n).number ≡ 0 → (named_answer false n).number ≡ 0 → plain (named_answer roomy n).geometry ≡ sized (named_answer false n).geometry (named_answer roomy n).geometry.logblocks false
  but-for-log true y z =
      let t = answer-chosen true y in
      let f = answer-chosen false z in
      ap plain t ∙ chosen-both ∙ ap₂ (λ (g : Geometry) (m : ℕ). sized g m false) (sym f) (ap (λ (g : Geometry). g.logblocks) (sym t))
  but-for-log false y z = refl

  -- where both are accepted with the same log, one is the other but for the sizing
  pub one_name : (named_answer true n).number ≡ 0 → (named_answer false n).number ≡ 0 → (named_answer true n).geometry.logblocks ≡ (named_answer false n).geometry.logblocks → plain (named_answer true n).geometry ≡ (named_answer false n).geometry
  one_name y z e =
      let old = (named_answer false n).geometry in
      let o : old.roomy ≡ false = ap (λ (g : Geometry). g.roomy) (answer-chosen false z) ∙ chosen-false in
      but-for-log true y z ∙ ap (λ (m : ℕ). sized old m false) e ∙ ap (sized old old.logblocks) (sym o)

  chosen-sizes : (roomy : Bool) → ((chosen roomy).features ≡ n.features) × (((chosen roomy).sectsize ≡ n.sectsize) × ((chosen roomy).blocksize ≡ n.blocksize))
  unfolding chosen geometry_of chosen_of with_sizes with_groups sizes_of named_options
  chosen-sizes roomy = (refl, (refl, refl))

  -- features, sector and block size are those of the name
  pub same-sizes : (roomy : Bool) → (named_answer roomy n).number ≡ 0 → ((named_answer roomy n).geometry.features ≡ n.features) × (((named_answer roomy n).geometry.sectsize ≡ n.sectsize) × ((named_answer roomy n).geometry.blocksize ≡ n.blocksize))
  same-sizes roomy z = rw (answer-chosen roomy z) (chosen-sizes roomy)

-- ---- a roomy answer is one of plain sizing too, but for the field, exactly where both give the same log

module _ (g : Geometry) (l : length g.label ≡ 12) (a : is_answer g ≡ true) (r : g.roomy ≡ true) where
  again : named_answer true (names_of g) ≡ record { number = 0; geometry = g }
  again = ap (λ (t : Bool). named_answer t (names_of g)) (sym r) ∙ answer-again g (sound g l a)

  pub same_log : (named_answer false (names_of g)).geometry.logblocks ≡ g.logblocks → is_answer (plain g) ≡ true
  unfolding names_of
  same_log e =
      let y : (named_answer true (names_of g)).number ≡ 0 = ap (λ (c : Computed). c.number) again in
      let z = (old-accepts (names_of g) y).0 in
      let i : plain (named_answer true (names_of g)).geometry ≡ plain g = ap (λ (c : Computed). plain c.geometry) again in
      let h = one_name (names_of g) y z (ap (λ (c : Computed). c.geometry.logblocks) again ∙ sym e) in
      ap is_answer (sym i ∙ h) ∙ complete (named_answer false (names_of g)).geometry (answered false (names_of g) l z)

  pub log-same : is_answer (plain g) ≡ true → (named_answer false (names_of g)).geometry.logblocks ≡ g.logblocks
  unfolding names_of
  log-same b = ap (λ (c : Computed). c.geometry.logblocks) (answer-again (plain g) (sound (plain g) l b))
