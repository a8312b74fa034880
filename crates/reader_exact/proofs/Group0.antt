-- GROUP 0'S NUMBER OF ANY BYTES: 27 under 512, 30 where the superblock names no accepted geometry, which plain sizing alone decides; 27 for another
-- length than the head's, which is the same under both sizings; 30 where neither sizing leaves the bytes.
-- Assumes nothing.
use mathlib.Core.Path.{◌≡◌, refl, ap, sym, ◌∙◌}
use mathlib.Core.Bool.{Bool, true, false, cond}
use mathlib.Core.List.{List}
use Prim.Native.Nat.{ℕ, ◌*◌, ◌<◌, ◌≤◌}
use native.Mathlib.Omega.{arith}
use borrow.Author.Tests.{eqb-true, eqb-false, eq-eqb, ne_eqb, le-ltb}
use lib.Dec.{eqb}
use lib.ListN.{length}
use Rattle.endian.specs.Bytes.{Octets}
use Rattle.refusals.specs.Numbers.{not_left, wrong_length}
use Rattle.arith.specs.Choice.{when}
use Rattle.refusals.specs.Table.{first}
use Rattle.geometry.specs.Log.{prealloc_of}
use Rattle.geometry.specs.declared.Geometry.{Geometry}
use Rattle.geometry_layout.proofs.Sizings.{old-accepts}
use Rattle.plan_totals.specs.Totals.{plans_number}
use Rattle.plan_same.specs.Same.{eq_list}
use Rattle.head_bytes.specs.Head.{head_length}
use Rattle.list_spec.specs.Listing.{head_left}
use Rattle.reader_names.specs.Named.{names_at, named_by, uuid_at}
use Rattle.reader_names.proofs.Sizings.{same-sizes}
use Rattle.reader_exact.specs.declared.Found.{Found}
use Rattle.reader_exact.specs.Read.{first_tests, read_sized, read_group0}
use Rattle.reader_exact.specs.Left.{LeftFirst}
use Rattle.reader_exact.proofs.First.{number-as, one-of, sound}

-- what is accepted under either sizing is accepted under plain sizing
pub either-named : (roomy : Bool) (xs : List ℕ) → (named_by roomy xs).number ≡ 0 → (named_by false xs).number ≡ 0
unfolding named_by
either-named true xs z = (old-accepts (names_at xs) z).0
either-named false xs z = z

-- the needed head length is the same for both
pub one-length : (xs : List ℕ) (a b : Bool) → (named_by a xs).number ≡ 0 → (named_by b xs).number ≡ 0 → head_length (named_by a xs).geometry ≡ head_length (named_by b xs).geometry
unfolding head_length named_by
one-length xs a b y z =
    let d = same-sizes (names_at xs) a y in
    let e = same-sizes (names_at xs) b z in
    let f = d.0 ∙ sym e.0 in
    let s = d.1.0 ∙ sym e.1.0 in
    let k = d.1.1 ∙ sym e.1.1 in
    λ i. prealloc_of (f i) (s i) (k i) * k i

-- ---- the tests under one sizing

module _ (roomy : Bool) (xs : List ℕ) (l : 512 ≤ length xs) where
  abbrev g : Geometry
  g = (named_by roomy xs).geometry

  unnamed-is : ((named_by roomy xs).number ≡ 0 → ⊥) → (read_sized roomy xs).number ≡ not_left
  unfolding first_tests when
  unnamed-is n = number-as roomy xs ∙ rw (le-ltb (length xs) 512 l, ne_eqb (named_by roomy xs).number 0 n)

  length-is : (named_by roomy xs).number ≡ 0 → (length xs ≡ head_length g → ⊥) → (read_sized roomy xs).number ≡ wrong_length
  unfolding first_tests when
  length-is z n = number-as roomy xs ∙ rw (le-ltb (length xs) 512 l, eq-eqb (named_by roomy xs).number 0 z, ne_eqb (length xs) (head_length g) n)

  last-is : (named_by roomy xs).number ≡ 0 → length xs ≡ head_length g → (t s : Bool) → eqb (plans_number g) 0 ≡ t → eq_list eqb xs (head_left g (uuid_at xs) 0) ≡ s
      → (first (first_tests xs (named_by roomy xs) (uuid_at xs)) 0 ≡ 0 → ⊥) → first (first_tests xs (named_by roomy xs) (uuid_at xs)) 0 ≡ not_left
  unfolding first_tests when
  last-is z h false s e f n = rw (le-ltb (length xs) 512 l, eq-eqb (named_by roomy xs).number 0 z, eq-eqb (length xs) (head_length g) h, e)
  last-is z h true false e f n = rw (le-ltb (length xs) 512 l, eq-eqb (named_by roomy xs).number 0 z, eq-eqb (length xs) (head_length g) h, e, f)
  last-is z h true true e f n = absurd (n (rw (le-ltb (length xs) 512 l, eq-eqb (named_by roomy xs).number 0 z, eq-eqb (length xs) (head_length g) h, e, f)))

  left_is : (named_by roomy xs).number ≡ 0 → length xs ≡ head_length g → ((read_sized roomy xs).number ≡ 0 → ⊥) → (read_sized roomy xs).number ≡ not_left
  left_is z h n =
      number-as roomy xs
      ∙ last-is z h (eqb (plans_number g) 0) (eq_list eqb xs (head_left g (uuid_at xs) 0)) refl refl (λ e. n (number-as roomy xs ∙ e))

-- ---- under both

module _ (xs : List ℕ) (l : 512 ≤ length xs) (z : (named_by false xs).number ≡ 0) where
  module _ (n : length xs ≡ head_length (named_by false xs).geometry → ⊥) where
    no_less : (t : Bool) → eqb (named_by true xs).number 0 ≡ t → wrong_length ≤ (read_sized true xs).number
    no_less true e =
        let y = eqb-true (named_by true xs).number 0 e in
        let r = length-is true xs l y (λ h. n (h ∙ one-length xs true false y z)) in
        omega arith
    no_less false e = let r = unnamed-is true xs l (eqb-false (named_by true xs).number 0 e) in omega arith

    -- another length than the head's
    pub other_length : (read_group0 xs).number ≡ wrong_length
    unfolding read_group0
    other_length =
        let m = no_less (eqb (named_by true xs).number 0) refl in
        let r = length-is false xs l z n in
        ap (λ (t : Bool). (cond t (read_sized true xs) (read_sized false xs)).number) (le-ltb (read_sized true xs).number (read_sized false xs).number (omega arith)) ∙ r

  module _ (o : Octets xs) (h : length xs ≡ head_length (named_by false xs).geometry) (n : LeftFirst xs → ⊥) where
    not-as : (roomy : Bool) → (read_sized roomy xs).number ≡ 0 → ⊥
    not-as roomy e = n (record { geometry = (named_by roomy xs).geometry; uuid = uuid_at xs; left = sound roomy xs o e })

    each-is : (roomy : Bool) (t : Bool) → eqb (named_by roomy xs).number 0 ≡ t → (read_sized roomy xs).number ≡ not_left
    each-is roomy true e =
        let y = eqb-true (named_by roomy xs).number 0 e in
        left_is roomy xs l y (h ∙ one-length xs false roomy z y) (not-as roomy)
    each-is roomy false e = unnamed-is roomy xs l (eqb-false (named_by roomy xs).number 0 e)

    -- the head's length, and neither sizing leaves the bytes
    pub neither_left : (read_group0 xs).number ≡ not_left
    neither_left = one-of xs (λ (f : Found). f.number ≡ not_left) (λ roomy. each-is roomy (eqb (named_by roomy xs).number 0) refl)
