-- Which bytes are refused, by number: an unfinished group 0 above all.
-- Assumes nothing.
use mathlib.Core.Path.{◌≡◌, refl, ap, sym, ◌∙◌}
use mathlib.Core.Bool.{Bool, true, false}
use mathlib.Core.List.{List}
use Prim.Native.Nat.{ℕ, ◌*◌, ◌<◌, ◌≤◌}
use native.Mathlib.Omega.{arith}
use borrow.Author.Tests.{eqb-true, eq-eqb, ne_eqb, lt-ltb, le-ltb, le-leb, lt-leb}
use lib.Dec.{eqb}
use lib.ListN.{length, take}
use Rattle.refusals.specs.Numbers.{no_answer, no_place, not_left, wrong_length}
use Rattle.arith.specs.Choice.{when, bit}
use Rattle.endian.specs.Bytes.{be_at, zeros}
use Rattle.refusals.specs.Table.{first}
use Rattle.geometry.specs.declared.Geometry.{Geometry}
use Rattle.geometry.specs.Log.{prealloc_of}
use Rattle.geometry_answers.specs.declared.Named.{Named}
use Rattle.geometry_answers.specs.Named.{names_of, is_answer}
use Rattle.geometry_layout.proofs.Sizings.{old-accepts}
use Rattle.plan.specs.Plan.{planned}
use Rattle.plan_totals.specs.Totals.{plans_number}
use Rattle.plan_same.specs.Same.{eq_list}
use Rattle.sb.specs.Superblock.{sb_bytes}
use Rattle.head_bytes.specs.Head.{head_length}
use Rattle.head_bytes.proofs.Bytes.{head_first}
use Rattle.sb_states.specs.States.{unfinished_state, state_of}
use Rattle.list_spec.specs.Listing.{head_written, head_left}
use Rattle.list_accepted.specs.Accepted.{Source}
use Rattle.list_accepted.proofs.Runs.{source-plans, source-answer, source-label, source-uuid}
use Rattle.reader_names.specs.Named.{names_at, named_by, uuid_at}
use Rattle.reader_names.proofs.Back.{names-back, progress-back}
use Rattle.reader_names.proofs.Sizings.{same-sizes}
use Rattle.reader_exact.specs.declared.Found.{Found}
use Rattle.reader_exact.specs.Read.{first_tests, read_group0, place_tests, group_number, read_group, read_log}
use Rattle.reader_exact.proofs.Lists.{same_bytes}
use Rattle.reader_exact.proofs.Heads.{head-least, source-bounds, some-group, written-length, left-done}
use Rattle.reader_exact.proofs.First.{number-as, one-of, named-answer, named-length, uuid-length}
use Rattle.reader_exact.proofs.Others.{number_read}

-- ---- group 0

short-as : (roomy : Bool) (xs : List ℕ) → length xs < 512 → first (first_tests xs (named_by roomy xs) (uuid_at xs)) 0 ≡ wrong_length
unfolding first_tests when
short-as roomy xs h = rw (lt-ltb (length xs) 512 h)

unnamed-as : (roomy : Bool) (xs : List ℕ) → 512 ≤ length xs → ((named_by roomy xs).number ≡ 0 → ⊥) → first (first_tests xs (named_by roomy xs) (uuid_at xs)) 0 ≡ not_left
unfolding first_tests when
unnamed-as roomy xs h n = rw (le-ltb (length xs) 512 h, ne_eqb (named_by roomy xs).number 0 n)

either-unnamed : (xs : List ℕ) → ((named_by false xs).number ≡ 0 → ⊥) → (roomy : Bool) → (named_by roomy xs).number ≡ 0 → ⊥
unfolding named_by
either-unnamed xs n true z = n (old-accepts (names_at xs) z).0
either-unnamed xs n false z = n z

-- under 512 bytes
pub short-refused : (xs : List ℕ) → length xs < 512 → (read_group0 xs).number ≡ wrong_length
short-refused xs h = one-of xs (λ (f : Found). f.number ≡ wrong_length) (λ roomy. number-as roomy xs ∙ short-as roomy xs h)

-- a superblock that names no accepted geometry: what plain sizing refuses, roomy sizing refuses too
pub unnamed-refused : (xs : List ℕ) → 512 ≤ length xs → ((named_by false xs).number ≡ 0 → ⊥) → (read_group0 xs).number ≡ not_left
unnamed-refused xs h n = one-of xs (λ (f : Found). f.number ≡ not_left) (λ roomy. number-as roomy xs ∙ unnamed-as roomy xs h (either-unnamed xs n roomy))

differs : (xs ys : List ℕ) (t : Bool) → eq_list eqb xs ys ≡ t → (xs ≡ ys → ⊥) → eq_list eqb xs ys ≡ false
differs xs ys true e n = absurd (n (same_bytes xs ys e))
differs xs ys false e n = e

-- where a sizing accepts what the bytes name, they have its head's length, but it leaves others
abbrev Other : Bool → List ℕ → Type 0
Other roomy xs =
    (named_by roomy xs).number ≡ 0 → (length xs ≡ head_length (named_by roomy xs).geometry) × (xs ≡ head_left (named_by roomy xs).geometry (uuid_at xs) 0 → ⊥)

module _ (roomy : Bool) (xs : List ℕ) (l : 512 ≤ length xs) (o : Other roomy xs) where
  abbrev g : Geometry
  g = (named_by roomy xs).geometry

  last-refuses : (t : Bool) → eqb (named_by roomy xs).number 0 ≡ t → (s : Bool) → eqb (plans_number g) 0 ≡ s → first (first_tests xs (named_by roomy xs) (uuid_at xs)) 0 ≡ not_left
  unfolding first_tests when
  last-refuses false e s f = rw (le-ltb (length xs) 512 l, e)
  last-refuses true e false f =
      let h = o (eqb-true (named_by roomy xs).number 0 e) in
      rw (le-ltb (length xs) 512 l, e, eq-eqb (length xs) (head_length g) h.0, f)
  last-refuses true e true f =
      let h = o (eqb-true (named_by roomy xs).number 0 e) in
      rw (
        le-ltb (length xs) 512 l,
        e,
        eq-eqb (length xs) (head_length g) h.0,
        f,
        differs xs (head_left g (uuid_at xs) 0) (eq_list eqb xs (head_left g (uuid_at xs) 0)) refl h.1,
      )

-- 30 where neither sizing leaves the bytes
pub other-refused : (xs : List ℕ) → 512 ≤ length xs → ((roomy : Bool) → Other roomy xs) → (read_group0 xs).number ≡ not_left
other-refused xs l o =
    one-of xs (λ (f : Found). f.number ≡ not_left)
    (λ roomy. number-as roomy xs ∙ last-refuses roomy xs l (o roomy) (eqb (named_by roomy xs).number 0) refl (eqb (plans_number (named_by roomy xs).geometry) 0) refl)

-- AN UNFINISHED GROUP 0 IS REFUSED: bytes whose first sector is the unfinished superblock
module _ (g : Geometry) (u : List ℕ) (s : Source g u) (xs : List ℕ) (b : take g.sectsize xs ≡ take g.sectsize (head_written g u 0)) where
  begins : take g.sectsize xs ≡ sb_bytes g (state_of g u 0) (zeros g.sectsize)
  unfolding head_written
  begins = b ∙ head_first g (planned g 0).plan u (state_of g u 0)

  unfinished-names : names_at xs ≡ names_of g
  unfolding state_of unfinished_state
  unfinished-names = names-back g (state_of g u 0) (source-uuid g u s) (source-label g u s) (source-answer g u s) xs begins

  -- sb_inprogress is still set
  in-progress : be_at 1 126 xs ≡ 1
  unfolding state_of unfinished_state bit
  in-progress = progress-back g (state_of g u 0) (source-uuid g u s) (source-label g u s) (source-answer g u s) xs begins

  -- under both sizings the head has the same length
  same_length : (roomy : Bool) → (named_by roomy xs).number ≡ 0 → head_length (named_by roomy xs).geometry ≡ head_length g
  unfolding head_length named_by names_of
  same_length roomy z =
      let e = same-sizes (names_at xs) roomy z in
      let f = e.0 ∙ ap (λ (n : Named). n.features) unfinished-names in
      let c = e.1.0 ∙ ap (λ (n : Named). n.sectsize) unfinished-names in
      let d = e.1.1 ∙ ap (λ (n : Named). n.blocksize) unfinished-names in
      λ i. prealloc_of (f i) (c i) (d i) * d i

  pub begun-refused : length xs ≡ head_length g → (read_group0 xs).number ≡ not_left
  begun-refused n =
      let l : 512 ≤ length xs = omega (arith, n, head-least g (source-bounds g u s)) in
      other-refused xs l
      (λ roomy z. (
        n ∙ sym (same_length roomy z),
        (λ e.
            let m : be_at 1 126 xs ≡ be_at 1 126 (head_left (named_by roomy xs).geometry (uuid_at xs) 0) = ap (be_at 1 126) e in
            let d = left-done (named_by roomy xs).geometry (uuid_at xs) (named-length roomy xs l z) (named-answer roomy xs l z) (uuid-length roomy xs l z) in
            omega (arith, m, d, in-progress)),
      ))

-- the whole head before the finished superblock is written
pub unfinished-refused : (g : Geometry) (u : List ℕ) → Source g u → (read_group0 (head_written g u 0)).number ≡ not_left
unfinished-refused g u s = begun-refused g u s (head_written g u 0) refl (written-length g u s 0 (some-group g u s))

-- ---- the other heads and the log

unlike : (xs ys : List ℕ) → (xs ≡ ys → ⊥) → eq_list eqb xs ys ≡ false
unlike xs ys n = by-test (eq_list eqb xs ys) refl
  where
    by-test : (t : Bool) → eq_list eqb xs ys ≡ t → t ≡ false
    by-test true e = absurd (n (same_bytes xs ys e))
    by-test false e = refl

module _ (g : Geometry) (u xs : List ℕ) where
  -- a geometry that is no answer
  pub stranger-refused : (k : ℕ) → is_answer g ≡ false → (read_group g u k xs).number ≡ no_answer
  unfolding group_number place_tests when
  stranger-refused k a = number_read g u k xs ∙ rw a

  -- a group that is not there
  pub past-refused : (k : ℕ) → is_answer g ≡ true → g.agcount ≤ k → (read_group g u k xs).number ≡ no_place
  unfolding group_number place_tests when
  past-refused k a h = number_read g u k xs ∙ rw (a, le-leb g.agcount k h)

  -- a head that is not of the geometry's length
  pub length-refused : (k : ℕ) → is_answer g ≡ true → k < g.agcount → (length xs ≡ head_length g → ⊥) → (read_group g u k xs).number ≡ wrong_length
  unfolding group_number place_tests when
  length-refused k a h n = number_read g u k xs ∙ rw (a, lt-leb g.agcount k h, ne_eqb (length xs) (head_length g) n)

  -- whichever the group, and whichever the bytes, where planning refuses some group of the geometry
  pub unplanned-refused : (k : ℕ) → is_answer g ≡ true → k < g.agcount → length xs ≡ head_length g → (plans_number g ≡ 0 → ⊥) → (read_group g u k xs).number ≡ not_left
  unfolding group_number place_tests when
  unplanned-refused k a h l p =
      number_read g u k xs ∙ rw (a, lt-leb g.agcount k h, eq-eqb (length xs) (head_length g) l, ne_eqb (plans_number g) 0 p)

  -- bytes of the right length that no run leaves there
  pub unlike-refused : (k : ℕ) → is_answer g ≡ true → k < g.agcount → length xs ≡ head_length g → plans_number g ≡ 0 → (xs ≡ head_left g u k → ⊥) → (read_group g u k xs).number ≡ not_left
  unfolding group_number place_tests when
  unlike-refused k a h l p n =
      number_read g u k xs ∙ rw (a, lt-leb g.agcount k h, eq-eqb (length xs) (head_length g) l, eq-eqb (plans_number g) 0 p, unlike xs (head_left g u k) n)

  pub unplanned-log : is_answer g ≡ true → length xs ≡ g.blocksize → (plans_number g ≡ 0 → ⊥) → read_log g u xs ≡ not_left
  unfolding read_log place_tests when
  unplanned-log a l p = rw (a, eq-eqb (length xs) g.blocksize l, ne_eqb (plans_number g) 0 p)
