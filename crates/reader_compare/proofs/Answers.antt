-- The number of a place, test by test.
-- Assumes nothing.
use mathlib.Core.Path.{◌≡◌, refl}
use mathlib.Core.Bool.{Bool, true, false, not}
use mathlib.Core.List.{List}
use Prim.Native.Nat.{ℕ}
use borrow.Author.Tests.{eq-eqb, ne_eqb}
use lib.Dec.{eqb}
use lib.ListN.{length}
use Rattle.refusals.specs.Numbers.{not_left, no_answer, no_place, wrong_length}
use Rattle.arith.specs.Choice.{when}
use Rattle.refusals.specs.Table.{first}
use Rattle.geometry.specs.declared.Geometry.{Geometry}
use Rattle.geometry_answers.specs.Named.{is_answer}
use Rattle.plan_totals.specs.Totals.{plans_number}
use Rattle.plan_same.specs.Same.{eq_list}
use Rattle.reader_exact.specs.Read.{place_tests}

module _ (g : Geometry) (past : Bool) (size : ℕ) (left xs : List ℕ) where
  pub no_answer_lem : is_answer g ≡ false → no_answer ≡ first (place_tests g past size left xs) 0
  unfolding place_tests when
  no_answer_lem h = rw h refl

  module _ (a : is_answer g ≡ true) where
    pub no_place_lem : past ≡ true → no_place ≡ first (place_tests g past size left xs) 0
    unfolding place_tests when
    no_place_lem h = rw (a, h) refl

    module _ (p : past ≡ false) where
      pub wrong-length : (length xs ≡ size → ⊥) → wrong_length ≡ first (place_tests g past size left xs) 0
      unfolding place_tests when
      wrong-length h = rw (a, p, ne_eqb (length xs) size h) refl

      module _ (e : length xs ≡ size) where
        pub no-plans : (plans_number g ≡ 0 → ⊥) → not_left ≡ first (place_tests g past size left xs) 0
        unfolding place_tests when
        no-plans h = rw (a, p, eq-eqb (length xs) size e, ne_eqb (plans_number g) 0 h) refl

        pub compared : (t : Bool) → plans_number g ≡ 0 → t ≡ eq_list eqb xs left → when (not t) not_left 0 ≡ first (place_tests g past size left xs) 0
        unfolding place_tests when
        compared t h d = rw (a, p, eq-eqb (length xs) size e, eq-eqb (plans_number g) 0 h, d) refl
