-- The reader's answers, test by test.
-- Assumes nothing.
use mathlib.Core.Path.{◌≡◌, refl}
use mathlib.Core.Bool.{Bool, true}
use mathlib.Core.List.{List}
use Prim.Native.Nat.{ℕ, ◌<◌, ◌≤◌}
use borrow.Author.Tests.{eq-eqb, ne_eqb, lt-ltb, le-ltb, lt-leb}
use lib.ListN.{length, replicate}
use Rattle.refusals.specs.Numbers.{not_left}
use Rattle.arith.specs.Choice.{when}
use Rattle.refusals.specs.Table.{first}
use Rattle.geometry.specs.declared.Geometry.{Geometry}
use Rattle.geometry.specs.Compute.{zero_geometry}
use Rattle.geometry_answers.specs.Named.{is_answer}
use Rattle.plan.specs.declared.Planned.{Planned}
use Rattle.plan.specs.Plan.{refused_plan, planned}
use Rattle.reader_names.specs.Named.{named_by, uuid_at}
use Rattle.reader_exact.specs.declared.Found.{Found}
use Rattle.reader_exact.specs.Read.{not_found, found, first_tests, found_as, read_sized, place_tests, group_number, read_group}

-- ---- any group

module _ (g : Geometry) (u : List ℕ) (k : ℕ) (xs : List ℕ) where
  pub refused : (n : ℕ) → n ≡ group_number g u k xs → (n ≡ 0 → ⊥) → refused_plan n ≡ read_group g u k xs
  unfolding read_group
  refused n e h = rw (← e, ne_eqb n 0 h) refl

  pub accepted : (n : ℕ) → n ≡ group_number g u k xs → n ≡ 0 → (q : Planned) → q ≡ planned g k → ◌≡◌ {A = Planned} (record { number = 0; plan = q.plan }) (read_group g u k xs)
  unfolding read_group
  accepted n e z q d = rw (d, ← e, z) refl

-- ---- group 0

-- a refusal with zeros
pub none_found : (n : ℕ) (g : Geometry) (q : Planned) → g ≡ zero_geometry → q ≡ refused_plan n → ◌≡◌ {A = Found} (record { number = n; geometry = g; uuid = replicate 16 0; plan = q.plan }) (not_found n)
none_found n g q e d = rw (e, d) refl

module _ (roomy : Bool) (xs : List ℕ) where
  pub short : length xs < 512 → not_found 27 ≡ read_sized roomy xs
  unfolding read_sized first_tests found_as when
  short h = rw (lt-ltb (length xs) 512 h) refl

  module _ (l : 512 ≤ length xs) where
    pub not_named : ((named_by roomy xs).number ≡ 0 → ⊥) → not_found not_left ≡ read_sized roomy xs
    unfolding read_sized first_tests found_as when
    not_named h = rw (le-ltb (length xs) 512 l, ne_eqb (named_by roomy xs).number 0 h) refl

    module _ (z : (named_by roomy xs).number ≡ 0) (a : is_answer (named_by roomy xs).geometry ≡ true) (c : 0 < (named_by roomy xs).geometry.agcount) (n : ℕ) (e : n ≡ group_number (named_by roomy xs).geometry (uuid_at xs) 0 xs) where
      number_is : first (first_tests xs (named_by roomy xs) (uuid_at xs)) 0 ≡ n
      unfolding first_tests group_number place_tests when
      number_is = rw (e, le-ltb (length xs) 512 l, eq-eqb (named_by roomy xs).number 0 z, a, lt-leb (named_by roomy xs).geometry.agcount 0 c) refl

      pub refused-first : (n ≡ 0 → ⊥) → not_found n ≡ read_sized roomy xs
      unfolding read_sized found_as
      refused-first h = rw (number_is, ne_eqb n 0 h) refl

      pub accepted-first : n ≡ 0 → found (named_by roomy xs).geometry (uuid_at xs) (planned (named_by roomy xs).geometry 0).plan ≡ read_sized roomy xs
      unfolding read_sized found_as
      accepted-first h = rw (number_is, h) refl
