-- What is read for the name, by the length.
-- Assumes nothing.
use mathlib.Core.Path.{◌≡◌, refl, sym}
use mathlib.Core.Bool.{Bool}
use mathlib.Core.List.{List}
use Prim.Native.Nat.{ℕ, ◌≤◌, ◌<◌}
use lib.ListN.{length, replicate}
use borrow.Author.Tests.{lt-ltb, le-ltb}
use Rattle.refusals.specs.Numbers.{wrong_length}
use Rattle.geometry.specs.declared.Computed.{Computed}
use Rattle.geometry.specs.declared.Geometry.{Geometry}
use Rattle.geometry.specs.Compute.{step_refused, zero_geometry}
use Rattle.geometry_answers.specs.Named.{named_answer}
use Rattle.reader_names.specs.Named.{names_at, named_by, uuid_at}
use Rattle.reader_names.specs.Read.{named_read, uuid_read}

module _ (xs : List ℕ) where
  pub short-name : (roomy : Bool) → length xs < 512 → named_read roomy xs ≡ step_refused wrong_length
  unfolding named_read
  short-name roomy h = rw (lt-ltb (length xs) 512 h) refl

  pub short-read : (roomy : Bool) → length xs < 512 → (g : Geometry) → g ≡ zero_geometry → ◌≡◌ {A = Computed} (record { number = wrong_length; geometry = g }) (named_read roomy xs)
  short-read roomy h g e = rw e (sym (short-name roomy h))

  pub full-name : (roomy : Bool) → 512 ≤ length xs → named_read roomy xs ≡ named_by roomy xs
  unfolding named_read
  full-name roomy h = rw (le-ltb (length xs) 512 h) refl

  pub full-answer : (roomy : Bool) → 512 ≤ length xs → named_read roomy xs ≡ named_answer roomy (names_at xs)
  unfolding named_read named_by
  full-answer roomy h = rw (le-ltb (length xs) 512 h) refl

  pub short-uuid : length xs < 512 → uuid_read xs ≡ replicate 16 0
  unfolding uuid_read
  short-uuid h = rw (lt-ltb (length xs) 512 h) refl

  pub full-uuid : 512 ≤ length xs → uuid_read xs ≡ uuid_at xs
  unfolding uuid_read
  full-uuid h = rw (le-ltb (length xs) 512 h) refl
