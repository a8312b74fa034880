-- What follows from `code-behind`: the geometry step gives equal answers with code 13 and without, and with 0 the run is the same.
-- Assumes nothing.
use Rattle.std.specs.Prelude.{None}
use mathlib.Core.Path.{◌≡◌, refl, ap, ◌∙◌}
use mathlib.Core.Bool.{true, false}
use mathlib.Core.List.{List, ◌++◌}
use Prim.Native.Nat.{ℕ, ◌<◌}
use lib.Dec.{eqb, lit<}
use Rattle.request_input.specs.Records.{option, records, value_with, well_formed}
use Rattle.request.specs.Options.{turned_on, profile_of}
use Rattle.request.specs.Parse.{under, parse_def}
use Rattle.request.specs.Cases.{op}
use Rattle.run.specs.Runs.{step_of, run_of, accepted}
use Rattle.run.proofs.Profile.{step-ignores}
use Rattle.request_profile.proofs.Behind.{code-behind}

module _ (xs : List ℕ) (well : well_formed xs ≡ true) (free : value_with (option 13) (records 0 xs) ≡ None) (v : ℕ) (bit : v < 2) where
  -- EQUAL ANSWERS OF THE GEOMETRY STEP
  pub step-behind : step_of (parse_def (xs ++ op 13 v)) ≡ step_of (parse_def xs)
  step-behind = ap step_of (code-behind xs well free v bit) ∙ step-ignores (parse_def xs) (eqb v 1)

  not-turned : profile_of xs ≡ false
  unfolding profile_of
  not-turned = ap turned_on free

  own-under : under false (parse_def xs) ≡ parse_def xs
  unfolding parse_def
  own-under = rw (well, not-turned) refl

-- 0 is as absent
pub zero-behind : (xs : List ℕ) → well_formed xs ≡ true → value_with (option 13) (records 0 xs) ≡ None → accepted (xs ++ op 13 0) ≡ accepted xs
unfolding accepted
zero-behind xs well free = ap run_of (code-behind xs well free 0 (lit< tt) ∙ own-under xs well free 0 (lit< tt))
