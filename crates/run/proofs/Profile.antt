-- A RUN UNDER THE PROFILE: accepted exactly where the run without it is and the rules hold, 37 exactly where that run is accepted and a rule
-- fails, and any other number as without it. The geometry step answers the same.
-- Assumes nothing.
use mathlib.Core.Path.{◌≡◌, refl, sym, ap, ◌∙◌}
use mathlib.Core.Bool.{Bool, true, false, cond}
use mathlib.Core.Logic.{◌↔◌}
use Prim.Native.Nat.{ℕ}
use borrow.Author.Tests.{eqb-true, eq-eqb, ne_eqb}
use lib.Dec.{eqb}
use Rattle.refusals.specs.Numbers.{not_in_profile}
use Rattle.request.specs.declared.Request.{Request}
use Rattle.request.specs.Parse.{under}
use Rattle.profile.specs.Rules.{in_profile, profile_number}
use Rattle.profile.proofs.Labels.{not-under, number-allowed, allowed-number, refused-number}
use Rattle.run.specs.Runs.{or_next, step_of, bare_number, run_number}
use Rattle.run.proofs.Accepted.{none}

module _ (r : Request) where
  -- EQUAL ANSWERS WITH AND WITHOUT
  pub step-ignores : (on : Bool) → step_of (under on r) ≡ step_of r
  unfolding step_of
  step-ignores on = refl

  bare-ignores : (on : Bool) → bare_number (under on r) ≡ bare_number r
  unfolding bare_number step_of
  bare-ignores on = refl

  -- the rules, asked of what the geometry step gives and of the label that is asked for
  abbrev pub Rules : Type 0
  Rules = in_profile (step_of r).geometry r.params.label ≡ true

  number-under : (on : Bool) → run_number (under on r) ≡ or_next (bare_number r) (profile_number on (step_of r).geometry r.params.label)
  unfolding run_number bare_number step_of
  number-under on = refl

  last_none : (n : ℕ) → or_next n 0 ≡ n
  last_none n = go (eqb n 0) refl
    where
      go : (t : Bool) → eqb n 0 ≡ t → cond t 0 n ≡ n
      go true e = sym (eqb-true n 0 e)
      go false e = refl

  -- without the profile
  pub without : run_number (under false r) ≡ bare_number r
  without = number-under false ∙ ap (or_next (bare_number r)) (not-under (step_of r).geometry r.params.label) ∙ last_none (bare_number r)

  both-none : (a b : ℕ) → a ≡ 0 → b ≡ 0 → or_next a b ≡ 0
  both-none a b e f = rw (e, f) refl

  pub accepted-under : (run_number (under true r) ≡ 0) ↔ ((run_number (under false r) ≡ 0) × Rules)
  accepted-under = (
    (λ e.
        let p = none (bare_number r) (profile_number true (step_of r).geometry r.params.label) (sym (number-under true) ∙ e) in
        (without ∙ p.0, number-allowed (step_of r).geometry r.params.label p.1)),
    (λ p. number-under true ∙ both-none (bare_number r) _ (sym without ∙ p.0) (allowed-number true (step_of r).geometry r.params.label p.1)),
  )

  -- a number of the run without it stays: 37 comes last
  pub refused-before : (run_number (under false r) ≡ 0 → ⊥) → run_number (under true r) ≡ run_number (under false r)
  refused-before n = number-under true ∙ rw (ne_eqb (bare_number r) 0 (λ z. n (without ∙ z))) (sym without)

  pub outside-refused : run_number (under false r) ≡ 0 → in_profile (step_of r).geometry r.params.label ≡ false → run_number (under true r) ≡ not_in_profile
  outside-refused z e = number-under true ∙ rw (eq-eqb (bare_number r) 0 (sym without ∙ z)) (refused-number (step_of r).geometry r.params.label e)
