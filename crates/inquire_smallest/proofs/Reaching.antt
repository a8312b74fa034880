-- Whether a size reaches a count, by its geometry and plans; 39 without a sum that wraps.
-- Assumes nothing.
use mathlib.Core.Path.{◌≡◌, refl, sym, ap}
use mathlib.Core.Bool.{Bool, true, false, ◌&&◌, cond}
use mathlib.Core.List.{List}
use Prim.Native.Nat.{ℕ, ◌+◌, ◌*◌, ◌-◌, ◌^◌, ◌≤◌, ◌<◌}
use native.Mathlib.Omega.{arith}
use borrow.Author.Tests.{eq-eqb, ne_eqb, eqb-true, ltb-true, ltb-false, le-leb, lt-leb, lt-ltb, le-ltb}
use lib.Dec.{leb, ltb, eqb}
use Rattle.params.specs.declared.Params.{Params}
use Rattle.geometry.specs.declared.Geometry.{Geometry}
use Rattle.geometry.specs.declared.Computed.{Computed}
use Rattle.geometry.specs.Compute.{compute_def}
use Rattle.plan_totals.specs.Totals.{plans_number}
use Rattle.sb.specs.declared.SbState.{SbState}
use Rattle.sb_states.specs.declared.Stated.{Stated}
use Rattle.sb_states.specs.States.{finished_state, state_refused, finished_answer}
use Rattle.request.specs.Defaults.{uuid_of}
use Rattle.inquire_sizes.specs.Ranges.{size_number}
use Rattle.inquire_smallest.specs.Question.{free_on_device, reaches, no_sizes}

-- the finished state's number is that of the plans
state-number : (n : ℕ) (s : SbState) (t : Bool) → eqb n 0 ≡ t → (cond t (record { number = 0; state = s }) (state_refused n)).number ≡ n
state-number n s true e = sym (eqb-true n 0 e)
state-number n s false e = refl

finished-number : (g : Geometry) (uuid : List ℕ) → (finished_answer g uuid).number ≡ plans_number g
unfolding finished_answer
finished-number g uuid = state-number (plans_number g) (finished_state g uuid) (eqb (plans_number g) 0) refl

module _ (p : Params) (logical physical wanted device : ℕ) where
  abbrev step : Computed
  step = compute_def p device logical physical

  abbrev end : Stated
  end = finished_answer step.geometry (uuid_of p)

  -- geometry refuses it
  pub step_refused : (step.number ≡ 0 → ⊥) → false ≡ reaches p logical physical wanted device
  unfolding reaches size_number
  step_refused n = rw (ne_eqb step.number 0 n, ne_eqb step.number 0 n)

  number_is : step.number ≡ 0 → size_number p logical physical device ≡ plans_number step.geometry
  unfolding size_number
  number_is z = rw z

  state-is : plans_number step.geometry ≡ 0 → end.state ≡ finished_state step.geometry (uuid_of p)
  unfolding finished_answer
  state-is z = rw (eq-eqb (plans_number step.geometry) 0 z)

  enough-at : (t : Bool) → eqb (plans_number step.geometry) 0 ≡ t
      → (t && leb wanted end.state.fdblocks) ≡ (t && leb wanted (finished_state step.geometry (uuid_of p)).fdblocks)
  enough-at true e = ap (λ (s : SbState). leb wanted s.fdblocks) (state-is (eqb-true (plans_number step.geometry) 0 e))
  enough-at false e = refl

  -- geometry accepts it: the plans and the finished state decide
  pub step_accepted : step.number ≡ 0 → reaches p logical physical wanted device ≡ (eqb end.number 0 && leb wanted end.state.fdblocks)
  unfolding reaches free_on_device
  step_accepted z =
      rw (finished-number step.geometry (uuid_of p), number_is z)
      (sym (enough-at (eqb (plans_number step.geometry) 0) refl))

-- ---- 39

module _ (start count : ℕ) where
  pub no-count : count ≡ 0 → true ≡ no_sizes start count
  unfolding no_sizes
  no-count e = rw (eq-eqb count 0 e)

  pub too_many : (count ≡ 0 → ⊥) → 65536 < count → true ≡ no_sizes start count
  unfolding no_sizes
  too_many n h = rw (ne_eqb count 0 n, lt-ltb 65536 count h)

  last-at : count ≤ 65536 → (t : Bool) → ltb (2 ^ 64 - 1 - (count - 1) * 2 ^ 20) start ≡ t → t ≡ leb (2 ^ 64) (start + (count - 1) * 2 ^ 20)
  last-at h true e = let l = ltb-true (2 ^ 64 - 1 - (count - 1) * 2 ^ 20) start e in sym (le-leb (2 ^ 64) (start + (count - 1) * 2 ^ 20) (omega arith))
  last-at h false e = let l = ltb-false (2 ^ 64 - 1 - (count - 1) * 2 ^ 20) start e in sym (lt-leb (2 ^ 64) (start + (count - 1) * 2 ^ 20) (omega arith))

  pub last_fits : (count ≡ 0 → ⊥) → count ≤ 65536 → ltb (2 ^ 64 - 1 - (count - 1) * 2 ^ 20) start ≡ no_sizes start count
  unfolding no_sizes
  last_fits n h = rw (ne_eqb count 0 n, le-ltb 65536 count h) (last-at h (ltb (2 ^ 64 - 1 - (count - 1) * 2 ^ 20) start) refl)
