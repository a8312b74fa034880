-- The tests of a hole, and what they are for: zeros that lie in one change nothing.
-- Assumes nothing.
use mathlib.Core.Path.{◌≡◌, refl, sym}
use mathlib.Core.Bool.{true, false}
use Prim.Native.Nat.{ℕ, ◌+◌, ◌≤◌, ◌<◌}
use native.Mathlib.Omega.{arith}
use lib.Dec.{eqb, leb}
use borrow.Author.Tests.{eq-eqb, ne_eqb, le-leb, lt-leb, eqb-true, leb-true}
use Rattle.arith.proofs.Both.{left-true, right-true}
use Rattle.list_records.specs.Records.{WZ}
use Rattle.list_records.specs.Device.{Device, applied}
use Rattle.list_records.proofs.Applying.{step_same}
use Rattle.list_holes.specs.Holes.{in_hole, ZerosIn, Unchanged}

module _ (hole next at len : ℕ) where
  pub elsewhere : (hole ≡ at → ⊥) → false ≡ in_hole hole next at len
  unfolding in_hole
  elsewhere n = rw (ne_eqb hole at n) refl

  module _ (e : hole ≡ at) where
    pub data-before : next < at + len → false ≡ in_hole hole next at len
    unfolding in_hole
    data-before h = rw (eq-eqb hole at e, lt-leb (at + len) next h) refl

    pub data-behind : at + len ≤ next → true ≡ in_hole hole next at len
    unfolding in_hole
    data-behind h = rw (eq-eqb hole at e, le-leb (at + len) next h) refl

  -- ZEROS OVER A HOLE CHANGE NOTHING
  pub hole-unchanged : (d : Device) → ZerosIn d hole next → in_hole hole next at len ≡ true → Unchanged d at len
  unfolding in_hole applied
  hole-unchanged d z t x =
      let e = eqb-true hole at (left-true (eqb hole at) (leb (at + len) next) t) in
      let f = leb-true (at + len) next (right-true (eqb hole at) (leb (at + len) next) t) in
      step_same (WZ at len) d x (λ a b. sym (z x (omega arith) (omega arith)))
