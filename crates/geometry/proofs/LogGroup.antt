-- The log group is the last only of one group or two.
-- Assumes nothing.
use mathlib.Core.Path.{◌≡◌}
use Prim.Native.Nat.{ℕ, ◌-◌, ◌/◌, ◌<◌, ◌≤◌}
use native.Mathlib.Omega.{arith}
use native.Mathlib.Nat.{zero-mul, one-mul}
use borrow.Author.Tests.{eq-eqb, ne_eqb}
use Rattle.arith.specs.Choice.{when}
use Rattle.geometry.specs.Groups.{group_blocks}

pub alone : (d s n : ℕ) → n < 2 → group_blocks d s n (n / 2) ≡ d
unfolding group_blocks when
alone d s n h =
    let z : n / 2 ≡ 0 = omega arith in
    rw (eq-eqb (n / 2) (n - 1) (omega arith), z, zero-mul s) (omega arith)

pub second : (d s n : ℕ) → n ≡ 2 → group_blocks d s n (n / 2) ≡ d - s
unfolding group_blocks when
second d s n h =
    let z : n / 2 ≡ 1 = omega arith in
    rw (eq-eqb (n / 2) (n - 1) (omega arith), z, one-mul s) (omega arith)

pub middle : (d s n : ℕ) → 3 ≤ n → group_blocks d s n (n / 2) ≡ s
unfolding group_blocks when
middle d s n h = rw (ne_eqb (n / 2) (n - 1) (λ e. omega arith)) (omega arith)
