-- The source's log is the geometry step's, and its two refusals that have no number can't occur.
-- Assumes nothing.
use mathlib.Core.Path.{◌≡◌, refl, ap, ◌∙◌}
use mathlib.Core.Bool.{Bool, true, false}
use Prim.Native.Nat.{ℕ, ◌+◌, ◌*◌, ◌-◌, ◌/◌, ◌^◌, ◌≤◌, ◌<◌, min, max}
use native.Mathlib.Omega.{arith}
use native.Mathlib.Nat.{div-div-eq-div-mul, mul-div-mul_right, le-div_iff_mul-le, div-lt_iff_lt-mul}
use borrow.Author.Tests.{ltb-true, ltb-false, le-ltb}
use lib.Dec.{ltb}
use lib.Pow.{pow_pos}
use Rattle.arith.specs.Choice.{when}
use Rattle.refusals.specs.Table.{first}
use Rattle.geometry.specs.Limits.{realistic_log_bytes, max_log_bytes, max_log_blocks, log_ratio}
use Rattle.geometry.specs.Log.{log_blocks}
use Rattle.geometry_layout.specs.Places.{usable_of}
use Rattle.geometry_source.specs.Source.{under300, source_wanted, source_log, log_too_large, source_tests, numbered_tests}

-- a 2048th of the bytes, in blocks, is a 2048th of the blocks
pub ratio-blocks : (d b : ℕ) → d * 2 ^ b / log_ratio / 2 ^ b ≡ d / log_ratio
ratio-blocks d b = div-div-eq-div-mul (d * 2 ^ b) log_ratio (2 ^ b) ∙ mul-div-mul_right d log_ratio (pow_pos b)

capped : (w most b : ℕ) (t : Bool) → ltb most (w * 2 ^ b) ≡ t → when t (most / 2 ^ b) w ≡ min w (most / 2 ^ b)
unfolding when
capped w most b true e =
    let h = ltb-true most (w * 2 ^ b) e in
    let k : most / 2 ^ b < w = (div-lt_iff_lt-mul (pow_pos b)).1 h in
    omega arith
capped w most b false e =
    let h = ltb-false most (w * 2 ^ b) e in
    let k : w ≤ most / 2 ^ b = (le-div_iff_mul-le (pow_pos b)).1 h in
    omega arith

wanted-is : (d agsize prealloc b : ℕ) → source_wanted d agsize prealloc b ≡ min (min (max (d / log_ratio) (realistic_log_bytes / 2 ^ b)) (agsize - prealloc - 5)) max_log_blocks
unfolding source_wanted usable_of
wanted-is d agsize prealloc b =
    let e : agsize - (prealloc + 4) - 1 ≡ agsize - prealloc - 5 = omega arith in
    rw (ratio-blocks d b, e)

-- THE SOURCE'S LOG IS THE DEFINITION'S
pub source-log : (d agsize prealloc b : ℕ) → source_log d agsize prealloc b ≡ log_blocks d (agsize - prealloc - 5) (2 ^ b)
unfolding source_log log_blocks
source-log d agsize prealloc b =
    capped (source_wanted d agsize prealloc b) max_log_bytes b (ltb max_log_bytes (source_wanted d agsize prealloc b * 2 ^ b)) refl
    ∙ ap (λ (x : ℕ). min x (max_log_bytes / 2 ^ b)) (wanted-is d agsize prealloc b)

log-fits : (d agsize prealloc bs : ℕ) → log_blocks d (agsize - prealloc - 5) bs ≤ agsize - prealloc
unfolding log_blocks
log-fits d agsize prealloc bs = omega arith

-- the log is never larger than what a whole group has behind its head; its own group may be shorter (K6)
pub never-too-large : (d agsize prealloc b : ℕ) → log_too_large d agsize prealloc b ≡ false
unfolding log_too_large
never-too-large d agsize prealloc b =
    le-ltb (agsize - prealloc) (source_log d agsize prealloc b)
    (rw (source-log d agsize prealloc b) (log-fits d agsize prealloc (2 ^ b)))

tests-at : (none d agsize agcount prealloc b cut : ℕ) (t : Bool) → under300 d b ≡ t
    → first (source_tests none d agsize agcount prealloc b cut) 0 ≡ first (numbered_tests d agcount b cut) 0
unfolding when under300
tests-at none d agsize agcount prealloc b cut true e = rw (e) refl
tests-at none d agsize agcount prealloc b cut false e = rw (e, never-too-large d agsize prealloc b) refl

-- THE TWO REFUSALS WITHOUT A NUMBER CAN'T OCCUR: whatever stands for them, the source's tests give what 21 to 23 give
pub no-unnumbered : (none d agsize agcount prealloc b cut : ℕ)
    → first (source_tests none d agsize agcount prealloc b cut) 0 ≡ first (numbered_tests d agcount b cut) 0
no-unnumbered none d agsize agcount prealloc b cut = tests-at none d agsize agcount prealloc b cut (under300 d b) refl
