-- Groups after the trim: the last group is not short, and the options that they name give them again.
-- Assumes nothing.
use Rattle.std.specs.Prelude.{Some, None}
use mathlib.Core.Path.{◌≡◌, refl}
use mathlib.Core.Bool.{Bool, true, false}
use Prim.Native.Nat.{ℕ, ◌*◌, ◌/◌, ◌%◌, ◌≤◌, ◌<◌}
use native.Mathlib.Nat.{mul-mod_left, mul-div_cancel, div-mul-le_self, le_refl}
use borrow.Author.Tests.{eq-eqb}
use Rattle.arith.specs.Choice.{when}
use Rattle.arith.specs.Numbers.{ceil_div}
use Rattle.geometry.specs.declared.groups.Groups.{Groups}
use Rattle.geometry.specs.Groups.{asked_blocks, initial_groups, is_short, trim}

pub trim-long : (a : Groups) (least : ℕ) → is_short a least ≡ false → trim a least ≡ a
unfolding trim when
trim-long a least e = rw e

trim-short : (a : Groups) (least : ℕ) → is_short a least ≡ true → trim a least ≡ record { dblocks = a.dblocks / a.agsize * a.agsize; agsize = a.agsize; agcount = a.dblocks / a.agsize }
unfolding trim when
trim-short a least e = rw e

whole : (q s n least : ℕ) → is_short (record { dblocks = q * s; agsize = s; agcount = n }) least ≡ false
unfolding is_short
whole q s n least = rw (eq-eqb (q * s % s) 0 (mul-mod_left q s))

by-case : (a : Groups) (least : ℕ) (t : Bool) → is_short a least ≡ t → is_short (trim a least) least ≡ false
by-case a least true e = rw (trim-short a least e) (whole (a.dblocks / a.agsize) a.agsize (a.dblocks / a.agsize) least)
by-case a least false e = rw (trim-long a least e) e

pub not_short : (a : Groups) (least : ℕ) → is_short (trim a least) least ≡ false
not_short a least = by-case a least (is_short a least) refl

pub named-groups : (g : Groups) (bs : ℕ) → 0 < bs → g.agcount ≡ ceil_div g.dblocks g.agsize → initial_groups (Some (g.agsize * bs)) None bs (asked_blocks None (g.dblocks * bs) bs) ≡ g
unfolding initial_groups asked_blocks
named-groups g bs h e = rw (mul-div_cancel g.dblocks h, mul-div_cancel g.agsize h, ← e)

le-case : (a : Groups) (least : ℕ) (t : Bool) → is_short a least ≡ t → (trim a least).dblocks ≤ a.dblocks
le-case a least true e = rw (trim-short a least e) (div-mul-le_self a.dblocks a.agsize)
le-case a least false e = rw (trim-long a least e) (le_refl a.dblocks)

pub trim-le : (a : Groups) (least : ℕ) → (trim a least).dblocks ≤ a.dblocks
trim-le a least = le-case a least (is_short a least) refl
