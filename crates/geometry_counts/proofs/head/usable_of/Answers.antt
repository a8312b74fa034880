-- `geometry_counts::head::usable_of` meets its contract: the head is at most four times the sector and 6.
-- Assumes nothing.
use native.Mathlib.Omega.{arith}
use Rattle.geometry_counts.proofs.Room.{prealloc-le}
use Rattle.geometry_layout.specs.Places.{usable_of}
use Rattle.geometry_counts.proofs.head.usable_of.Goals as goal

pub overflow_add-kept : goal.overflow_add-kept
overflow_add-kept c = let a = c.args in omega (arith, prealloc-le a.f a.sector a.bs)

pub returns : goal.returns
unfolding usable_of
returns c = rw (c.saturating_sub.ensures, c.prealloc_of-kept.ensures)
