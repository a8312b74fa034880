-- `geometry_counts::inodes::round_up` meets its contract: rounding up adds less than a multiple.
-- Assumes nothing.
use native.Mathlib.Omega.{arith}
use Rattle.geometry_layout.specs.Places.{round_up}
use Rattle.geometry_layout.proofs.Small.{round-most}
use Rattle.geometry_counts.proofs.inodes.round_up.Goals as goal

pub overflow_mul-result : goal.overflow_mul-result
overflow_mul-result c = let a = c.args in
    rw c.div_ceil.ensures (record { fits = let w = round-most a.n a.m c.requires.0 c.requires.1 in omega arith })

pub returns : goal.returns
unfolding round_up
returns c = cc
