-- `head::look` meets its contract.
-- Assumes nothing.
use mathlib.Core.Path.{sym}
use lib.Seq.{length-take-le}
use native.Mathlib.Omega.{arith}
use Rattle.head.proofs.look.Goals as goal

pub slice_bounds-sums_at-end : goal.slice_bounds-sums_at-end
slice_bounds-sums_at-end c = sym (length-take-le c.args.p.len c.args.p.at (omega (arith, c.requires.0, c.requires.1)))
