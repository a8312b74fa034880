-- `crc_sums::sums_at` meets its contract. Invariant: the sums of the first i places are there, and zeros behind them.
-- Assumes nothing.
use Rattle.crc_sums.specs.Sums.{sums_in}
use lib.ListN.{replicate}
use Prim.Native.Nat.{◌-◌}
use mathlib.Core.List.{◌++◌}
use mathlib.Core.Path.{◌≡◌}
use Rattle.crc_sums.proofs.sums_at.Given as goal

abbrev pub invariant-loop-i : goal.invariant-loop-i
invariant-loop-i l = l.sums ≡ sums_in l.i l.places l.buf ++ replicate (64 - l.i) 0
