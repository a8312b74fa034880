-- The records before i stand, and behind them all is as it was.
-- Assumes nothing.
use Rattle.std.proofs.Common.{◌≡◌}
use Rattle.btree_records.proofs.Turns.{written}
use Rattle.btree_records.proofs.put_records.Given as goal

abbrev pub invariant-loop-i : goal.invariant-loop-i
invariant-loop-i g l = l.out ≡ written (g.R.Record.stored l.form) g.R.Record.SIZE l.r-items l.i l.fn.out
