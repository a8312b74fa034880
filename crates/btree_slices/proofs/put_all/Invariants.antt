-- The records before i stand, and behind them all is as it was.
-- Assumes nothing.
use Rattle.std.proofs.Common.{◌≡◌}
use Rattle.btree_slices.proofs.Laws.{written}
use Rattle.btree_slices.proofs.put_all.Given as goal

abbrev pub invariant-loop-i : goal.invariant-loop-i
invariant-loop-i g l = l.out ≡ written g.R.Record.stored g.R.Record.SIZE l.recs l.i l.fn.out
