-- What was put is no more than is asked for.
use Rattle.std.proofs.Common.{◌-◌, ◌≤◌}
use Rattle.applylist.proofs.output.put_zeros.Given as goal

abbrev pub invariant-loop-done : goal.invariant-loop-done
invariant-loop-done l = l.done ≤ l.len

abbrev pub decreases-loop-done : goal.decreases-loop-done
decreases-loop-done l = l.len - l.done
