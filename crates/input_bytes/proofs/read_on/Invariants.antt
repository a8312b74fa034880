-- `input_bytes::read_on`: what is read lies in the buffer.
use Rattle.std.proofs.Common.{◌≤◌, length, ◌+◌, ◌-◌, cond}
use Rattle.input_bytes.proofs.read_on.Given as goal

abbrev pub invariant-loop-i : goal.invariant-loop-i
invariant-loop-i g l = l.i.n ≤ length l.buf

-- a turn reads a byte, or is the last
abbrev pub decreases-loop-i : goal.decreases-loop-i
decreases-loop-i g l = (length l.buf - l.i.n) + cond l.i.more 1 0
