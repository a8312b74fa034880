-- The state is that after the turns taken.
use Rattle.std.proofs.Common.{◌≡◌, length}
use Rattle.list_send.specs.Sending.{sent_on}
use Rattle.writelist.proofs.write_list.Given as goal

abbrev pub invariant-loop-taken : goal.invariant-loop-taken
invariant-loop-taken g l = l.s ≡ sent_on l.taken l.initial.s (length l.initial.work) (length l.initial.buf)
