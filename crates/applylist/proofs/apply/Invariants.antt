-- The state is that after some pieces.
use Rattle.std.proofs.Common.{length}
use Rattle.list_apply_laws.specs.Turns.{Fed}
use Rattle.applylist.proofs.apply.Given as goal

abbrev pub invariant-loop : goal.invariant-loop
invariant-loop l = Fed (length l.initial.buf) l.initial.p.applying l.p.applying
