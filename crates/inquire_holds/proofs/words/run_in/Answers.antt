-- `inquire_holds::words::run_in` meets its contract.
-- Assumes nothing.
use borrow.Author.Tests.{eq-eqb, ne_eqb, lt-ltb, le-ltb}
use Rattle.inquire_holds.proofs.Laws.{behind}
use Rattle.inquire_holds.specs.Words.{run_in}
use Prim.Native.Nat.{◌+◌}
use Rattle.inquire_holds.proofs.words.run_in.Goals as goal
use Rattle.inquire_holds.proofs.words.run_in.Goals.{else-n-text-via-then-n-text+else-text-n-eq58, else-n-text-via-else-n-text}

pub returns-then-text-n-eq58 : goal.returns-then-text-n-eq58
unfolding run_in
returns-then-text-n-eq58 c = rw (← c.leading-n.ensures.0, lt-ltb _ _ c.if-n-text.true, eq-eqb _ _ c.if-text-n-eq58.true, ← c.number_alone.ensures, ← behind (c.leading-n.result + 1) c.args.text.now, ← c.number_alone-then-text-n-eq58.ensures) c.called.ensures

pub returns-else-n-text : goal.returns-else-n-text
unfolding run_in
returns-else-n-text c = elim c.else-n-text.branch [
  | else-n-text-via-then-n-text+else-text-n-eq58 w ↦ rw (← c.leading-n.ensures.0, lt-ltb _ _ w.if-n-text.true, ne_eqb _ _ w.if-text-n-eq58.false) c.no_call.ensures
  | else-n-text-via-else-n-text w ↦ rw (← c.leading-n.ensures.0, le-ltb _ _ w.if-n-text.false) c.no_call.ensures
]
