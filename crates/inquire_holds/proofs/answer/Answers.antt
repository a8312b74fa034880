-- `inquire_holds::answer` meets its contract.
-- Assumes nothing.
use Rattle.std.proofs.Common.{rules}
use Rattle.inquire_holds.specs.Calls.{call_answer}
use Rattle.inquire_holds.proofs.answer.Goals as goal

pub returns-then-c : goal.returns-then-c
unfolding call_answer
returns-then-c c = search rules

pub returns-else-c : goal.returns-else-c
unfolding call_answer
returns-else-c c = search rules
