-- `profile::end_of` meets its contract.
-- Assumes nothing.
use Rattle.std.proofs.Common.{rules}
use Rattle.profile.proofs.Loops.{end-here, all-zeros}
use Rattle.profile.proofs.end_of.Goals as goal

pub returns-in-Some : goal.returns-in-Some
returns-in-Some c = end-here c.args.bytes c.in-Some.last (search rules) (search rules) (search rules)

pub returns-in-None : goal.returns-in-None
returns-in-None c = all-zeros c.args.bytes (search rules)
