-- `profile::all_allowed` meets its contract.
-- Assumes nothing.
use Rattle.std.proofs.Common.{rules}
use Rattle.profile.proofs.Loops.{by-each}
use Rattle.profile.proofs.all_allowed.Goals as goal

pub returns : goal.returns
returns c = by-each _ _ (search rules)
