-- `geometry::groups::is_partial` meets its contract: by the option's case.
-- Assumes nothing.
use Rattle.geometry.proofs.groups.is_partial.Goals as goal

pub returns-in-Some : goal.returns-in-Some
returns-in-Some c = rw (c.remainder.ensures, c.in-Some.is)
