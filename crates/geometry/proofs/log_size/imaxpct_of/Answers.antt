-- `geometry::log_size::imaxpct_of` meets its contract: each call gives what its definition says.
-- Assumes nothing.
use Rattle.geometry.proofs.log_size.imaxpct_of.Goals as goal

pub returns-in-None : goal.returns-in-None
returns-in-None c = rw (c.default_imaxpct.ensures, c.in-None.is)
