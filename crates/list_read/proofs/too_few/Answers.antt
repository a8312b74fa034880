-- `list_read::too_few` meets its contract.
-- Assumes nothing.
use Rattle.list_read.proofs.Heads.{cut-more}
use Rattle.list_read.proofs.too_few.Goals as goal

pub returns : goal.returns
returns c = cut-more _ c.if-last.false
