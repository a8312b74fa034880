-- `list_write::split::copy` meets its contract.
-- Assumes nothing.
use Rattle.list_write.proofs.Splitting.{copied}
use Rattle.list_write.proofs.split.copy.Goals as goal

pub returns : goal.returns
returns c = rw c.copy_from_slice.ensures.after (copied c.args.at c.args.src.now c.args.buf.now c.requires)
