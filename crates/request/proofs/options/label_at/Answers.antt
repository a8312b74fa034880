-- `request::options::label_at` meets its contract.
-- Assumes nothing.
use Rattle.request.proofs.Copies.{label-copied}
use Rattle.request.proofs.options.label_at.Goals as goal

pub returns : goal.returns
returns c = label-copied _ _ _ _ _ c.from-count.ensures c.min-n.ensures c.copy_from_slice.ensures.after
