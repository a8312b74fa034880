-- `list_size::size_in` meets its contract.
-- Assumes nothing.
use Rattle.list_size.proofs.Closed.{blocks-most}
use Rattle.group_bytes.proofs.Accepted.{size-most}
use mathlib.Core.Path.{◌∙◌}
use Rattle.list_size.proofs.size_in.Goals as goal

pub size_of-requires : goal.size_of-requires
size_of-requires c = (rw c.block_count.ensures (blocks-most c.args.g c.requires), size-most c.args.g c.requires)

pub returns : goal.returns
returns c = c.size_of.ensures ∙ rw c.block_count.ensures
