-- `reader_vouch::vouches` meets its contract.
-- Assumes nothing.
use Rattle.reader_vouch.proofs.Leaving.{tested}
use Rattle.reader_vouch.proofs.vouches.Goals as goal

pub returns : goal.returns
returns c = tested c.args.head.now c.read_group0-found.result c.read_group0-found.ensures (λ k. (c.type_inv.head k).fits)
