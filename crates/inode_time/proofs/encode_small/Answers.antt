-- `inode_time::encode_small` meets its contract.
-- Assumes nothing.
use mathlib.Core.Path.{refl}
use Rattle.inode_time.proofs.encode_small.Goals as goal

pub returns : goal.returns
returns c = (refl, refl)
