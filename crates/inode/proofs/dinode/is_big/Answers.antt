-- `inode::dinode::is_big` meets its contract.
-- Assumes nothing.
use Rattle.inode.specs.Dinode.{is_big}
use mathlib.Core.Path.{refl}
use Rattle.inode.proofs.dinode.is_big.Goals as goal

pub returns : goal.returns
unfolding is_big
returns c = refl
