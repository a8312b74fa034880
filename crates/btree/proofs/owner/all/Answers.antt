-- `btree::owner::all` meets its contract.
-- Assumes nothing.
use mathlib.Core.Path.{refl}
use Rattle.btree.specs.Owners.{owners, negative}
use Rattle.btree.proofs.owner.all.Goals as goal

pub returns : goal.returns
unfolding owners negative
returns c = refl
