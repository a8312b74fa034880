-- `list_write::pieces::byte_of` meets its contract.
-- Assumes nothing.
use Rattle.geometry_layout.specs.Places.{byte_of, disk_blocks_before}
use mathlib.Core.Path.{refl}
use Rattle.list_write.proofs.pieces.byte_of.Goals as goal

pub returns : goal.returns
unfolding byte_of disk_blocks_before
returns c = refl
