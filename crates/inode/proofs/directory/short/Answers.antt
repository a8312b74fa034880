-- `inode::directory::short` meets its contract.
-- Assumes nothing.
use lib.Dec.{lit≤}
use Rattle.endian.proofs.Laws.{put_in}
use Rattle.endian.specs.Bytes.{patch, be_bytes}
use mathlib.Core.Path.{refl}
use Rattle.inode.proofs.directory.short.Goals as goal

pub returns : goal.returns
unfolding patch be_bytes
returns c = (put_in c.put32.ensures (lit≤ tt), refl)
