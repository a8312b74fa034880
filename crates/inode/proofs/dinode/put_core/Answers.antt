-- `inode::dinode::put_core` meets its contract.
-- Assumes nothing.
use Rattle.endian.proofs.Tables.{put-table}
use lib.ListN.{length}
use Prim.Native.Nat.{◌≤◌}
use borrow.Author.Rules.{rules}
use Rattle.inode.proofs.dinode.put_core.Goals as goal

pub returns : goal.returns
returns c = put-table 160 c.put_all.ensures (let h : 160 ≤ length c.args.slot.now = search rules in h) tt
