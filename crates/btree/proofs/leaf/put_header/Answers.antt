-- `btree::leaf::put_header` meets its contract.
-- Assumes nothing.
use Rattle.btree.proofs.Block.{header-written}
use Rattle.endian.proofs.Tables.{put-table}
use Rattle.endian.proofs.Laws.{put_in}
use Rattle.endian.specs.Bytes.{patch}
use lib.ListN.{length}
use Prim.Native.Nat.{◌≤◌}
use mathlib.Core.Path.{◌≡◌, ap, ◌∙◌}
use borrow.Author.Rules.{rules}
use Rattle.btree.proofs.leaf.put_header.Goals as goal

pub returns : goal.returns
returns c = let args = c.args in
    let u : length args.uuid.now ≡ 16 = search rules in
    put_in c.put_bytes.ensures (search rules)
    ∙ ap (patch 32 args.uuid.now) (put-table 52 c.put_all.ensures (let h : 52 ≤ length args.block.now = search rules in h) tt)
    ∙ header-written _ _ _ _ _ _ u
