-- `btree::leaf::fill` meets its contract.
-- Assumes nothing.
use Rattle.btree.proofs.Block.{leaf-written}
use Rattle.crc.proofs.Laws.{stamp-in}
use Rattle.endian.proofs.Laws.{put_in}
use native.Mathlib.Omega.{arith}
use borrow.Author.Rules.{rules}
use Rattle.btree.proofs.leaf.fill.Goals as goal

pub put_header-requires : goal.put_header-requires
put_header-requires c = omega (arith, c.requires.0, c.put_same.auto.buf)

pub returns : goal.returns
returns c = let l = c.requires.0 in
    let g = c.requires.1 in
    let k1 = c.put_same.auto.buf in
    let k2 = c.put_header.auto.block in
    let k3 = c.put_records.auto.block in
    leaf-written _ _ _ _ _ _ c.args.block.now _ _ _ _ (put_in c.put_same.ensures (search rules)) c.put_header.ensures c.put_records.ensures (stamp-in 52 c.stamp.ensures.0 (omega (arith, k1, k2, k3, l)))
