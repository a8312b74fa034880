-- `head::roots::put_chunk` meets its contract.
-- Assumes nothing.
use Rattle.head_bytes.proofs.Lending.{lent-root, part_length, leaf-accepted}
use Rattle.head_bytes.specs.Head.{inode_root}
use Rattle.structs.proofs.Lengths.{block-least}
use Rattle.head_leaves.specs.Leaves.{few, chunk_rec}
use Rattle.btree.specs.Leaf.{leaf_number}
use Rattle.btree.specs.Records.{records_bytes, inobt_bytes}
use Rattle.arith.proofs.Laws.{bit_le}
use Rattle.arith.specs.Choice.{bit}
use native.Mathlib.Omega.{arith}
use Prim.Native.Nat.{ℕ, ◌*◌}
use Rattle.head.proofs.roots.put_chunk.Goals as goal

pub returns : goal.returns
unfolding inode_root
returns c = let a = c.args in let m = block-least a.w.block c.requires.0.block-is in let h = bit_le a.w.has_chunk in lent-root a.w a.uuid.now (records_bytes (inobt_bytes a.w.features.sparse) (few (bit a.w.has_chunk) (chunk_rec a.w.newino))) a.magic a.b (bit a.w.has_chunk) _ _ (λ (n : ℕ). leaf_number (16 * bit a.w.has_chunk) n) a.buf.now _ (part_length (a.b * a.w.block) a.w.block a.buf.now c.requires.2) c.address-daddr.ensures (leaf-accepted (16 * bit a.w.has_chunk) a.w.block c.requires.0.block-is (omega arith)) c.requires.2 c.chunk_leaf.ensures.written
