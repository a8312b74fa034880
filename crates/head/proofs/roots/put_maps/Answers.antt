-- `head::roots::put_maps` meets its contract.
-- Assumes nothing.
use Rattle.head_bytes.proofs.Lending.{lent-root, part_length, list-accepted}
use Rattle.structs.proofs.Lengths.{block-least}
use Rattle.head_leaves.specs.Leaves.{list_number}
use Rattle.plan_rmap.specs.Rmap.{rmap_of}
use Rattle.btree.specs.Records.{records_bytes, rmap_bytes}
use native.Mathlib.Omega.{arith}
use Prim.Native.Nat.{ℕ, ◌*◌}
use Rattle.head.proofs.roots.put_maps.Goals as goal

pub returns : goal.returns
returns c = let a = c.args in let m = block-least a.w.block c.requires.0.block-is in let h = c.requires.1 in lent-root a.w a.uuid.now (records_bytes rmap_bytes (rmap_of a.l)) a.magic a.b a.l.len _ _ (λ (n : ℕ). list_number 24 a.l.len n) a.buf.now _ (part_length (a.b * a.w.block) a.w.block a.buf.now c.requires.3) c.address-daddr.ensures (list-accepted 24 a.l.len a.w.block c.requires.0.block-is (omega arith) (omega arith)) c.requires.3 c.rmap_leaf.ensures.written
