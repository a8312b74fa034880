-- `head::roots::put_free` meets its contract.
-- Assumes nothing.
use Rattle.head_bytes.proofs.Lending.{lent-root, part_length, list-accepted}
use Rattle.structs.proofs.Lengths.{block-least}
use Rattle.head_leaves.specs.Leaves.{list_number}
use Rattle.plan_free.specs.Free.{free_of}
use Rattle.btree.specs.Records.{records_bytes, alloc_bytes}
use native.Mathlib.Omega.{arith}
use Prim.Native.Nat.{ℕ, ◌*◌}
use Rattle.head.proofs.roots.put_free.Goals as goal

pub returns : goal.returns
returns c = let a = c.args in let m = block-least a.w.block c.requires.0.block-is in let h = c.requires.1 in lent-root a.w a.uuid.now (records_bytes alloc_bytes (free_of a.l)) a.magic a.b a.l.len _ _ (λ (n : ℕ). list_number 8 a.l.len n) a.buf.now _ (part_length (a.b * a.w.block) a.w.block a.buf.now c.requires.3) c.address-daddr.ensures (list-accepted 8 a.l.len a.w.block c.requires.0.block-is (omega arith) (omega arith)) c.requires.3 c.free_leaf.ensures.written
