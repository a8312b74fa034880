-- `head::roots::put_rmap` meets its contract.
-- Assumes nothing.
use Rattle.head_bytes.proofs.Whole.{block_on, block-off}
use Rattle.endian.specs.Bytes.{patch}
use Rattle.head_bytes.specs.Head.{root_bytes, rmap_magic}
use Rattle.btree.specs.Records.{records_bytes, rmap_bytes}
use Rattle.plan_rmap.specs.Rmap.{rmap_of}
use Rattle.head_bytes.specs.Head.{rmap_root}
use native.Mathlib.Omega.{arith}
use Prim.Native.Nat.{ℕ, ◌*◌}
use mathlib.Core.Path.{ap, ◌∙◌}
use Rattle.head.proofs.roots.put_rmap.Goals as goal

pub put_maps-requires : goal.put_maps-requires
put_maps-requires c = (c.requires.0, c.requires.1, omega (arith, c.rmap_at-b.ensures.1), rw c.rmap_at-b.ensures.0 (c.requires.2 c.if-f.true))

pub returns-then-f : goal.returns-then-f
unfolding rmap_root
returns-then-f c = let a = c.args in block_on _ _ _ _ _ c.if-f.true (c.put_maps.ensures ∙ ap (λ (b : ℕ). patch (b * a.w.block) (root_bytes a.w a.uuid.now rmap_magic b (records_bytes rmap_bytes (rmap_of a.l)) a.l.len) a.buf.now) c.rmap_at-b.ensures.0)

pub returns-else-f : goal.returns-else-f
returns-else-f c = block-off _ _ _ _ c.if-f.false
