-- `head::roots::put_refc` meets its contract.
-- Assumes nothing.
use Rattle.head_bytes.proofs.Whole.{block_on, block-off}
use Rattle.endian.specs.Bytes.{patch}
use Rattle.head_bytes.specs.Head.{root_bytes, refc_magic}
use mathlib.Core.List.{[]}
use Rattle.head_bytes.specs.Head.{refc_root}
use native.Mathlib.Omega.{arith}
use Prim.Native.Nat.{ℕ, ◌*◌}
use mathlib.Core.Path.{ap, ◌∙◌}
use Rattle.head.proofs.roots.put_refc.Goals as goal

pub put_free-requires : goal.put_free-requires
put_free-requires c = (c.requires.0, rw c.empty-none.ensures (omega arith), omega (arith, c.refc_at-b.ensures.1), rw c.refc_at-b.ensures.0 (c.requires.1 c.if-f.true))

pub returns-then-f : goal.returns-then-f
unfolding refc_root
returns-then-f c = let a = c.args in block_on _ _ _ _ _ c.if-f.true ((rw c.empty-none.ensures at c.put_free.ensures) ∙ ap (λ (b : ℕ). patch (b * a.w.block) (root_bytes a.w a.uuid.now refc_magic b [] 0) a.buf.now) c.refc_at-b.ensures.0)

pub returns-else-f : goal.returns-else-f
returns-else-f c = block-off _ _ _ _ c.if-f.false
