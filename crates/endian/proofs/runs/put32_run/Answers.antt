-- `endian::runs::put32_run` meets its contract.
-- Assumes nothing.
use Rattle.endian.proofs.Laws.{refused-by, done-by}
use borrow.Author.Tests.{leb-true, lt-leb}
use lib.ListN.{length}
use Prim.Native.Nat.{◌+◌, ◌*◌}
use mathlib.Core.Path.{sym, ◌∙◌}
use native.Mathlib.Omega.{arith}
use Rattle.endian.proofs.runs.put32_run.Goals as goal

pub store32_run-requires : goal.store32_run-requires
store32_run-requires c = leb-true _ _ (sym c.inside.ensures ∙ c.if-inside.true)

pub returns-then-inside : goal.returns-then-inside
returns-then-inside c = done-by (sym c.inside.ensures ∙ c.if-inside.true) c.store32_run.ensures

pub returns-else-inside : goal.returns-else-inside
returns-else-inside c = refused-by (sym c.inside.ensures ∙ c.if-inside.false)

pub returns-else-v-buf : goal.returns-else-v-buf
returns-else-v-buf c = let a = c.args in refused-by (lt-leb (a.off + 4 * length a.v.now) (length a.buf.now) (omega arith))
