-- `endian::runs::put_bytes` meets its contract.
-- Assumes nothing.
use mathlib.Core.Path.{sym, ap, ◌∙◌}
use mathlib.Core.List.{List}
use Prim.Native.Nat.{ℕ}
use lib.ListN.{length}
use borrow.Author.Tests.{leb-true}
use Rattle.endian.specs.Bytes.{patch}
use Rattle.endian.proofs.Laws.{refused-by, done-by, part-back}
use Rattle.endian.proofs.runs.put_bytes.Goals as goal

pub returns-then-inside : goal.returns-then-inside
returns-then-inside c = let t = sym c.inside.ensures ∙ c.if-inside.true in
    let a = c.args in
    let e = c.copy.ensures in
    done-by t (part-back a.off (length a.src.now) a.buf.now _ (leb-true _ _ t) (ap length e) ∙ ap (λ (ys : List ℕ). patch a.off ys a.buf.now) e)

pub returns : goal.returns
returns c = refused-by (sym c.inside.ensures ∙ c.if-inside.false)
