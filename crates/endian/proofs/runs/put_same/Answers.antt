-- `endian::runs::put_same` meets its contract.
-- Assumes nothing.
use mathlib.Core.Path.{◌≡◌, sym, ap, ◌∙◌}
use mathlib.Core.List.{List}
use Prim.Native.Nat.{ℕ, ◌+◌, ◌-◌, ◌≤◌}
use native.Mathlib.Omega.{arith}
use lib.ListN.{length, drop, replicate, length-drop, length-replicate}
use lib.Seq.{length-take-le}
use borrow.Author.Tests.{leb-true}
use Rattle.endian.specs.Bytes.{patch}
use Rattle.endian.proofs.Laws.{refused-by, done-by, part-back}
use Rattle.endian.proofs.runs.put_same.Goals as goal

pub returns-then-inside : goal.returns-then-inside
returns-then-inside c = let t = sym c.inside.ensures ∙ c.if-inside.true in
    let a = c.args in
    let h = leb-true _ _ t in
    let n = a.off + a.n - a.off in
    let m : n ≤ length (drop a.off a.buf.now) = omega (arith, h, length-drop a.off a.buf.now) in
    let e : c.fill.new.self ≡ replicate a.n a.b = c.fill.ensures.after (λ y k. k) ∙ ap (λ (k : ℕ). replicate k a.b) (omega (arith, length-take-le n (drop a.off a.buf.now) m)) in
    done-by t (part-back a.off a.n a.buf.now _ h (ap length e ∙ length-replicate a.n a.b) ∙ ap (λ (ys : List ℕ). patch a.off ys a.buf.now) e)

pub returns : goal.returns
returns c = refused-by (sym c.inside.ensures ∙ c.if-inside.false)
