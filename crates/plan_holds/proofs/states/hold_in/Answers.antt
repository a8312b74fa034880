-- `plan_holds::states::hold_in` meets its contract.
-- Assumes nothing.
use mathlib.Core.Path.{◌≡◌, ◌∙◌, sym, ap}
use mathlib.Core.Bool.{true, false}
use lib.Dec.{eqb}
use Rattle.plan_free.specs.Free.{taken}
use Prim.Native.Nat.{◌<◌}
use borrow.Author.Tests.{eq-eqb, ne_eqb, lt-ltb}
use native.Mathlib.Omega.{arith}
use Rattle.plan_free.specs.declared.Taken.{Taken}
use Rattle.plan_free.proofs.Laws.{taken-ends}
use Rattle.plan_holds.specs.Holding.{held_with}
use Rattle.plan_holds.proofs.Laws.{empty-refused, unfree-refused, full-refused}
use Rattle.plan_holds.proofs.states.hold_in.Goals as goal

pub returns-then-length-eq0 : goal.returns-then-length-eq0
returns-then-length-eq0 c = c.refused.ensures ∙ empty-refused c.args.s c.args.at c.args.length (omega (arith, c.if-length-eq0.true))

pub returns-then-t-ne0 : goal.returns-then-t-ne0
returns-then-t-ne0 c = let t : eqb (taken c.args.s.free c.args.at c.args.length).number 0 ≡ false =
    ap (λ (x : Taken). eqb x.number 0) (sym c.take-t.ensures) ∙ ne_eqb _ 0 c.if-t-ne0.true in
    let n : 0 < c.args.length = omega (arith, c.if-length-eq0.false) in
    c.refused-then-t-ne0.ensures ∙ unfree-refused c.args.s c.args.at c.args.length n t

pub returns-then-old-ge8 : goal.returns-then-old-ge8
returns-then-old-ge8 c = let t : eqb (taken c.args.s.free c.args.at c.args.length).number 0 ≡ true =
    ap (λ (x : Taken). eqb x.number 0) (sym c.take-t.ensures) ∙ eq-eqb _ 0 c.if-t-ne0.false in
    let n : 0 < c.args.length = omega (arith, c.if-length-eq0.false) in
    c.refused-then-old-ge8.ensures ∙ full-refused c.args.s c.args.at c.args.length n t c.if-old-ge8.true

pub overflow_cast-r : goal.overflow_cast-r
overflow_cast-r c = let q = taken-ends c.args.s.free c.args.at c.args.length (ap (λ (t : Taken). t.number) (sym c.take-t.ensures) ∙ c.if-t-ne0.false) in
    omega arith

pub overflow_cast-r-2 : goal.overflow_cast-r-2
overflow_cast-r-2 c = let q = taken-ends c.args.s.free c.args.at c.args.length (ap (λ (t : Taken). t.number) (sym c.take-t.ensures) ∙ c.if-t-ne0.false) in
    omega arith

pub returns : goal.returns
unfolding held_with
returns c = let t : eqb (taken c.args.s.free c.args.at c.args.length).number 0 ≡ true =
    ap (λ (x : Taken). eqb x.number 0) (sym c.take-t.ensures) ∙ eq-eqb _ 0 c.if-t-ne0.false in
    let n : 0 < c.args.length = omega (arith, c.if-length-eq0.false) in
    rw (c.put_run-held.ensures, lt-ltb 0 _ n, t, lt-ltb _ 8 c.if-old-ge8.false, ← c.take-t.ensures)
