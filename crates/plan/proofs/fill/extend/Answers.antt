-- `plan::fill::extend` meets its contract. Invariant: the list with the blocks from b on appended is the list with all n.
-- Assumes nothing.
use Rattle.plan.proofs.Laws.{appended-up, appended-none}
use Rattle.plan.specs.Plan.{of_agfl, to_agfl}
use Prim.Native.Nat.{◌+◌, ◌-◌, ◌<◌}
use native.Mathlib.Omega.{arith}
use mathlib.Core.Path.{◌≡◌, sym, ap, ◌∙◌}
use Rattle.plan.proofs.fill.extend.Goals as goal

pub loop-b-init : goal.loop-b-init
loop-b-init c = let e : c.args.start + c.args.n - c.args.start ≡ c.args.n = omega arith in rw e

pub loop-b-preserved : goal.loop-b-preserved
loop-b-preserved c =
    let l = c.loop-b in
    let e : c.args.start + c.args.n - (l.b + 1) ≡ c.args.start + c.args.n - l.b - 1 = omega arith in
    rw (c.push_block-out.ensures, e) (l.invariant ∙ appended-up (of_agfl l.out) l.b (c.args.start + c.args.n - l.b) (omega arith))

pub returns : goal.returns
returns c =
    let e : c.args.start + c.args.n - c.loop-b.b ≡ 0 = omega arith in
    ap to_agfl (sym (c.loop-b.invariant ∙ appended-none _ _ _ e))
