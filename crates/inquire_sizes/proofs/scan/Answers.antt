-- `inquire_sizes::scan` meets its contract: what is left of the range has its smallest refused size.
-- Assumes nothing.
use Rattle.inquire_sizes.proofs.Turns.{refused-here, formatted-here, all-formatted}
use Rattle.inquire_sizes.specs.Step.{number_at}
use Rattle.inquire_sizes.specs.Ranges.{smallest_refused, refused_size}
use mathlib.Core.Path.{refl, sym, ap, ◌∙◌}
use Prim.Native.Nat.{◌+◌}
use native.Mathlib.Omega.{arith}
use Rattle.inquire_sizes.proofs.scan.Goals as goal

pub loop-n-init : goal.loop-n-init
unfolding smallest_refused
loop-n-init c = refl

pub returns-then-m-ne0 : goal.returns-then-m-ne0
returns-then-m-ne0 c = let k = c.loop-n in let a = c.args in let e = c.number_at-m.ensures in ap (refused_size k.n) e ∙ sym (refused-here (number_at a.f) a.from a.to k.n k.invariant (omega arith) (λ z. c.if-m-ne0.true (e ∙ z)))

pub loop-n-preserved : goal.loop-n-preserved
loop-n-preserved c = let k = c.loop-n in let a = c.args in formatted-here (number_at a.f) a.from a.to k.n k.invariant (omega arith) (sym c.number_at-m.ensures ∙ c.if-m-ne0.false)

pub returns : goal.returns
returns c = let k = c.loop-n in let a = c.args in sym (all-formatted (number_at a.f) a.from a.to k.n k.invariant (omega arith))

-- the last size is formatted too
pub returns-else-m-ne0 : goal.returns-else-m-ne0
returns-else-m-ne0 c =
    let k = c.loop-n in
    let a = c.args in
    let left = formatted-here (number_at a.f) a.from a.to k.n k.invariant (omega arith) (sym c.number_at-m.ensures ∙ c.if-m-ne0.false) in
    sym (all-formatted (number_at a.f) a.from a.to (k.n + 1) left (omega arith))
