-- `request_texts::decimal` meets its contract. Invariant: the digits from the index on make what is left of the number, which fits so far.
-- Assumes nothing.
use Rattle.request_texts.proofs.Saying.{value-turn, value-done, value-over, within-over, within-is}
use Rattle.table_lines.specs.Decimal.{value_after}
use lib.ListN.{get_or}
use Prim.Native.Nat.{◌+◌, ◌-◌, ◌*◌, ◌^◌, ◌<◌}
use native.Mathlib.Omega.{arith}
use mathlib.Core.Path.{sym, ◌∙◌}
use Rattle.request_texts.proofs.decimal.Goals as goal

pub returns-in-None : goal.returns-in-None
returns-in-None c =
    let no_room : c.loop-digit.value * 10 + (get_or c.args.digits.now c.loop-digit.digit-index 0 - 48) < 2 ^ 64 → ⊥ = c.in-None.ensures in
    c.refused.ensures ∙ within-over (value_after 0 c.args.digits.now) (rw c.loop-digit.invariant.0 (value-over c.loop-digit.value c.args.digits.now c.loop-digit.digit-index (omega arith) (omega arith)))

pub loop-digit-preserved : goal.loop-digit-preserved
loop-digit-preserved c =
    let longer = c.in-Some.ensures in
    (c.loop-digit.invariant.0 ∙ value-turn c.loop-digit.value c.args.digits.now c.loop-digit.digit-index (omega arith) ∙ rw longer.1, rw longer.1 longer.0)

pub returns : goal.returns
returns c = within-is (value_after 0 c.args.digits.now) c.loop-digit.value c.loop-digit.invariant.1 (sym (c.loop-digit.invariant.0 ∙ value-done c.loop-digit.value c.args.digits.now c.loop-digit.digit-index (omega arith)))
