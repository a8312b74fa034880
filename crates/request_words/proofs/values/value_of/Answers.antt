-- `request_words::values::value_of` meets its contract.
-- Assumes nothing.
use Rattle.request_words.proofs.Valuing.{limited-is, limited-not}
use native.Mathlib.Omega.{arith}
use mathlib.Core.Path.{◌∙◌}
use Rattle.request_words.proofs.values.value_of.Goals as goal

pub returns-then-v-largest : goal.returns-then-v-largest
returns-then-v-largest c = limited-is _ _ _ c.value_in-v.ensures _ c.largest.ensures c.if-v-largest.true

pub returns : goal.returns
returns c = c.refused.ensures ∙ limited-not _ c.value_in-v.result _ c.value_in-v.ensures _ c.largest.ensures (omega arith)
