-- `label_text::store_byte` meets its contract.
-- Assumes nothing.
use mathlib.Core.Path.{sym, ◌∙◌}
use native.Mathlib.Omega.{arith}
use Rattle.label_text.proofs.Laws.{one-stored, plain-text}
use Rattle.label_text.proofs.store_byte.Goals as goal

pub returns-then-is_plain : goal.returns-then-is_plain
returns-then-is_plain c = one-stored _ _ _ _ (omega arith) (plain-text _ (sym c.is_plain.ensures ∙ c.if-is_plain.true))

pub store_hex-requires : goal.store_hex-requires
store_hex-requires c = (c.requires.0, c.requires.1, sym c.is_plain.ensures ∙ c.if-is_plain.false)
