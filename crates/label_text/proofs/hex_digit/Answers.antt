-- `label_text::hex_digit` meets its contract.
-- Assumes nothing.
use native.Mathlib.Omega.{arith}
use Rattle.label_text.proofs.Laws.{digit_low, digit-high}
use Rattle.label_text.proofs.hex_digit.Goals as goal

pub returns-then-d-lt10 : goal.returns-then-d-lt10
returns-then-d-lt10 c = digit_low _ (omega arith)

pub returns : goal.returns
returns c = digit-high _ (omega arith)
