-- `label_text::is_plain` meets its contract.
-- Assumes nothing.
use native.Mathlib.Omega.{arith}
use Rattle.label_text.proofs.Laws.{low, high, quote-is, backslash-is, plain-is}
use Rattle.label_text.proofs.is_plain.Goals as goal

pub returns-then-b-lt32 : goal.returns-then-b-lt32
returns-then-b-lt32 c = low _ (omega arith)

pub returns-then-b-gt126 : goal.returns-then-b-gt126
returns-then-b-gt126 c = high _ (omega arith) (omega arith)

pub returns-then-b-eq34 : goal.returns-then-b-eq34
returns-then-b-eq34 c = quote-is _ (omega arith) (omega arith) c.if-b-eq34.true

pub returns-then-b-eq92 : goal.returns-then-b-eq92
returns-then-b-eq92 c = backslash-is _ (omega arith) (omega arith) c.if-b-eq34.false c.if-b-eq92.true

pub returns : goal.returns
returns c = plain-is _ (omega arith) (omega arith) c.if-b-eq34.false c.if-b-eq92.false
