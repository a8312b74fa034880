-- `refusal_sentences::put_sentence` meets its contract: the page's line of the number is its sentence.
-- Assumes nothing.
use native.Mathlib.Omega.{arith}
use Rattle.refusal_sentences.proofs.Laws.{line-put, no-line-put}
use Rattle.refusal_sentences.proofs.put_sentence.Goals as goal

pub returns-then-number-gt-LAST : goal.returns-then-number-gt-LAST
returns-then-number-gt-LAST c = no-line-put c.lines-page.ensures _ c.if-number-gt-LAST.true c.put_line.ensures

pub returns : goal.returns
returns c = line-put c.lines-page.ensures _ (omega arith) c.put_line-2.ensures
