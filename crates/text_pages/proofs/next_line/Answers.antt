-- `text_pages::next_line` meets its contract.
-- Assumes nothing.
use native.Mathlib.Omega.{arith}
use Rattle.text_pages.proofs.Lines.{next-found, next-none}
use Rattle.text_pages.proofs.next_line.Goals as goal

pub returns-then-end-len : goal.returns-then-end-len
returns-then-end-len c = (next-found _ _ _ c.place_of-end.ensures.0 c.if-end-len.true, omega arith)

pub returns : goal.returns
returns c = (next-none _ _ _ c.place_of-end.ensures.0 (omega arith), omega arith)
