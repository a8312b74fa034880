-- `text_pages::put_line` meets its contract: the bytes between the line's start and its newline are the line's.
-- Assumes nothing.
use mathlib.Core.Path.{sym}
use Rattle.text_pages.proofs.Lines.{same_bytes, line-part}
use Rattle.text_pages.proofs.put_line.Goals as goal

pub returns : goal.returns
returns c = same_bytes (sym (line-part _ _ _ _ c.line_start-from.ensures.0 c.place_of-end.ensures.0)) c.put_text.ensures
