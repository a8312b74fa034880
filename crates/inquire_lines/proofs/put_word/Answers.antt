-- `inquire_lines::put_word` meets its contract.
-- Assumes nothing.
use Rattle.inquire_lines.specs.Items.{word_bytes}
use Rattle.inquire_lines.proofs.put_word.Goals as goal

pub returns : goal.returns
unfolding word_bytes
returns c = c.put_followed.ensures
