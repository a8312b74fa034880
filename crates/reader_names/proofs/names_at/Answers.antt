-- `reader_names::names_at` meets its contract.
-- Assumes nothing.
use Rattle.reader_names.specs.Named.{names_at}
use Rattle.reader_names.proofs.names_at.Goals as goal

pub returns : goal.returns
unfolding names_at
returns c = rw (c.bytes_at.ensures, c.features_at.ensures, c.word_at-4.ensures, c.word_at-3.ensures, c.byte_at.ensures, c.half_at-2.ensures, c.half_at.ensures, c.word_at-2.ensures, c.from.ensures, c.word_at.ensures, c.long_at.ensures)
