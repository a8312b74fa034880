-- `reader_names::features_at` meets its contract.
-- Assumes nothing.
use Rattle.reader_names.specs.Named.{features_at}
use Rattle.reader_names.proofs.features_at.Goals as goal

pub returns : goal.returns
unfolding features_at
returns c = rw (c.has_bit-7.ensures, c.has_bit-6.ensures, c.has_bit-5.ensures, c.has_bit-4.ensures, c.has_bit-3.ensures, c.has_bit-2.ensures, c.has_bit.ensures)
