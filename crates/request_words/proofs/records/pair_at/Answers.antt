-- `request_words::records::pair_at` meets its contract.
-- Assumes nothing.
use Rattle.request_words.specs.Asked.{pair_at}
use mathlib.Core.Path.{refl}
use Rattle.request_words.proofs.records.pair_at.Goals as goal

pub returns : goal.returns
unfolding pair_at
returns c = rw (c.hex-high.ensures.0, c.byte_at.ensures, c.hex-low.ensures.0, c.byte_at-2.ensures, c.digits_at-k.ensures.0) refl
