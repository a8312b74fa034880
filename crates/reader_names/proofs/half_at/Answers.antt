-- `reader_names::half_at` meets its contract.
-- Assumes nothing.
use mathlib.Core.Path.{◌∙◌}
use native.Mathlib.Omega.{arith}
use Rattle.endian.proofs.Laws.{got_in}
use Rattle.reader_names.proofs.half_at.Goals as goal

pub returns : goal.returns
returns c = c.from.ensures ∙ got_in c.be16.ensures (omega arith)
