-- `reader_names::byte_at` meets its contract.
-- Assumes nothing.
use native.Mathlib.Omega.{arith}
use Rattle.endian.specs.Bytes.{be_at}
use Rattle.reader_names.proofs.byte_at.Goals as goal

pub returns : goal.returns
unfolding be_at
returns c = omega arith
