-- `reader_compare::heads::small_buffer` meets its contract.
-- Assumes nothing.
use mathlib.Core.Path.{sym}
use Prim.Native.Nat.{ℕ}
use lib.ListN.{length-replicate}
use Rattle.reader_compare.proofs.heads.small_buffer.Goals as goal

pub returns : goal.returns
returns c = sym (length-replicate {A = ℕ} 40960 0)
