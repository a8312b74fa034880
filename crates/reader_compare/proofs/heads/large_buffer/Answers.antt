-- `reader_compare::heads::large_buffer` meets its contract.
-- Assumes nothing.
use mathlib.Core.Path.{sym}
use Prim.Native.Nat.{ℕ}
use lib.ListN.{length-replicate}
use Rattle.reader_compare.proofs.heads.large_buffer.Goals as goal

pub returns : goal.returns
returns c = sym (length-replicate {A = ℕ} 163840 0)
