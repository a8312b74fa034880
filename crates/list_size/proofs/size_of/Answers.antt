-- `list_size::size_of` meets its contract.
-- Assumes nothing.
use Rattle.list_size.proofs.Closed.{bytes_most, size-are}
use native.Mathlib.Omega.{arith}
use Rattle.list_size.proofs.size_of.Goals as goal

pub overflow_mul-result-2 : goal.overflow_mul-result-2
overflow_mul-result-2 c = let m = bytes_most c.args.blocks c.args.bs c.requires.0 c.requires.1 in omega arith

pub overflow_add-result-3 : goal.overflow_add-result-3
overflow_add-result-3 c = let m = bytes_most c.args.blocks c.args.bs c.requires.0 c.requires.1 in omega arith

pub overflow_add-result-4 : goal.overflow_add-result-4
overflow_add-result-4 c = let m = bytes_most c.args.blocks c.args.bs c.requires.0 c.requires.1 in omega arith

pub overflow_mul-result-4 : goal.overflow_mul-result-4
overflow_mul-result-4 c = let m = bytes_most c.args.blocks c.args.bs c.requires.0 c.requires.1 in omega arith

pub returns : goal.returns
returns c = size-are _ _ (omega arith) (omega arith) (omega arith)
