-- `group_bytes::head_length` meets its contract.
-- Assumes nothing.
use mathlib.Core.Path.{refl}
use native.Mathlib.Omega.{arith}
use borrow.Author.Rules.{rules}
use Rattle.group_bytes.proofs.Accepted.{length-fits}
use Rattle.group_bytes.proofs.head_length.Goals as goal

pub overflow_mul-result : goal.overflow_mul-result
overflow_mul-result c = let a = c.args in
    rw c.prealloc_of-blocks.ensures (search (rules, length-fits a.f a.sector a.bs (omega arith) (omega arith)))

pub returns : goal.returns
returns c = rw c.prealloc_of-blocks.ensures refl
