-- `table_lines::decimal::store_number` meets its contract.
-- Assumes nothing.
use mathlib.Core.Path.{sym, ◌∙◌}
use native.Mathlib.Omega.{arith}
use lib.ListN.{length-set}
use Rattle.table_lines.proofs.Stores.{patch-snoc}
use Rattle.table_lines.proofs.decimal.store_number.Goals as goal

pub store_digits-requires : goal.store_digits-requires
store_digits-requires c = simp length-set (omega arith)

pub shape_of-buf : goal.shape_of-buf
shape_of-buf c = simp length-set at c.buf-1.given

pub returns : goal.returns
returns c = (omega arith, c.store_digits.ensures.1 ∙ sym (patch-snoc _ _ _ _ _ (omega arith)))
