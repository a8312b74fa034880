-- `inquire_lines::item_length` meets its contract.
-- Assumes nothing.
use mathlib.Core.Bool.{false}
use Rattle.inquire_lines.proofs.Items.{item-size}
use Rattle.inquire_lines.proofs.item_length.Goals as goal

pub returns : goal.returns
returns c = item-size _ _ _ false c.decimal_length.ensures.0
