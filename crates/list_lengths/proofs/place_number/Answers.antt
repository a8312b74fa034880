-- `list_lengths::place_number` meets its contract.
-- Assumes nothing.
use Rattle.group_bytes.proofs.Accepted.{or-first}
use Rattle.list_lengths.proofs.Numbers.{place-there, place_none}
use Rattle.list_lengths.specs.Pieces.{piece_number}
use mathlib.Core.Path.{sym, ◌∙◌}
use Rattle.list_lengths.proofs.place_number.Goals as goal

pub returns-then-n-ne0 : goal.returns-then-n-ne0
unfolding piece_number
returns-then-n-ne0 c = or-first _ _ _ c.format_number-n.ensures c.if-n-ne0.true

pub returns-then-saturating_sub-g : goal.returns-then-saturating_sub-g
returns-then-saturating_sub-g c = place-there c.args.run c.args.k (sym c.format_number-n.ensures ∙ c.if-n-ne0.false) (rw c.saturating_sub.ensures at c.if-saturating_sub-g.true)

pub returns : goal.returns
returns c = place_none c.args.run c.args.k (sym c.format_number-n.ensures ∙ c.if-n-ne0.false) (rw c.saturating_sub.ensures at c.if-saturating_sub-g.false)
