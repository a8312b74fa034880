-- `list_lengths::piece_length` meets its contract.
-- Assumes nothing.
use Rattle.list_lengths.proofs.Numbers.{count-refused, count-given}
use Rattle.list_lengths.specs.Pieces.{listed_length, length_answer, counted_as}
use Prim.Native.Nat.{ℕ}
use mathlib.Core.Path.{ap, ◌∙◌}
use Rattle.list_lengths.proofs.piece_length.Goals as goal

pub returns-then-n-ne0 : goal.returns-then-n-ne0
unfolding length_answer
returns-then-n-ne0 c = let e = c.place_number-n.ensures in
    count-refused _ _ _ c.if-n-ne0.true c.refused.ensures ∙ ap (λ (n : ℕ). counted_as n (listed_length c.args.run.geometry c.args.k)) e

pub returns : goal.returns
unfolding length_answer
returns c = count-given _ _ _ _ c.place_number-n.ensures c.if-n-ne0.false c.listed_length-value.ensures
