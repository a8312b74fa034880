-- `list_lengths::piece_count` meets its contract.
-- Assumes nothing.
use Rattle.group_bytes.proofs.Accepted.{bounded}
use Rattle.list_lengths.proofs.Numbers.{format-zero, count_fits, count-refused, count-given}
use Rattle.list_lengths.specs.Pieces.{count_answer, counted_as}
use Rattle.list_spec.specs.Listing.{piece_count}
use Prim.Native.Nat.{ℕ}
use mathlib.Core.Path.{◌≡◌, refl, sym, ap, ◌∙◌}
use lib.ListN.{length}
use native.Mathlib.Omega.{arith}
use borrow.Author.Rules.{rules}
use Rattle.list_lengths.proofs.piece_count.Goals.{Start}
use Rattle.list_lengths.proofs.piece_count.Goals as goal

label : (s : Start) → length s.args.run.geometry.label ≡ 12
label s = search rules

pub returns-then-n-ne0 : goal.returns-then-n-ne0
unfolding count_answer
returns-then-n-ne0 c = let e = c.format_number-n.ensures in
    count-refused _ _ _ c.if-n-ne0.true c.refused.ensures ∙ ap (λ (n : ℕ). counted_as n (piece_count c.args.run)) e

pub overflow_add-value : goal.overflow_add-value
overflow_add-value c = let g = c.args.run.geometry in
    omega (arith, count_fits g (bounded g (label c.before.before.before.before) (format-zero c.args.run (sym c.format_number-n.ensures ∙ c.if-n-ne0.false)).0))

pub returns : goal.returns
unfolding count_answer piece_count
returns c = count-given _ _ _ _ c.format_number-n.ensures c.if-n-ne0.false refl
