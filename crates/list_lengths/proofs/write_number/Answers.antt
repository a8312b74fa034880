-- `list_lengths::write_number` meets its contract.
-- Assumes nothing.
use Rattle.group_bytes.proofs.Accepted.{or-first}
use Rattle.list_lengths.proofs.Numbers.{write-fits, write-other, write-narrow}
use Rattle.list_lengths.specs.Pieces.{write_number}
use mathlib.Core.Path.{sym, ◌∙◌}
use native.Mathlib.Omega.{arith}
use Rattle.list_lengths.proofs.write_number.Goals as goal

pub returns-then-n-ne0 : goal.returns-then-n-ne0
unfolding write_number
returns-then-n-ne0 c = or-first _ _ _ c.place_number-n.ensures c.if-n-ne0.true

pub returns-then-len-listed_length : goal.returns-then-len-listed_length
returns-then-len-listed_length c = write-other c.args.run c.args.k _ _ (sym c.place_number-n.ensures ∙ c.if-n-ne0.false) (λ e. c.if-len-listed_length.true (e ∙ sym c.listed_length.ensures))

pub returns-then-listed_part-work : goal.returns-then-listed_part-work
returns-then-listed_part-work c = let e = c.listed_part.ensures in
    let t = c.if-listed_part-work.true in
    write-fits c.args.run c.args.k _ _ (sym c.place_number-n.ensures ∙ c.if-n-ne0.false) (c.if-len-listed_length.false ∙ c.listed_length.ensures) (omega arith)

pub returns : goal.returns
returns c = let e = c.listed_part.ensures in
    let t = c.if-listed_part-work.false in
    write-narrow c.args.run c.args.k _ _ (sym c.place_number-n.ensures ∙ c.if-n-ne0.false) (c.if-len-listed_length.false ∙ c.listed_length.ensures) (omega arith)
