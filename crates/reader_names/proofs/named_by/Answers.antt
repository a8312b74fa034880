-- `reader_names::named_by` meets its contract.
-- Assumes nothing.
use mathlib.Core.Path.{sym, ap, ◌∙◌}
use native.Mathlib.Omega.{arith}
use Rattle.geometry_answers.specs.Named.{named_answer}
use Rattle.reader_names.proofs.Laws.{short-read, full-answer}
use Rattle.reader_names.proofs.named_by.Goals as goal

pub returns-then-head-lt-LEAST_SECTOR : goal.returns-then-head-lt-LEAST_SECTOR
returns-then-head-lt-LEAST_SECTOR c = short-read c.args.head.now c.args.roomy c.if-head-lt-LEAST_SECTOR.true _ c.zero.ensures

pub returns : goal.returns
returns c = let xs = c.args.head.now in
    let roomy = c.args.roomy in
    c.answer.ensures ∙ ap (named_answer roomy) c.names_at.ensures ∙ sym (full-answer xs roomy (omega arith))
