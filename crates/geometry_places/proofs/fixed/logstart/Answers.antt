-- `geometry_places::fixed::logstart` meets its contract: the log of an answer begins on the disk.
-- Assumes nothing.
use borrow.Author.Rules.{rules}
use mathlib.Core.Path.{◌≡◌, sym, ◌∙◌}
use lib.ListN.{length}
use Rattle.geometry_counts.specs.Known.{known}
use Rattle.geometry_layout.proofs.Bounding.{answer-bounds}
use Rattle.geometry_places.specs.Answers.{log_start}
use Rattle.geometry_places.proofs.Room.{log-place}
use Rattle.geometry_places.proofs.fixed.logstart.Goals as goal

pub returns-then-not-is_answer : goal.returns-then-not-is_answer
unfolding known
returns-then-not-is_answer c = rw (sym c.is_answer.ensures ∙ c.if-not-is_answer.true)

pub fsb_of-requires : goal.fsb_of-requires
fsb_of-requires c = let l : length c.args.g.label ≡ 12 = search (rules, c.well_formed.0.1.1.1.1.1.1.1.1.1.1.1.1.1.1.1.1.1.1.1) in
    (log-place _ (answer-bounds _ l (sym c.is_answer.ensures ∙ c.if-not-is_answer.false))).fsb

pub returns : goal.returns
unfolding known log_start
returns c = rw (c.fsb_of.ensures, sym c.is_answer.ensures ∙ c.if-not-is_answer.false)
