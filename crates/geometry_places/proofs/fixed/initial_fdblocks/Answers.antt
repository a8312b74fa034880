-- `geometry_places::fixed::initial_fdblocks` meets its contract: the heads of all groups of an answer are fewer than 2 ^ 64 blocks.
-- Assumes nothing.
use borrow.Author.Rules.{rules}
use mathlib.Core.Path.{◌≡◌, sym, ◌∙◌}
use lib.ListN.{length}
use Rattle.geometry_counts.specs.Known.{known}
use Rattle.geometry_layout.specs.Places.{initial_free}
use Rattle.geometry_layout.proofs.Bounding.{answer-bounds}
use Rattle.geometry_places.specs.Answers.{initial_fdblocks}
use Rattle.geometry_places.proofs.Room.{heads-fit}
use Rattle.geometry_places.proofs.fixed.initial_fdblocks.Goals as goal

pub returns-then-not-is_answer : goal.returns-then-not-is_answer
unfolding known
returns-then-not-is_answer c = rw (sym c.is_answer.ensures ∙ c.if-not-is_answer.true)

pub overflow_mul-heads : goal.overflow_mul-heads
overflow_mul-heads c = let l : length c.args.g.label ≡ 12 = search (rules, c.well_formed.0.1.1.1.1.1.1.1.1.1.1.1.1.1.1.1.1.1.1.1) in
    let z = answer-bounds _ l (sym c.is_answer.ensures ∙ c.if-not-is_answer.false) in
    rw c.prealloc_of.ensures (record { fits = heads-fit _ z })

pub returns : goal.returns
unfolding known initial_fdblocks initial_free
returns c = rw (
  c.saturating_sub-2.ensures,
  c.saturating_sub.ensures,
  c.prealloc_of.ensures,
  sym c.is_answer.ensures ∙ c.if-not-is_answer.false,
)
