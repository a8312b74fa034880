-- `geometry_places::fixed::rootino` meets its contract: the root chunk of an answer lies in group 0.
-- Assumes nothing.
use borrow.Author.Rules.{rules}
use mathlib.Core.Path.{◌≡◌, sym, ◌∙◌}
use lib.ListN.{length}
use Rattle.geometry_counts.specs.Known.{known}
use Rattle.geometry_layout.proofs.Bounding.{answer-bounds}
use Rattle.geometry_places.specs.Answers.{root_chunk, root_ino}
use Rattle.geometry_places.proofs.Room.{root-place, some-inode}
use Rattle.geometry_places.proofs.fixed.rootino.Goals as goal

pub returns-then-not-is_answer : goal.returns-then-not-is_answer
unfolding known
returns-then-not-is_answer c = rw (sym c.is_answer.ensures ∙ c.if-not-is_answer.true)

pub ino_of-requires : goal.ino_of-requires
ino_of-requires c = let l : length c.args.g.label ≡ 12 = search (rules, c.well_formed.0.1.1.1.1.1.1.1.1.1.1.1.1.1.1.1.1.1.1.1) in
    let z = answer-bounds _ l (sym c.is_answer.ensures ∙ c.if-not-is_answer.false) in
    rw c.root_chunk_of-block.ensures ((root-place _ z).ino 0 (some-inode _ z))

pub returns : goal.returns
unfolding known root_ino root_chunk
returns c = rw (
  c.ino_of.ensures,
  c.root_chunk_of-block.ensures,
  sym c.is_answer.ensures ∙ c.if-not-is_answer.false,
)
