-- `geometry_counts::inodes::spino_align` meets its contract: an answer's cluster has at most 32 blocks.
-- Assumes nothing.
use native.Mathlib.Omega.{arith}
use borrow.Author.Rules.{rules}
use mathlib.Core.Path.{◌≡◌, sym, ◌∙◌}
use mathlib.Core.Bool.{true}
use lib.ListN.{length}
use Rattle.geometry_answers.specs.Named.{is_answer}
use Prim.Native.Nat.{◌≤◌}
use Rattle.geometry_layout.specs.Places.{cluster_of, sparse_align}
use Rattle.geometry_layout.proofs.Bounding.{answer-bounds}
use Rattle.geometry_counts.specs.Known.{known}
use Rattle.geometry_counts.proofs.Room.{picked-le}
use Rattle.geometry_counts.proofs.inodes.spino_align.Goals as goal

pub returns-then-not-is_answer : goal.returns-then-not-is_answer
unfolding known
returns-then-not-is_answer c = rw (sym c.is_answer.ensures ∙ c.if-not-is_answer.true)

pub overflow_cast-result : goal.overflow_cast-result
unfolding sparse_align
overflow_cast-result c = let g = c.args.g in
    let h : is_answer g ≡ true = sym c.is_answer.ensures ∙ c.if-not-is_answer.false in
    let l : length g.label ≡ 12 = search (rules, c.well_formed.0.1.1.1.1.1.1.1.1.1.1.1.1.1.1.1.1.1.1.1) in
    let w : c.spino_of-align.result ≤ 32 = rw c.spino_of-align.ensures (picked-le g.features.sparse (cluster_of g.inodesize g.blocksize) 32 (answer-bounds g l h).places.cluster-most) in
    record { fits = omega arith }

pub returns : goal.returns
unfolding known
returns c = rw (c.spino_of-align.ensures, sym c.is_answer.ensures ∙ c.if-not-is_answer.false)
