-- `head_frame::frame_with` meets its contract.
-- Assumes nothing.
use Rattle.head_frame.proofs.Fitting.{plan-narrow}
use Rattle.head_frame.specs.Frames.{frame_of}
use lib.ListN.{length}
use mathlib.Core.Path.{◌≡◌}
use borrow.Author.Rules.{rules}
use Rattle.head_frame.proofs.frame_with.Goals as goal

pub chunk_ino-newino-requires : goal.chunk_ino-newino-requires
chunk_ino-newino-requires c = let l : length c.args.g.label ≡ 12 = search (rules, c.well_formed.0.1.1.1.1.1.1.1.1.1.1.1.1.1.1.1.1.1.1.1) in let n = plan-narrow c.args.g c.args.p l c.requires.0 in (n.shift, n.inode)

pub overflow_cast-result : goal.overflow_cast-result
overflow_cast-result c = let l : length c.args.g.label ≡ 12 = search (rules, c.well_formed.0.1.1.1.1.1.1.1.1.1.1.1.1.1.1.1.1.1.1.1) in search (rules, (plan-narrow c.args.g c.args.p l c.requires.0).group)

pub overflow_cast-result-2 : goal.overflow_cast-result-2
overflow_cast-result-2 c = let l : length c.args.g.label ≡ 12 = search (rules, c.well_formed.0.1.1.1.1.1.1.1.1.1.1.1.1.1.1.1.1.1.1.1) in search (rules, (plan-narrow c.args.g c.args.p l c.requires.0).blocks)

pub overflow_cast-result-3 : goal.overflow_cast-result-3
overflow_cast-result-3 c = let l : length c.args.g.label ≡ 12 = search (rules, c.well_formed.0.1.1.1.1.1.1.1.1.1.1.1.1.1.1.1.1.1.1.1) in rw c.header_of-header.ensures (search (rules, (plan-narrow c.args.g c.args.p l c.requires.0).header))

pub overflow_cast-result-4 : goal.overflow_cast-result-4
overflow_cast-result-4 c = let l : length c.args.g.label ≡ 12 = search (rules, c.well_formed.0.1.1.1.1.1.1.1.1.1.1.1.1.1.1.1.1.1.1.1) in search (rules, (plan-narrow c.args.g c.args.p l c.requires.0).list)

pub returns : goal.returns
unfolding frame_of
returns c = rw (c.requires.1, c.requires.2, c.header_of-header.ensures, c.has_chunk-there.ensures, c.chunk_ino-newino.ensures)
