-- `list_write::parts::make_root` meets its contract.
-- Assumes nothing.
use Rattle.geometry_places.specs.Answers.{root_chunk}
use Rattle.list_lengths.proofs.Numbers.{format-zero}
use Rattle.list_write.proofs.Accepted.{root-made}
use borrow.Author.Rules.{rules}
use Rattle.list_write.proofs.parts.make_root.Goals as goal

pub returns : goal.returns
unfolding root_chunk
returns c = let f = format-zero c.args.run c.requires.0 in
    root-made c.args.run.geometry (search rules) f.0 _ _ _ _ _ _ f.1 c.requires.1 c.root_chunk_of-at.ensures c.root_chunk.ensures
