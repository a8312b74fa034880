-- `head_frame::has_chunk` meets its contract.
-- Assumes nothing.
use Rattle.head_frame.specs.Frames.{has_chunk}
use Rattle.head_frame.proofs.has_chunk.Goals as goal

pub returns-in-None : goal.returns-in-None
unfolding has_chunk
returns-in-None c = cc

pub returns-in-Some : goal.returns-in-Some
unfolding has_chunk
returns-in-Some c = cc
