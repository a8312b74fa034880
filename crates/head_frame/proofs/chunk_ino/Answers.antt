-- `head_frame::chunk_ino` meets its contract.
-- Assumes nothing.
use Rattle.head_frame.specs.Frames.{chunk_ino}
use Prim.Native.Nat.{◌<◌, ◌^◌}
use Rattle.head_frame.proofs.chunk_ino.Goals as goal

pub first_ino-requires : goal.first_ino-requires
unfolding chunk_ino
first_ino-requires c = (c.requires.0, let h : chunk_ino c.args.log c.args.chunk < 2 ^ 32 = c.requires.1 in rw c.in-Some.is at h)

pub returns-in-None : goal.returns-in-None
unfolding chunk_ino
returns-in-None c = cc

pub returns-in-Some : goal.returns-in-Some
unfolding chunk_ino
returns-in-Some c = cc
