-- `reader_pass::offset_of` meets its contract.
-- Assumes nothing.
use Rattle.reader_pass.proofs.offset_of.Goals as goal

pub returns-in-Naming : goal.returns-in-Naming
returns-in-Naming c = rw c.in-Naming.is

pub returns-in-First : goal.returns-in-First
returns-in-First c = rw c.in-First.is

pub returns-in-Heads : goal.returns-in-Heads
returns-in-Heads c = rw (c.place_byte.ensures, c.in-Heads.is)

pub returns-in-Log : goal.returns-in-Log
returns-in-Log c = rw (c.place_byte-in-Log.ensures, c.in-Log.is)

pub returns-in-Ended : goal.returns-in-Ended
returns-in-Ended c = rw c.in-Ended.is
