-- `reader_pass::feed_whole` meets its contract.
-- Assumes nothing.
use Rattle.reader_pass.proofs.feed_whole.Goals as goal

pub returns-in-Naming : goal.returns-in-Naming
returns-in-Naming c = (rw (c.feed_named.ensures, c.in-Naming.is), rw c.in-Naming.is)

pub returns-in-First : goal.returns-in-First
returns-in-First c = (rw (c.feed_first.ensures, c.in-First.is), rw c.in-First.is)

pub returns-in-Heads : goal.returns-in-Heads
returns-in-Heads c = (rw (c.feed_head.ensures.0, c.in-Heads.is), rw c.in-Heads.is c.feed_head.ensures.1)

pub returns-in-Log : goal.returns-in-Log
returns-in-Log c = (rw (c.feed_log.ensures, c.in-Log.is), rw c.in-Log.is)

pub returns-in-Ended : goal.returns-in-Ended
returns-in-Ended c = (rw c.in-Ended.is, rw c.in-Ended.is)
