-- `sb::put::put_log_sector` meets its contract.
-- Assumes nothing.
use mathlib.Core.Path.{ap, ◌∙◌}
use Rattle.endian.specs.Bytes.{patch, be_bytes}
use Rattle.endian.proofs.Laws.{put_in}
use borrow.Author.Rules.{rules}
use Rattle.sb.proofs.put.put_log_sector.Goals as goal

pub returns-then-large : goal.returns-then-large
returns-then-large c = rw c.if-large.true (put_in c.put16.ensures (search rules) ∙ ap (patch 194 (be_bytes 2 c.args.size)) (put_in c.put8.ensures (search rules)))
