-- `log_record::parts::unmount` meets its contract.
-- Assumes nothing.
use Rattle.log_record.specs.Record.{unmount_fields}
use Rattle.endian.proofs.Laws.{put_in}
use mathlib.Core.Path.{refl}
use borrow.Author.Rules.{rules}
use Rattle.log_record.proofs.parts.unmount.Goals as goal

pub returns : goal.returns
unfolding unmount_fields
returns c = rw (put_in c.put_le16.ensures (search rules), put_in c.put8-2.ensures (search rules), put_in c.put8.ensures (search rules), put_in c.put32-2.ensures (search rules), put_in c.put32.ensures (search rules)) refl
