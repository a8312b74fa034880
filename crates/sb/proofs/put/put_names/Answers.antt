-- `sb::put::put_names` meets its contract.
-- Assumes nothing.
use mathlib.Core.Path.{◌≡◌, ap, ◌∙◌}
use lib.ListN.{length}
use Rattle.endian.specs.Bytes.{patch}
use Rattle.endian.proofs.Laws.{put_in}
use borrow.Author.Rules.{rules}
use Rattle.sb.proofs.put.put_names.Goals as goal

pub returns : goal.returns
returns c = let a = c.args in let u : length a.uuid.now ≡ 16 = search rules in let l : length a.label.now ≡ 12 = search rules in put_in c.put_bytes-2.ensures (search rules) ∙ ap (patch 108 a.label.now) (put_in c.put_bytes.ensures (search rules))
