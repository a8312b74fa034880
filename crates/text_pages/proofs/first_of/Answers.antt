-- `text_pages::first_of` meets its contract.
-- Assumes nothing.
use Rattle.std.proofs.Common.{rules}
use Rattle.text_pages.proofs.Places.{index-by}
use Rattle.text_pages.proofs.first_of.Goals as goal

pub returns : goal.returns
returns c = let e = index-by c.args.b c.args.bytes.now c.position.result (search rules) in rw c.unwrap_or.ensures e
