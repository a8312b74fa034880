-- `group_bytes::heads::fill_head` meets its contract.
-- Assumes nothing.
use mathlib.Core.Path.{◌≡◌}
use lib.ListN.{length}
use borrow.Author.Rules.{rules}
use Rattle.group_bytes.proofs.Made.{filled}
use Rattle.group_bytes.proofs.heads.fill_head.Goals as goal

pub returns : goal.returns
returns c = let l : length c.args.g.label ≡ 12 = search (rules, c.well_formed.0.1.1.1.1.1.1.1.1.1.1.1.1.1.1.1.1.1.1.1) in
    filled c.args.g _ c.args.k _ c.requires _ _ l c.group_head-made.ensures
