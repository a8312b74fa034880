-- `reader_compare::heads::group_number` meets its contract.
-- Assumes nothing.
use mathlib.Core.Path.{◌≡◌, ◌∙◌}
use native.Mathlib.Omega.{arith}
use lib.ListN.{length}
use borrow.Author.Rules.{rules}
use Rattle.reader_compare.proofs.Made.{head-too-long}
use Rattle.reader_compare.proofs.heads.group_number.Goals as goal

pub returns : goal.returns
returns c = let l : length c.args.g.label ≡ 12 = search (rules, c.well_formed.0.1.1.1.1.1.1.1.1.1.1.1.1.1.1.1.1.1.1.1) in
    c.compare_head.ensures ∙ head-too-long _ _ _ _ _ l (omega arith)
