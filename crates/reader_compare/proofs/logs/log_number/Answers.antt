-- `reader_compare::logs::log_number` meets its contract.
-- Assumes nothing.
use mathlib.Core.Path.{◌≡◌, ◌∙◌}
use native.Mathlib.Omega.{arith}
use lib.ListN.{length}
use borrow.Author.Rules.{rules}
use Rattle.reader_compare.proofs.Made.{log-too-long}
use Rattle.reader_compare.proofs.logs.log_number.Goals as goal

pub returns : goal.returns
returns c = let l : length c.args.g.label ≡ 12 = search (rules, c.well_formed.0.1.1.1.1.1.1.1.1.1.1.1.1.1.1.1.1.1.1.1) in
    c.place_number.ensures ∙ log-too-long _ _ _ _ l (omega arith)
