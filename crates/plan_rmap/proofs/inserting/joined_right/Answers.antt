-- `plan_rmap::inserting::joined_right` meets its contract.
-- Assumes nothing.
use native.Mathlib.Omega.{arith}
use borrow.Author.Rules.{rules}
use mathlib.Core.Path.{◌≡◌, ◌∙◌}
use borrow.Author.Tests.{lt-ltb, le-ltb}
use lib.ListN.{length, take}
use lib.Seq.{get_or-take, length-take-le}
use Rattle.plan_rmap.specs.Rmap.{zero_rmap_rec, joins_right}
use Rattle.plan_rmap.proofs.inserting.joined_right.Goals as goal

pub returns-then-p-l : goal.returns-then-p-l
unfolding joins_right
returns-then-p-l c = let k : length c.args.l.recs ≡ 64 = c.well_formed.0.1.1.0.1.0.1 in
    let n : length (take c.args.l.len c.args.l.recs) ≡ c.args.l.len = length-take-le _ _ (omega arith) in
    c.joined.ensures ∙ rw (n, lt-ltb c.args.p c.args.l.len (search rules), get_or-take c.args.l.len c.args.l.recs c.args.p zero_rmap_rec (omega arith))

pub returns-else-p-l : goal.returns-else-p-l
unfolding joins_right
returns-else-p-l c = let k : length c.args.l.recs ≡ 64 = c.well_formed.0.1.1.0.1.0.1 in
    let n : length (take c.args.l.len c.args.l.recs) ≡ c.args.l.len = length-take-le _ _ (omega arith) in
    rw (n, le-ltb _ _ c.if-p-l.false)
