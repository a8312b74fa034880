-- `plan_rmap::inserting::splice` meets its contract.
-- Assumes nothing.
use native.Mathlib.Omega.{arith}
use mathlib.Core.Path.{◌≡◌, sym, ◌∙◌}
use lib.ListN.{length}
use Rattle.plan_rmap.proofs.Laws.{kept_full, kept-fits}
use Rattle.plan_rmap.proofs.inserting.splice.Goals as goal

pub returns-then-i-n-gt64 : goal.returns-then-i-n-gt64
returns-then-i-n-gt64 c = let k : length c.args.l.recs ≡ 64 = c.well_formed.0.1.1.0.1.0.1 in
    c.refused.ensures ∙ sym (kept_full c.args.l.recs c.args.l.len c.args.i c.args.j c.args.x (omega arith) (omega arith) (omega arith))

pub returns : goal.returns
returns c = let k : length c.args.l.recs ≡ 64 = c.well_formed.0.1.1.0.1.0.1 in
    rw (c.append-list.ensures, c.push-mid.ensures, c.append-head.ensures, c.empty-none.ensures) (sym (kept-fits c.args.l.recs c.args.l.len c.args.i c.args.j c.args.x (omega arith) (omega arith) (omega arith)))
