-- `plan_free::taking::take_at` meets its contract.
-- Assumes nothing.
use mathlib.Core.Path.{◌≡◌, sym, ◌∙◌}
use Prim.Native.Nat.{◌+◌, ◌-◌, ◌≤◌, ◌<◌}
use native.Mathlib.Omega.{arith}
use lib.ListN.{length, get_or}
use Rattle.plan_free.specs.Free.{zero_free_rec, without_run}
use Rattle.plan_free.proofs.Laws.{taken-at-full, taken-at-fits}
use Rattle.plan_free.proofs.taking.take_at.Goals as goal

pub returns-then-k-n : goal.returns-then-k-n
returns-then-k-n c = let k : length c.args.l.recs ≡ 64 = c.well_formed.0.1.1.0.1.0.1 in
    let m : 64 < c.args.l.len - 1 + length (without_run c.args.s c.args.e (get_or c.args.l.recs c.args.i zero_free_rec)) = omega (arith, c.pieces-k.ensures) in
    c.refused.ensures ∙ sym (taken-at-full c.args.l.recs c.args.l.len c.args.i c.args.s c.args.e (omega arith) (omega arith) m)

pub returns : goal.returns
returns c = let k : length c.args.l.recs ≡ 64 = c.well_formed.0.1.1.0.1.0.1 in
    let m : c.args.l.len - 1 + length (without_run c.args.s c.args.e (get_or c.args.l.recs c.args.i zero_free_rec)) ≤ 64 =
    omega (arith, c.pieces-k.ensures) in
    let f = taken-at-fits c.args.l.recs c.args.l.len c.args.i c.args.s c.args.e (omega arith) (omega arith) m in
    rw (c.append-list.ensures, c.put_after-right.ensures, c.put_before-left.ensures, c.append-head.ensures, c.empty-none.ensures) (sym f)
