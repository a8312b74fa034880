-- `sb::put::put_run` meets its contract. Invariant: what is left of the run, from number i on, still makes the whole run's bytes.
-- Assumes nothing.
use Rattle.std.proofs.Common.{◌≡◌, ◌+◌, ◌-◌, ◌*◌, ◌<◌, arith}
use lib.ListN.{length-take, length-drop}
use lib.Seq.{get_or-take, get_or-drop}
use Rattle.sb.proofs.Runs.{run-next}
use Rattle.sb.proofs.put.put_run.Goals as goal

pub loop-i-preserved : goal.loop-i-preserved
loop-i-preserved c = let a = c.args in
    let l = c.loop-i in
    let t = simp (length-take, length-drop) at c.loop-i-test.true in
    let k : l.i < a.n = omega (arith, t) in
    let h : l.i < a.from + a.n - a.from = omega arith in
    let m : a.off + a.width * l.i + a.width ≡ a.off + a.width * (l.i + 1) = omega arith in
    rw (← m) (run-next (a.off + a.width * l.i) a.width a.n l.i a.from a.v.now l.sector c.put_number.new.sector _ k (omega (arith, c.requires.2)) l.invariant (rw (get_or-take, get_or-drop) at c.put_number.ensures))
