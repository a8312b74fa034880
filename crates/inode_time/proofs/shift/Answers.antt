-- `inode_time::shift` meets its contract.
-- Assumes nothing.
use Rattle.inode_time.proofs.Seconds.{early, late, between, sum_fits, sum-read, shifted-most, inside-no, inside-yes}
use Rattle.inode_time.specs.Time.{shifted}
use mir.ValLaws.{to_z-of_z}
use mir.Syntax.{w64}
use lib.IntN.{nat_abs}
use native.Mathlib.Omega.{arith}
use Prim.Native.Nat.{◌<◌, ◌^◌}
use mathlib.Core.Path.{ap}
use Rattle.inode_time.proofs.shift.Goals as goal

pub returns-then-secs-ltminus2147483648 : goal.returns-then-secs-ltminus2147483648
returns-then-secs-ltminus2147483648 c = inside-no c.args.secs (early _ _ (to_z-of_z w64 c.args.secs c.ranges.secs) c.if-secs-ltminus2147483648.true)

pub returns-then-secs-gt16299260425 : goal.returns-then-secs-gt16299260425
returns-then-secs-gt16299260425 c = inside-no c.args.secs (late _ _ (to_z-of_z w64 c.args.secs c.ranges.secs) c.if-secs-gt16299260425.true)

pub overflow_add-result : goal.overflow_add-result
overflow_add-result c = let args = c.args in
    let e = to_z-of_z w64 args.secs c.ranges.secs in
    sum_fits _ args.secs e (between _ _ e c.if-secs-ltminus2147483648.false c.if-secs-gt16299260425.false)

pub overflow_cast-result : goal.overflow_cast-result
overflow_cast-result c = let args = c.args in
    let e = to_z-of_z w64 args.secs c.ranges.secs in
    let b = between _ _ e c.if-secs-ltminus2147483648.false c.if-secs-gt16299260425.false in
    let h = shifted-most args.secs b in
    rw (sum-read _ args.secs e b) (tt, record { fits = let g : shifted args.secs < 2 ^ 64 = omega arith in g })

pub returns : goal.returns
returns c = let args = c.args in
    let e = to_z-of_z w64 args.secs c.ranges.secs in
    let b = between _ _ e c.if-secs-ltminus2147483648.false c.if-secs-gt16299260425.false in
    inside-yes args.secs _ b (ap nat_abs (sum-read _ args.secs e b))
