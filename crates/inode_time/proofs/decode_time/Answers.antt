-- `inode_time::decode_time` meets its contract.
-- Assumes nothing.
use Prim.Native.Nat.{◌/◌}
use Rattle.inode_time.proofs.Seconds.{small-read, difference-fits, difference-read, decoded-big, decoded-plus, decoded-minus}
use native.Mathlib.Omega.{arith}
use mathlib.Core.Path.{refl}
use Rattle.inode_time.proofs.decode_time.Goals as goal

pub overflow_sub-result : goal.overflow_sub-result
overflow_sub-result c = difference-fits (c.args.raw / 1000000000) 2147483647 (omega arith) (omega arith)

pub returns-then-bigtime : goal.returns-then-bigtime
returns-then-bigtime c = rw c.if-bigtime.true (decoded-big c.args.raw _ _ (difference-read (c.args.raw / 1000000000) 2147483647 (omega arith) (omega arith)) refl)

pub returns-then-high-lt2147483648 : goal.returns-then-high-lt2147483648
returns-then-high-lt2147483648 c = rw c.if-bigtime.false (decoded-plus c.args.raw _ c.if-high-lt2147483648.true (small-read (c.args.raw / 4294967296) (omega arith)))

pub overflow_sub-result-2 : goal.overflow_sub-result-2
overflow_sub-result-2 c = difference-fits (c.args.raw / 4294967296) 4294967295 (omega arith) (omega arith)

pub returns : goal.returns
returns c = let args = c.args in
    rw c.if-bigtime.false (decoded-minus args.raw _ c.if-high-lt2147483648.false (difference-read (args.raw / 4294967296) 4294967295 (omega arith) (omega arith)))
