-- `inode_time::encode_big` meets its contract.
-- Assumes nothing.
use borrow.Author.Tests.{lt-ltb, le-ltb}
use native.Mathlib.Omega.{arith}
use Prim.Native.Nat.{◌+◌, ◌*◌}
use mathlib.Core.Path.{refl}
use Rattle.inode_time.proofs.encode_big.Goals as goal

pub returns-then-shifted-lt18446744073 : goal.returns-then-shifted-lt18446744073
returns-then-shifted-lt18446744073 c = rw (lt-ltb (c.args.shifted * 1000000000 + c.args.nsecs) 18446744073709551616 (omega arith)) (refl, refl)

pub returns-then-nsecs-le709551615 : goal.returns-then-nsecs-le709551615
returns-then-nsecs-le709551615 c = rw (lt-ltb (c.args.shifted * 1000000000 + c.args.nsecs) 18446744073709551616 (omega arith)) (refl, refl)

pub returns : goal.returns
returns c = rw (le-ltb (c.args.shifted * 1000000000 + c.args.nsecs) 18446744073709551616 (omega arith)) c.refused.ensures
