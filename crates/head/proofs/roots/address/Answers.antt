-- `head::roots::address` meets its contract.
-- Assumes nothing.
use Rattle.geometry_layout.specs.Places.{daddr_of, disk_blocks_before}
use native.Mathlib.Omega.{arith}
use Prim.Native.Nat.{◌*◌, ◌<◌, ◌^◌}
use borrow.Author.Rules.{rules}
use Rattle.head.proofs.roots.address.Goals as goal

pub overflow_mul-result : goal.overflow_mul-result
overflow_mul-result c = let a = c.requires.0.addresses c.args.b c.requires.1 in let h : c.args.w.agno * c.args.w.agsize < 2 ^ 64 = omega (arith, a.0) in search (rules, h)

pub overflow_add-result : goal.overflow_add-result
overflow_add-result c = let a = c.requires.0.addresses c.args.b c.requires.1 in search (rules, a.0)

pub overflow_mul-result-2 : goal.overflow_mul-result-2
overflow_mul-result-2 c = let a = c.requires.0.addresses c.args.b c.requires.1 in search (rules, a.1)

pub returns : goal.returns
unfolding daddr_of disk_blocks_before
returns c = cc
