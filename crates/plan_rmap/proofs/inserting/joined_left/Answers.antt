-- `plan_rmap::inserting::joined_left` meets its contract.
-- Assumes nothing.
use native.Mathlib.Omega.{arith}
use borrow.Author.Rules.{rules}
use mathlib.Core.Path.{◌∙◌}
use Prim.Native.Nat.{◌-◌}
use borrow.Author.Tests.{lt-ltb, le-ltb}
use lib.Seq.{get_or-take}
use Rattle.plan_rmap.specs.Rmap.{zero_rmap_rec, joins_left}
use Rattle.plan_rmap.proofs.inserting.joined_left.Goals as goal

pub returns-then-p-gt0 : goal.returns-then-p-gt0
unfolding joins_left
returns-then-p-gt0 c = c.joined.ensures ∙ rw (lt-ltb 0 c.args.p (search rules), get_or-take c.args.l.len c.args.l.recs (c.args.p - 1) zero_rmap_rec (omega arith))

pub returns-else-p-gt0 : goal.returns-else-p-gt0
unfolding joins_left
returns-else-p-gt0 c = rw (le-ltb _ _ c.if-p-gt0.false)
