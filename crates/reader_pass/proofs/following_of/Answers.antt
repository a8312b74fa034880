-- `reader_pass::following_of` meets its contract.
-- Assumes nothing.
use mathlib.Core.Path.{refl}
use native.Mathlib.Omega.{arith}
use borrow.Author.Tests.{lt-ltb, le-ltb}
use Rattle.arith.specs.Choice.{when}
use Rattle.reader_pass.specs.Passing.{following}
use Rattle.reader_pass.proofs.following_of.Goals as goal

pub returns-then-k-agcount : goal.returns-then-k-agcount
unfolding following when
returns-then-k-agcount c = rw (lt-ltb c.args.k c.args.agcount c.if-k-agcount.true) refl

pub returns : goal.returns
unfolding following when
returns c = rw (le-ltb c.args.k c.args.agcount (omega arith)) refl
