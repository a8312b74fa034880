-- `plan_holds::runs::is_held` meets its contract.
-- Assumes nothing.
use mathlib.Core.Path.{◌∙◌}
use borrow.Author.Rules.{rules}
use Rattle.std.proofs.lemmas.Iterator.{YieldsList-from_slice}
use Rattle.std.proofs.lemmas.Iterator.Search.{any_from_yields_List}
use Rattle.plan_holds.specs.Holding.{held_of, is_run}
use Rattle.plan_holds.proofs.Laws.{any-is}
use Rattle.plan_holds.proofs.runs.is_held.Goals as goal

pub returns : goal.returns
returns c =
    any_from_yields_List (is_run c.args.a c.args.n) _ _ _ c.any.ensures.ran (YieldsList-from_slice (held_of c.args.h) c.iter.ensures.rest)
    (λ x b q k. search rules)
    ∙ any-is c.args.a c.args.n (held_of c.args.h)
