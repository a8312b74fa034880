-- `plan_holds::runs::add_side` meets its contract.
-- Assumes nothing.
use mathlib.Core.Path.{◌∙◌}
use borrow.Author.Rules.{rules}
use Rattle.std.proofs.lemmas.Iterator.{YieldsList-from_slice}
use Rattle.std.proofs.lemmas.Iterator.Consumers.{fold_from_yields_List}
use Rattle.seqs.proofs.Chains.{folded}
use Rattle.plan_holds.specs.Adding.{added_side}
use Rattle.plan_holds.specs.Holding.{held_of}
use Rattle.plan_holds.proofs.runs.add_side.Goals as goal

pub returns : goal.returns
returns c =
    fold_from_yields_List _ (added_side c.args.low c.args.a) _ _ c.fold.ensures.ran (YieldsList-from_slice (held_of c.args.src) c.iter.ensures.rest)
    (λ s x b q k. search rules)
    ∙ folded (added_side c.args.low c.args.a) c.args.l (held_of c.args.src)
