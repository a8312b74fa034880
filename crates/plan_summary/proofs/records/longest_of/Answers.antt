-- `plan_summary::records::longest_of` meets its contract.
-- Assumes nothing.
use mathlib.Core.Path.{◌∙◌}
use Prim.Native.Nat.{max}
use borrow.Author.Rules.{rules}
use Rattle.std.proofs.lemmas.Iterator.{YieldsList-from_slice}
use Rattle.std.proofs.lemmas.Iterator.Consumers.{fold_from_yields_List}
use Rattle.plan_free.specs.Free.{free_of}
use Rattle.plan_totals.specs.Totals.{longest_of}
use Rattle.plan_summary.proofs.Folds.{longests}
use Rattle.plan_summary.proofs.records.longest_of.Goals as goal

pub returns : goal.returns
unfolding longest_of
returns c =
    fold_from_yields_List _ (λ m r. max m r.count) _ _ c.fold.ensures.ran (YieldsList-from_slice (free_of c.args.l) c.iter.ensures.rest) (λ s x b q k. search rules)
    ∙ longests 0 (free_of c.args.l)
