-- `plan_free::picking::best_fit` meets its contract.
-- Assumes nothing.
use mathlib.Core.Path.{◌≡◌, ◌∙◌}
use borrow.Author.Rules.{rules}
use Rattle.std.specs.List.{fold}
use Rattle.std.proofs.lemmas.Iterator.{YieldsList-from_slice}
use Rattle.std.proofs.lemmas.Iterator.Consumers.{fold_from_yields_List}
use Rattle.seqs.proofs.Chains.{folded}
use Rattle.plan_free.specs.Free.{no_choice, fitter, free_of}
use Rattle.plan_free.proofs.picking.best_fit.Goals as goal

pub returns : goal.returns
returns c =
    let h : c.fold.result ≡ fold (fitter c.args.want) c.unpicked.result (free_of c.args.l) =
    fold_from_yields_List _ (fitter c.args.want) _ _ c.fold.ensures.ran (YieldsList-from_slice (free_of c.args.l) cc) (λ a x b q k. search rules) in
    rw c.unpicked.ensures at h ∙ folded (fitter c.args.want) no_choice (free_of c.args.l)
