-- `plan_holds::states::replay` meets its contract.
-- Assumes nothing.
use mathlib.Core.Path.{◌≡◌, ◌∙◌}
use borrow.Author.Rules.{rules}
use Rattle.std.specs.List.{fold}
use Rattle.std.proofs.lemmas.Iterator.{YieldsList-from_slice}
use Rattle.std.proofs.lemmas.Iterator.Consumers.{fold_from_yields_List}
use Rattle.seqs.proofs.Chains.{folded}
use Rattle.plan_holds.specs.Holding.{held_of, held_next, started, replayed}
use Rattle.plan_holds.proofs.states.replay.Goals as goal

pub returns : goal.returns
unfolding replayed
returns c =
    let h : c.fold.result ≡ fold held_next c.begin.result (held_of c.args.h) =
    fold_from_yields_List _ held_next _ _ c.fold.ensures.ran (YieldsList-from_slice (held_of c.args.h) c.iter.ensures.rest) (λ s x b q k. search rules) in
    rw c.begin.ensures at h ∙ folded held_next (started c.args.g c.args.agno) (held_of c.args.h)
