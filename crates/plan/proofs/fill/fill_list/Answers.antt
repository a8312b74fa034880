-- `plan::fill::fill_list` meets its contract.
-- Assumes nothing.
use mathlib.Core.Path.{◌≡◌, refl, ◌∙◌}
use Prim.Native.Nat.{ℕ, ◌-◌}
use native.Mathlib.Omega.{arith}
use borrow.Author.Rules.{rules}
use Rattle.std.proofs.iter.Yields.{nat_range_steps}
use Rattle.std.proofs.lemmas.Iterator.{YieldsList-from_range}
use Rattle.std.proofs.lemmas.Iterator.Consumers.{fold_from_yields_List}
use Rattle.seqs.proofs.Chains.{folded-turns}
use Rattle.plan.specs.Plan.{list_turn}
use Rattle.plan.proofs.fill.fill_list.Goals as goal

pub returns : goal.returns
returns c =
    let n : c.args.need - 0 ≡ c.args.need = omega arith in
    fold_from_yields_List {steps = nat_range_steps} {v = λ x. x} _ (λ w _. list_turn w) _ _ c.fold.ensures.ran (YieldsList-from_range 0 c.args.need c.args.need refl n) (λ a x b q k. search rules)
    ∙ folded-turns list_turn c.args.need 0 c.args.w
