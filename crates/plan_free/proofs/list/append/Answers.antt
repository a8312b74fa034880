-- `plan_free::list::append` meets its contract.
-- Assumes nothing.
use mathlib.Core.Path.{◌≡◌, refl, ◌∙◌}
use mathlib.Core.List.{List, [], ◌∷◌}
use native.Mathlib.Omega.{arith}
use borrow.Author.Rules.{rules}
use lib.Seq.{slice}
use Rattle.std.specs.List.{fold}
use Rattle.std.proofs.lemmas.Iterator.{YieldsList-from_slice}
use Rattle.std.proofs.lemmas.Iterator.Consumers.{fold_from_yields_List}
use Rattle.seqs.proofs.Chains.{part-is}
use Rattle.seqs.specs.Lists.{pushed, appended}
use Rattle.btree.specs.declared.records.AllocRec.{AllocRec}
use Rattle.plan_free.specs.declared.FreeList.{FreeList}
use Rattle.plan_free.specs.Free.{of_free, to_free}
use Rattle.plan_free.proofs.list.append.Goals as goal

with-all : (l : FreeList) (xs : List AllocRec) → fold (λ s r. to_free (pushed (of_free s) r)) l xs ≡ to_free (appended (of_free l) xs)
unfolding appended
with-all l [] = refl
with-all l (x ∷ xs) = with-all (to_free (pushed (of_free l) x)) xs

pub returns : goal.returns
returns c =
    let rest = part-is c.args.src.recs c.args.from c.args.to (omega arith) in
    fold_from_yields_List _ (λ s r. to_free (pushed (of_free s) r)) _ _ c.fold.ensures.ran
    (YieldsList-from_slice (slice c.args.from c.args.to c.args.src.recs) (c.iter.ensures.rest ∙ rest)) (λ a x b q k. search rules)
    ∙ with-all c.args.l (slice c.args.from c.args.to c.args.src.recs)
