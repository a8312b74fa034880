-- `plan_rmap::list::append` meets its contract.
-- Assumes nothing.
use mathlib.Core.Path.{◌≡◌, refl, ◌∙◌}
use mathlib.Core.List.{List, [], ◌∷◌}
use native.Mathlib.Omega.{arith}
use borrow.Author.Rules.{rules}
use lib.Seq.{slice}
use Rattle.std.specs.List.{fold}
use Rattle.std.proofs.lemmas.Iterator.{YieldsList-from_slice}
use Rattle.std.proofs.lemmas.Iterator.Consumers.{fold_from_yields_List}
use Rattle.seqs.proofs.Chains.{part-is}
use Rattle.seqs.specs.Lists.{pushed, appended}
use Rattle.btree.specs.declared.records.RmapRec.{RmapRec}
use Rattle.plan_rmap.specs.declared.RmapList.{RmapList}
use Rattle.plan_rmap.specs.Rmap.{of_rmap, to_rmap}
use Rattle.plan_rmap.proofs.list.append.Goals as goal

with-all : (l : RmapList) (xs : List RmapRec) → fold (λ s r. to_rmap (pushed (of_rmap s) r)) l xs ≡ to_rmap (appended (of_rmap l) xs)
unfolding appended
with-all l [] = refl
with-all l (x ∷ xs) = with-all (to_rmap (pushed (of_rmap l) x)) xs

pub returns : goal.returns
returns c =
    let rest = part-is c.args.src.recs c.args.from c.args.to (omega arith) in
    fold_from_yields_List _ (λ s r. to_rmap (pushed (of_rmap s) r)) _ _ c.fold.ensures.ran
    (YieldsList-from_slice (slice c.args.from c.args.to c.args.src.recs) (c.iter.ensures.rest ∙ rest)) (λ a x b q k. search rules)
    ∙ with-all c.args.l (slice c.args.from c.args.to c.args.src.recs)
