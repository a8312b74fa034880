-- `plan_rmap::inserting::place` meets its contract.
-- Assumes nothing.
use mathlib.Core.Path.{◌≡◌, sym, ◌∙◌}
use native.Mathlib.Omega.{arith}
use borrow.Author.Rules.{rules}
use borrow.Author.Tests.{tests}
use lib.ListN.{length}
use lib.Seq.{length-take-le}
use Rattle.std.specs.Prelude.{position}
use Rattle.std.proofs.lemmas.Iterator.{YieldsList-from_slice}
use Rattle.std.proofs.lemmas.Iterator.Search.{position_from_yields_List}
use Rattle.seqs.proofs.Chains.{place-or}
use Rattle.plan_rmap.specs.Rmap.{not_before, rmap_of}
use Rattle.plan_rmap.proofs.inserting.place.Goals as goal

pub returns : goal.returns
returns c =
    let k : length c.args.l.recs ≡ 64 = c.well_formed.0.1.1.0.1.0.1 in
    let n : length (rmap_of c.args.l) ≡ c.args.l.len = length-take-le _ _ (omega arith) in
    let h : c.position.result ≡ position (not_before c.args.s) (rmap_of c.args.l) =
    position_from_yields_List (not_before c.args.s) _ _ _ c.position.ensures.ran (YieldsList-from_slice (rmap_of c.args.l) c.iter.ensures.rest) (λ x b q k. search (rules, tests)) in
    c.unwrap_or.ensures ∙ place-or (not_before c.args.s) (rmap_of c.args.l) c.position.result c.args.l.len h (sym n)
