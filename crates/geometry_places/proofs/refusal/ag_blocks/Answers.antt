-- `geometry_places::refusal::ag_blocks` meets its contract: a group that is there lies in an answer, whose bounds give what is asked.
-- Assumes nothing.
use Rattle.std.proofs.Common.{rules}
use Rattle.std.proofs.lemmas.Result.{err_from_is_err_and}
use mathlib.Core.Path.{◌≡◌, sym, ◌∙◌}
use lib.ListN.{length}
use borrow.Author.Tests.{eq-eqb, ne_eqb}
use Rattle.geometry_places.specs.Answers.{ag_blocks, unless64}
use Rattle.geometry_places.proofs.Accepted.{ok-zero, err-number}
use Rattle.geometry_layout.proofs.Bounding.{answer-bounds}
use Rattle.geometry_places.proofs.Refused.{a-group}
use Rattle.geometry_places.proofs.refusal.ag_blocks.Goals as goal

pub returns-in_err-accepted : goal.returns-in_err-accepted
unfolding ag_blocks unless64
returns-in_err-accepted c = let r = c.group_refusal in
    let z = err-number r.result _ _ c.accepted.ensures c.in_err-accepted.was in
    let p = err_from_is_err_and c.from_residual.result c.from_residual.ensures.1 in
    rw (← r.ensures, ne_eqb r.result 0 z.0, p.1, p.2, z.1)

pub group_blocks-requires : goal.group_blocks-requires
group_blocks-requires c = let l : length c.args.g.label ≡ 12 = search (rules, c.well_formed.0.1.1.1.1.1.1.1.1.1.1.1.1.1.1.1.1.1.1.1) in
    (answer-bounds _ l (a-group _ _ (sym c.group_refusal.ensures ∙ ok-zero _ _ _ c.accepted.ensures c.in_ok-accepted.was)).0).groups.before_last

pub returns : goal.returns
unfolding ag_blocks unless64
returns c = let r = c.group_refusal in
    rw (c.group_blocks.ensures, ← r.ensures, eq-eqb r.result 0 (ok-zero _ _ _ c.accepted.ensures c.in_ok-accepted.was))
