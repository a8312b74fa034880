-- `geometry_places::units::fsb_to_agb` meets its contract: by the test of the place.
-- Assumes nothing.
use Rattle.std.proofs.lemmas.Result.{err_from_is_err_and}
use borrow.Author.Tests.{eq-eqb, ne_eqb}
use Rattle.geometry_places.specs.Answers.{to_group_block}
use Rattle.geometry_places.proofs.Accepted.{ok-zero, err-number}
use Rattle.geometry_places.proofs.units.fsb_to_agb.Goals as goal

pub returns-in_err-accepted : goal.returns-in_err-accepted
unfolding to_group_block
returns-in_err-accepted c = let r = c.place_refusal in
    let z = err-number r.result _ _ c.accepted.ensures c.in_err-accepted.was in
    let p = err_from_is_err_and c.from_residual.result c.from_residual.ensures.1 in
    rw (← c.high-k.ensures, ← c.low-b.ensures, ← r.ensures, ne_eqb r.result 0 z.0, p.1, p.2, z.1)

pub returns : goal.returns
unfolding to_group_block
returns c = let r = c.place_refusal in
    rw (← c.high-k.ensures, ← c.low-b.ensures, ← r.ensures, eq-eqb r.result 0 (ok-zero _ _ _ c.accepted.ensures c.in_ok-accepted.was))
