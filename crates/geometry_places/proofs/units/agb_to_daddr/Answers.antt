-- `geometry_places::units::agb_to_daddr` meets its contract: a place that is not refused has room.
-- Assumes nothing.
use Rattle.std.proofs.Common.{rules}
use Rattle.std.proofs.lemmas.Result.{err_from_is_err_and}
use mathlib.Core.Path.{◌≡◌, sym, ◌∙◌}
use lib.ListN.{length}
use borrow.Author.Tests.{eq-eqb, ne_eqb}
use Rattle.geometry_places.specs.Answers.{to_disk_address}
use Rattle.geometry_places.proofs.Accepted.{ok-zero, err-number}
use Rattle.geometry_places.proofs.Room.{place-room}
use Rattle.geometry_places.proofs.units.agb_to_daddr.Goals as goal

pub returns-in_err-accepted : goal.returns-in_err-accepted
unfolding to_disk_address
returns-in_err-accepted c = let r = c.place_refusal in
    let z = err-number r.result _ _ c.accepted.ensures c.in_err-accepted.was in
    let p = err_from_is_err_and c.from_residual.result c.from_residual.ensures.1 in
    rw (← r.ensures, ne_eqb r.result 0 z.0, p.1, p.2, z.1)

pub daddr_of-at-requires : goal.daddr_of-at-requires
daddr_of-at-requires c = let l : length c.args.g.label ≡ 12 = search (rules, c.well_formed.0.1.1.1.1.1.1.1.1.1.1.1.1.1.1.1.1.1.1.1) in
    (place-room _ _ _ l (sym c.place_refusal.ensures ∙ ok-zero _ _ _ c.accepted.ensures c.in_ok-accepted.was)).daddr

pub returns : goal.returns
unfolding to_disk_address
returns c = let r = c.place_refusal in
    rw (c.daddr_of-at.ensures, ← r.ensures, eq-eqb r.result 0 (ok-zero _ _ _ c.accepted.ensures c.in_ok-accepted.was))
