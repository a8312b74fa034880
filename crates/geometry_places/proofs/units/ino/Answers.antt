-- `geometry_places::units::ino` meets its contract: a slot that is not refused has room.
-- Assumes nothing.
use Rattle.std.proofs.Common.{rules}
use Rattle.std.proofs.lemmas.Result.{err_from_is_err_and}
use mathlib.Core.Path.{◌≡◌, sym, ◌∙◌}
use lib.ListN.{length}
use borrow.Author.Tests.{eq-eqb, ne_eqb}
use Rattle.geometry_places.specs.Answers.{inode_number, unless64}
use Rattle.geometry_places.proofs.Accepted.{ok-zero, err-number}
use Rattle.geometry_places.proofs.Refused.{a-slot}
use Rattle.geometry_places.proofs.Room.{place-room}
use Rattle.geometry_places.proofs.units.ino.Goals as goal

pub returns-in_err-accepted : goal.returns-in_err-accepted
unfolding inode_number unless64
returns-in_err-accepted c = let r = c.slot_refusal in
    let z = err-number r.result _ _ c.accepted.ensures c.in_err-accepted.was in
    let p = err_from_is_err_and c.from_residual.result c.from_residual.ensures.1 in
    rw (← r.ensures, ne_eqb r.result 0 z.0, p.1, p.2, z.1)

pub ino_of-requires : goal.ino_of-requires
ino_of-requires c = let l : length c.args.g.label ≡ 12 = search (rules, c.well_formed.0.1.1.1.1.1.1.1.1.1.1.1.1.1.1.1.1.1.1.1) in
    let q = a-slot _ _ _ _ (sym c.slot_refusal.ensures ∙ ok-zero _ _ _ c.accepted.ensures c.in_ok-accepted.was) in
    (place-room _ _ _ l q.0).ino _ q.1

pub returns : goal.returns
unfolding inode_number unless64
returns c = let r = c.slot_refusal in
    rw (c.ino_of.ensures, ← r.ensures, eq-eqb r.result 0 (ok-zero _ _ _ c.accepted.ensures c.in_ok-accepted.was))
