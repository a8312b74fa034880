-- `head::refill` meets its contract.
-- Assumes nothing.
use mathlib.Core.Path.{◌≡◌, ap, ◌∙◌}
use lib.ListN.{length}
use Rattle.crc.specs.Right.{already_right}
use Rattle.crc_sums.proofs.Laws.{looked-at}
use Rattle.head_bytes.specs.Places.{head_places}
use Rattle.head_bytes.proofs.Asked.{frame-places, few-places}
use Rattle.head_bytes.proofs.Ready.{ready}
use borrow.Author.Rules.{rules}
use Rattle.head.proofs.refill.Goals as goal

pub places_of-places-requires : goal.places_of-places-requires
places_of-places-requires c = let l : length c.args.g.label ≡ 12 = search (rules, c.well_formed.0.1.1.1.1.1.1.1.1.1.1.1.1.1.1.1.1.1.1.1) in
    (ready c.args.g c.args.p c.args.w (length c.args.buf.now) l c.requires.0 c.requires.1 c.requires.2).fine

pub returns : goal.returns
returns c = let a = c.args in
    let d = c.places_of-places.ensures in
    let e = d.0 ∙ frame-places a.g a.p a.w c.requires.1 in
    let q = looked-at 64 (head_places a.g) a.buf.now _ c.stand.ensures e (search rules) (few-places _ _ (head_places a.g) e d.1) in
    let m = c.fill.ensures in
    (q ∙ ap (already_right (head_places a.g) a.buf.now) m, m)
