-- `btree_slices::put_all` meets its contract, by the laws of `Laws.antt` at this kind of record.
-- Assumes nothing.
use Rattle.std.proofs.Common.{◌∙◌, ap, ◌*◌, length, arith}
use Rattle.endian.specs.Bytes.{patch}
use Rattle.btree_slices.proofs.Laws.{room, written-more, written-all}
use Rattle.btree_slices.proofs.put_all.Goals as goal

pub overflow_mul-SIZE : goal.overflow_mul-SIZE
overflow_mul-SIZE g c =
    rw c.SIZE.ensures (omega (arith, room g.R.Record.SIZE c.loop-i.i (length c.args.recs.now) (length c.args.out.now) c.loop-i-test.true c.requires, c.well_formed))

pub put-requires : goal.put-requires
put-requires g c =
    rw (c.SIZE.ensures, c.loop-i.auto.out) (room g.R.Record.SIZE c.loop-i.i (length c.args.recs.now) (length c.args.out.now) c.loop-i-test.true c.requires)

pub loop-i-preserved : goal.loop-i-preserved
loop-i-preserved g c =
    written-more g.R.Record.stored g.R.Record.SIZE g.met.R.Record.fills c.args.recs.now c.index-recs-i.result c.loop-i.i c.args.out.now c.loop-i.out c.put.new.out c.loop-i-test.true
    (room g.R.Record.SIZE c.loop-i.i (length c.args.recs.now) (length c.args.out.now) c.loop-i-test.true c.requires) c.loop-i.invariant
    ((rw c.SIZE.ensures at c.put.ensures) ∙ ap (λ (r : g.row.R.Denot). patch (g.R.Record.SIZE * c.loop-i.i) (g.R.Record.stored r) c.loop-i.out) c.index-recs-i.is)

pub returns : goal.returns
returns g c =
    written-all g.R.Record.stored g.R.Record.SIZE g.met.R.Record.fills c.args.recs.now c.loop-i.i c.args.out.now c.loop-i.out (omega arith) c.requires c.loop-i.invariant
