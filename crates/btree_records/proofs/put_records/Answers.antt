-- `btree_records::put_records` meets its contract, by the laws of `Turns.antt` at this kind of record.
-- Assumes nothing.
use Rattle.std.proofs.Common.{◌≡◌, sym, ◌∙◌, ap, ℕ, ◌*◌, ◌<◌, ◌≤◌, length, take, arith}
use lib.Seq.{length-take-le}
use Rattle.structs.proofs.Written.{done}
use Rattle.endian.specs.Bytes.{patch}
use Rattle.btree.specs.Records.{recs_number}
use Rattle.btree.proofs.Laws.{accepted}
use Rattle.btree_records.proofs.Turns.{room, written-more, written-all}
use Rattle.btree_records.proofs.put_records.Goals as goal

-- what an accepted list says
taken : {size r count len : ℕ} (n : ℕ) → size ≡ n → r ≡ recs_number size count len → r ≡ 0 → (recs_number n count len ≡ 0) × (len ≡ n * count) × (count ≤ 64)
taken {size} {r} {count} {len} n s e z =
    let k : recs_number n count len ≡ 0 = ap (λ (m : ℕ). recs_number m count len) (sym s) ∙ sym e ∙ z in
    let a = accepted n count len k in
    (k, a.0, a.1)

pub slice_bounds-r-items-end : goal.slice_bounds-r-items-end
slice_bounds-r-items-end g c =
    let t = taken g.R.Record.SIZE c.SIZE.ensures c.number-refusal.ensures c.if-refusal-ne0.false in
    sym (length-take-le c.args.count c.args.recs.now (omega (arith, t)))

pub overflow_mul-SIZE : goal.overflow_mul-SIZE
overflow_mul-SIZE g c =
    let t = taken g.R.Record.SIZE c.SIZE.ensures c.number-refusal.ensures c.if-refusal-ne0.false in
    let w : c.loop-i.i < c.args.count = omega (arith, t, length-take-le c.args.count c.args.recs.now) in
    rw c.SIZE-in-loop-i.ensures (omega (arith, room g.R.Record.SIZE c.loop-i.i c.args.count (length c.args.out.now) w t.1, c.well_formed))

pub put-requires : goal.put-requires
put-requires g c =
    let t = taken g.R.Record.SIZE c.SIZE.ensures c.number-refusal.ensures c.if-refusal-ne0.false in
    let w : c.loop-i.i < c.args.count = omega (arith, t, length-take-le c.args.count c.args.recs.now) in
    rw (c.SIZE-in-loop-i.ensures, c.loop-i.auto.out) (room g.R.Record.SIZE c.loop-i.i c.args.count (length c.args.out.now) w t.1)

pub loop-i-preserved : goal.loop-i-preserved
loop-i-preserved g c =
    let t = taken g.R.Record.SIZE c.SIZE.ensures c.number-refusal.ensures c.if-refusal-ne0.false in
    let w : c.loop-i.i < c.args.count = omega (arith, t, length-take-le c.args.count c.args.recs.now) in
    let f = g.R.Record.stored c.args.form in
    let rs = take c.args.count c.args.recs.now in
    written-more f g.R.Record.SIZE (g.met.R.Record.fills c.args.form) rs c.r-item.result c.loop-i.i c.args.out.now c.loop-i.out c.put.new.out c.loop-i-test.true
    (room g.R.Record.SIZE c.loop-i.i c.args.count (length c.args.out.now) w t.1) c.loop-i.invariant
    ((rw c.SIZE-in-loop-i.ensures at c.put.ensures) ∙ ap (λ (r : g.row.R.Denot). patch (g.R.Record.SIZE * c.loop-i.i) (f r) c.loop-i.out) c.r-item.is)

pub returns : goal.returns
returns g c =
    let t = taken g.R.Record.SIZE c.SIZE.ensures c.number-refusal.ensures c.if-refusal-ne0.false in
    let few = length-take-le c.args.count c.args.recs.now (let w : c.args.count ≤ length c.args.recs.now = omega (arith, t) in w) in
    done t.0 (written-all (g.R.Record.stored c.args.form) g.R.Record.SIZE (take c.args.count c.args.recs.now) c.loop-i.i c.args.out.now c.loop-i.out (omega arith) (t.1 ∙ ap (λ (k : ℕ). g.R.Record.SIZE * k) (sym few)) c.loop-i.invariant)
