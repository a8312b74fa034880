-- `plan_rmap::inserting::insert_at` meets its contract.
-- Assumes nothing.
use native.Mathlib.Omega.{arith}
use mathlib.Core.Path.{◌≡◌, sym, ap, ◌∙◌}
use Prim.Native.Nat.{◌-◌}
use lib.ListN.{length}
use lib.Seq.{get_or-take}
use Rattle.plan_rmap.specs.Rmap.{rmap_start, rmap_count, zero_rmap_rec, inserted_at}
use Rattle.seqs.proofs.Validity.{live-valid}
use Rattle.plan_rmap.proofs.Laws.{left-facts, right-facts}
use Rattle.plan_rmap.proofs.inserting.insert_at.Goals as goal

pub overflow_sub-q : goal.overflow_sub-q
overflow_sub-q c = let k : length c.args.l.recs ≡ 64 = c.well_formed.0.1.1.0.1.0.1 in
    let lf = left-facts c.args.l.recs c.args.l.len c.args.p c.args.r (omega arith) (omega arith) (sym c.joined_left.ensures ∙ c.if-joined_left.true) in
    omega arith

pub glue-left-requires : goal.glue-left-requires
glue-left-requires c = let k : length c.args.l.recs ≡ 64 = c.well_formed.0.1.1.0.1.0.1 in
    let lf = left-facts c.args.l.recs c.args.l.len c.args.p c.args.r (omega arith) (omega arith) (sym c.joined_left.ensures ∙ c.if-joined_left.true) in
    omega arith

pub bounds-l-p : goal.bounds-l-p
bounds-l-p c = let k : length c.args.l.recs ≡ 64 = c.well_formed.0.1.1.0.1.0.1 in
    let rf = right-facts c.args.l.recs c.args.l.len c.args.p c.args.r (omega arith) (omega arith) (sym c.joined_right.ensures ∙ c.if-joined_right.true) in
    omega arith

pub glue-whole-requires : goal.glue-whole-requires
glue-whole-requires c = let k : length c.args.l.recs ≡ 64 = c.well_formed.0.1.1.0.1.0.1 in
    let lf = left-facts c.args.l.recs c.args.l.len c.args.p c.args.r (omega arith) (omega arith) (sym c.joined_left.ensures ∙ c.if-joined_left.true) in
    let rf = right-facts c.args.l.recs c.args.l.len c.args.p c.args.r (omega arith) (omega arith) (sym c.joined_right.ensures ∙ c.if-joined_right.true) in
    let bv = live-valid rmap_start rmap_count zero_rmap_rec c.args.l.recs c.args.l.len c.args.p (omega arith) (omega arith) c.requires.2 in
    omega (arith, ap rmap_count c.glue-left.ensures)

pub splice-requires : goal.splice-requires
splice-requires c = let k : length c.args.l.recs ≡ 64 = c.well_formed.0.1.1.0.1.0.1 in
    let rf = right-facts c.args.l.recs c.args.l.len c.args.p c.args.r (omega arith) (omega arith) (sym c.joined_right.ensures ∙ c.if-joined_right.true) in
    omega arith

pub returns-then-joined_right : goal.returns-then-joined_right
unfolding inserted_at
returns-then-joined_right c = let k : length c.args.l.recs ≡ 64 = c.well_formed.0.1.1.0.1.0.1 in
    let lf = left-facts c.args.l.recs c.args.l.len c.args.p c.args.r (omega arith) (omega arith) (sym c.joined_left.ensures ∙ c.if-joined_left.true) in
    let rf = right-facts c.args.l.recs c.args.l.len c.args.p c.args.r (omega arith) (omega arith) (sym c.joined_right.ensures ∙ c.if-joined_right.true) in
    c.splice.ensures ∙ rw (sym c.joined_left.ensures ∙ c.if-joined_left.true, sym c.joined_right.ensures ∙ c.if-joined_right.true, get_or-take c.args.l.len c.args.l.recs (c.args.p - 1) zero_rmap_rec (omega arith), get_or-take c.args.l.len c.args.l.recs c.args.p zero_rmap_rec (omega arith), c.glue-whole.ensures, c.glue-left.ensures)

pub returns-then-joined_left : goal.returns-then-joined_left
unfolding inserted_at
returns-then-joined_left c = let k : length c.args.l.recs ≡ 64 = c.well_formed.0.1.1.0.1.0.1 in
    let lf = left-facts c.args.l.recs c.args.l.len c.args.p c.args.r (omega arith) (omega arith) (sym c.joined_left.ensures ∙ c.if-joined_left.true) in
    c.splice-then-joined_left.ensures ∙ rw (sym c.joined_left.ensures ∙ c.if-joined_left.true, sym c.joined_right.ensures ∙ c.if-joined_right.false, get_or-take c.args.l.len c.args.l.recs (c.args.p - 1) zero_rmap_rec (omega arith), c.glue-left.ensures)

pub bounds-l-p-then-joined_right-2 : goal.bounds-l-p-then-joined_right-2
bounds-l-p-then-joined_right-2 c = let k : length c.args.l.recs ≡ 64 = c.well_formed.0.1.1.0.1.0.1 in
    let rf = right-facts c.args.l.recs c.args.l.len c.args.p c.args.r (omega arith) (omega arith) (sym c.joined_right-2.ensures ∙ c.if-joined_right-2.true) in
    omega arith

pub glue-right-requires : goal.glue-right-requires
glue-right-requires c = let k : length c.args.l.recs ≡ 64 = c.well_formed.0.1.1.0.1.0.1 in
    let rf = right-facts c.args.l.recs c.args.l.len c.args.p c.args.r (omega arith) (omega arith) (sym c.joined_right-2.ensures ∙ c.if-joined_right-2.true) in
    let bv = live-valid rmap_start rmap_count zero_rmap_rec c.args.l.recs c.args.l.len c.args.p (omega arith) (omega arith) c.requires.2 in
    omega arith

pub splice-requires-then-joined_right-2 : goal.splice-requires-then-joined_right-2
splice-requires-then-joined_right-2 c = let k : length c.args.l.recs ≡ 64 = c.well_formed.0.1.1.0.1.0.1 in
    let rf = right-facts c.args.l.recs c.args.l.len c.args.p c.args.r (omega arith) (omega arith) (sym c.joined_right-2.ensures ∙ c.if-joined_right-2.true) in
    omega arith

pub returns-then-joined_right-2 : goal.returns-then-joined_right-2
unfolding inserted_at
returns-then-joined_right-2 c = let k : length c.args.l.recs ≡ 64 = c.well_formed.0.1.1.0.1.0.1 in
    let rf = right-facts c.args.l.recs c.args.l.len c.args.p c.args.r (omega arith) (omega arith) (sym c.joined_right-2.ensures ∙ c.if-joined_right-2.true) in
    c.splice-then-joined_right-2.ensures ∙ rw (sym c.joined_left.ensures ∙ c.if-joined_left.false, sym c.joined_right-2.ensures ∙ c.if-joined_right-2.true, get_or-take c.args.l.len c.args.l.recs c.args.p zero_rmap_rec (omega arith), c.glue-right.ensures)

pub returns : goal.returns
unfolding inserted_at
returns c = c.splice-2.ensures ∙ rw (sym c.joined_left.ensures ∙ c.if-joined_left.false, sym c.joined_right-2.ensures ∙ c.if-joined_right-2.false)
