-- `plan_rmap::inserting::rmap_insert` meets its contract.
-- Assumes nothing.
use native.Mathlib.Omega.{arith}
use mathlib.Core.Path.{◌≡◌, sym, ◌∙◌}
use Prim.Native.Nat.{◌≤◌}
use borrow.Author.Tests.{lt-ltb, le-ltb, not-true, not-false}
use lib.ListN.{length}
use lib.Seq.{length-take-le}
use Rattle.plan_rmap.specs.Rmap.{not_before, insert_place, rmap_of, inserted, takes}
use Rattle.seqs.proofs.Laws.{index-le}
use Rattle.plan_rmap.proofs.Laws.{takes-facts}
use Rattle.plan_rmap.proofs.inserting.rmap_insert.Goals as goal

pub returns-then-rmap-gt64 : goal.returns-then-rmap-gt64
unfolding inserted
returns-then-rmap-gt64 c = c.refused.ensures ∙ simp (lt-ltb _ _ c.if-rmap-gt64.true)

pub can_take-requires : goal.can_take-requires
can_take-requires c = let k : length c.args.rmap.recs ≡ 64 = c.well_formed.0.1.1.0.1.0.1 in
    let n : length (rmap_of c.args.rmap) ≡ c.args.rmap.len = length-take-le _ _ (omega arith) in
    let q : c.place-p.result ≤ c.args.rmap.len = omega (arith, c.place-p.ensures, index-le (not_before c.args.rec.start) (rmap_of c.args.rmap)) in
    (q, omega arith)

pub returns-then-not-can_take : goal.returns-then-not-can_take
unfolding inserted
returns-then-not-can_take c = let t : takes (rmap_of c.args.rmap) (insert_place c.args.rec.start (rmap_of c.args.rmap)) c.args.rec ≡ c.can_take.result = rw (← c.place-p.ensures) (sym c.can_take.ensures) in
    c.refused-then-not-can_take.ensures ∙ rw (le-ltb _ _ c.if-rmap-gt64.false, t, not-true c.can_take.result c.if-not-can_take.true-raw)

pub insert_at-requires : goal.insert_at-requires
insert_at-requires c = let k : length c.args.rmap.recs ≡ 64 = c.well_formed.0.1.1.0.1.0.1 in
    let n : length (rmap_of c.args.rmap) ≡ c.args.rmap.len = length-take-le _ _ (omega arith) in
    let q : c.place-p.result ≤ c.args.rmap.len = omega (arith, c.place-p.ensures, index-le (not_before c.args.rec.start) (rmap_of c.args.rmap)) in
    let t = takes-facts (rmap_of c.args.rmap) c.place-p.result c.args.rec (omega arith) (sym c.can_take.ensures ∙ c.if-not-can_take.false) in
    (q, omega arith, t.0, t.1)

pub returns : goal.returns
unfolding inserted
returns c = let t : takes (rmap_of c.args.rmap) (insert_place c.args.rec.start (rmap_of c.args.rmap)) c.args.rec ≡ c.can_take.result = rw (← c.place-p.ensures) (sym c.can_take.ensures) in
    c.insert_at.ensures ∙ rw (le-ltb _ _ c.if-rmap-gt64.false, t, not-false c.can_take.result c.if-not-can_take.false-raw, ← c.place-p.ensures)
