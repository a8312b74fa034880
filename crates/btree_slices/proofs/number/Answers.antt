-- `btree_slices::number` meets its contract.
-- Assumes nothing.
use Rattle.btree.proofs.Laws.{multiple, no-multiple, no-multiple'}
use Rattle.btree.specs.Records.{recs_number}
use borrow.Author.Tests.{eq-eqb, ne_eqb, le-leb, lt-leb}
use mathlib.Core.Path.{refl}
use Prim.Native.Nat.{◌≤◌, ◌<◌}
use native.Mathlib.Omega.{arith}
use Rattle.btree_slices.proofs.number.Goals as goal

pub returns-then-len-size : goal.returns-then-len-size
unfolding recs_number
returns-then-len-size c = rw (ne_eqb _ _ (no-multiple c.args.size c.args.count c.args.len c.requires c.if-len-size.true)) refl

pub returns-then-len-size-ne0 : goal.returns-then-len-size-ne0
unfolding recs_number
returns-then-len-size-ne0 c = rw (ne_eqb _ _ (no-multiple' c.args.size c.args.count c.args.len c.if-len-size-ne0.true)) refl

pub returns-then-count-gt64 : goal.returns-then-count-gt64
unfolding recs_number
returns-then-count-gt64 c = let args = c.args in
    let h : 64 < args.count = omega arith in
    rw (eq-eqb _ _ (multiple args.size args.count args.len c.if-len-size.false c.if-len-size-ne0.false), lt-leb _ _ h) refl

pub returns : goal.returns
unfolding recs_number
returns c = let args = c.args in
    let h : args.count ≤ 64 = omega arith in
    rw (eq-eqb _ _ (multiple args.size args.count args.len c.if-len-size.false c.if-len-size-ne0.false), le-leb _ _ h) refl
