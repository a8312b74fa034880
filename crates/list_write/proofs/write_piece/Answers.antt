-- `list_write::write_piece` meets its contract.
-- Assumes nothing.
use lib.ListN.{length}
use mathlib.Core.List.{List}
use Prim.Native.Nat.{ℕ, ◌≤◌}
use mathlib.Core.Path.{sym, ap, ◌∙◌}
use native.Mathlib.Omega.{arith}
use borrow.Author.Tests.{ne_eqb}
use Rattle.structs.proofs.Written.{refused, done}
use Rattle.head_bytes.proofs.Lending.{part_length}
use Rattle.list_lengths.proofs.Numbers.{Filling, filling}
use Rattle.list_write.proofs.Lent.{lent-part, lent_again}
use Rattle.list_write.proofs.write_piece.Goals as goal

pub returns-then-n-ne0 : goal.returns-then-n-ne0
returns-then-n-ne0 c = (refused (sym c.write_number-n.ensures) (ne_eqb _ 0 c.if-n-ne0.true), refused (sym c.write_number-n.ensures) (ne_eqb _ 0 c.if-n-ne0.true))

pub slice_bounds-make_part-end : goal.slice_bounds-make_part-end
slice_bounds-make_part-end c =
    let fill : Filling c.args.run c.args.k (length c.args.buf.now) (length c.args.work.now) = filling c.args.run c.args.k _ _ (sym c.write_number-n.ensures ∙ c.if-n-ne0.false) in
    omega (arith, c.part_of-n.ensures, (fill).sufficient)

pub make_part-requires : goal.make_part-requires
make_part-requires c =
    let fill : Filling c.args.run c.args.k (length c.args.buf.now) (length c.args.work.now) = filling c.args.run c.args.k _ _ (sym c.write_number-n.ensures ∙ c.if-n-ne0.false) in
    let f = fill in
    let e = c.part_of-n.ensures in
    (f.format, f.there, part_length 0 c.part_of-n.result c.args.work.now (omega (arith, e, f.sufficient)) ∙ e)

pub slice_bounds-put_piece-end : goal.slice_bounds-put_piece-end
slice_bounds-put_piece-end c =
    let fill : Filling c.args.run c.args.k (length c.args.buf.now) (length c.args.work.now) = filling c.args.run c.args.k _ _ (sym c.write_number-n.ensures ∙ c.if-n-ne0.false) in
    let e = c.part_of-n.ensures in
    omega (arith, e, (fill).sufficient, c.work-1.given.1)

pub put_piece-requires : goal.put_piece-requires
put_piece-requires c =
    let fill : Filling c.args.run c.args.k (length c.args.buf.now) (length c.args.work.now) = filling c.args.run c.args.k _ _ (sym c.write_number-n.ensures ∙ c.if-n-ne0.false) in
    let f = fill in
    let e = c.part_of-n.ensures in
    let m = c.make_part in
    let r : c.part_of-n.result ≤ length c.args.work.now = omega (arith, e, f.sufficient) in
    let a = lent_again c.part_of-n.result c.args.work.now _ r m.auto.work in
    (f.format, f.there, a ∙ m.ensures, ap (λ (l : List ℕ). length l) a ∙ (m.auto.work ∙ part_length 0 c.part_of-n.result c.args.work.now (omega arith) ∙ e), f.long)

pub returns : goal.returns
returns c =
    let fill : Filling c.args.run c.args.k (length c.args.buf.now) (length c.args.work.now) = filling c.args.run c.args.k _ _ (sym c.write_number-n.ensures ∙ c.if-n-ne0.false) in
    let f = fill in
    let e = c.part_of-n.ensures in
    let m = c.make_part in
    let z = sym c.write_number-n.ensures ∙ c.if-n-ne0.false in
    (done z c.put_piece.ensures, done z (lent-part c.part_of-n.result _ _ _ (omega (arith, e, f.sufficient)) m.auto.work m.ensures))
