-- `log_record::record` meets its contract.
-- Assumes nothing.
use Rattle.log_record.proofs.Laws.{blocks-fit, blocks-least, record-written}
use Rattle.log_record.specs.Record.{record_number, basic_blocks_of}
use Rattle.structs.proofs.Written.{refused, done}
use Rattle.endian.proofs.Laws.{put_in}
use borrow.Author.Tests.{eq-eqb, ne_eqb, le-leb, lt-leb}
use lib.ListN.{length}
use Prim.Native.Nat.{◌*◌}
use mathlib.Core.Path.{◌≡◌, refl}
use native.Mathlib.Omega.{arith}
use borrow.Author.Rules.{rules}
use Rattle.log_record.proofs.record.Goals as goal

pub overflow_mul-need : goal.overflow_mul-need
overflow_mul-need c = omega (arith, c.record_blocks-blocks.ensures, blocks-fit c.args.sunit c.ranges.sunit.fits)

pub returns-then-rec-need : goal.returns-then-rec-need
unfolding record_number
returns-then-rec-need c = let args = c.args in
    let n : length args.rec.now ≡ 512 * basic_blocks_of args.sunit → ⊥ = λ e. let h = c.if-rec-need.true in omega (arith, c.record_blocks-blocks.ensures) in
    refused (rw (ne_eqb _ _ n) refl) refl

pub returns-then-sunit-gt-LARGEST_SUNIT : goal.returns-then-sunit-gt-LARGEST_SUNIT
unfolding record_number
returns-then-sunit-gt-LARGEST_SUNIT c = let args = c.args in
    let n : length args.rec.now ≡ 512 * basic_blocks_of args.sunit = let h = c.if-rec-need.false in omega (arith, c.record_blocks-blocks.ensures) in
    refused (rw (eq-eqb _ _ n, lt-leb args.sunit 16384 (let h = c.if-sunit-gt-LARGEST_SUNIT.true in omega arith)) refl) refl

pub header-requires : goal.header-requires
header-requires c = omega (arith, c.put_same.auto.buf, c.if-rec-need.false, c.record_blocks-blocks.ensures, blocks-least c.args.sunit)

pub unmount-requires : goal.unmount-requires
unmount-requires c = omega (arith, c.header.auto.rec, c.put_same.auto.buf, c.if-rec-need.false, c.record_blocks-blocks.ensures, blocks-least c.args.sunit)

pub returns : goal.returns
unfolding record_number
returns c = let args = c.args in
    let n : length args.rec.now ≡ 512 * basic_blocks_of args.sunit = let h = c.if-rec-need.false in omega (arith, c.record_blocks-blocks.ensures) in
    done (rw (eq-eqb _ _ n, le-leb args.sunit 16384 (let h = c.if-sunit-gt-LARGEST_SUNIT.false in omega arith)) refl)
    (record-written _ _ _ _ args.rec.now _ _ _ _ n (put_in c.put_same.ensures (search rules)) c.header.ensures c.unmount.ensures
    (rw c.record_blocks-blocks.ensures at c.stamp_blocks.ensures))
