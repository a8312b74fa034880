-- `endian::runs::store_all` meets its contract. Invariant: what is left of the table, from row i on, still makes the whole table's bytes.
-- Assumes nothing.
use mathlib.Core.Path.{refl, ◌∙◌}
use native.Mathlib.Omega.{arith}
use Rattle.endian.proofs.Tables.{all-fits, all-within, all-write, all-ends}
use Rattle.endian.proofs.runs.store_all.Goals as goal

pub loop-i-init : goal.loop-i-init
loop-i-init c = (omega arith, c.requires.1, refl, refl)

pub store-requires : goal.store-requires
store-requires c = let l = c.loop-i in
    omega (arith, all-fits c.args.end l.i c.args.at.now c.args.v.now c.loop-i-test.true c.requires.2 l.invariant.1, l.invariant.3, c.requires.0)

pub loop-i-preserved : goal.loop-i-preserved
loop-i-preserved c = let l = c.loop-i in
    let h = c.loop-i-test.true in
    let st = c.store in (
      omega (arith, h),
      all-within c.args.end l.i c.args.at.now c.args.v.now h c.requires.2 l.invariant.1,
      all-write c.args.end l.i c.args.at.now c.args.v.now h c.requires.2 l.buf st.new.buf _ l.invariant.2 st.ensures,
      st.auto.buf ∙ l.invariant.3,
    )

pub returns : goal.returns
returns c = let l = c.loop-i in
    all-ends l.i c.args.at.now c.args.v.now l.buf _ c.loop-i-test.false c.requires.2 l.invariant.2
