-- `endian::runs::put_all` meets its contract.
-- Assumes nothing.
use mathlib.Core.Path.{refl, sym, ◌∙◌}
use native.Mathlib.Nat.{le_refl}
use lib.ListN.{length}
use Rattle.endian.proofs.Tables.{is-fitting, is-even}
use Rattle.endian.proofs.runs.put_all.Goals as goal

pub store_all-requires : goal.store_all-requires
store_all-requires c = let a = c.args in
    let e = sym c.table_fits.ensures ∙ c.if-table_fits.true in
    (le_refl (length a.buf.now), is-fitting (length a.buf.now) (length a.v.now) a.at.now e, is-even (length a.buf.now) (length a.v.now) a.at.now e)

pub returns-then-table_fits : goal.returns-then-table_fits
returns-then-table_fits c = let e = sym c.table_fits.ensures ∙ c.if-table_fits.true in
    record { number = rw e refl; bytes = rw e c.store_all.ensures }

pub returns : goal.returns
returns c = let e = sym c.table_fits.ensures ∙ c.if-table_fits.false in record { number = rw e refl; bytes = rw e refl }
