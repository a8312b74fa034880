-- `group_bytes::logs::fill_log` meets its contract.
-- Assumes nothing.
use mathlib.Core.Path.{◌≡◌}
use native.Mathlib.Omega.{arith}
use lib.ListN.{length}
use borrow.Author.Rules.{rules}
use Rattle.group_bytes.proofs.Accepted.{bounded}
use Rattle.group_bytes.proofs.Logging.{log-zero, record-accepted, record-fits, log-made}
use Rattle.group_bytes.proofs.logs.fill_log.Goals.{Start}
use Rattle.group_bytes.proofs.logs.fill_log.Goals as goal

label : (s : Start) → length s.args.g.label ≡ 12
label s = search (rules, s.well_formed.0.1.1.1.1.1.1.1.1.1.1.1.1.1.1.1.1.1.1.1)

pub put_record-requires : goal.put_record-requires
put_record-requires c = let h = log-zero c.args.g _ c.requires in
    let z = bounded c.args.g (label c.before.before.before.before.before.before.before.before.before) h.0 in (
      rw (c.max_u32.ensures, c.log_unit-unit.ensures) (record-accepted c.args.g z),
      rw (c.max_u32.ensures, c.log_unit-unit.ensures) (omega (arith, record-fits c.args.g z, c.put_same.auto.buf, h.1)),
    )

pub returns : goal.returns
returns c = let h = log-zero c.args.g _ c.requires in
    log-made c.args.g (bounded c.args.g (label c.before.before.before.before.before.before.before.before.before.before.before.before.before) h.0) _ _ _ _ _ c.log_unit-unit.ensures h.1 c.put_same.ensures c.put_record.ensures
