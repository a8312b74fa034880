-- `log_record::clear_sunit` meets its contract.
-- Assumes nothing.
use mathlib.Core.Path.{refl}
use borrow.Author.Tests.{eq-eqb, ne_eqb}
use Rattle.log_record.specs.Record.{clear_sunit}
use Rattle.log_record.proofs.clear_sunit.Goals as goal

pub returns-then-logsunit-eq1 : goal.returns-then-logsunit-eq1
unfolding clear_sunit
returns-then-logsunit-eq1 c = rw (eq-eqb _ _ c.if-logsunit-eq1.true) refl

pub returns : goal.returns
unfolding clear_sunit
returns c = rw (ne_eqb _ _ c.if-logsunit-eq1.false) refl
