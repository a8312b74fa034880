-- `request_input::well_formed` meets its contract.
-- Assumes nothing.
use mathlib.Core.Path.{sym, ◌∙◌}
use borrow.Author.Tests.{ne_eqb}
use Rattle.std.proofs.Common.{rules}
use Rattle.request_input.proofs.Splitting.{empty-input, other-first, device-first}
use Rattle.request_input.proofs.well_formed.Goals as goal

pub returns-then-is_empty : goal.returns-then-is_empty
returns-then-is_empty c = sym (empty-input _ (search rules))

pub returns-then-record_at-eq-DEVICE : goal.returns-then-record_at-eq-DEVICE
returns-then-record_at-eq-DEVICE c = c.all_sound.ensures ∙ sym (device-first _ _ c.record_at.ensures.0 (search rules) c.if-record_at-eq-DEVICE.true)

pub returns-else-record_at-eq-DEVICE : goal.returns-else-record_at-eq-DEVICE
returns-else-record_at-eq-DEVICE c = ne_eqb c.record_at.result.key 0 c.if-record_at-eq-DEVICE.false ∙ sym (other-first _ _ c.record_at.ensures.0 (search rules) c.if-record_at-eq-DEVICE.false)
