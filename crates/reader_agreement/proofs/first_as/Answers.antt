-- `reader_agreement::first_as` meets its contract.
-- Assumes nothing.
use mathlib.Core.Path.{◌∙◌}
use Rattle.reader_agreement.proofs.Laws.{first-unnamed, first-named}
use Rattle.reader_agreement.proofs.first_as.Goals as goal

pub returns-then-named-ne0 : goal.returns-then-named-ne0
returns-then-named-ne0 c = c.unknown.ensures ∙ first-unnamed c.args.roomy c.args.head.now _ c.named_by-named.ensures c.if-named-ne0.true

pub returns : goal.returns
returns c = first-named c.args.roomy c.args.head.now _ c.named_by-named.ensures _ _ c.if-named-ne0.false c.uuid_of-uuid.ensures c.head_agreement.ensures
