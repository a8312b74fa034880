-- `label_text::text_of` meets its contract.
-- Assumes nothing.
use Rattle.label_text.proofs.Laws.{text-made}
use Rattle.label_text.proofs.text_of.Goals as goal

pub returns : goal.returns
returns c = text-made _ _ _ c.store_label-start.ensures.0 c.store_label-start.ensures.1
