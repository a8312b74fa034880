-- `request_words::records::option_record` meets its contract.
-- Assumes nothing.
use Rattle.request_words.proofs.Writing.{option-bytes}
use mathlib.Core.Path.{◌∙◌}
use Rattle.request_words.proofs.records.option_record.Goals as goal

pub returns : goal.returns
returns c = c.put_all.ensures.bytes ∙ option-bytes _ _ c.requires
