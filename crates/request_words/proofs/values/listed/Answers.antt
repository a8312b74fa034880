-- `request_words::values::listed` meets its contract.
-- Assumes nothing.
use mathlib.Core.Path.{ap, ◌∙◌}
use Rattle.request_texts.proofs.Saying.{folded}
use Rattle.request_words.specs.Values.{features_read, next_byte, feature_mask, last_feature}
use Rattle.request_words.proofs.values.listed.Goals as goal

pub returns : goal.returns
unfolding feature_mask
returns c = c.finished.ensures ∙ ap last_feature (c.names_in.ensures ∙ folded next_byte (features_read 127 0 0) c.args.text.now)
