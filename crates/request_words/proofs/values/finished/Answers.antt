-- `request_words::values::finished` meets its contract.
-- Assumes nothing.
use Rattle.seqs.specs.Lists.{fold}
use Rattle.request_texts.specs.Texts.{letter, named, packed_name}
use Rattle.request_words.specs.Values.{feature_names, last_feature}
use mathlib.Core.Path.{refl, ◌∙◌}
use Rattle.request_words.proofs.values.finished.Goals as goal

pub returns : goal.returns
unfolding last_feature feature_names packed_name named letter fold
returns c = c.turned.ensures ∙ rw (c.weight.ensures.0, c.index_in-bit.ensures.0) refl
