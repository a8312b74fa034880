-- `request_words::values::profile` meets its contract.
-- Assumes nothing.
use mathlib.Core.Path.{◌∙◌}
use Rattle.seqs.specs.Lists.{fold}
use Rattle.request_texts.specs.Texts.{letter, named, packed_name}
use Rattle.request_words.proofs.Valuing.{profile-is, profile-bad}
use Rattle.request_words.proofs.values.profile.Goals as goal

pub returns-then-pack-eq-STATION : goal.returns-then-pack-eq-STATION
unfolding packed_name named letter fold
returns-then-pack-eq-STATION c = c.good.ensures ∙ profile-is _ _ c.pack.ensures c.if-pack-eq-STATION.true

pub returns : goal.returns
unfolding packed_name named letter fold
returns c = c.refused.ensures ∙ profile-bad _ _ c.pack.ensures c.if-pack-eq-STATION.false
