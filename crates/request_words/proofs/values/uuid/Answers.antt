-- `request_words::values::uuid` meets its contract.
-- Assumes nothing.
use Rattle.seqs.specs.Lists.{fold}
use Rattle.request_texts.specs.Texts.{letter, named, packed_name}
use Rattle.request_words.proofs.Valuing.{uuid-none, uuid-is, uuid-shape, uuid-length}
use mathlib.Core.Path.{sym, ◌∙◌}
use Rattle.request_words.proofs.values.uuid.Goals as goal

pub returns-then-pack-eq-NONE : goal.returns-then-pack-eq-NONE
unfolding packed_name named letter fold
returns-then-pack-eq-NONE c = c.good.ensures ∙ uuid-none _ _ c.pack.ensures c.if-pack-eq-NONE.true

pub returns-then-shaped : goal.returns-then-shaped
unfolding packed_name named letter fold
returns-then-shaped c = c.good-then-shaped.ensures ∙ uuid-is _ _ c.pack.ensures c.if-pack-eq-NONE.false c.if-text-eq36.true (sym c.shaped.ensures ∙ c.if-shaped.true)

pub returns-then-text-eq36 : goal.returns-then-text-eq36
unfolding packed_name named letter fold
returns-then-text-eq36 c = c.refused.ensures ∙ uuid-shape _ _ c.pack.ensures c.if-pack-eq-NONE.false c.if-text-eq36.true (sym c.shaped.ensures ∙ c.if-shaped.false)

pub returns : goal.returns
unfolding packed_name named letter fold
returns c = c.refused-2.ensures ∙ uuid-length _ _ c.pack.ensures c.if-pack-eq-NONE.false c.if-text-eq36.false
