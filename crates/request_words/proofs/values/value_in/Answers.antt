-- `request_words::values::value_in` meets its contract.
-- Assumes nothing.
use Rattle.request_words.proofs.Valuing.{of-label, of-features, of-sizing, of-profile, of-uuid, of_number}
use mathlib.Core.Path.{◌∙◌}
use Rattle.request_words.proofs.values.value_in.Goals as goal

pub returns-then-key-eq-LABEL : goal.returns-then-key-eq-LABEL
returns-then-key-eq-LABEL c = c.good.ensures ∙ of-label _ _ c.if-key-eq-LABEL.true

pub returns-then-key-eq-FEATURES : goal.returns-then-key-eq-FEATURES
returns-then-key-eq-FEATURES c = c.features.ensures ∙ of-features _ _ c.if-key-eq-FEATURES.true

pub returns-then-key-eq-SIZING : goal.returns-then-key-eq-SIZING
returns-then-key-eq-SIZING c = c.sizing.ensures ∙ of-sizing _ _ c.if-key-eq-SIZING.true

pub returns-then-key-eq-PROFILE : goal.returns-then-key-eq-PROFILE
returns-then-key-eq-PROFILE c = c.profile.ensures ∙ of-profile _ _ c.if-key-eq-PROFILE.true

pub returns-then-key-eq-UUID : goal.returns-then-key-eq-UUID
returns-then-key-eq-UUID c = c.uuid.ensures ∙ of-uuid _ _ c.if-key-eq-UUID.true

pub returns : goal.returns
returns c = c.number.ensures
    ∙ of_number _ _ c.if-key-eq-LABEL.false c.if-key-eq-FEATURES.false c.if-key-eq-SIZING.false
    c.if-key-eq-PROFILE.false c.if-key-eq-UUID.false
