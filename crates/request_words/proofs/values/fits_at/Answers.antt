-- `request_words::values::fits_at` meets its contract.
-- Assumes nothing.
use Rattle.request_words.proofs.Valuing.{dash-fits, digit-fits}
use mathlib.Core.Path.{sym, ◌∙◌}
use Rattle.request_words.proofs.values.fits_at.Goals as goal

pub returns-then-is_dash : goal.returns-then-is_dash
returns-then-is_dash c = dash-fits _ _ (sym c.is_dash.ensures ∙ c.if-is_dash.true)

pub returns : goal.returns
returns c = digit-fits _ _ (sym c.is_dash.ensures ∙ c.if-is_dash.false) _ c.hex.ensures.0
