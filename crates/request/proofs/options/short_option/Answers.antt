-- `request::options::short_option` meets its contract.
-- Assumes nothing.
use mathlib.Core.Path.{◌∙◌}
use Rattle.request.proofs.Values.{short-fits}
use Rattle.request.proofs.options.short_option.Goals as goal

pub short-requires : goal.short-requires
short-requires c = rw c.option.ensures (short-fits _ c.requires.0 _ c.requires.2)

pub returns : goal.returns
returns c = c.short.ensures ∙ rw c.option.ensures
