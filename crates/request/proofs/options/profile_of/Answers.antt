-- `request::options::profile_of` meets its contract.
-- Assumes nothing.
use mathlib.Core.Path.{◌∙◌}
use Rattle.request.specs.Options.{profile_of}
use Rattle.request.proofs.options.profile_of.Goals as goal

pub returns : goal.returns
unfolding profile_of
returns c = c.turned_on.ensures ∙ rw c.option.ensures
