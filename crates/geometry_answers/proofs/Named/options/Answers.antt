-- `geometry_answers::Named::options` meets its contract: each option is what the definition says.
-- Assumes nothing.
use mathlib.Core.Path.{refl}
use Rattle.geometry_answers.specs.Named.{named_options}
use Rattle.geometry_answers.proofs.Named.options.Goals as goal

pub returns : goal.returns
unfolding named_options
returns c = refl
