-- `geometry_answers::names_of` meets its contract: each field is what the definition says.
-- Assumes nothing.
use mathlib.Core.Path.{refl}
use Rattle.geometry_answers.specs.Named.{names_of}
use Rattle.geometry_answers.proofs.names_of.Goals as goal

pub returns : goal.returns
unfolding names_of
returns c = refl
