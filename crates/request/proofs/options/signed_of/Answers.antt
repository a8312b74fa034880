-- `request::options::signed_of` meets its contract.
-- Assumes nothing.
use mathlib.Core.Path.{ap, ◌∙◌}
use mir.Syntax.{w64}
use mir.ValLaws.{to_z-of_z}
use borrow.Author.Rules.{rules}
use native.Mathlib.Omega.{arith}
use Rattle.request.specs.Options.{signed}
use Rattle.request.proofs.TwosComplement.{in_twos_complement}
use Rattle.request.proofs.options.signed_of.Goals as goal

pub returns : goal.returns
returns c = to_z-of_z w64 c.cast_signed.result (search rules) ∙ c.cast_signed.ensures ∙ in_twos_complement _ (omega arith) ∙ ap signed (omega arith)
