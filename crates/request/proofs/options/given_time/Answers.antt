-- `request::options::given_time` meets its contract.
-- Assumes nothing.
use mir.Syntax.{w64}
use mir.ValLaws.{to_z-of_z}
use borrow.Author.Rules.{rules}
use Rattle.request.proofs.options.given_time.Goals as goal

pub returns : goal.returns
returns c = cc (to_z-of_z w64 c.signed_of.result (search rules))
