-- `request::parse` meets its contract.
-- Assumes nothing.
use mathlib.Core.Path.{sym, ◌∙◌}
use Rattle.endian.proofs.Laws.{got_in}
use Rattle.request.proofs.Answers.{refused-is, accepted-is}
use Rattle.request.proofs.parse.Goals as goal

pub returns-then-not-well_formed : goal.returns-then-not-well_formed
returns-then-not-well_formed c = c.malformed.ensures ∙ refused-is _ (sym c.well_formed-2.ensures ∙ c.if-not-well_formed.true)

pub params_of-requires : goal.params_of-requires
params_of-requires c = sym c.well_formed-2.ensures ∙ c.if-not-well_formed.false

pub returns : goal.returns
returns c = accepted-is _ (sym c.well_formed-2.ensures ∙ c.if-not-well_formed.false) c.params_of.ensures c.profile_of.ensures (λ h. got_in c.be64.ensures h) (λ h. got_in c.be32.ensures h) (λ h. got_in c.be32-2.ensures h)
