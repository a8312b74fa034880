-- `plan_holds::runs::drop_run` meets its contract.
-- Assumes nothing.
use mathlib.Core.Path.{◌∙◌}
use borrow.Author.Rules.{rules}
use Rattle.plan_holds.proofs.Laws.{drop-made}
use Rattle.plan_holds.proofs.runs.drop_run.Goals as goal

pub returns : goal.returns
returns c = c.add_side.ensures ∙ rw (c.add_side-low.ensures, c.no_runs-none.ensures) (drop-made c.args.h c.args.a (search rules))
