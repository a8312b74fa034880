-- `plan_holds::runs::put_run` meets its contract.
-- Assumes nothing.
use mathlib.Core.Path.{◌∙◌}
use borrow.Author.Rules.{rules}
use Rattle.plan_holds.proofs.Laws.{put-made}
use Rattle.plan_holds.proofs.runs.put_run.Goals as goal

pub returns : goal.returns
returns c = c.add_side.ensures
    ∙ rw (c.add_if-mid.ensures, c.add_side-low.ensures, c.no_runs-none.ensures) (put-made c.args.h c.args.r (search rules))
