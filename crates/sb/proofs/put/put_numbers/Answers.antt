-- `sb::put::put_numbers` meets its contract.
-- Assumes nothing.
use mathlib.Core.Path.{◌≡◌, ap, ◌∙◌}
use native.Mathlib.Omega.{arith}
use lib.ListN.{length}
use borrow.Author.Rules.{rules}
use Rattle.sb.specs.Numbers.{all_runs, counts_runs, flags_runs, in_runs}
use Rattle.sb.proofs.Runs.{all_runs_lem}
use Rattle.sb.proofs.put.put_numbers.Goals as goal

pub returns : goal.returns
returns c = let a = c.args in
    let u : length a.v.now ≡ 46 = search rules in
    c.put_flags.ensures
    ∙ ap (in_runs flags_runs 35 a.v.now)
    (c.put_counts.ensures
    ∙ ap (in_runs counts_runs 14 a.v.now) c.put_sizes.ensures)
    ∙ all_runs_lem all_runs 0 a.v.now a.sector.now (omega (arith, u))
