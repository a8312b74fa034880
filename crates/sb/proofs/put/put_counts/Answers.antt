-- `sb::put::put_counts` meets its contract.
-- Assumes nothing.
use Rattle.sb.specs.Numbers.{numbers_run}
use Rattle.sb.proofs.Runs.{four_runs}
use Rattle.sb.proofs.put.put_counts.Goals as goal

pub returns : goal.returns
returns c = let a = c.args in
    four_runs (numbers_run 100 2 4) (numbers_run 120 1 8) (numbers_run 128 8 6) (numbers_run 180 4 3) 14 a.v.now a.sector.now _ _ _ _
    c.put_run.ensures
    c.put_run-2.ensures
    c.put_run-3.ensures
    c.put_run-4.ensures
