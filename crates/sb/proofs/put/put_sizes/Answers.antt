-- `sb::put::put_sizes` meets its contract.
-- Assumes nothing.
use Rattle.sb.specs.Numbers.{numbers_run}
use Rattle.sb.proofs.Runs.{four_runs}
use Rattle.sb.proofs.put.put_sizes.Goals as goal

pub returns : goal.returns
returns c = let a = c.args in
    four_runs (numbers_run 0 4 2) (numbers_run 8 8 3) (numbers_run 48 8 4) (numbers_run 80 4 5) 0 a.v.now a.sector.now _ _ _ _
    c.put_run.ensures
    c.put_run-2.ensures
    c.put_run-3.ensures
    c.put_run-4.ensures
