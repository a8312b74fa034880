-- `sb::put::put_flags` meets its contract.
-- Assumes nothing.
use Rattle.sb.specs.Numbers.{numbers_run}
use Rattle.sb.proofs.Runs.{four_runs}
use Rattle.sb.proofs.put.put_flags.Goals as goal

pub returns : goal.returns
returns c = let a = c.args in
    four_runs (numbers_run 192 1 1) (numbers_run 196 4 7) (numbers_run 228 4 1) (numbers_run 232 8 2) 35 a.v.now a.sector.now _ _ _ _
    c.put_run.ensures
    c.put_run-2.ensures
    c.put_run-3.ensures
    c.put_run-4.ensures
