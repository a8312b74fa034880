-- `list_sector::sector_in` meets its contract.
-- Assumes nothing.
use native.Mathlib.Omega.{arith}
use Rattle.list_sector.proofs.Laws.{too_short, long-enough}
use Rattle.list_sector.proofs.sector_in.Goals as goal

pub returns-then-list-lt194 : goal.returns-then-list-lt194
returns-then-list-lt194 c = too_short _ (omega arith)

pub returns : goal.returns
returns c = long-enough _ (omega arith) _ _ c.long_at.ensures c.sector_behind.ensures
