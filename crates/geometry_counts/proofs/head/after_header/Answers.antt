-- `geometry_counts::head::after_header` meets its contract: the header is at most four times the sector.
-- Assumes nothing.
use native.Mathlib.Omega.{arith}
use Rattle.geometry.proofs.Header.{header-le}
use Rattle.geometry_counts.proofs.head.after_header.Goals as goal

pub overflow_add-result : goal.overflow_add-result
overflow_add-result c = let a = c.args in omega (arith, header-le a.sector a.bs)

pub returns : goal.returns
returns c = cc
