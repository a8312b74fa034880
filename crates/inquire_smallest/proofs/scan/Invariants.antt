-- `inquire_smallest::scan` meets its contract: what is left of the sizes has the first that reaches the count.
-- Assumes nothing.
use Rattle.inquire_smallest.proofs.Rows.{enough}
use Rattle.inquire_smallest.specs.Question.{first_reaching}
use Rattle.inquire_sizes.specs.First.{first_from}
use Prim.Native.Nat.{◌-◌}
use mathlib.Core.Path.{◌≡◌}
use Rattle.inquire_smallest.proofs.scan.Given as goal

abbrev pub invariant-loop-i : goal.invariant-loop-i
invariant-loop-i l = first_reaching l.p l.logical l.physical l.start l.count l.wanted ≡ first_from (enough l.p l.logical l.physical l.start l.wanted) l.i (l.count - l.i)
