-- `inquire_sizes::scan` meets its contract: what is left of the range has its smallest refused size.
-- Assumes nothing.
use Rattle.inquire_sizes.proofs.Turns.{is_refused}
use Rattle.inquire_sizes.specs.Step.{number_at}
use Rattle.inquire_sizes.specs.Ranges.{smallest_refused}
use Rattle.inquire_sizes.specs.First.{first_from}
use Prim.Native.Nat.{◌+◌, ◌-◌}
use mathlib.Core.Path.{◌≡◌}
use Rattle.inquire_sizes.proofs.scan.Given as goal

abbrev pub invariant-loop-n : goal.invariant-loop-n
invariant-loop-n l = smallest_refused (number_at l.f) l.from l.to ≡ first_from (is_refused (number_at l.f)) l.n (l.to + 1 - l.n)
