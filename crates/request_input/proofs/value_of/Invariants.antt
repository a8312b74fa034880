-- `request_input::value_of` meets its contract. Invariant: the value is what the records from `at` on give.
-- Assumes nothing.
use mathlib.Core.Path.{◌≡◌}
use Prim.Native.Nat.{◌-◌}
use lib.ListN.{length}
use Rattle.request_input.specs.Records.{records, value_with}
use Rattle.request_input.proofs.value_of.Given as goal

abbrev pub invariant-loop-at : goal.invariant-loop-at
invariant-loop-at l = value_with l.key (records l.from l.input) ≡ value_with l.key (records l.at l.input)

abbrev pub decreases-loop-at : goal.decreases-loop-at
decreases-loop-at l = length l.input - l.at
