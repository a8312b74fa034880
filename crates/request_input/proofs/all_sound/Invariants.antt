-- `request_input::all_sound` meets its contract. Invariant: whether the records are sound is whether those from `at` on are.
-- Assumes nothing.
use mathlib.Core.Path.{◌≡◌}
use Prim.Native.Nat.{◌-◌}
use lib.ListN.{length}
use Rattle.request_input.specs.Records.{records, sound}
use Rattle.request_input.proofs.all_sound.Given as goal

abbrev pub invariant-loop-at : goal.invariant-loop-at
invariant-loop-at l = sound (records 0 l.input) ≡ sound (records l.at l.input)

abbrev pub decreases-loop-at : goal.decreases-loop-at
decreases-loop-at l = length l.input - l.at
