-- `request_words::values::shaped` meets its contract. Invariant: every byte before i fits.
-- Assumes nothing.
use Rattle.request_words.specs.Values.{shaped}
use lib.ListN.{drop}
use mathlib.Core.Path.{◌≡◌}
use Rattle.request_words.proofs.values.shaped.Given as goal

abbrev pub invariant-loop-i : goal.invariant-loop-i
invariant-loop-i l = shaped 0 l.text ≡ shaped l.i (drop l.i l.text)
