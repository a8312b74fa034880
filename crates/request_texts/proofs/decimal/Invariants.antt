-- `request_texts::decimal` meets its contract. Invariant: the digits from the index on make what is left of the number, which fits so far.
-- Assumes nothing.
use Rattle.table_lines.specs.Decimal.{value_after}
use lib.ListN.{drop}
use Prim.Native.Nat.{◌<◌}
use mathlib.Core.Path.{◌≡◌}
use Rattle.request_texts.proofs.decimal.Given as goal

abbrev pub invariant-loop-digit : goal.invariant-loop-digit
invariant-loop-digit l = (value_after 0 l.digits ≡ value_after l.value (drop l.digit-index l.digits)) × (l.value < 18446744073709551616)
