-- `request_words::records::pairs` meets its contract. Invariant: the bytes before j are those of the text.
-- Assumes nothing.
use mathlib.Core.Path.{◌≡◌}
use Prim.Native.Nat.{ℕ, ◌<◌}
use lib.ListN.{get_or}
use Rattle.request_words.specs.Asked.{pair_at}
use Rattle.request_words.proofs.records.pairs.Given as goal

abbrev pub invariant-loop-j : goal.invariant-loop-j
invariant-loop-j l = (k : ℕ) → k < l.j → get_or l.b-items k 0 ≡ pair_at l.from k l.words
