-- `request_words::words::find` meets its contract. Invariant: the word is the first one from `at` on.
-- Assumes nothing.
use Rattle.request_words.specs.Words.{words_from, word_with}
use lib.ListN.{length}
use Prim.Native.Nat.{◌-◌}
use mathlib.Core.Path.{◌≡◌}
use Rattle.request_words.proofs.words.find.Given as goal

abbrev pub invariant-loop-at : goal.invariant-loop-at
invariant-loop-at l = word_with l.key (words_from l.from l.words) ≡ word_with l.key (words_from l.at l.words)

abbrev pub decreases-loop-at : goal.decreases-loop-at
decreases-loop-at l = length l.words - l.at
