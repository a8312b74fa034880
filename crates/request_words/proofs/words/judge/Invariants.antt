-- `request_words::words::judge` meets its contract. Invariant: no word before `at` is refused.
-- Assumes nothing.
use Rattle.request_words.specs.Words.{words_from, judged}
use lib.ListN.{length}
use Prim.Native.Nat.{◌-◌, ◌≤◌}
use mathlib.Core.Path.{◌≡◌}
use Rattle.request_words.proofs.words.judge.Given as goal

abbrev pub invariant-loop-at : goal.invariant-loop-at
invariant-loop-at l = (judged 0 (words_from 0 l.words) ≡ judged l.index (words_from l.at l.words)) × (l.index ≤ l.at)

abbrev pub decreases-loop-at : goal.decreases-loop-at
decreases-loop-at l = length l.words - l.at
