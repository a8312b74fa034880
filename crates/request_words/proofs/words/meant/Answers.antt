-- `request_words::words::meant` meets its contract.
-- Assumes nothing.
use Rattle.request_words.proofs.Wording.{meant-known, meant-unknown}
use native.Mathlib.Omega.{arith}
use Rattle.request_words.proofs.words.meant.Goals as goal

pub returns-then-key-lt-KEYS : goal.returns-then-key-lt-KEYS
returns-then-key-lt-KEYS c = meant-known _ _ _ _ _ c.if-key-lt-KEYS.true _ c.value_of-v.ensures

pub returns : goal.returns
returns c = meant-unknown _ _ _ _ _ (omega arith)
