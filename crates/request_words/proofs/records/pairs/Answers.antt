-- `request_words::records::pairs` meets its contract. Invariant: the bytes before j are those of the text.
-- Assumes nothing.
use native.Mathlib.Nat.{zero-add}
use Rattle.std.proofs.Common.{arith}
use Rattle.request_words.proofs.Writing.{all-pairs}
use Rattle.request_words.proofs.records.pairs.Goals as goal

pub returns : goal.returns
returns c = all-pairs 16 0 c.args.from c.args.words.now c.loop-j.b-items (omega arith) (λ i h. rw zero-add (c.loop-j.invariant i (omega arith)))
