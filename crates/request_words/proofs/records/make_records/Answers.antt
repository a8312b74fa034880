-- `request_words::records::make_records` meets its contract.
-- Assumes nothing.
use Rattle.request_words.proofs.Writing.{makes-short, makes-wrong, makes-records}
use native.Mathlib.Omega.{arith}
use Rattle.request_words.proofs.records.make_records.Goals as goal

pub returns-then-buf-lt-LONGEST : goal.returns-then-buf-lt-LONGEST
returns-then-buf-lt-LONGEST c = makes-short _ _ c.if-buf-lt-LONGEST.true

pub returns-then-v-ne0 : goal.returns-then-v-ne0
returns-then-v-ne0 c = makes-wrong _ _ (omega arith) _ c.verdict-v.ensures c.if-v-ne0.true

pub returns : goal.returns
returns c = makes-records _ _ (omega arith) _ c.verdict-v.ensures c.if-v-ne0.false _ c.put_records-length.ensures.value _ c.put_records-length.ensures.buf_after
