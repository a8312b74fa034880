-- `request_words::values::next_byte` meets its contract.
-- Assumes nothing.
use Rattle.request_words.proofs.Valuing.{byte-comma, byte-sign, byte-name}
use Rattle.request_words.proofs.values.next_byte.Goals as goal

pub returns-then-b-eq44 : goal.returns-then-b-eq44
returns-then-b-eq44 c = byte-comma _ _ _ c.finished.ensures c.if-b-eq44.true

pub returns-then-s-eq0 : goal.returns-then-s-eq0
returns-then-s-eq0 c = byte-sign _ _ c.if-b-eq44.false c.if-s-eq0.true

pub returns : goal.returns
returns c = byte-name _ _ c.if-b-eq44.false c.if-s-eq0.false _ c.push.ensures
