-- `reader_agreement::agreed_at` meets its contract.
-- Assumes nothing.
use native.Mathlib.Omega.{arith}
use Rattle.reader_agreement.proofs.Laws.{place-first, place-head, place-log}
use Rattle.reader_agreement.proofs.agreed_at.Goals as goal

pub returns-then-v-eq0 : goal.returns-then-v-eq0
returns-then-v-eq0 c = place-first _ _ _ c.if-v-eq0.true c.first_agreement.ensures

pub returns-then-v-g : goal.returns-then-v-g
returns-then-v-g c = place-head _ _ _ c.if-v-eq0.false c.if-v-g.true c.head_agreement.ensures

pub returns : goal.returns
returns c = place-log _ _ _ c.if-v-eq0.false (omega arith) c.log_agreement.ensures
