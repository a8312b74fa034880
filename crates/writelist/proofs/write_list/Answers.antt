-- No turn is taken at first, then one more each time.
use Rattle.std.proofs.Common.{refl, ap, ◌≡◌, ◌∙◌, ℕ, ◌+◌, suc, length, arith}
use Rattle.list_send.specs.Sending.{sent_on, sent_def}
use Rattle.list_send.specs.declared.Sending.{Sending as State}
use Rattle.writelist.proofs.write_list.Goals as goal

pub loop-taken-init : goal.loop-taken-init
unfolding sent_on
loop-taken-init g c = refl

pub loop-taken-preserved : goal.loop-taken-preserved
unfolding sent_on
loop-taken-preserved g c =
    let l = c.loop-taken in
    let work = length c.args.work.now in
    let buf = length c.args.buf.now in
    let k : suc l.taken ≡ l.taken + 1 = omega arith in
    rw (l.auto.work, l.auto.buf) at c.take_turn.ensures
    ∙ ap (λ (v : State). (sent_def v work buf).sending) l.invariant
    ∙ ap (λ (i : ℕ). sent_on i c.args.first work buf) k
