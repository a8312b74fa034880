-- One piece is fed, or none.
use Rattle.std.proofs.Common.{ap}
use Rattle.list_apply.specs.declared.Step.{Step}
use Rattle.list_apply_laws.proofs.Turns.{none-fed, one-fed}
use Rattle.applylist.proofs.feed_first.Goals as goal

pub returns-in-Ok : goal.returns-in-Ok
returns-in-Ok c = one-fed _ _ _ _ (ap (λ (s : Step). s.applying) c.feed-s.ensures)

pub returns-in-Err : goal.returns-in-Err
returns-in-Err c = none-fed _ _ _ c.halted.ensures
