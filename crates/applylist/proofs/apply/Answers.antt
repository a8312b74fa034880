-- Nothing is fed at first, and then piece after piece.
use Rattle.std.proofs.Common.{refl}
use Rattle.list_apply_laws.proofs.Turns.{none-fed, more-fed, same-fed}
use Rattle.applylist.proofs.apply.Goals as goal

pub loop-init : goal.loop-init
loop-init c = none-fed _ _ _ refl

pub loop-preserved : goal.loop-preserved
loop-preserved c =
    more-fed _ _ _ _ c.loop.invariant (same-fed _ _ _ _ _ c.loop.auto.buf refl c.take_turn-p.ensures)
