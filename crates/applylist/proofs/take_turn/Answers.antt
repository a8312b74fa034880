-- Where the read failed, nothing is fed.
use Rattle.list_apply_laws.proofs.Turns.{none-fed}
use Rattle.applylist.proofs.take_turn.Goals as goal

pub returns-in-Err : goal.returns-in-Err
returns-in-Err g c = none-fed _ _ _ c.halted.ensures
