-- `geometry_places::refusal::slot_refusal` meets its contract: by the tests that led there.
-- Assumes nothing.
use mathlib.Core.Path.{sym, ◌∙◌}
use Rattle.geometry_places.proofs.Refused.{slot-place, slot-missing, slot-there}
use Rattle.geometry_places.proofs.refusal.slot_refusal.Goals as goal

pub returns-then-n-ne0 : goal.returns-then-n-ne0
returns-then-n-ne0 c = let r = c.place_refusal-n in
    r.ensures ∙ sym (slot-place _ _ _ _ (λ q. c.if-n-ne0.true (r.ensures ∙ q)))

pub returns-then-g-slot : goal.returns-then-g-slot
returns-then-g-slot c = sym (slot-missing _ _ _ _ (sym c.place_refusal-n.ensures ∙ c.if-n-ne0.false) c.if-g-slot.true)

pub returns : goal.returns
returns c = sym (slot-there _ _ _ _ (sym c.place_refusal-n.ensures ∙ c.if-n-ne0.false) c.if-g-slot.false)
