-- `group_bytes::head_left` meets its contract.
-- Assumes nothing.
use mathlib.Core.Path.{refl, ap, sym, ◌∙◌}
use borrow.Author.Tests.{ne_eqb}
use Rattle.crc.specs.Right.{already_right}
use Rattle.structs.proofs.Encoded.{not-encoded, encoded}
use Rattle.head_bytes.specs.Places.{head_places}
use Rattle.sb_states.specs.declared.Stated.{Stated}
use Rattle.group_bytes.proofs.Made.{left-number, left-made}
use Rattle.group_bytes.proofs.head_left.Goals as goal

pub head_number-n-requires : goal.head_number-n-requires
head_number-n-requires c = let a = c.args in λ h. ap (λ (x : Stated). x.number) c.left_state-stated.ensures ∙ left-number a.g a.uuid a.k h

pub returns-then-n-ne0 : goal.returns-then-n-ne0
returns-then-n-ne0 c = not-encoded (sym c.head_number-n.ensures) (ne_eqb _ 0 c.if-n-ne0.true)

pub fill_head-right-requires : goal.fill_head-right-requires
fill_head-right-requires c = sym c.head_number-n.ensures ∙ c.if-n-ne0.false

pub returns : goal.returns
returns c = let z = sym c.head_number-n.ensures ∙ c.if-n-ne0.false in
    let a = c.args in
    let m = c.fill_head-right.ensures in
    let q = left-made a.g a.uuid a.k a.head.now z _ _ c.left_state-stated.ensures refl in
    encoded z (m.1 ∙ q) (m.0 ∙ ap (already_right (head_places a.g) a.head.now) q)
