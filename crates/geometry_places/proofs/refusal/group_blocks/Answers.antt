-- `geometry_places::refusal::group_blocks` meets its contract: the last group is agcount - 1, so that the product is below the block count.
-- Assumes nothing.
use native.Mathlib.Omega.{arith}
use mathlib.Core.Path.{◌≡◌, ◌∙◌, sym}
use Prim.Native.Nat.{◌-◌}
use borrow.Author.Tests.{eq-eqb, ne_eqb}
use Rattle.arith.specs.Choice.{when}
use Rattle.geometry_layout.specs.Places.{group_blocks}
use Rattle.geometry_places.proofs.refusal.group_blocks.Goals as goal

pub overflow_mul-agno : goal.overflow_mul-agno
overflow_mul-agno c = rw (c.if-agno-saturating_sub.true, c.saturating_sub.ensures) (record { fits = let w = c.requires in let f = c.ranges.dblocks in omega arith })

pub returns-then-agno-saturating_sub : goal.returns-then-agno-saturating_sub
unfolding group_blocks when
returns-then-agno-saturating_sub c = let a = c.args in
    let e : a.agno ≡ a.agcount - 1 = c.if-agno-saturating_sub.true ∙ c.saturating_sub.ensures in
    rw (eq-eqb a.agno (a.agcount - 1) e) c.saturating_sub-then-agno-saturating_sub.ensures

pub returns-else-agno-saturating_sub : goal.returns-else-agno-saturating_sub
unfolding group_blocks when
returns-else-agno-saturating_sub c = let a = c.args in
    rw (ne_eqb a.agno (a.agcount - 1) (λ q. c.if-agno-saturating_sub.false (q ∙ sym c.saturating_sub.ensures)))
