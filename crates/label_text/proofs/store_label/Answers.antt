-- `label_text::store_label` meets its contract. Invariant: the text of the bytes that were taken, the last ones, stands from `at` to the end.
-- Assumes nothing.
use mathlib.Core.Path.{◌≡◌}
use mathlib.Core.List.{[], ◌∷◌, ◌++◌}
use Prim.Native.Nat.{◌-◌, ◌<◌}
use native.Mathlib.Omega.{arith}
use lib.ListN.{length, get_or}
use Rattle.std.proofs.Common.{rules}
use Rattle.std.proofs.lemmas.Iterator.Adapters.{YieldsList-from_rev_slice}
use Rattle.std.proofs.lemmas.Iterator.Consumers.{YieldsList-turn, YieldsList-end}
use Rattle.std.proofs.lemmas.List.{length_push, length-reverse}
use Rattle.endian.proofs.Laws.{taken-last}
use Rattle.label_text.proofs.Laws.{turn-bytes, turn-ends, shown-most, none_left, none-stored}
use Rattle.label_text.proofs.store_label.Goals as goal
use Rattle.label_text.proofs.store_label.Goals.{In-Some, In-None}

-- the byte that is taken
taken : (c : In-Some) → (length c.loop-b.yielded < 12) × (c.in-Some.b.now ≡ get_or c.args.label.now (12 - length c.loop-b.yielded - 1) 0)
taken c =
    taken-last c.args.label.now 12 _ _ c.requires.0
    (YieldsList-turn (YieldsList-from_rev_slice c.args.label.now (search rules)) c.loop-b.yielded _ c.loop-b.yielded_by _ _ c.in-Some.b c.in-Some.is c.next.ensures.steps)

pub loop-b-init : goal.loop-b-init
loop-b-init c = let p = none-stored 48 _ c.args.buf.now (none_left c.args.label.now 12 c.requires.0) in (p.1, p.0, omega arith, omega arith, c.requires.1)

pub store_before-at-requires : goal.store_before-at-requires
store_before-at-requires c = let t = taken (goal.at.store_before-at-requires c).In-Some in
    (omega (arith, t.0), omega arith, c.loop-b.invariant.4)

pub loop-b-preserved : goal.loop-b-preserved
loop-b-preserved c = let l = c.loop-b in
    let a = c.args in
    let t = taken (goal.at.loop-b-preserved c).In-Some in
    let i = 12 - length l.yielded in
    let n = length_push l.yielded c.in-Some.b in
    let k : 12 - length (l.yielded ++ (c.in-Some.b ∷ [])) ≡ i - 1 = omega (arith, n) in
    let e = rw t.1 at c.store_before-at.ensures in (
      rw k (turn-bytes i a.label.now (omega (arith, t.0)) (omega arith) _ _ _ _ _ l.invariant.1 l.invariant.0 e.0 e.1),
      rw k (turn-ends i a.label.now (omega (arith, t.0)) (omega arith) _ _ _ _ _ l.invariant.1 l.invariant.0 e.0 e.1),
      omega (arith, n, e.0, shown-most (get_or a.label.now (i - 1) 0) (48 - l.at)),
      omega (arith, n, t.0),
      omega arith,
    )

pub returns : goal.returns
returns c = let l = c.loop-b in
    let y = YieldsList-end (YieldsList-from_rev_slice c.args.label.now (search rules)) l.yielded _ l.yielded_by _ _ c.in-None.is c.next.ensures.steps in
    let z : 12 - length l.yielded ≡ 0 = omega (arith, y.1, length-reverse c.args.label.now) in
    (rw z at l.invariant.1, rw z at l.invariant.0)
