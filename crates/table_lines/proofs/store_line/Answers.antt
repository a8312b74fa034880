-- `table_lines::store_line` meets its contract. Invariant: the line of the numbers that were taken, the last ones, stands from `at` to the end;
-- `behind` comes before it.
-- Assumes nothing.
use mathlib.Core.Path.{◌≡◌, refl, sym}
use mathlib.Core.List.{[], ◌∷◌, ◌++◌}
use Prim.Native.Nat.{◌-◌, ◌≤◌, ◌<◌}
use native.Mathlib.Nat.{sub-zero}
use native.Mathlib.Omega.{arith}
use lib.ListN.{length, get_or}
use Rattle.std.proofs.Common.{rules}
use Rattle.std.proofs.lemmas.Iterator.Adapters.{YieldsList-from_rev_slice}
use Rattle.std.proofs.lemmas.Iterator.Consumers.{YieldsList-turn, YieldsList-end}
use Rattle.std.proofs.lemmas.List.{length_push, length-reverse}
use Rattle.endian.proofs.Laws.{taken-last}
use Rattle.table_lines.proofs.Stores.{length-turn, line-none, rest-length, behind-turn, number-turn, patch-none}
use Rattle.table_lines.proofs.store_line.Goals as goal
use Rattle.table_lines.proofs.store_line.Goals.{In-Some}

-- the number that is taken
taken : (c : In-Some) → (length c.loop-number.yielded < length c.args.numbers.now) × (c.in-Some.number.now ≡ get_or c.args.numbers.now (length c.args.numbers.now - length c.loop-number.yielded - 1) 0)
taken c =
    taken-last c.args.numbers.now _ _ _ refl
    (YieldsList-turn (YieldsList-from_rev_slice c.args.numbers.now (search rules)) c.loop-number.yielded _ c.loop-number.yielded_by _ _ c.in-Some.number c.in-Some.is c.next.ensures.steps)

pub loop-number-init : goal.loop-number-init
loop-number-init c = let e = line-none c.args.numbers.now in rw sub-zero (patch-none _ _ _ e.2, omega arith, sym e.1, omega arith, refl)

pub store_number-at-requires : goal.store_number-at-requires
store_number-at-requires c = let t = taken (goal.at.store_number-at-requires c).In-Some in
    let ns = c.args.numbers.now in
    let i = length ns - length c.loop-number.yielded in
    rw t.1 (omega (arith, length-turn i ns (omega (arith, t.0)) (omega arith), rest-length (i - 1) ns), omega arith)

pub loop-number-preserved : goal.loop-number-preserved
loop-number-preserved c = let l = c.loop-number in
    let ns = c.args.numbers.now in
    let t = taken (goal.at.loop-number-preserved c).In-Some in
    let i = length ns - length l.yielded in
    let n = length_push l.yielded c.in-Some.number in
    let k : length ns - length (l.yielded ++ (c.in-Some.number ∷ [])) ≡ i - 1 = omega (arith, n) in
    let e = rw t.1 at c.store_number-at.ensures in
    let p : 0 < i = omega (arith, t.0) in
    let q : i ≤ length ns = omega arith in (
      rw k (number-turn i ns p q _ _ _ _ _ _ l.invariant.2 l.invariant.0 e.0 e.1),
      rw k (omega (arith, e.0, length-turn i ns p q)),
      rw k (behind-turn i ns p q),
      omega (arith, n, t.0),
      omega arith,
    )

pub shape_of-buf : goal.shape_of-buf
shape_of-buf c = c.loop-number.invariant.4

pub returns : goal.returns
returns c = let l = c.loop-number in
    let y = YieldsList-end (YieldsList-from_rev_slice c.args.numbers.now (search rules)) l.yielded _ l.yielded_by _ _ c.in-None.is c.next.ensures.steps in
    let z : length c.args.numbers.now - length l.yielded ≡ 0 = omega (arith, y.1, length-reverse c.args.numbers.now) in
    (rw z at l.invariant.1, rw z at l.invariant.0)
