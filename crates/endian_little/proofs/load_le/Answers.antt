-- `endian_little::load_le` meets its contract. Invariant: x is the number in the bytes that were taken, the last ones.
-- Assumes nothing.
use mathlib.Core.Path.{◌≡◌, refl, ◌∙◌}
use mathlib.Core.List.{List}
use Prim.Native.Nat.{ℕ, ◌+◌, ◌-◌, ◌≤◌, ◌<◌}
use native.Mathlib.Nat.{add-zero, sub_self}
use native.Mathlib.Omega.{arith}
use lib.ListN.{length, get_or, drop, take, length-drop}
use lib.Seq.{length-take-le, get_or-take, get_or-drop}
use Rattle.std.proofs.Common.{rules}
use Rattle.std.proofs.lemmas.Iterator.Adapters.{YieldsList-from_rev_slice}
use Rattle.std.proofs.lemmas.Iterator.Consumers.{YieldsList-turn, YieldsList-end}
use Rattle.std.proofs.lemmas.List.{length_push, length-reverse}
use Rattle.endian.proofs.Laws.{taken-last}
use Rattle.endian_little.specs.Bytes.{le_at}
use Rattle.endian_little.proofs.Laws.{le-read-turn, le-read-fits, le-bound}
use Rattle.endian_little.proofs.load_le.Goals as goal
use Rattle.endian_little.proofs.load_le.Goals.{In-Some}

-- the bytes
part-length : (off n : ℕ) (xs : List ℕ) → off + n ≤ length xs → length (take (off + n - off) (drop off xs)) ≡ n
part-length off n xs h =
    let m : off + n - off ≤ length (drop off xs) = omega (arith, length-drop off xs) in
    let l = length-take-le (off + n - off) (drop off xs) m in
    omega arith

-- the byte that is taken
taken : (c : In-Some) → (length c.loop-b.yielded < c.args.n) × (c.in-Some.b.now ≡ get_or c.args.buf.now (c.args.off + (c.args.n - length c.loop-b.yielded - 1)) 0)
taken c =
    let a = c.args in
    let m = a.off + a.n - a.off in
    let t =
    taken-last (take m (drop a.off a.buf.now)) a.n _ _ (part-length a.off a.n a.buf.now c.requires.0)
    (YieldsList-turn (YieldsList-from_rev_slice (take m (drop a.off a.buf.now)) (search rules)) c.loop-b.yielded _ c.loop-b.yielded_by _ _ c.in-Some.b c.in-Some.is c.next.ensures.steps) in
    let j = a.n - length c.loop-b.yielded - 1 in
    let h : j < m = omega (arith, t.0) in
    (t.0, t.1 ∙ get_or-take m (drop a.off a.buf.now) j 0 h ∙ get_or-drop a.off a.buf.now j 0)

pub loop-b-init : goal.loop-b-init
unfolding le_at
loop-b-init c = (omega arith, refl)

pub overflow_mul-x : goal.overflow_mul-x
overflow_mul-x c = let l = c.loop-b in
    let a = c.args in
    let i = a.n - length l.yielded in
    let k : a.n - i ≡ length l.yielded = omega arith in
    let now : l.x ≡ le_at (a.n - i) (a.off + i) a.buf.now = rw k l.invariant.1 in
    let t = taken c in
    omega (arith, le-read-fits a.n a.off i l.x _ a.buf.now (omega (arith, t.0)) (omega arith) now refl c.requires.1 (λ k. (c.type_inv.buf k).fits))

pub overflow_add-x : goal.overflow_add-x
overflow_add-x c = let l = c.loop-b in
    let a = c.args in
    let i = a.n - length l.yielded in
    let k : a.n - i ≡ length l.yielded = omega arith in
    let now : l.x ≡ le_at (a.n - i) (a.off + i) a.buf.now = rw k l.invariant.1 in
    let t = taken (goal.at.overflow_add-x c).In-Some in
    omega (arith, le-read-fits a.n a.off i l.x c.wide.result a.buf.now (omega (arith, t.0)) (omega arith) now (c.wide.ensures ∙ t.1) c.requires.1 (λ k. (c.type_inv.buf k).fits))

pub loop-b-preserved : goal.loop-b-preserved
loop-b-preserved c = let l = c.loop-b in
    let a = c.args in
    let y = length l.yielded in
    let i = a.n - y in
    let k : a.n - i ≡ y = omega arith in
    let now : l.x ≡ le_at (a.n - i) (a.off + i) a.buf.now = rw k l.invariant.1 in
    let t = taken (goal.at.loop-b-preserved c).In-Some in
    let p = length_push l.yielded c.in-Some.b in
    let m : a.n - (i - 1) ≡ y + 1 = omega (arith, t.0) in
    let j : i - 1 ≡ a.n - (y + 1) = omega arith in
    rw p (omega (arith, t.0), rw (m, j) at (le-read-turn a.n a.off i l.x c.wide.result a.buf.now (omega (arith, t.0)) (omega arith) now (c.wide.ensures ∙ t.1)))

pub returns : goal.returns
returns c = let l = c.loop-b in
    let a = c.args in
    let part = take (a.off + a.n - a.off) (drop a.off a.buf.now) in
    let e = YieldsList-end (YieldsList-from_rev_slice part (search rules)) l.yielded _ l.yielded_by _ _ c.in-None.is c.next.ensures.steps in
    let y : length l.yielded ≡ a.n = omega (arith, e.1, length-reverse part, part-length a.off a.n a.buf.now c.requires.0) in
    let r : l.x ≡ le_at a.n a.off a.buf.now = rw (y, sub_self, add-zero) at l.invariant.1 in
    (r, rw r (le-bound a.n a.off a.buf.now (λ k. (c.type_inv.buf k).fits)))
