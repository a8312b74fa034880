-- `endian::numbers::load` meets its contract. Invariant: x is the number in the first i bytes.
-- Assumes nothing.
use mathlib.Core.Path.{◌≡◌, refl, ◌∙◌}
use Prim.Native.Nat.{◌+◌, ◌-◌, ◌<◌}
use native.Mathlib.Omega.{arith}
use lib.ListN.{get_or, drop}
use lib.Seq.{get_or-take, get_or-drop}
use Rattle.endian.specs.Bytes.{be_at}
use Rattle.endian.proofs.Laws.{read-turn, read_fits, at_bound}
use Rattle.endian.proofs.numbers.load.Goals as goal
use Rattle.endian.proofs.numbers.load.Goals.{After-wide}

-- the byte that is read
read : (c : After-wide) → c.wide.result ≡ get_or c.args.buf.now (c.args.off + c.loop-b.b-index) 0
read c = let a = c.args in
    let i = c.loop-b.b-index in
    let n = a.off + a.n - a.off in
    let h : i < n = omega arith in
    c.wide.ensures ∙ get_or-take n (drop a.off a.buf.now) i 0 h ∙ get_or-drop a.off a.buf.now i 0

pub loop-b-init : goal.loop-b-init
unfolding be_at
loop-b-init c = (omega arith, refl)

pub overflow_mul-x : goal.overflow_mul-x
overflow_mul-x c = let l = c.loop-b in
    let a = c.args in
    omega (arith, read_fits a.n a.off l.b-index l.x _ a.buf.now l.invariant.1 refl (omega arith) c.requires.1 (λ k. (c.type_inv.buf k).fits))

pub overflow_add-x : goal.overflow_add-x
overflow_add-x c = let l = c.loop-b in
    omega (arith, read_fits c.args.n c.args.off l.b-index l.x c.wide.result c.args.buf.now l.invariant.1 (read c) (omega arith) c.requires.1 (λ k. (c.type_inv.buf k).fits))

pub loop-b-preserved : goal.loop-b-preserved
loop-b-preserved c = let l = c.loop-b in
    let a = c.args in
    (omega arith, read-turn a.n a.off l.b-index l.x c.wide.result a.buf.now l.invariant.1 (read c))

pub returns : goal.returns
returns c = let l = c.loop-b in
    let a = c.args in
    let e : l.b-index ≡ a.n = omega arith in
    (l.invariant.1 ∙ rw e, rw (l.invariant.1, e) (at_bound a.n a.off a.buf.now (λ k. (c.type_inv.buf k).fits)))
