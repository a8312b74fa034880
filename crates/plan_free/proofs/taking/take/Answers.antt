-- `plan_free::taking::take` meets its contract.
-- Assumes nothing.
use mathlib.Core.Path.{◌≡◌, sym, ap, ◌∙◌}
use Prim.Native.Nat.{ℕ, ◌+◌, ◌≤◌, ◌<◌, ◌^◌}
use native.Mathlib.Omega.{arith}
use borrow.Author.Tests.{lt-ltb, le-ltb}
use lib.ListN.{length}
use lib.Seq.{length-take-le}
use Rattle.seqs.specs.Lists.{first_index}
use Rattle.plan_free.specs.Free.{free_of, alloc_start, alloc_count, zero_free_rec, taken, taken_from, taken_at, holds_run}
use Rattle.seqs.proofs.Validity.{live-valid}
use Rattle.plan_free.proofs.Laws.{live-holds}
use Rattle.plan_free.proofs.taking.take.Goals as goal

pub returns-then-free-gt64 : goal.returns-then-free-gt64
unfolding taken
returns-then-free-gt64 c = c.refused.ensures ∙ simp (lt-ltb _ _ c.if-free-gt64.true)

pub returns-then-not-is_valid : goal.returns-then-not-is_valid
unfolding taken
returns-then-not-is_valid c = c.refused-then-not-is_valid.ensures ∙ simp (le-ltb _ _ c.if-free-gt64.false, sym c.is_valid.ensures ∙ c.if-not-is_valid.true)

pub returns-in_default : goal.returns-in_default
unfolding taken
returns-in_default c =
    let t : 2 ^ 64 ≤ c.args.start + c.args.len = omega (arith, c.in_default.ensures) in
    c.refused-in_default.ensures
    ∙ simp (le-ltb _ _ c.if-free-gt64.false, sym c.is_valid.ensures ∙ c.if-not-is_valid.false, le-ltb _ _ t)

pub returns-then-i-free : goal.returns-then-i-free
unfolding taken taken_from
returns-then-i-free c =
    let k : length c.args.free.recs ≡ 64 = c.well_formed.0.1.1.0.1.0.1 in
    let n : length (free_of c.args.free) ≡ c.args.free.len = length-take-le _ _ (omega arith) in
    let e : c.in-Some.end ≡ c.args.start + c.args.len = c.in-Some.ensures.1 in
    let f : c.find-i.result ≡ first_index (holds_run c.args.start (c.args.start + c.args.len)) (free_of c.args.free) = rw (← e) c.find-i.ensures in
    let t : length (free_of c.args.free) ≤ first_index (holds_run c.args.start (c.args.start + c.args.len)) (free_of c.args.free) = omega (arith, f) in
    c.refused-then-i-free.ensures
    ∙ simp (le-ltb _ _ c.if-free-gt64.false, sym c.is_valid.ensures ∙ c.if-not-is_valid.false, lt-ltb _ _ c.in-Some.ensures.0, le-ltb _ _ t)

pub take_at-requires : goal.take_at-requires
take_at-requires c =
    let k : length c.args.free.recs ≡ 64 = c.well_formed.0.1.1.0.1.0.1 in
    let e : c.in-Some.end ≡ c.args.start + c.args.len = c.in-Some.ensures.1 in
    let f : c.find-i.result ≡ first_index (holds_run c.args.start (c.args.start + c.args.len)) (free_of c.args.free) = rw (← e) c.find-i.ensures in
    let q = live-holds c.args.free.recs c.args.free.len c.find-i.result (omega arith) (omega arith) c.args.start (c.args.start + c.args.len) f in
    let v = live-valid alloc_start alloc_count zero_free_rec c.args.free.recs c.args.free.len c.find-i.result (omega arith) (omega arith) (sym c.is_valid.ensures ∙ c.if-not-is_valid.false) in
    (omega arith, omega arith, omega arith, v)

pub returns : goal.returns
unfolding taken taken_from
returns c =
    let k : length c.args.free.recs ≡ 64 = c.well_formed.0.1.1.0.1.0.1 in
    let n : length (free_of c.args.free) ≡ c.args.free.len = length-take-le _ _ (omega arith) in
    let e : c.in-Some.end ≡ c.args.start + c.args.len = c.in-Some.ensures.1 in
    let f : c.find-i.result ≡ first_index (holds_run c.args.start (c.args.start + c.args.len)) (free_of c.args.free) = rw (← e) c.find-i.ensures in
    let t : first_index (holds_run c.args.start (c.args.start + c.args.len)) (free_of c.args.free) < length (free_of c.args.free) = omega (arith, f) in
    rw e at c.take_at.ensures
    ∙ ap (λ (j : ℕ). taken_at (free_of c.args.free) j c.args.start (c.args.start + c.args.len)) f
    ∙ simp (le-ltb _ _ c.if-free-gt64.false, sym c.is_valid.ensures ∙ c.if-not-is_valid.false, lt-ltb _ _ c.in-Some.ensures.0, lt-ltb _ _ t)
