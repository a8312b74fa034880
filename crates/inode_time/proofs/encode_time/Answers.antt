-- `inode_time::encode_time` meets its contract.
-- Assumes nothing.
use mir.Syntax.{w64}
use mir.Val.{SFits}
use mir.ValLaws.{to_z-of_z}
use Rattle.inode_time.proofs.Seconds.{no-nanoseconds, not-storable, shifted-most, inside-small, late-small, not-late-small, time-no, time-big, time-small}
use Rattle.inode_time.specs.Time.{shifted, value_if}
use native.Mathlib.Omega.{arith}
use mathlib.Core.Bool.{Bool, false}
use mathlib.Core.Path.{ap, sym, ◌∙◌}
use borrow.Author.Rules.{rules}
use Rattle.inode_time.proofs.encode_time.Goals as goal

pub returns-then-nsecs-ge-NANOSECONDS : goal.returns-then-nsecs-ge-NANOSECONDS
returns-then-nsecs-ge-NANOSECONDS c = let args = c.args in
    time-no _ _ _ _ _ (no-nanoseconds args.bigtime args.t.secs args.t.nsecs c.if-nsecs-ge-NANOSECONDS.true) c.refused.ensures.0 c.refused.ensures.1

pub returns-in_default : goal.returns-in_default
returns-in_default c = let args = c.args in
    let f : SFits w64 args.t.secs = search rules in
    let z = to_z-of_z w64 args.t.secs f in
    let t = rw z at c.in_default.ensures.test in
    time-no _ _ _ _ _ (not-storable args.bigtime args.t.secs args.t.nsecs c.if-nsecs-ge-NANOSECONDS.false (sym t)) c.refused-in_default.ensures.0 c.refused-in_default.ensures.1

pub encode_big-requires : goal.encode_big-requires
encode_big-requires c = let args = c.args in
    let f : SFits w64 args.t.secs = search rules in
    let z = to_z-of_z w64 args.t.secs f in
    let t = rw z at c.in-Some.ensures.test in
    let v = rw z at c.in-Some.ensures.value-is in
    let b = sym t in
    let w = v ∙ ap (λ (x : Bool). value_if x (shifted args.t.secs)) b in
    let h = shifted-most args.t.secs b in
    (omega (arith, w, h), c.if-nsecs-ge-NANOSECONDS.false)

pub returns-then-bigtime : goal.returns-then-bigtime
returns-then-bigtime c = let args = c.args in
    let f : SFits w64 args.t.secs = search rules in
    let z = to_z-of_z w64 args.t.secs f in
    let t = rw z at c.in-Some.ensures.test in
    let v = rw z at c.in-Some.ensures.value-is in
    let b = sym t in
    let w = v ∙ ap (λ (x : Bool). value_if x (shifted args.t.secs)) b in
    rw c.if-bigtime.true (time-big args.t.secs args.t.nsecs _ _ _ c.if-nsecs-ge-NANOSECONDS.false b w c.encode_big.ensures)

pub returns-then-t-gt2147483647 : goal.returns-then-t-gt2147483647
returns-then-t-gt2147483647 c = let args = c.args in
    let f : SFits w64 args.t.secs = search rules in
    let z = to_z-of_z w64 args.t.secs f in
    let t = rw z at c.in-Some.ensures.test in
    let b = sym t in
    let i = inside-small args.t.secs args.t.nsecs c.if-nsecs-ge-NANOSECONDS.false b in
    rw c.if-bigtime.false (time-no false args.t.secs _ _ _ (i ∙ late-small _ _ z c.if-t-gt2147483647.true) c.refused-then-t-gt2147483647.ensures.0 c.refused-then-t-gt2147483647.ensures.1)

pub encode_small-requires : goal.encode_small-requires
encode_small-requires c = let args = c.args in
    let f : SFits w64 args.t.secs = search rules in
    let z = to_z-of_z w64 args.t.secs f in
    let t = rw z at c.in-Some.ensures.test in
    let v = rw z at c.in-Some.ensures.value-is in
    let b = sym t in
    let w = v ∙ ap (λ (x : Bool). value_if x (shifted args.t.secs)) b in
    let h = not-late-small _ _ z c.if-t-gt2147483647.false in
    (omega (arith, w, h), c.if-nsecs-ge-NANOSECONDS.false)

pub returns : goal.returns
returns c = let args = c.args in
    let f : SFits w64 args.t.secs = search rules in
    let z = to_z-of_z w64 args.t.secs f in
    let t = rw z at c.in-Some.ensures.test in
    let v = rw z at c.in-Some.ensures.value-is in
    let b = sym t in
    let w = v ∙ ap (λ (x : Bool). value_if x (shifted args.t.secs)) b in
    rw c.if-bigtime.false (time-small args.t.secs args.t.nsecs _ _ _ c.if-nsecs-ge-NANOSECONDS.false b w (not-late-small _ _ z c.if-t-gt2147483647.false) c.encode_small.ensures)
