-- A PASS FED FROM A DEVICE ends, and without a refusal exactly where the reader accepts the device whole.
-- Assumes nothing.
use mathlib.Core.Path.{◌≡◌, refl, sym, ap, subst, ◌∙◌}
use mathlib.Core.Bool.{Bool, true, false, true≢false}
use mathlib.Core.List.{List}
use Prim.Native.Nat.{ℕ, zero, suc, ◌+◌, ◌*◌, ◌-◌, ◌<◌, ◌≤◌}
use native.Mathlib.Omega.{arith}
use borrow.Author.Tests.{eqb-true, eqb-false}
use lib.Dec.{eqb, ltb}
use lib.ListN.{length, take}
use Rattle.refusals.specs.Numbers.{wrong_length, not_left}
use Rattle.seqs.proofs.Laws.{choose-elim}
use Rattle.geometry.specs.declared.Geometry.{Geometry}
use Rattle.geometry.specs.declared.Computed.{Computed}
use Rattle.geometry_answers.specs.Named.{is_answer}
use Rattle.geometry_layout.specs.Places.{disk_blocks_before, byte_of}
use Rattle.geometry_layout.specs.Bounds.{Bounds}
use Rattle.geometry_layout.proofs.Bounding.{answer-bounds}
use Rattle.head_bytes.specs.Head.{head_length}
use Rattle.list_records.specs.Device.{Device, read}
use Rattle.list_records.proofs.Reading.{length-read, read_first}
use Rattle.list_spec.specs.Listing.{log_offset}
use Rattle.reader_names.specs.Named.{names_at, named_by}
use Rattle.reader_names.specs.Sizings.{sized, plain}
use Rattle.reader_names.proofs.Inside.{part-first}
use Rattle.reader_names.proofs.Only.{same-named}
use Rattle.reader_names.proofs.Sizings.{but-for-log}
use Rattle.reader_names.proofs.Laws.{full-name}
use Rattle.reader_exact.specs.declared.Found.{Found}
use Rattle.reader_exact.specs.Read.{read_group0, group_number, read_log}
use Rattle.reader_exact.specs.Disk.{head_on, log_on}
use Rattle.reader_exact.proofs.Heads.{head-least}
use Rattle.reader_exact.proofs.First.{one-of, tests-passed, read_is, named-answer, named-length}
use Rattle.reader_exact.proofs.Group0.{either-named}
use Rattle.reader_exact.proofs.Others.{number_read}
use Rattle.reader_pass.specs.declared.Stage.{Stage}
use Rattle.reader_pass.specs.declared.Stage.TheVariants.{Naming, First, Heads, Log, Ended}
use Rattle.reader_pass.specs.declared.Pass.{Pass}
use Rattle.reader_pass.specs.declared.Verdict.{Verdict}
use Rattle.reader_pass.specs.Passing.{pass_begun, pass_ended_by, stage_at, went_on, fed_named, fed_first, is_ended, saying, pass_verdict}
use Rattle.reader_pass.specs.Device.{pass_turn, pass_turns, passed_turns, sector_named, turns_needed, Missing, AcceptedWhole}
use Rattle.reader_pass.proofs.States.{stopped, went, unnamed, named}
use Rattle.reader_pass.proofs.Turns.{turn_at, turns-ended, Ends, before-place, Rest, same_ends, log-turn, heads-on, heads-end}

-- ---- what an accepted head of group 0 names

-- its geometry, under one of the sizings
record Its (xs : List ℕ) (f : Found) : Type 0 where
  pub roomy : Bool
  pub long : 512 ≤ length xs
  pub number : (named_by roomy xs).number ≡ 0
  pub geometry : f.geometry ≡ (named_by roomy xs).geometry

its-name : (xs : List ℕ) → (read_group0 xs).number ≡ 0 → Its xs (read_group0 xs)
its-name xs =
    one-of xs (λ (f : Found). f.number ≡ 0 → Its xs f)
    (λ roomy e.
    let p = tests-passed roomy xs e in
    record { roomy = roomy; long = p.long; number = p.number; geometry = ap (λ (f : Found). f.geometry) (read_is roomy xs e) })

module _ (xs : List ℕ) (e : (read_group0 xs).number ≡ 0) where
  abbrev its : Its xs (read_group0 xs)
  its = its-name xs e

  -- it is an answer, and has a group 0
  its-answer : is_answer (read_group0 xs).geometry ≡ true
  its-answer = ap is_answer its.geometry ∙ named-answer its.roomy xs its.long its.number

  its-label : length (read_group0 xs).geometry.label ≡ 12
  its-label = ap (λ (x : Geometry). length x.label) its.geometry ∙ named-length its.roomy xs its.long its.number

  pub its-count : 1 ≤ (read_group0 xs).geometry.agcount
  its-count = let b = (answer-bounds (read_group0 xs).geometry its-label its-answer).groups.count-least in omega arith

-- no more than the first sector is read for the name
pub sector-named : (roomy : Bool) (xs ys : List ℕ) → take 512 xs ≡ ys → named_by roomy xs ≡ named_by roomy ys
sector-named roomy xs ys e =
    same-named xs ys (
      part-first 512 4 4 xs ys (omega arith) e,
      (
        part-first 512 8 8 xs ys (omega arith) e,
        (
          part-first 512 84 4 xs ys (omega arith) e,
          (
            part-first 512 102 2 xs ys (omega arith) e,
            (
              part-first 512 104 2 xs ys (omega arith) e,
              (
                part-first 512 108 12 xs ys (omega arith) e,
                (part-first 512 127 1 xs ys (omega arith) e, (part-first 512 212 4 xs ys (omega arith) e, (part-first 512 216 4 xs ys (omega arith) e, tt))),
              ),
            ),
          ),
        ),
      ),
    ) roomy

-- what bytes name under a sizing differs from what they name in plain sizing in log and sizing alone
pub near_of : (roomy : Bool) (xs : List ℕ) (f : Geometry) → named_by roomy xs ≡ record { number = 0; geometry = f } → plain f ≡ sized (named_by false xs).geometry f.logblocks false
unfolding named_by
near_of roomy xs f e =
    let y : (named_by roomy xs).number ≡ 0 = ap (λ (c : Computed). c.number) e in
    subst (λ (c : Computed). plain c.geometry ≡ sized (named_by false xs).geometry c.geometry.logblocks false) e
    (but-for-log (names_at xs) roomy y (either-named roomy xs y))

-- ---- geometries that differ in log and sizing alone put all in the same places

module _ (d : Device) (f g : Geometry) {log : ℕ} (e : plain f ≡ sized g log false) where
  pub same_head : (k : ℕ) → head_on f d k ≡ head_on g d k
  unfolding head_on head_length
  same_head k = ap (λ (x : Geometry). head_on x d k) e

  pub same_log : log_on f d ≡ log_on g d
  unfolding log_on log_offset
  same_log = ap (λ (x : Geometry). log_on x d) e

  pub same_count : f.agcount ≡ g.agcount
  same_count = ap (λ (x : Geometry). x.agcount) e

module _ (d : Device) where
  abbrev sector : List ℕ
  sector = read d 0 512

  -- group 0's head begins with the first sector
  head-start : (g : Geometry) → head_on g d 0 ≡ read d 0 (head_length g)
  unfolding head_on byte_of disk_blocks_before
  head-start g = let z : (0 * g.agsize + 0) * g.blocksize ≡ 0 = omega arith in ap (λ (off : ℕ). read d off (head_length g)) z

  pub head-named : (roomy : Bool) (g : Geometry) → 512 ≤ head_length g → named_by roomy (head_on g d 0) ≡ named_by roomy (read d 0 512)
  head-named roomy g h = sector-named roomy (head_on g d 0) sector (ap (take 512) (head-start g) ∙ sym (read_first d 0 512 (head_length g) h))

  -- what the first sector names under a sizing
  pub near-named : (roomy : Bool) (f : Geometry) → named_by roomy (read d 0 512) ≡ record { number = 0; geometry = f } → plain f ≡ sized (sector_named d) f.logblocks false
  near-named roomy f e = near_of roomy sector f e

  abbrev g : Geometry
  g = sector_named d

  abbrev found : Found
  found = read_group0 (head_on (sector_named d) d 0)

  -- ---- a disk that is accepted whole names its geometry

  whole-named : AcceptedWhole d → (named_by false (read d 0 512)).number ≡ 0
  unfolding head_on
  whole-named w =
      let n = its-name (head_on g d 0) w.first in
      let l : length (head_on g d 0) ≡ head_length g = length-read d _ (head_length g) in
      either-named n.roomy sector (sym (ap (λ (c : Computed). c.number) (head-named n.roomy g (omega (arith, n.long, l)))) ∙ n.number)

  module _ (z : (named_by false (read d 0 512)).number ≡ 0) where
    long : 512 ≤ length sector
    long = omega (arith, length-read d 0 512)

    bounds : Bounds g
    bounds = answer-bounds g (named-length false sector long z) (named-answer false sector long z)

    count : 1 ≤ g.agcount
    count = let b = bounds.groups.count-least in omega arith

    -- ---- the geometry that group 0's head gives

    module _ (e : found.number ≡ 0) where
      answer : is_answer found.geometry ≡ true
      answer = its-answer (head_on g d 0) e

      label : length found.geometry.label ≡ 12
      label = its-label (head_on g d 0) e

      near : plain found.geometry ≡ sized g found.geometry.logblocks false
      near =
          let n = its-name (head_on g d 0) e in
          near-named n.roomy found.geometry
          (sym (head-named n.roomy g (head-least g bounds)) ∙ (λ i. record { number = n.number i; geometry = sym n.geometry i }))

      -- the reader's answers and those of the pass
      whole : Rest d found.geometry found.uuid label answer 1 → AcceptedWhole d
      whole r =
          let f = found.geometry in
          let u = found.uuid in
          record {
            first = e;
            others = λ k p h. number_read f u k (head_on g d k) ∙ ap (group_number f u k) (sym (same_head d f g near k)) ∙ r.0 k (omega arith) h;
            log-block = ap (read_log f u) (sym (same_log d f g near)) ∙ r.1;
          }

      rest : AcceptedWhole d → Rest d found.geometry found.uuid label answer 1
      rest w =
          let f = found.geometry in
          let u = found.uuid in (
            (λ j h i. ap (group_number f u j) (same_head d f g near j) ∙ sym (number_read f u j (head_on g d j)) ∙ w.others j (omega arith) i),
            ap (read_log f u) (same_log d f g near) ∙ w.log-block,
          )

    -- ---- group 0's head

    abbrev named-pass : Pass
    named-pass = record { stage = First; number = 0; place = 0; geometry = g; uuid = pass_begun.uuid }

    first-turn : pass_turn d named-pass ≡ went_on named-pass found.number found.geometry found.uuid 1
    unfolding fed_first
    first-turn =
        turn_at d named-pass First refl
        ∙ ap (λ (xs : List ℕ). went_on named-pass (read_group0 xs).number (read_group0 xs).geometry (read_group0 xs).uuid 1) (sym (head-start g))

    first-accepted : (e : found.number ≡ 0) → pass_turn d named-pass ≡ before-place d found.geometry found.uuid (label e) (answer e) 1
    first-accepted e = first-turn ∙ sym (went named-pass found.number found.geometry found.uuid 1 (stage_at found.geometry 1) e refl)

    from_first : (m : ℕ) → 1 + m ≡ g.agcount → (t : Bool) → eqb found.number 0 ≡ t → Ends (pass_turns d (suc m) (pass_turn d named-pass)) (AcceptedWhole d)
    from_first m c true t =
        let n = eqb-true found.number 0 t in
        let r = heads-end d found.geometry found.uuid (label n) (answer n) m 1 (c ∙ sym (same_count d found.geometry g (near n))) in
        same_ends _ _ (ap (pass_turns d (suc m)) (first-accepted n))
        (record { ended = r.ended; from = λ x. whole n (r.from x); to = λ w. r.to (rest n w) })
    from_first m c false t =
        let o = eqb-false found.number 0 t in
        let s : pass_turn d named-pass ≡ pass_ended_by named-pass found.number = first-turn ∙ sym (stopped named-pass found.number found.geometry found.uuid 1 o) in
        same_ends _ _ (ap (pass_turns d (suc m)) s ∙ turns-ended d (suc m) (pass_ended_by named-pass found.number) refl)
        (record { ended = refl; from = λ x. absurd (o x); to = λ w. absurd (o w.first) })

  pub whole-near : AcceptedWhole d → plain (read_group0 (head_on (sector_named d) d 0)).geometry ≡ sized (sector_named d) (read_group0 (head_on (sector_named d) d 0)).geometry.logblocks false
  whole-near w = near (whole-named w) w.first

  -- ---- the first sector

  begin-turn : pass_turn d pass_begun ≡ fed_named pass_begun sector
  begin-turn = turn_at d pass_begun Naming refl

  named-first : (z : (named_by false (read d 0 512)).number ≡ 0) → pass_turn d pass_begun ≡ named-pass z
  named-first z = begin-turn ∙ sym (named pass_begun sector (named_by false sector) (sym (full-name sector false (long z))) z)

  exact-turns : (m : ℕ) → 1 + m ≡ g.agcount → (z : (named_by false (read d 0 512)).number ≡ 0) → Ends (pass_turns d (suc (suc (suc m))) pass_begun) (AcceptedWhole d)
  unfolding pass_turns
  exact-turns m c z =
      same_ends _ _ (ap (pass_turns d (suc (suc m))) (named-first z))
      (from_first z m c (eqb found.number 0) refl)

  unnamed-ends : (n : ℕ) → ((named_by false (read d 0 512)).number ≡ 0 → ⊥) → Ends (pass_turns d (suc n) pass_begun) (AcceptedWhole d)
  unfolding pass_turns
  unnamed-ends n o =
      let s : pass_turn d pass_begun ≡ pass_ended_by pass_begun not_left = begin-turn ∙ sym (unnamed pass_begun sector (named_by false sector) (sym (full-name sector false (omega (arith, length-read d 0 512)))) o) in
      let e : pass_turns d n (pass_turn d pass_begun) ≡ pass_ended_by pass_begun not_left = ap (pass_turns d n) s ∙ turns-ended d n (pass_ended_by pass_begun not_left) refl in
      rw e (record { ended = refl; from = λ x. absurd (omega (arith, x)); to = λ w. absurd (o (whole-named w)) })

  -- ---- more turns

  pub turns-add : (m n : ℕ) (p : Pass) → pass_turns d (m + n) p ≡ pass_turns d n (pass_turns d m p)
  unfolding pass_turns
  turns-add zero n p = let e : 0 + n ≡ n = omega arith in rw e
  turns-add (suc m) n p = let e : suc m + n ≡ suc (m + n) = omega arith in rw e (turns-add m n (pass_turn d p))

  more-turns : (m n : ℕ) (p : Pass) → (pass_turns d m p).stage ≡ Ended → pass_turns d (m + n) p ≡ pass_turns d m p
  more-turns m n p e = turns-add m n p ∙ turns-ended d n (pass_turns d m p) e

  ends_by : (n : ℕ) → g.agcount + 2 ≤ n → (t : Bool) → eqb (named_by false (read d 0 512)).number 0 ≡ t → Ends (passed_turns d n) (AcceptedWhole d)
  ends_by n h true t =
      let z = eqb-true (named_by false (read d 0 512)).number 0 t in
      let c = count z in
      let m = g.agcount - 1 in
      let r = exact-turns m (omega arith) z in
      let k = n - (g.agcount + 2) in
      let e : n ≡ suc (suc (suc m)) + k = omega arith in
      rw (e, more-turns (suc (suc (suc m))) k pass_begun r.ended) r
  ends_by n h false t =
      let e : n ≡ suc (n - 1) = omega arith in
      rw e (unnamed-ends (n - 1) (eqb-false (named_by false (read d 0 512)).number 0 t))

  -- THE PASS ENDS after as many turns as there are groups, and two
  pub pass-ends : (n : ℕ) → turns_needed d ≤ n → Ends (passed_turns d n) (AcceptedWhole d)
  pass-ends n h = ends_by n h (eqb (named_by false (read d 0 512)).number 0) refl

-- ---- the verdict

verdict-ended : (p : Pass) → p.stage ≡ Ended → (pass_verdict p).number ≡ p.number
unfolding pass_verdict
verdict-ended p e = rw e

is-ended : (s : Stage) → is_ended s ≡ true → s ≡ Ended
is-ended Naming e = absurd (true≢false (sym e))
is-ended First e = absurd (true≢false (sym e))
is-ended Heads e = absurd (true≢false (sym e))
is-ended Log e = absurd (true≢false (sym e))
is-ended Ended e = refl

no-verdict : (p : Pass) (t : Bool) → is_ended p.stage ≡ t → (pass_verdict p).number ≡ 0 → p.stage ≡ Ended
unfolding pass_verdict
no-verdict p true e z = is-ended p.stage e
no-verdict p false e z = absurd (let w : wrong_length ≡ 0 = rw e at z in omega (arith, w))

-- without a refusal it has ended
pub ended-zero : (p : Pass) → (pass_verdict p).number ≡ 0 → (p.stage ≡ Ended) × (p.number ≡ 0)
ended-zero p z = let e = no-verdict p (is_ended p.stage) refl z in (e, sym (verdict-ended p e) ∙ z)

-- one that isn't ended says 27 at the place that comes next
pub verdict-open : (p : Pass) → is_ended p.stage ≡ false → Missing (pass_verdict p) p.place
unfolding pass_verdict
verdict-open p e = rw e (refl, refl)

pub place-open : (g : Geometry) (k : ℕ) → is_ended (stage_at g k) ≡ false
unfolding stage_at
place-open g k = choose-elim (λ (s : Stage). is_ended s ≡ false) (ltb k g.agcount) Heads Log (λ t. refl) (λ t. refl)

module _ (d : Device) (n : ℕ) where
  -- ACCEPTED ONLY WHERE THE READER ACCEPTS THE DEVICE WHOLE, after any number of turns
  pub pass-sound : (pass_verdict (passed_turns d n)).number ≡ 0 → AcceptedWhole d
  pass-sound z =
      let e = ended-zero (passed_turns d n) z in
      let k = turns_needed d in
      let r = pass-ends d (n + k) (omega arith) in
      r.from (ap (λ (p : Pass). p.number) (more-turns d n k pass_begun e.0) ∙ e.1)

  -- AND THERE IT IS ACCEPTED, once all was fed
  pub pass-complete : turns_needed d ≤ n → AcceptedWhole d → (pass_verdict (passed_turns d n)).number ≡ 0
  pass-complete h w = let r = pass-ends d n h in verdict-ended (passed_turns d n) r.ended ∙ r.to w

-- ---- the geometry that it gives

pub verdict-geometry : (p : Pass) → (pass_verdict p).geometry ≡ p.geometry
unfolding pass_verdict
verdict-geometry p = choose-elim (λ (v : Verdict). v.geometry ≡ p.geometry) (is_ended p.stage) (saying p p.number) (saying p wrong_length) (λ t. refl) (λ t. refl)

-- once all was fed, it is the one that group 0's head gave
whole-geometry : (d : Device) → AcceptedWhole d → (passed_turns d (turns_needed d)).geometry ≡ (read_group0 (head_on (sector_named d) d 0)).geometry
unfolding pass_turns
whole-geometry d w =
    let z = whole-named d w in
    let f = read_group0 (head_on (sector_named d) d 0) in
    let l = label d z w.first in
    let a = answer d z w.first in
    let c = same_count d f.geometry (sector_named d) (near d z w.first) in
    let b = count d z in
    let m = (sector_named d).agcount - 1 in
    let k : turns_needed d ≡ suc (suc (m + 1)) = omega arith in
    let h = heads-on d f.geometry f.uuid l a m 1 (omega (arith, c)) (rest d z w.first w) in
    let t = log-turn d f.geometry f.uuid l a (1 + m) (omega (arith, c)) in
    let e = ap (λ (x : Pass). pass_turns d (m + 1) (pass_turn d x)) (named-first d z) ∙ ap (pass_turns d (m + 1)) (first-accepted d z w.first) ∙ turns-add d m 1 (before-place d f.geometry f.uuid l a 1) ∙ ap (pass_turn d) h ∙ t in
    ap (λ (j : ℕ). (pass_turns d j pass_begun).geometry) k ∙ ap (λ (p : Pass). p.geometry) e

-- AND SO OF EVERY VERDICT 0
pub pass-geometry : (d : Device) (n : ℕ) → (pass_verdict (passed_turns d n)).number ≡ 0 → (pass_verdict (passed_turns d n)).geometry ≡ (read_group0 (head_on (sector_named d) d 0)).geometry
pass-geometry d n z =
    let e = ended-zero (passed_turns d n) z in
    let k = turns_needed d in
    let r = pass-ends d k (omega arith) in
    let c : n + k ≡ k + n = omega arith in
    let s = sym (more-turns d n k pass_begun e.0) ∙ ap (λ (j : ℕ). pass_turns d j pass_begun) c ∙ more-turns d k n pass_begun r.ended in
    verdict-geometry (passed_turns d n) ∙ ap (λ (p : Pass). p.geometry) s ∙ whole-geometry d (pass-sound d n z)

-- UNTIL ALL WAS FED it says 27 at the place that comes next
pub pass-unfinished : (d : Device) → AcceptedWhole d → (n : ℕ) → n < turns_needed d → Missing (pass_verdict (passed_turns d n)) (n - 1)
unfolding pass_turns
pass-unfinished d w zero h = verdict-open pass_begun refl
pass-unfinished d w (suc zero) h = rw (named-first d (whole-named d w)) (verdict-open (named-pass d (whole-named d w)) refl)
pass-unfinished d w (suc (suc m)) h =
    let z = whole-named d w in
    let f = read_group0 (head_on (sector_named d) d 0) in
    let c = same_count d f.geometry (sector_named d) (near d z w.first) in
    let s = heads-on d f.geometry f.uuid (label d z w.first) (answer d z w.first) m 1 (omega (arith, c)) (rest d z w.first w) in
    let p : suc (suc m) - 1 ≡ 1 + m = omega arith in
    let e = ap (λ (x : Pass). pass_turns d m (pass_turn d x)) (named-first d z) ∙ ap (pass_turns d m) (first-accepted d z w.first) ∙ s in
    let v = verdict-open (before-place d f.geometry f.uuid (label d z w.first) (answer d z w.first) (1 + m)) (place-open f.geometry (1 + m)) in
    subst (λ (k : ℕ). Missing (pass_verdict (passed_turns d (suc (suc m)))) k) (sym p) (subst (λ (x : Pass). Missing (pass_verdict x) (1 + m)) (sym e) v)
