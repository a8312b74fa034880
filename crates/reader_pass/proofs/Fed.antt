-- WHATEVER IS FED, from a file that changes while it is read too: the verdict is 0 exactly where one accepted run leaves all of it and as many
-- heads were fed as there are groups; with fewer it is 27, and what is fed behind the log block changes nothing.
-- Assumes nothing.
use mathlib.Core.Path.{◌≡◌, refl, sym, ap, ap₂, subst, ◌∙◌}
use mathlib.Core.Bool.{Bool, true, false}
use mathlib.Core.List.{List}
use mathlib.Core.Logic.{◌↔◌}
use Prim.Native.Nat.{ℕ, zero, suc, ◌+◌, ◌-◌, ◌<◌, ◌≤◌}
use native.Mathlib.Omega.{arith}
use borrow.Author.Tests.{eqb-true, eqb-false, ltb-true, ltb-false, not-false}
use lib.Dec.{eqb, ltb}
use lib.ListN.{length, take, length-take}
use Rattle.endian.specs.Bytes.{Octets}
use Rattle.refusals.specs.Numbers.{wrong_length, not_left}
use Rattle.refusals.specs.Table.{first}
use Rattle.refusals.proofs.Clear.{Clear, passed}
use Rattle.seqs.proofs.Laws.{choose-elim}
use Rattle.geometry.specs.declared.Geometry.{Geometry}
use Rattle.geometry.specs.declared.Computed.{Computed}
use Rattle.head_bytes.specs.Head.{head_length}
use Rattle.run.specs.Runs.{run_of}
use Rattle.list_spec.specs.Listing.{log_block, head_left}
use Rattle.list_accepted.proofs.Runs.{source_of}
use Rattle.reader_names.specs.Named.{named_by}
use Rattle.reader_names.specs.Read.{named_read}
use Rattle.reader_names.specs.Sizings.{sized, plain}
use Rattle.reader_names.proofs.Laws.{full-name}
use Rattle.reader_exact.specs.declared.Found.{Found}
use Rattle.reader_exact.specs.Read.{place_tests, read_group0, group_number, read_log}
use Rattle.reader_exact.specs.Left.{ReadWhole}
use Rattle.reader_exact.specs.Disk.{ByRecords}
use Rattle.reader_exact.proofs.Heads.{head-least, source-bounds, some-group, left-length, left-named}
use Rattle.reader_exact.proofs.Group0.{either-named}
use Rattle.reader_exact.proofs.Others.{number_read}
use Rattle.reader_exact.proofs.Whole.{head-by, whole-complete, exact-whole}
use Rattle.reader_pass.specs.declared.Stage.{Stage}
use Rattle.reader_pass.specs.declared.Stage.TheVariants.{Naming, First, Heads, Log, Ended}
use Rattle.reader_pass.specs.declared.Pass.{Pass}
use Rattle.reader_pass.specs.Passing.{pass_begun, stage_length, pass_ended_by, stage_at, following, went_on, named_so, fed_named, fed_first, pass_fed_head, fed_log, fed_short, fed_whole, pass_fed, pass_verdict}
use Rattle.reader_pass.specs.Device.{fed_by, groups_fed, Missing}
use Rattle.reader_pass.specs.Parts.{Announces, parts_needed, RunParts}
use Rattle.reader_pass.proofs.States.{some-head, no-head, went, named, long-is}
use Rattle.reader_pass.proofs.Turns.{following-in}
use Rattle.reader_pass.proofs.Accepted.{its-count, sector-named, near_of, ended-zero, verdict-open, place-open, verdict-geometry}

-- ---- lengths of what is accepted

module _ (g : Geometry) (past : Bool) (size : ℕ) (left xs : List ℕ) where
  place-length : first (place_tests g past size left xs) 0 ≡ 0 → length xs ≡ size
  unfolding place_tests
  place-length e =
      let c : Clear (place_tests g past size left xs) = passed (place_tests g past size left xs) tt e in
      eqb-true (length xs) size (not-false (eqb (length xs) size) c.1.1.0)

module _ (g : Geometry) (u : List ℕ) where
  head-length : (k : ℕ) (xs : List ℕ) → group_number g u k xs ≡ 0 → length xs ≡ head_length g
  unfolding group_number
  head-length k xs e = place-length g _ (head_length g) (head_left g u k) xs e

  log-length : (xs : List ℕ) → read_log g u xs ≡ 0 → length xs ≡ g.blocksize
  unfolding read_log
  log-length xs e = place-length g false g.blocksize (log_block g u) xs e

module _ (parts : ℕ → List ℕ) where
  abbrev its : Found
  its = read_group0 (parts 1)

  -- ---- what is known at each stage, after n feeds

  -- the first sector was taken
  record Taken (p : Pass) : Type 0 where
    pub long : length (parts 0) ≡ 512
    pub number : (named_read false (parts 0)).number ≡ 0
    pub geometry : p.geometry ≡ (named_read false (parts 0)).geometry

  -- place k is next, and all before it are accepted
  record Before (n : ℕ) (p : Pass) : Type 0 where
    pub sector : Announces (parts 0) (parts 1)
    pub first : its.number ≡ 0
    pub geometry : p.geometry ≡ its.geometry
    pub uuid : p.uuid ≡ its.uuid
    pub count : n ≡ p.place + 1
    pub others : (j : ℕ) → 0 < j → j < p.place → group_number its.geometry its.uuid j (parts (j + 1)) ≡ 0

  -- all are, and all were fed
  record All (n : ℕ) (g : Geometry) : Type 0 where
    pub sector : Announces (parts 0) (parts 1)
    pub whole : ReadWhole (λ k. parts (k + 1)) (parts (groups_fed parts + 1))
    pub count : parts_needed parts ≤ n
    pub geometry : g ≡ its.geometry

  abbrev Known : ℕ → Stage → Pass → Type 0
  Known n Naming p = n ≡ 0
  Known n First p = (n ≡ 1) × Taken p
  Known n Heads p = Before n p × (p.place < groups_fed parts)
  Known n Log p = Before n p × (p.place ≡ groups_fed parts)
  Known n Ended p = p.number ≡ 0 → All n p.geometry

  -- a refusal
  refused : (n m : ℕ) (p : Pass) → (m ≡ 0 → ⊥) → Known n Ended (pass_ended_by p m)
  refused n m p h = λ z. absurd (h z)

  -- a place that is next is a head, or behind the last the log's block
  at_place : (n k : ℕ) (g : Geometry) (u : List ℕ) → ((s : Stage) → Before n (record { stage = s; number = 0; place = k; geometry = g; uuid = u }))
      → k ≤ groups_fed parts → g.agcount ≡ groups_fed parts
      → Known n (stage_at g k) (record { stage = stage_at g k; number = 0; place = k; geometry = g; uuid = u })
  unfolding stage_at
  at_place n k g u b h c =
      choose-elim (λ (s : Stage). Known n s (record { stage = s; number = 0; place = k; geometry = g; uuid = u })) (ltb k g.agcount) Heads Log
      (λ t. (b Heads, let l = ltb-true k g.agcount t in omega (arith, l, c)))
      (λ t. (b Log, let l = ltb-false k g.agcount t in omega (arith, l, c, h)))

  went-known : (n m k : ℕ) (p : Pass) (g : Geometry) (u : List ℕ) → (m ≡ 0 → Known n (stage_at g k) (record { stage = stage_at g k; number = 0; place = k; geometry = g; uuid = u }))
      → Known n (went_on p m g u k).stage (went_on p m g u k)
  unfolding went_on
  went-known n m k p g u h =
      choose-elim (λ (q : Pass). Known n q.stage q) (eqb m 0) (record { stage = stage_at g k; number = 0; place = k; geometry = g; uuid = u }) (pass_ended_by p m)
      (λ t. h (eqb-true m 0 t)) (λ t. refused n m p (eqb-false m 0 t))

  -- ---- as many bytes as were asked for

  named-at : (p : Pass) → length (parts 0) ≡ 512 → Known 1 (fed_named p (parts 0)).stage (fed_named p (parts 0))
  unfolding fed_named named_so
  named-at p l =
      choose-elim (λ (q : Pass). Known 1 q.stage q) (eqb (named_read false (parts 0)).number 0)
      (record { stage = First; number = 0; place = 0; geometry = (named_read false (parts 0)).geometry; uuid = p.uuid }) (pass_ended_by p not_left)
      (λ t. (refl, record { long = l; number = eqb-true (named_read false (parts 0)).number 0 t; geometry = refl }))
      (λ t. refused 1 not_left p (λ z. omega (arith, z)))

  named-known : (n : ℕ) (p : Pass) → n ≡ 0 → length (parts n) ≡ 512 → Known (suc n) (fed_named p (parts n)).stage (fed_named p (parts n))
  named-known n p e l =
      subst (λ (m : ℕ). Known (suc m) (fed_named p (parts m)).stage (fed_named p (parts m))) (sym e)
      (named-at p (subst (λ (m : ℕ). length (parts m) ≡ 512) e l))

  announced : (p : Pass) → Taken p → length (parts 1) ≡ head_length p.geometry → Announces (parts 0) (parts 1)
  announced p w l =
      let f : named_read false (parts 0) ≡ named_by false (parts 0) = full-name (parts 0) false (omega (arith, w.long)) in
      record {
        long = w.long;
        named = sym (ap (λ (c : Computed). c.number) f) ∙ w.number;
        head-long = l ∙ ap head_length (w.geometry ∙ ap (λ (c : Computed). c.geometry) f);
      }

  first-at : (p : Pass) → Announces (parts 0) (parts 1) → Known 2 (fed_first p (parts 1)).stage (fed_first p (parts 1))
  unfolding fed_first
  first-at p a =
      went-known 2 its.number 1 p its.geometry its.uuid
      (λ z. at_place 2 1 its.geometry its.uuid
      (λ s. record { sector = a; first = z; geometry = refl; uuid = refl; count = refl; others = λ j h i. absurd (omega arith) })
      (its-count (parts 1) z) refl)

  first-known : (n : ℕ) (p : Pass) → n ≡ 1 → Taken p → length (parts n) ≡ head_length p.geometry → Known (suc n) (fed_first p (parts n)).stage (fed_first p (parts n))
  first-known n p e w l =
      subst (λ (m : ℕ). Known (suc m) (fed_first p (parts m)).stage (fed_first p (parts m))) (sym e)
      (first-at p (announced p w (subst (λ (m : ℕ). length (parts m) ≡ head_length p.geometry) e l)))

  head-known : (n : ℕ) (p : Pass) → Known n Heads p → Known (suc n) (pass_fed_head p (parts n)).stage (pass_fed_head p (parts n))
  unfolding pass_fed_head
  head-known n p w =
      let b = w.0 in
      let k = p.place in
      let c : p.geometry.agcount ≡ groups_fed parts = ap (λ (g : Geometry). g.agcount) b.geometry in
      let f : following k p.geometry.agcount ≡ k + 1 = following-in k p.geometry.agcount (omega (arith, c, w.1)) in
      let m = group_number p.geometry p.uuid k (parts n) in
      subst (λ (j : ℕ). Known (suc n) (went_on p m p.geometry p.uuid j).stage (went_on p m p.geometry p.uuid j)) (sym f)
      (went-known (suc n) m (k + 1) p p.geometry p.uuid
      (λ z. at_place (suc n) (k + 1) p.geometry p.uuid
      (λ s.
      record {
        sector = b.sector;
        first = b.first;
        geometry = b.geometry;
        uuid = b.uuid;
        count = omega (arith, b.count);
        others = λ j h i. here b z j h i (eqb j k) refl;
      })
      (omega (arith, w.1)) c))
    where
      here : Before n p → group_number p.geometry p.uuid p.place (parts n) ≡ 0 → (j : ℕ) → 0 < j → j < p.place + 1 → (t : Bool) → eqb j p.place ≡ t
          → group_number its.geometry its.uuid j (parts (j + 1)) ≡ 0
      here b z j h i true t =
          ap (λ (x : ℕ). group_number its.geometry its.uuid x (parts (x + 1))) (eqb-true j p.place t)
          ∙ ap (λ (x : ℕ). group_number its.geometry its.uuid p.place (parts x)) (sym b.count)
          ∙ ap₂ (λ (g : Geometry) (u : List ℕ). group_number g u p.place (parts n)) (sym b.geometry) (sym b.uuid)
          ∙ z
      here b z j h i false t = b.others j h (let o = eqb-false j p.place t in omega arith)

  log-known : (n : ℕ) (p : Pass) → Known n Log p → Known (suc n) Ended (fed_log p (parts n))
  unfolding fed_log
  log-known n p w = λ z.
      let b = w.0 in
      let e : n ≡ groups_fed parts + 1 = omega (arith, b.count, w.1) in
      record {
        sector = b.sector;
        whole =
            record {
              first = b.first;
              others = λ k h i. number_read its.geometry its.uuid k (parts (k + 1)) ∙ b.others k h (omega (arith, w.1, i));
              log-block =
                  ap (λ (x : ℕ). read_log its.geometry its.uuid (parts x)) (sym e)
                  ∙ ap₂ (λ (g : Geometry) (u : List ℕ). read_log g u (parts n)) (sym b.geometry) (sym b.uuid)
                  ∙ z;
            };
        count = omega (arith, e);
        geometry = b.geometry;
      }

  ended-known : (n : ℕ) (p : Pass) → Known n Ended p → p.stage ≡ Ended → Known (suc n) p.stage p
  ended-known n p k e = subst (λ (s : Stage). Known (suc n) s p) (sym e) (later n p k)
    where
      later : (m : ℕ) (q : Pass) → Known m Ended q → Known (suc m) Ended q
      later m q h = λ z. let a = h z in record { sector = a.sector; whole = a.whole; count = omega (arith, a.count); geometry = a.geometry }

  whole-known : (n : ℕ) (s : Stage) (p : Pass) → Known n s p → p.stage ≡ s → length (parts n) ≡ stage_length s p.geometry
      → Known (suc n) (fed_whole s p (parts n)).stage (fed_whole s p (parts n))
  unfolding fed_log
  whole-known n Naming p k e l = named-known n p k l
  whole-known n First p k e l = first-known n p k.0 k.1 l
  whole-known n Heads p k e l = head-known n p k
  whole-known n Log p k e l = log-known n p k
  whole-known n Ended p k e l = ended-known n p k e

  -- ---- fewer or more

  short-known : (n : ℕ) (s : Stage) (p : Pass) → Known n s p → p.stage ≡ s → Known (suc n) (fed_short s p).stage (fed_short s p)
  unfolding fed_short
  short-known n Naming p k e = refused (suc n) wrong_length p (λ z. omega (arith, z))
  short-known n First p k e = refused (suc n) wrong_length p (λ z. omega (arith, z))
  short-known n Heads p k e = refused (suc n) wrong_length p (λ z. omega (arith, z))
  short-known n Log p k e = refused (suc n) wrong_length p (λ z. omega (arith, z))
  short-known n Ended p k e = ended-known n p k e

  -- ---- after any number of feeds

  known : (n : ℕ) → Known n (fed_by parts n).stage (fed_by parts n)
  unfolding fed_by pass_fed
  known zero = refl
  known (suc n) =
      let p = fed_by parts n in
      choose-elim (λ (q : Pass). Known (suc n) q.stage q) (eqb (length (parts n)) (stage_length p.stage p.geometry)) (fed_whole p.stage p (parts n)) (fed_short p.stage p)
      (λ t. whole-known n p.stage p (known n) refl (eqb-true (length (parts n)) (stage_length p.stage p.geometry) t)) (λ t. short-known n p.stage p (known n) refl)

  -- the verdict 0 says that all was fed and is accepted
  all-fed : (n : ℕ) → (pass_verdict (fed_by parts n)).number ≡ 0 → All n (fed_by parts n).geometry
  all-fed n z =
      let p = fed_by parts n in
      let e = ended-zero p z in
      subst (λ (s : Stage). Known n s p) e.0 (known n) e.1

  -- the reader accepts it, and the geometry is the one that group 0's head gave
  pub fed-whole : (n : ℕ) → (pass_verdict (fed_by parts n)).number ≡ 0
      → ReadWhole (λ k. parts (k + 1)) (parts (groups_fed parts + 1)) × ((parts_needed parts ≤ n) × ((pass_verdict (fed_by parts n)).geometry ≡ (read_group0 (parts 1)).geometry))
  fed-whole n z = let a = all-fed n z in (a.whole, (a.count, verdict-geometry (fed_by parts n) ∙ a.geometry))

  -- ---- more parts than are needed

  done : (n : ℕ) (s : Stage) (p : Pass) → Known n s p → parts_needed parts ≤ n → s ≡ Ended
  done n Naming p k h = absurd (omega (arith, k, h))
  done n First p k h = absurd (omega (arith, k.0, h))
  done n Heads p k h = absurd (omega (arith, k.0.count, k.1, h))
  done n Log p k h = absurd (omega (arith, k.0.count, k.1, h))
  done n Ended p k h = refl

  -- whatever they are, it has ended
  pub parts-end : (n : ℕ) → parts_needed parts ≤ n → (fed_by parts n).stage ≡ Ended
  parts-end n h = done n (fed_by parts n).stage (fed_by parts n) (known n) h

  fed-ended : (p : Pass) (xs : List ℕ) → p.stage ≡ Ended → pass_fed p xs ≡ p
  unfolding pass_fed fed_short
  fed-ended p xs e =
      choose-elim (λ (q : Pass). q ≡ p) (eqb (length xs) (stage_length p.stage p.geometry)) (fed_whole p.stage p xs) (fed_short p.stage p)
      (λ t. ap (λ (s : Stage). fed_whole s p xs) e) (λ t. ap (λ (s : Stage). fed_short s p) e)

  fed-more : (m : ℕ) → fed_by parts (m + parts_needed parts) ≡ fed_by parts (parts_needed parts)
  unfolding fed_by
  fed-more zero = let e : 0 + parts_needed parts ≡ parts_needed parts = omega arith in ap (fed_by parts) e
  fed-more (suc m) =
      let n = m + parts_needed parts in
      let e : suc m + parts_needed parts ≡ suc n = omega arith in
      ap (fed_by parts) e ∙ fed-ended (fed_by parts n) (parts n) (parts-end n (omega arith)) ∙ fed-more m

  -- WHAT IS FED BEHIND THEM CHANGES NOTHING
  pub parts_more : (n : ℕ) → parts_needed parts ≤ n → fed_by parts n ≡ fed_by parts (parts_needed parts)
  parts_more n h =
      let e : n ≡ (n - parts_needed parts) + parts_needed parts = omega arith in
      ap (fed_by parts) e ∙ fed-more (n - parts_needed parts)

  -- ---- parts that are accepted

  module _ (a : Announces (parts 0) (parts 1)) (r : ReadWhole (λ k. parts (k + 1)) (parts (groups_fed parts + 1))) where
    abbrev g : Geometry
    g = its.geometry

    abbrev u : List ℕ
    u = its.uuid

    -- all places before k are accepted
    abbrev state : ℕ → Pass
    state k = record { stage = stage_at g k; number = 0; place = k; geometry = g; uuid = u }

    abbrev sized-pass : Pass
    sized-pass = record { stage = First; number = 0; place = 0; geometry = (named_by false (parts 0)).geometry; uuid = pass_begun.uuid }

    fed-one : pass_fed pass_begun (parts 0) ≡ sized-pass
    fed-one =
        sym (long-is pass_begun (parts 0) a.long)
        ∙ sym (named pass_begun (parts 0) (named_by false (parts 0)) (sym (full-name (parts 0) false (omega (arith, a.long)))) a.named)

    fed-two : pass_fed sized-pass (parts 1) ≡ state 1
    unfolding fed_first
    fed-two = sym (long-is sized-pass (parts 1) a.head-long) ∙ sym (went sized-pass its.number g u 1 (stage_at g 1) r.first refl)

    head-number : (k : ℕ) → 0 < k → k < g.agcount → group_number g u k (parts (k + 1)) ≡ 0
    head-number k p h = sym (number_read g u k (parts (k + 1))) ∙ r.others k p h

    fed-head : (k : ℕ) → 0 < k → k < g.agcount → pass_fed (state k) (parts (k + 1)) ≡ state (k + 1)
    unfolding pass_fed_head
    fed-head k p h =
        let xs = parts (k + 1) in
        let z = head-number k p h in
        let s = some-head g k h in
        sym (long-is (state k) xs (head-length g u k xs z ∙ ap (λ (t : Stage). stage_length t g) s))
        ∙ ap (λ (t : Stage). fed_whole t (state k) xs) (sym s)
        ∙ ap (went_on (state k) (group_number g u k xs) g u) (following-in k g.agcount h)
        ∙ sym (went (state k) (group_number g u k xs) g u (k + 1) (stage_at g (k + 1)) z refl)

    fed-log : pass_fed (state g.agcount) (parts (g.agcount + 1)) ≡ pass_ended_by (state g.agcount) 0
    unfolding fed_log
    fed-log =
        let k = g.agcount in
        let xs = parts (k + 1) in
        let s = no-head g k (omega arith) in
        sym (long-is (state k) xs (log-length g u xs r.log-block ∙ ap (λ (t : Stage). stage_length t g) s))
        ∙ ap (λ (t : Stage). fed_whole t (state k) xs) (sym s)
        ∙ ap (pass_ended_by (state k)) r.log-block

    -- until the log block each goes on to the next place
    fed-on : (m : ℕ) → 1 + m ≤ g.agcount → fed_by parts (suc (suc m)) ≡ state (1 + m)
    unfolding fed_by
    fed-on zero h = ap (λ (p : Pass). pass_fed p (parts 1)) fed-one ∙ fed-two
    fed-on (suc m) h =
        let k = 1 + m in
        let e : suc (suc m) ≡ k + 1 = omega arith in
        let f : k + 1 ≡ 1 + suc m = omega arith in
        ap (λ (p : Pass). pass_fed p (parts (suc (suc m)))) (fed-on m (omega arith))
        ∙ ap (λ (n : ℕ). pass_fed (state k) (parts n)) e
        ∙ fed-head k (omega arith) (omega arith)
        ∙ ap state f

    fed-end : fed_by parts (parts_needed parts) ≡ pass_ended_by (state g.agcount) 0
    unfolding fed_by
    fed-end =
        let c = its-count (parts 1) r.first in
        let m = g.agcount - 1 in
        let e : parts_needed parts ≡ suc (suc (suc m)) = omega arith in
        let f : 1 + m ≡ g.agcount = omega arith in
        let k : suc (suc m) ≡ g.agcount + 1 = omega arith in
        ap (fed_by parts) e
        ∙ ap₂ (λ (p : Pass) (n : ℕ). pass_fed p (parts n)) (fed-on m (omega arith) ∙ ap state f) k
        ∙ fed-log

    verdict-zero : (pass_verdict (pass_ended_by (state g.agcount) 0)).number ≡ 0
    unfolding pass_verdict
    verdict-zero = refl

    fed-accepted : (n : ℕ) → parts_needed parts ≤ n → (pass_verdict (fed_by parts n)).number ≡ 0
    fed-accepted n h = ap (λ (p : Pass). (pass_verdict p).number) (parts_more n h ∙ fed-end) ∙ verdict-zero

    -- before that 27 at the place that comes next
    fed-few : (n : ℕ) → n < parts_needed parts → Missing (pass_verdict (fed_by parts n)) (n - 1)
    unfolding fed_by
    fed-few zero h = verdict-open pass_begun refl
    fed-few (suc zero) h = subst (λ (p : Pass). Missing (pass_verdict p) 0) (sym fed-one) (verdict-open sized-pass refl)
    fed-few (suc (suc m)) h =
        let e : 1 + m ≡ suc (suc m) - 1 = omega arith in
        subst (λ (k : ℕ). Missing (pass_verdict (fed_by parts (suc (suc m)))) k) e
        (subst (λ (p : Pass). Missing (pass_verdict p) (1 + m)) (sym (fed-on m (omega arith))) (verdict-open (state (1 + m)) (place-open g (1 + m))))

  -- ---- the theorems

  abbrev its-heads : ℕ → List ℕ
  its-heads = λ k. parts (k + 1)

  abbrev its-log : List ℕ
  its-log = parts (groups_fed parts + 1)

  -- THE VERDICT IS 0 EXACTLY WHERE ONE ACCEPTED RUN LEAVES ALL PARTS, AND ALL WERE FED
  pub parts-exact : Octets (parts 1) → (n : ℕ) → ((pass_verdict (fed_by parts n)).number ≡ 0) ↔ (RunParts parts × (parts_needed parts ≤ n))
  parts-exact o n = (
    (λ z. let a = all-fed n z in (record { sector = a.sector; run = (exact-whole its-heads its-log o).0 a.whole }, a.count)),
    (λ w. fed-accepted w.0.sector (whole-complete its-heads its-log w.0.run) n w.1),
  )

  -- WITH FEWER IT IS 27
  pub parts-few : RunParts parts → (n : ℕ) → n < parts_needed parts → Missing (pass_verdict (fed_by parts n)) (n - 1)
  parts-few w n h = fed-few w.sector (whole-complete its-heads its-log w.run) n h

  -- the first 512 bytes of group 0's head announce it
  pub own-sector : take 512 (parts 1) ≡ parts 0 → ByRecords its-heads its-log → Announces (parts 0) (parts 1)
  unfolding head_length
  own-sector e w =
      let g = (run_of w.request).geometry in
      let u = (run_of w.request).uuid in
      let s = source_of w.request w.accepted in
      let b : parts 1 ≡ head_left g u 0 = head-by its-heads its-log w 0 (some-group g u s) in
      let l : length (parts 1) ≡ head_length g = ap (λ (xs : List ℕ). length xs) b ∙ left-length g u s 0 (some-group g u s) in
      let n : named_by g.roomy (parts 0) ≡ record { number = 0; geometry = g } =
      sym (sector-named g.roomy (parts 1) (parts 0) e) ∙ ap (named_by g.roomy) b ∙ left-named g u s in
      let m : plain g ≡ sized (named_by false (parts 0)).geometry g.logblocks false = near_of g.roomy (parts 0) g n in
      record {
        long = ap (λ (xs : List ℕ). length xs) (sym e) ∙ length-take 512 (parts 1) ∙ omega (arith, l, head-least g (source-bounds g u s));
        named = either-named g.roomy (parts 0) (ap (λ (c : Computed). c.number) n);
        head-long = l ∙ ap head_length m;
      }
