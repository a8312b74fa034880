-- EXACT, GROUP 0: the reader accepts a head there exactly where an accepted run of either sizing leaves it, and gives that run's geometry, but for the sizing, UUID and plan.
-- Assumes nothing.
use mathlib.Core.Path.{◌≡◌, refl, ap, ap₂, sym, subst, ◌∙◌}
use mathlib.Core.Bool.{Bool, true, false, not, cond}
use mathlib.Core.List.{List}
use Prim.Native.Nat.{ℕ, ◌≤◌, ◌<◌}
use native.Mathlib.Omega.{arith}
use borrow.Author.Tests.{eqb-true, eq-eqb, ltb-false, lt-ltb, le-ltb, not-false}
use lib.Dec.{eqb, ltb, lit<}
use lib.ListN.{length}
use Rattle.endian.specs.Bytes.{be_at, Octets}
use Rattle.endian.specs.Fields.{part}
use Rattle.refusals.specs.Table.{first}
use Rattle.refusals.proofs.Clear.{Clear, passed, passes}
use Rattle.seqs.proofs.Laws.{never, choose-elim}
use Rattle.geometry.specs.declared.Geometry.{Geometry}
use Rattle.geometry.specs.declared.Computed.{Computed}
use Rattle.geometry_answers.specs.declared.Named.{Named}
use Rattle.geometry_answers.specs.Named.{names_of, is_answer}
use Rattle.geometry_answers.proofs.Exact.{complete}
use Rattle.geometry_layout.proofs.Bounding.{answer-bounds}
use Rattle.plan.specs.declared.AgPlan.{AgPlan}
use Rattle.plan.specs.declared.Planned.{Planned}
use Rattle.plan.specs.Plan.{planned}
use Rattle.plan_totals.specs.Totals.{plans_number}
use Rattle.plan_same.specs.Same.{eq_list}
use Rattle.head_bytes.specs.Head.{head_length}
use Rattle.list_spec.specs.Listing.{head_left}
use Rattle.list_accepted.specs.Accepted.{Source}
use Rattle.list_accepted.proofs.Runs.{source-plans, source-answer}
use Rattle.reader_names.specs.Named.{names_at, named_by, uuid_at}
use Rattle.reader_names.specs.Sizings.{plain}
use Rattle.reader_names.proofs.Sizings.{one_name}
use Rattle.reader_names.proofs.Inside.{part_length, part-below}
use Rattle.reader_names.proofs.Answer.{named-answered, named-label}
use Rattle.reader_exact.specs.declared.Found.{Found}
use Rattle.reader_exact.specs.Read.{found, first_tests, found_as, read_sized, read_group0}
use Rattle.reader_exact.specs.Left.{Handed, HeadLeftBy, LeftFirst, reported}
use Rattle.reader_exact.proofs.Lists.{same_bytes, own-bytes}
use Rattle.reader_exact.proofs.Sources.{source}
use Rattle.reader_exact.proofs.Heads.{typed, head-least, source-bounds, some-group, left-length, left-named, left-uuid, left-log, left-names}
use Rattle.reader_exact.proofs.Sizings.{planned-plain, left-plain, plain-source, reported-old}

-- ---- the answer by its number

pub number-found : (n : ℕ) (g : Geometry) (u : List ℕ) → (found_as n g u).number ≡ n
unfolding found_as
number-found n g u =
    choose-elim (λ (x : Found). x.number ≡ n) (eqb n 0) _ _ (λ t. sym (eqb-true n 0 t)) (λ t. refl)

found_none : (n : ℕ) (g : Geometry) (u : List ℕ) → n ≡ 0 → found_as n g u ≡ found g u (planned g 0).plan
unfolding found_as
found_none n g u e = rw e

-- ---- from the bytes to a run

-- what passed the tests, under a sizing
pub record Passed (roomy : Bool) (xs : List ℕ) : Type 0 where
  pub long : 512 ≤ length xs
  pub number : (named_by roomy xs).number ≡ 0
  pub plans : plans_number (named_by roomy xs).geometry ≡ 0
  pub same : xs ≡ head_left (named_by roomy xs).geometry (uuid_at xs) 0

module _ (roomy : Bool) (xs : List ℕ) where
  abbrev g : Geometry
  g = (named_by roomy xs).geometry

  abbrev u : List ℕ
  u = uuid_at xs

  abbrev number : ℕ
  number = first (first_tests xs (named_by roomy xs) u) 0

  -- the number of a reading
  pub number-as : (read_sized roomy xs).number ≡ first (first_tests xs (named_by roomy xs) (uuid_at xs)) 0
  unfolding read_sized
  number-as = number-found number g u

  tests-clear : number ≡ 0 → Clear (first_tests xs (named_by roomy xs) u)
  unfolding first_tests
  tests-clear e = passed (first_tests xs (named_by roomy xs) u) tt e

  pub tests-passed : (read_sized roomy xs).number ≡ 0 → Passed roomy xs
  unfolding first_tests
  tests-passed e =
      let c = tests-clear (sym number-as ∙ e) in
      record {
        long = ltb-false (length xs) 512 c.0;
        number = eqb-true (named_by roomy xs).number 0 (not-false (eqb (named_by roomy xs).number 0) c.1.0);
        plans = eqb-true (plans_number g) 0 (not-false (eqb (plans_number g) 0) c.1.1.1.0);
        same = same_bytes xs (head_left g u 0) (not-false (eq_list eqb xs (head_left g u 0)) c.1.1.1.1.0);
      }

  pub read_is : (read_sized roomy xs).number ≡ 0 → read_sized roomy xs ≡ found (named_by roomy xs).geometry (uuid_at xs) (planned (named_by roomy xs).geometry 0).plan
  unfolding read_sized
  read_is e = found_none number g u (sym number-as ∙ e)

  -- what is named under a sizing, where there is room for a superblock
  module _ (long : 512 ≤ length xs) (z : (named_by roomy xs).number ≡ 0) where
    pub named-answer : is_answer g ≡ true
    named-answer = complete g (named-answered roomy xs (omega arith) z)

    pub named-length : length g.label ≡ 12
    named-length = named-label roomy xs (omega arith) z

    pub uuid-length : length u ≡ 16
    unfolding uuid_at
    uuid-length = part_length 32 16 xs (omega arith)

  module _ (o : Octets xs) (p : Passed roomy xs) where
    answer : is_answer g ≡ true
    answer = named-answer p.long p.number

    label : length g.label ≡ 12
    label = named-length p.long p.number

    uuid : length u ≡ 16
    uuid = uuid-length p.long p.number

    names : names_at xs ≡ names_of g
    names = ap names_at p.same ∙ left-names g u label answer uuid

    label_is : part 108 12 xs ≡ g.label
    unfolding names_at names_of
    label_is = ap (λ (n : Named). n.label) names

    handed : Handed g u
    unfolding uuid_at
    handed =
        record {
          geometry = typed g (answer-bounds g label answer) label (subst Octets label_is (part-below 256 108 12 xs (lit< tt) o));
          uuid-size = uuid;
          uuid-bytes = part-below 256 32 16 xs (lit< tt) o;
        }

    its-source : Source g u
    its-source = source g u handed answer p.plans

  -- sb_logblocks
  log_is : Passed roomy xs → be_at 4 96 xs ≡ g.logblocks
  log_is p =
      ap (be_at 4 96) p.same
      ∙ left-log g u (named-length p.long p.number) (named-answer p.long p.number) (uuid-length p.long p.number)

  -- accepted bytes are left by a run with the geometry and the UUID that they name
  pub sound : Octets xs → (read_sized roomy xs).number ≡ 0 → HeadLeftBy g u 0 xs
  sound o e =
      let p = tests-passed e in
      let s = its-source o p in
      record { source = s; group = some-group g u s; bytes = p.same }

-- bytes that are accepted under both sizings name one geometry under both, but for the sizing
apart : (xs : List ℕ) → (read_sized true xs).number ≡ 0 → (read_sized false xs).number ≡ 0 → plain (named_by true xs).geometry ≡ (named_by false xs).geometry
unfolding named_by
apart xs y z =
    let p = tests-passed true xs y in
    let q = tests-passed false xs z in
    one_name (names_at xs) p.number q.number (sym (log_is true xs p) ∙ log_is false xs q)

-- ---- from a run to the answer

module _ (g : Geometry) (u : List ℕ) (s : Source g u) where
  abbrev left : List ℕ
  left = head_left g u 0

  abbrev name : Computed
  name = record { number = 0; geometry = g }

  all_pass : first (first_tests left name u) 0 ≡ 0
  unfolding first_tests
  all_pass =
      let n = left-length g u s 0 (some-group g u s) in
      let l = head-least g (source-bounds g u s) in
      passes (first_tests left name u) (
        le-ltb (length left) 512 (omega arith),
        (
          refl,
          (
            ap not (eq-eqb (length left) (head_length g) n),
            (ap not (eq-eqb (plans_number g) 0 (source-plans g u s)), (ap not (own-bytes left), tt)),
          ),
        ),
      )

  -- what an accepted run leaves in group 0 is accepted under its sizing, and its geometry, UUID and plan are given
  pub complete-as : read_sized g.roomy (head_left g u 0) ≡ found g u (planned g 0).plan
  unfolding read_sized
  complete-as =
      ap (λ (c : Computed). found_as (first (first_tests left c (uuid_at left)) 0) c.geometry (uuid_at left)) (left-named g u s)
      ∙ ap (λ (v : List ℕ). found_as (first (first_tests left name v) 0) g v) (left-uuid g u s)
      ∙ found_none (first (first_tests left name u) 0) g u all_pass

-- ---- the two readings

module _ (xs : List ℕ) where
  old-read : (read_sized false xs).number ≡ 0 → read_group0 xs ≡ read_sized false xs
  unfolding read_group0
  old-read z = ap (λ (t : Bool). cond t (read_sized true xs) (read_sized false xs)) (le-ltb (read_sized true xs).number (read_sized false xs).number (omega arith))

  roomy-read : (read_sized true xs).number ≡ 0 → ((read_sized false xs).number ≡ 0 → ⊥) → read_group0 xs ≡ read_sized true xs
  unfolding read_group0
  roomy-read z n = ap (λ (t : Bool). cond t (read_sized true xs) (read_sized false xs)) (lt-ltb (read_sized true xs).number (read_sized false xs).number (omega (arith, z, n)))

module _ (g : Geometry) (u : List ℕ) (s : Source g u) where
  -- where plain sizing gives the same log, it is reported
  both_first : g.roomy ≡ true → is_answer (plain g) ≡ true → read_group0 (head_left g u 0) ≡ found (plain g) u (planned g 0).plan
  both_first r b =
      let a = source-answer g u s in
      let e : read_sized false (head_left g u 0) ≡ found (plain g) u (planned g 0).plan =
      ap (read_sized false) (sym (left-plain g a b u 0)) ∙ complete-as (plain g) u (plain-source g u s b) ∙ ap (λ (p : Planned). found (plain g) u p.plan) (planned-plain g a b 0) in
      old-read (head_left g u 0) (ap (λ (f : Found). f.number) e) ∙ e

  -- where it doesn't, it leaves other bytes
  one-first : g.roomy ≡ true → is_answer (plain g) ≡ false → read_group0 (head_left g u 0) ≡ found g u (planned g 0).plan
  one-first r b =
      let left = head_left g u 0 in
      let e : read_sized true left ≡ found g u (planned g 0).plan = ap (λ (t : Bool). read_sized t left) (sym r) ∙ complete-as g u s in
      let y : (read_sized true left).number ≡ 0 = ap (λ (f : Found). f.number) e in
      let n : (named_by true left).geometry ≡ g = ap (λ (t : Bool). (named_by t left).geometry) (sym r) ∙ ap (λ (c : Computed). c.geometry) (left-named g u s) in
      let other : (read_sized false left).number ≡ 0 → ⊥ =
      λ z.
      let i : (named_by false left).geometry ≡ plain g = sym (apart left y z) ∙ ap plain n in
      let p = tests-passed false left z in
      let t : is_answer (plain g) ≡ true = ap is_answer (sym i) ∙ named-answer false left p.long p.number in
      never (sym b ∙ t) in
      roomy-read left y other ∙ e

  old-first : g.roomy ≡ false → read_group0 (head_left g u 0) ≡ found g u (planned g 0).plan
  old-first r =
      let left = head_left g u 0 in
      let e : read_sized false left ≡ found g u (planned g 0).plan = ap (λ (t : Bool). read_sized t left) (sym r) ∙ complete-as g u s in
      old-read left (ap (λ (f : Found). f.number) e) ∙ e

  by-sizing : (t : Bool) → g.roomy ≡ t → read_group0 (head_left g u 0) ≡ found (reported g) u (planned g 0).plan
  unfolding reported
  by-sizing true r =
      choose-elim (λ (h : Geometry). read_group0 (head_left g u 0) ≡ found h u (planned g 0).plan) (is_answer (plain g)) (plain g) g (both_first r) (one-first r)
  by-sizing false r = old-first r ∙ ap (λ (h : Geometry). found h u (planned g 0).plan) (sym (reported-old g r))

  -- what an accepted run leaves in group 0 is accepted, and its geometry as it is reported, its UUID and its plan are given
  pub complete-first : read_group0 (head_left g u 0) ≡ found (reported g) u (planned g 0).plan
  complete-first = by-sizing g.roomy refl

-- ---- the theorem

module _ (roomy : Bool) (xs : List ℕ) (g : Geometry) (u : List ℕ) (p : AgPlan) where
  forth-as : Octets xs → read_sized roomy xs ≡ found g u p → HeadLeftBy g u 0 xs × (p ≡ (planned g 0).plan)
  forth-as o e =
      let n : (read_sized roomy xs).number ≡ 0 = ap (λ (f : Found). f.number) e in
      let i = sym (read_is roomy xs n) ∙ e in
      let a : (named_by roomy xs).geometry ≡ g = ap (λ (f : Found). f.geometry) i in
      let b : uuid_at xs ≡ u = ap (λ (f : Found). f.uuid) i in
      let c : (planned (named_by roomy xs).geometry 0).plan ≡ p = ap (λ (f : Found). f.plan) i in
      (rw (← a, ← b) (sound roomy xs o n), sym c ∙ ap (λ (h : Geometry). (planned h 0).plan) a)

module _ (xs : List ℕ) where
  -- of the two readings it is one
  pub one-of : (P : Found → Type 0) → ((roomy : Bool) → P (read_sized roomy xs)) → P (read_group0 xs)
  unfolding read_group0
  one-of P h = choose-elim P (ltb (read_sized true xs).number (read_sized false xs).number) (read_sized true xs) (read_sized false xs) (λ t. h true) (λ t. h false)

  module _ (g : Geometry) (u : List ℕ) (p : AgPlan) where
    forth : Octets xs → read_group0 xs ≡ found g u p → HeadLeftBy g u 0 xs × ((p ≡ (planned g 0).plan) × (reported g ≡ g))
    forth o e =
        let l = one-of (λ (f : Found). f ≡ found g u p → HeadLeftBy g u 0 xs × (p ≡ (planned g 0).plan)) (λ roomy. forth-as roomy xs g u p o) e in
        let i = sym (complete-first g u l.0.source) ∙ ap read_group0 (sym l.0.bytes) ∙ e in
        (l.0, (l.1, ap (λ (f : Found). f.geometry) i))

    back : HeadLeftBy g u 0 xs × ((p ≡ (planned g 0).plan) × (reported g ≡ g)) → read_group0 xs ≡ found g u p
    back l =
        ap read_group0 l.0.bytes
        ∙ complete-first g u l.0.source
        ∙ ap₂ (λ (h : Geometry) (q : AgPlan). found h u q) l.1.1 (sym l.1.0)

    -- `read_group0` accepts with geometry g, UUID u and plan p exactly where some accepted run with g and u leaves exactly these bytes in group 0's head,
    -- p is its plan, and plain sizing is reported where it gives the same log
    pub exact-first : Octets xs → (read_group0 xs ≡ found g u p → HeadLeftBy g u 0 xs × ((p ≡ (planned g 0).plan) × (reported g ≡ g))) × (HeadLeftBy g u 0 xs × ((p ≡ (planned g 0).plan) × (reported g ≡ g)) → read_group0 xs ≡ found g u p)
    exact-first o = (forth o, back)

  some-run : Octets xs → (read_group0 xs).number ≡ 0 → LeftFirst xs
  some-run o =
      one-of (λ (f : Found). f.number ≡ 0 → LeftFirst xs)
      (λ roomy e. record { geometry = (named_by roomy xs).geometry; uuid = uuid_at xs; left = sound roomy xs o e })

  -- it accepts exactly where some accepted run, of either sizing, leaves exactly these bytes in group 0's head
  pub accepts-first : Octets xs → ((read_group0 xs).number ≡ 0 → LeftFirst xs) × (LeftFirst xs → (read_group0 xs).number ≡ 0)
  accepts-first o = (
    some-run o,
    (λ l. ap (λ (ys : List ℕ). (read_group0 ys).number) l.left.bytes ∙ ap (λ (f : Found). f.number) (complete-first l.geometry l.uuid l.left.source)),
  )
