-- What the answers mean: the smallest candidate that reaches the count, 38 and 39 exactly where, and agsize and agcount without effect.
-- Assumes nothing.
use mathlib.Core.Path.{◌≡◌, refl, sym, ap, ◌∙◌}
use mathlib.Core.Bool.{Bool, true, false, ◌||◌, cond}
use mathlib.Core.Logic.{◌⊎◌, inl, inr, ⊎_elim}
use Prim.Native.Nat.{ℕ, ◌-◌, ◌^◌, ◌≤◌, ◌<◌}
use native.Mathlib.Omega.{arith}
use borrow.Author.Tests.{eq-eqb, eqb-true, eqb-false, lt-ltb, le-ltb, ltb-true, ltb-false, leb-true, leb-false}
use lib.Dec.{leb, ltb, eqb}
use Rattle.refusals.specs.Numbers.{bad_sizes, none_reaches}
use Rattle.arith.specs.Choice.{when}
use Rattle.arith.proofs.Both.{left-true, right-true}
use Rattle.seqs.proofs.Laws.{lt-or-le}
use Rattle.params.specs.declared.Params.{Params}
use Rattle.params.specs.Params.{with_agcount, with_agsize}
use Rattle.geometry.specs.Compute.{compute_def}
use Rattle.plan_totals.specs.Totals.{plans_number}
use Rattle.run.proofs.Accepted.{none}
use Rattle.inquire_sizes.specs.Ranges.{size_number, options_number, FormattedSize}
use Rattle.inquire_sizes.proofs.First.{first_passes, first-fails}
use Rattle.inquire_sizes.proofs.Meaning.{early-most}
use Rattle.inquire_smallest.specs.declared.Found.{Found}
use Rattle.inquire_smallest.specs.Question.{default_groups, free_on_device, reaches, size_tried, first_reaching, smallest_call_refused, found_in, no_sizes, smallest_question, smallest_answer, NoneBelow, SmallestSize}
use Rattle.inquire_smallest.proofs.Rows.{enough}

-- ---- one size

module _ (q : Params) (logical physical wanted device : ℕ) where
  pub reached : reaches q logical physical wanted device ≡ true → FormattedSize q logical physical device × (wanted ≤ free_on_device q logical physical device)
  unfolding reaches size_number
  reached e =
      let n = size_number q logical physical device in
      let z = none (compute_def q device logical physical).number (plans_number (compute_def q device logical physical).geometry) (eqb-true n 0 (left-true (eqb n 0) (leb wanted (free_on_device q logical physical device)) e)) in
      (record { geometry = z.0; plans = z.1 }, leb-true wanted (free_on_device q logical physical device) (right-true (eqb n 0) (leb wanted (free_on_device q logical physical device)) e))

  number-zero : FormattedSize q logical physical device → size_number q logical physical device ≡ 0
  unfolding size_number
  number-zero f = rw (f.geometry, f.plans)

  pub not-reached : reaches q logical physical wanted device ≡ false → FormattedSize q logical physical device → free_on_device q logical physical device < wanted
  unfolding reaches
  not-reached e f =
      leb-false wanted (free_on_device q logical physical device)
      (sym (rw (eq-eqb (size_number q logical physical device) 0 (number-zero f))) ∙ e)

-- ---- the question

question-at : (n : ℕ) (r : Found) (t : Bool) → eqb n 0 ≡ t → (cond t r (smallest_call_refused n)).number ≡ 0 → n ≡ 0
question-at n r true e h = eqb-true n 0 e
question-at n r false e h = absurd (eqb-false n 0 e h)

found_at : (s : ℕ) (t : Bool) → (cond {A = Found} t (record { number = 0; size = s }) (smallest_call_refused none_reaches)).number ≡ 0 → t ≡ true
found_at s true e = refl
found_at s false e = absurd (let z : ◌≡◌ {A = ℕ} none_reaches 0 = e in omega arith)

none-at : (n : ℕ) (s : ℕ) (t u : Bool) → eqb n 0 ≡ t → (n ≡ none_reaches → ⊥) → (cond {A = Found} t (cond u (record { number = 0; size = s }) (smallest_call_refused none_reaches)) (smallest_call_refused n)).number ≡ none_reaches
    → u ≡ false
none-at n s true true e h z = absurd (let y : ◌≡◌ {A = ℕ} 0 none_reaches = z in omega arith)
none-at n s true false e h z = refl
none-at n s false u e h z = absurd (h z)

-- 1 to 8, or 39, or 0
not-38 : (o : ℕ) (t u : Bool) → eqb o 0 ≡ t → o ≤ 8 → cond t (when u bad_sizes 0) o ≡ none_reaches → ⊥
unfolding when
not-38 o true true e l z = let y : ◌≡◌ {A = ℕ} bad_sizes none_reaches = z in omega arith
not-38 o true false e l z = let y : ◌≡◌ {A = ℕ} 0 none_reaches = z in omega arith
not-38 o false u e l z = omega arith

only-39 : (o : ℕ) (t u v : Bool) (s : ℕ) → eqb o 0 ≡ t → o ≤ 8
    → (cond {A = Found} (eqb (cond t (when u bad_sizes 0) o) 0) (cond v (record { number = 0; size = s }) (smallest_call_refused none_reaches)) (smallest_call_refused (cond t (when u bad_sizes 0) o))).number ≡ bad_sizes
    → (o ≡ 0) × (u ≡ true)
unfolding when
only-39 o true true v s e l z = (eqb-true o 0 e, refl)
only-39 o true false true s e l z = absurd (let y : ◌≡◌ {A = ℕ} 0 bad_sizes = z in omega arith)
only-39 o true false false s e l z = absurd (let y : ◌≡◌ {A = ℕ} none_reaches bad_sizes = z in omega arith)
only-39 o false u v s e l z =
    let y : ◌≡◌ {A = ℕ} o bad_sizes = sym (ap (λ (b : Bool). (cond {A = Found} b (cond v (record { number = 0; size = s }) (smallest_call_refused none_reaches)) (smallest_call_refused o)).number) e) ∙ z in
    absurd (omega arith)

which-of : (start count : ℕ) (a b c : Bool) → eqb count 0 ≡ a → ltb 65536 count ≡ b → leb (2 ^ 64) (size_tried start (count - 1)) ≡ c → (a || (b || c)) ≡ true
    → (count ≡ 0) ⊎ ((65536 < count) ⊎ (2 ^ 64 ≤ size_tried start (count - 1)))
which-of start count true b c x y w e = inl (eqb-true count 0 x)
which-of start count false true c x y w e = inr (inl (ltb-true 65536 count y))
which-of start count false false c x y w e = inr (inr (leb-true (2 ^ 64) (size_tried start (count - 1)) (w ∙ e)))

-- what 39 is about
pub no-sizes-are : (start count : ℕ) → no_sizes start count ≡ true → (count ≡ 0) ⊎ ((65536 < count) ⊎ (2 ^ 64 ≤ size_tried start (count - 1)))
unfolding no_sizes
no-sizes-are start count e = which-of start count (eqb count 0) (ltb 65536 count) (leb (2 ^ 64) (size_tried start (count - 1))) refl refl refl e

module _ (p : Params) (logical physical start count wanted : ℕ) where
  abbrev q : Params
  q = default_groups p

  abbrev its-answer : Found
  its-answer = smallest_answer p logical physical start count wanted

  abbrev index : ℕ
  index = first_reaching q logical physical start count wanted

  abbrev question : ℕ
  question = smallest_question q logical physical start count

  abbrev found : Found
  found = found_in q logical physical start count wanted

  question-zero : its-answer.number ≡ 0 → question ≡ 0
  unfolding smallest_answer
  question-zero z = question-at question found (eqb question 0) refl z

  is_found : question ≡ 0 → its-answer ≡ found
  unfolding smallest_answer
  is_found e = rw (eq-eqb question 0 e)

  -- smaller candidates don't reach the count
  none_before : (n : ℕ) → n ≤ index → NoneBelow p logical physical start wanted n
  unfolding first_reaching
  none_before n l i h f =
      not-reached q logical physical wanted (size_tried start i) (first-fails (enough q logical physical start wanted) 0 count i (omega arith) (omega arith)) f

  reaches-index : index < count → reaches q logical physical wanted (size_tried start index) ≡ true
  unfolding first_reaching
  reaches-index h = first_passes (enough q logical physical start wanted) 0 count (omega arith)

  index_below : its-answer.number ≡ 0 → index < count
  unfolding found_in
  index_below z =
      ltb-true index count
      (found_at (size_tried start index) (ltb index count) (sym (ap (λ (r : Found). r.number) (is_found (question-zero z))) ∙ z))

  size_is : its-answer.number ≡ 0 → its-answer.size ≡ size_tried start index
  unfolding found_in
  size_is z =
      ap (λ (r : Found). r.size) (is_found (question-zero z))
      ∙ ap (λ (t : Bool). (cond {A = Found} t (record { number = 0; size = size_tried start index }) (smallest_call_refused none_reaches)).size) (lt-ltb index count (index_below z))

  -- THE ANSWER IS AMONG THE SIZES, A CANDIDATE, REACHES THE COUNT, AND NO SMALLER CANDIDATE DOES
  pub smallest-found : its-answer.number ≡ 0 → SmallestSize p logical physical start count wanted its-answer.size
  smallest-found z =
      let w = reached q logical physical wanted (size_tried start index) (reaches-index (index_below z)) in
      record {
        index = index;
        among = index_below z;
        its-size = size_is z;
        candidate = rw (size_is z) w.0;
        enough = rw (size_is z) w.1;
        none-smaller = none_before index (omega arith);
      }

  question-not-38 : question ≡ none_reaches → ⊥
  unfolding smallest_question
  question-not-38 = not-38 (options_number q logical physical) (eqb (options_number q logical physical) 0) (no_sizes start count) refl (early-most q logical physical)

  -- 38: NO CANDIDATE REACHES THE COUNT
  pub none-reaches : its-answer.number ≡ none_reaches → NoneBelow p logical physical start wanted count
  unfolding smallest_answer found_in
  none-reaches z =
      let u = none-at question (size_tried start index) (eqb question 0) (ltb index count) refl question-not-38 z in
      none_before count (ltb-false index count u)

  -- AND WHERE NONE DOES, 38, AFTER 1 TO 8 AND bad_sizes
  pub none-is-38 : question ≡ 0 → NoneBelow p logical physical start wanted count → its-answer.number ≡ none_reaches
  unfolding found_in
  none-is-38 z n =
      let m : count ≤ index =
      ⊎_elim (λ l. absurd (let w = reached q logical physical wanted (size_tried start index) (reaches-index l) in let f = n index l w.0 in let g = w.1 in omega arith)) (λ l. l) (lt-or-le index count)
      in
      ap (λ (r : Found). r.number) (is_found z)
      ∙ ap (λ (t : Bool). (cond {A = Found} t (record { number = 0; size = size_tried start index }) (smallest_call_refused none_reaches)).number) (le-ltb index count m)

  -- 39 AFTER 1 TO 8, WHERE THERE IS NO SIZE, TOO MANY, OR A LAST ONE THAT DOESN'T FIT
  pub no-sizes-39 : its-answer.number ≡ bad_sizes → (options_number q logical physical ≡ 0) × (no_sizes start count ≡ true)
  unfolding smallest_answer smallest_question found_in
  no-sizes-39 z =
      only-39 (options_number q logical physical) (eqb (options_number q logical physical) 0) (no_sizes start count) (ltb index count) (size_tried start index) refl (early-most q logical physical) z

  -- AGSIZE AND AGCOUNT MAKE NO DIFFERENCE
  pub groups-ignored : (n : ℕ) → (smallest_answer (with_agsize p n) logical physical start count wanted ≡ its-answer) × (smallest_answer (with_agcount p n) logical physical start count wanted ≡ its-answer)
  unfolding smallest_answer
  groups-ignored n = (refl, refl)
