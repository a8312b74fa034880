-- What the answers about a range mean: of every size in bytes, of the smallest refused one, of 1 to 8, and of runs.
-- Assumes nothing.
use mathlib.Core.Path.{◌≡◌, refl, sym, ap, ◌∙◌}
use mathlib.Core.Bool.{Bool, true, false, cond}
use mathlib.Core.Logic.{◌⊎◌, inl, inr, ⊎_elim}
use Prim.Native.Nat.{ℕ, ◌+◌, ◌*◌, ◌-◌, ◌/◌, ◌≤◌, ◌<◌}
use native.Mathlib.Omega.{arith}
use native.Mathlib.Nat.{mul-div_cancel, div-mul-le_self, le-div_iff_mul-le, le_trans}
use borrow.Author.Tests.{ltb-true, ltb-false, eqb-true, eqb-false, eq-eqb, ne_eqb, not-true, not-false}
use lib.Dec.{ltb, eqb}
use Rattle.arith.specs.Choice.{when}
use Rattle.refusals.specs.Table.{first}
use Rattle.params.specs.declared.Params.{Params}
use Rattle.geometry.specs.Sizes.{sizes_refusals}
use Rattle.geometry.specs.Groups.{options_refusals, groups_refusals}
use Rattle.geometry.specs.Log.{last_refusals}
use Rattle.geometry.specs.Compute.{compute_def}
use Rattle.plan_totals.specs.Totals.{plans_number}
use Rattle.request.specs.declared.Request.{Request}
use Rattle.request.specs.Defaults.{time_of}
use Rattle.profile.proofs.Labels.{not-under}
use Rattle.run.specs.Runs.{step_of, time_refusal, bare_number, run_number}
use Rattle.run.proofs.Accepted.{none}
use Rattle.inquire_sizes.specs.declared.Range.{Range}
use Rattle.inquire_sizes.specs.Ranges.{size_number, block_bytes, blocks_number, smallest_refused, all_formatted, refused_size, range_of, options_number, no_range, sizes_question, sizes_call_refused, sizes_answer, FormattedSize, Smallest}
use Rattle.inquire_sizes.proofs.First.{first-within, first_passes, first-fails}
use Rattle.inquire_sizes.proofs.Tables.{next-first, first-between}
use Rattle.inquire_sizes.proofs.Turns.{is_refused}
use Rattle.inquire_sizes.proofs.Blocks.{size-alike, early-part, late-part, sizes, asked, kept, step-number, step-late, block-pos}

-- ---- a range by any rule

module _ (number : ℕ → ℕ) (from to : ℕ) where
  abbrev smallest : ℕ
  smallest = smallest_refused number from to

  -- smaller ones are formatted
  passed-before : (n : ℕ) → from ≤ n → n < smallest → number n ≡ 0
  unfolding smallest_refused
  passed-before n l h = eqb-true (number n) 0 (not-false (eqb (number n) 0) (first-fails (is_refused number) from (to + 1 - from) n l h))

  -- it is refused, if it is in the range
  smallest-refused : smallest ≤ to → number smallest ≡ 0 → ⊥
  unfolding smallest_refused
  smallest-refused h =
      let w = first-within (is_refused number) from (to + 1 - from) in
      eqb-false (number smallest) 0 (not-true (eqb (number smallest) 0) (first_passes (is_refused number) from (to + 1 - from) (omega arith)))

  smallest-from : from ≤ smallest
  unfolding smallest_refused
  smallest-from = (first-within (is_refused number) from (to + 1 - from)).0

  none-at : (t : Bool) → ltb to smallest ≡ t → (cond t all_formatted (refused_size smallest (number smallest))).refusal ≡ 0 → to < smallest
  none-at true e z = ltb-true to smallest e
  none-at false e z = absurd (smallest-refused (ltb-false to smallest e) z)

  -- no refusal: every size of the range is formatted
  range-formatted : (range_of number from to).refusal ≡ 0 → (n : ℕ) → from ≤ n → n ≤ to → number n ≡ 0
  unfolding range_of
  range-formatted z n l h = let m = none-at (ltb to smallest) refl z in passed-before n l (omega arith)

  some_at : (t : Bool) → ltb to smallest ≡ t → ((cond t all_formatted (refused_size smallest (number smallest))).refusal ≡ 0 → ⊥)
      → (smallest ≤ to) × ((cond t all_formatted (refused_size smallest (number smallest))).blocks ≡ smallest) × ((cond t all_formatted (refused_size smallest (number smallest))).refusal ≡ number smallest)
  some_at true e r = absurd (r refl)
  some_at false e r = (ltb-false to smallest e, refl, refl)

  -- a refusal: that of the smallest refused size
  range-refused : ((range_of number from to).refusal ≡ 0 → ⊥) → (smallest ≤ to) × ((range_of number from to).blocks ≡ smallest) × ((range_of number from to).refusal ≡ number smallest)
  unfolding range_of
  range-refused r = some_at (ltb to smallest) refl r

-- ---- sizes in bytes

module _ (p : Params) (logical physical : ℕ) where
  abbrev answer_on : ℕ → ℕ → Range
  answer_on least most = sizes_answer p logical physical least most

  asked-at : (n : ℕ) (r : Range) (t : Bool) → eqb n 0 ≡ t → (cond t r (sizes_call_refused n)).number ≡ 0 → n ≡ 0
  asked-at n r true e h = eqb-true n 0 e
  asked-at n r false e h = absurd (eqb-false n 0 e h)

  module _ (least most : ℕ) (z : (answer_on least most).number ≡ 0) where
    abbrev from : ℕ
    from = least / block_bytes p

    abbrev to : ℕ
    to = most / block_bytes p

    -- the question isn't refused
    question : sizes_question p logical physical from to ≡ 0
    unfolding sizes_answer
    question =
        let n = sizes_question p logical physical from to in
        asked-at n (range_of (blocks_number p logical physical) from to) (eqb n 0) refl z

    options-zero : options_number p logical physical ≡ 0
    unfolding sizes_question
    options-zero = (none (options_number p logical physical) (when (no_range from to) 36 0) question).0

    its-range : answer_on least most ≡ range_of (blocks_number p logical physical) from to
    unfolding sizes_answer
    its-range = rw (eq-eqb (sizes_question p logical physical from to) 0 question)

    -- a size goes by its whole blocks
    of_blocks : (device : ℕ) → blocks_number p logical physical (device / block_bytes p) ≡ 0 → FormattedSize p logical physical device
    unfolding blocks_number size_number
    of_blocks device e =
        let b = block-pos p logical physical options-zero in
        let s = size-alike p (device / block_bytes p * block_bytes p) device logical physical (mul-div_cancel (device / block_bytes p) b) in
        let y = none (compute_def p device logical physical).number (plans_number (compute_def p device logical physical).geometry) (sym s ∙ e) in
        record { geometry = y.0; plans = y.1 }

    below : (a b : ℕ) → a ≤ b → a / block_bytes p ≤ b / block_bytes p
    below a b h = (le-div_iff_mul-le (block-pos p logical physical options-zero)).1 (le_trans (div-mul-le_self a (block_bytes p)) h)

    -- FORMATTED: EVERY SIZE IN BYTES BETWEEN THE ENDS IS
    pub every-size : (answer_on least most).refusal ≡ 0 → (device : ℕ) → least ≤ device → device ≤ most → FormattedSize p logical physical device
    every-size f device l h =
        of_blocks device
        (range-formatted (blocks_number p logical physical) from to (sym (ap (λ (r : Range). r.refusal) its-range) ∙ f) (device / block_bytes p)
        (below least device l) (below device most h))

    -- REFUSED: THE SIZE IS IN THE RANGE, THE NUMBER IS ITS OWN, AND EVERY SMALLER ONE OF THE RANGE IS FORMATTED
    pub smallest-size : ((answer_on least most).refusal ≡ 0 → ⊥) → Smallest p logical physical least most (answer_on least most).blocks (answer_on least most).refusal
    smallest-size r =
        let number = blocks_number p logical physical in
        let w = range-refused number from to (λ e. r (ap (λ (x : Range). x.refusal) its-range ∙ e)) in
        let b : (answer_on least most).blocks ≡ smallest_refused number from to = ap (λ (x : Range). x.blocks) its-range ∙ w.1 in
        let m : (answer_on least most).refusal ≡ number (smallest_refused number from to) = ap (λ (x : Range). x.refusal) its-range ∙ w.2 in
        record {
          from = rw b (smallest-from number from to);
          to = rw b w.0;
          number = ap number b ∙ sym m;
          refused = r;
          before = λ device l h. of_blocks device (passed-before number from to (device / block_bytes p) l (rw b at h));
        }

  -- ---- 1 to 8

  early-number : options_number p logical physical ≡ first (early-part p (sizes p logical physical)) 0
  unfolding options_number
  early-number = refl

  -- A DEVICE OF ANY SIZE HAS THE NUMBER, WHERE IT IS ONE OF 1 TO 8
  pub early-any : (options_number p logical physical ≡ 0 → ⊥) → (device : ℕ) → (compute_def p device logical physical).number ≡ options_number p logical physical
  unfolding sizes_refusals
  early-any n device =
      let late = first (late-part p device (sizes p logical physical) (asked p logical physical device) (kept p logical physical device)) 0 in
      step-number p logical physical device
      ∙ sym (next-first (early-part p (sizes p logical physical)) late tt)
      ∙ rw (← early-number, ne_eqb (options_number p logical physical) 0 n)

  pub early-most : options_number p logical physical ≤ 8
  unfolding options_number sizes_refusals
  early-most = ⊎_elim (λ z. omega arith) (λ b. b.1) (first-between 1 8 (early-part p (sizes p logical physical)) 0 tt)

  -- and where it is 0, no device's number is one of them
  pub early-none : options_number p logical physical ≡ 0 → (device : ℕ) → ((compute_def p device logical physical).number ≡ 0) ⊎ (9 ≤ (compute_def p device logical physical).number)
  unfolding options_refusals groups_refusals last_refusals
  early-none z device =
      let e = step-late p logical physical z device in
      ⊎_elim (λ q. inl (e ∙ q)) (λ b. inr (rw e b.0))
      (first-between 9 24 (late-part p device (sizes p logical physical) (asked p logical physical device) (kept p logical physical device)) 0 tt)

-- ---- runs

-- WITH A TIME IN RANGE AND NO PROFILE A RUN ON EACH OF THE SIZES IS ACCEPTED
pub runs-accepted : (q : Request) (least most : ℕ) → q.number ≡ 0 → q.profile ≡ false → sizes_answer q.params q.logical q.physical least most ≡ all_formatted
    → least ≤ q.device → q.device ≤ most → time_refusal (step_of q).geometry (time_of q.params) ≡ 0 → run_number q ≡ 0
unfolding run_number bare_number step_of
runs-accepted q least most z w f l h t =
    let e = every-size q.params q.logical q.physical least most (ap (λ (r : Range). r.number) f) (ap (λ (r : Range). r.refusal) f) q.device l h in
    rw (z, e.geometry, e.plans, t, w) (not-under (step_of q).geometry q.params.label)
