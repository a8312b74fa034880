-- What each turn of a pass over a device makes of it.
-- Assumes nothing.
use mathlib.Core.Path.{◌≡◌, refl, sym, ap, ap₂, ◌∙◌}
use mathlib.Core.Bool.{Bool, true, false}
use mathlib.Core.List.{List}
use Prim.Native.Nat.{ℕ, zero, suc, ◌+◌, ◌<◌, ◌≤◌}
use native.Mathlib.Omega.{arith}
use borrow.Author.Tests.{eqb-true, eqb-false, lt-ltb}
use lib.Dec.{eqb}
use lib.ListN.{length}
use Rattle.arith.specs.Choice.{when}
use Rattle.geometry.specs.declared.Geometry.{Geometry}
use Rattle.geometry_answers.specs.Named.{is_answer}
use Rattle.geometry_layout.specs.Places.{disk_blocks_before, byte_of}
use Rattle.geometry_layout.specs.Bounds.{Bounds}
use Rattle.geometry_layout.proofs.Bounding.{answer-bounds}
use Rattle.geometry_layout.proofs.Inside.{blocks-least}
use Rattle.geometry_places.specs.Answers.{place_refusal, to_byte_offset}
use Rattle.geometry_places.proofs.Refused.{place-there}
use Rattle.head_bytes.specs.Head.{head_length}
use Rattle.list_records.specs.Device.{Device, read}
use Rattle.list_records.proofs.Reading.{length-read}
use Rattle.list_spec.specs.Listing.{log_offset}
use Rattle.reader_exact.specs.Read.{group_number, read_log}
use Rattle.reader_exact.specs.Disk.{head_on, log_on}
use Rattle.reader_pass.specs.declared.Stage.{Stage}
use Rattle.reader_pass.specs.declared.Stage.TheVariants.{Heads, Log, Ended}
use Rattle.reader_pass.specs.declared.Pass.{Pass}
use Rattle.reader_pass.specs.Passing.{place_byte, offset_of, stage_length, pass_wanted, pass_ended_by, stage_at, following, went_on, pass_fed_head, fed_log, fed_whole}
use Rattle.reader_pass.specs.Device.{pass_turn, pass_turns}
use Rattle.reader_pass.proofs.States.{some-head, no-head, stopped, went, long-is}

-- ---- one turn

module _ (d : Device) where
  pub turn_at : (p : Pass) (s : Stage) → p.stage ≡ s → pass_turn d p ≡ fed_whole s p (read d (offset_of s p.geometry p.place) (stage_length s p.geometry))
  unfolding pass_turn pass_wanted
  turn_at p s e =
      sym (long-is p (read d (offset_of p.stage p.geometry p.place) (stage_length p.stage p.geometry)) (length-read d _ _))
      ∙ ap (λ (t : Stage). fed_whole t p (read d (offset_of t p.geometry p.place) (stage_length t p.geometry))) e

  -- at the end nothing changes
  pub turns-ended : (n : ℕ) (p : Pass) → p.stage ≡ Ended → pass_turns d n p ≡ p
  unfolding pass_turns
  turns-ended zero p e = refl
  turns-ended (suc n) p e = ap (pass_turns d n) (turn_at p Ended e) ∙ turns-ended n p e

-- ---- the places of an answer

place_byte_lem : (g : Geometry) (k b : ℕ) → place_refusal g k b ≡ 0 → place_byte g k b ≡ byte_of g.blocksize g.agsize k b
unfolding place_byte to_byte_offset
place_byte_lem g k b e = rw e

module _ (g : Geometry) (l : length g.label ≡ 12) (a : is_answer g ≡ true) where
  bounds : Bounds g
  bounds = answer-bounds g l a

  head-offset : (k : ℕ) → k < g.agcount → place_byte g k 0 ≡ byte_of g.blocksize g.agsize k 0
  head-offset k h = place_byte_lem g k 0 (place-there g k 0 a h (let w = blocks-least g bounds k in omega arith))

  log-offset : place_byte g g.logagno g.log_agbno ≡ log_offset g
  unfolding log_offset
  log-offset =
      place_byte_lem g g.logagno g.log_agbno
      (place-there g g.logagno g.log_agbno a bounds.places.log-inside
      (let w = blocks-least g bounds g.logagno in let e = bounds.places.log-start in let h = bounds.places.head-most in omega arith))

pub following-in : (k n : ℕ) → k < n → following k n ≡ k + 1
unfolding following when
following-in k n h = rw (lt-ltb k n h) refl

-- ---- the heads behind group 0's, and the log's block

-- a pass that ended, without a refusal exactly where A holds
pub record Ends (p : Pass) (A : Type 0) : Type 0 where
  pub ended : p.stage ≡ Ended
  pub from : p.number ≡ 0 → A
  pub to : A → p.number ≡ 0

pub same_ends : {A : Type 0} (p q : Pass) → q ≡ p → Ends p A → Ends q A
same_ends p q e x = rw e x

module _ (d : Device) (g : Geometry) (u : List ℕ) (l : length g.label ≡ 12) (a : is_answer g ≡ true) where
  -- all places before k are accepted
  abbrev pub before-place : ℕ → Pass
  before-place k = record { stage = stage_at g k; number = 0; place = k; geometry = g; uuid = u }

  -- all from k on are
  abbrev pub Rest : ℕ → Type 0
  Rest k = ((j : ℕ) → k ≤ j → j < g.agcount → group_number g u j (head_on g d j) ≡ 0) × (read_log g u (log_on g d) ≡ 0)

  head-turn : (k : ℕ) → k < g.agcount → pass_turn d (before-place k) ≡ went_on (before-place k) (group_number g u k (head_on g d k)) g u (k + 1)
  unfolding head_on pass_fed_head
  head-turn k h =
      turn_at d (before-place k) Heads (sym (some-head g k h))
      ∙ ap₂ (λ (off next : ℕ). went_on (before-place k) (group_number g u k (read d off (head_length g))) g u next) (head-offset g l a k h) (following-in k g.agcount h)

  pub log-turn : (k : ℕ) → g.agcount ≤ k → pass_turn d (before-place k) ≡ pass_ended_by (before-place k) (read_log g u (log_on g d))
  unfolding log_on fed_log
  log-turn k h =
      turn_at d (before-place k) Log (sym (no-head g k h))
      ∙ ap (λ (off : ℕ). pass_ended_by (before-place k) (read_log g u (read d off g.blocksize))) (log-offset g l a)

  head_passed : (k : ℕ) → k < g.agcount → group_number g u k (head_on g d k) ≡ 0 → pass_turn d (before-place k) ≡ before-place (k + 1)
  head_passed k h z = head-turn k h ∙ sym (went (before-place k) (group_number g u k (head_on g d k)) g u (k + 1) (stage_at g (k + 1)) z refl)

  -- where all are accepted, each turn goes on to the next place
  pub heads-on : (m k : ℕ) → k + m ≤ g.agcount → Rest k → pass_turns d m (before-place k) ≡ before-place (k + m)
  unfolding pass_turns
  heads-on zero k h r = let e : k ≡ k + 0 = omega arith in ap before-place e
  heads-on (suc m) k h r =
      let s = head_passed k (omega arith) (r.0 k (omega arith) (omega arith)) in
      let e : k + 1 + m ≡ k + suc m = omega arith in
      ap (pass_turns d m) s ∙ heads-on m (k + 1) (omega arith) ((λ j p q. r.0 j (omega arith) q), r.1) ∙ ap before-place e

  at_head : (m k : ℕ) → k + suc m ≡ g.agcount → Ends (pass_turns d (suc m) (before-place (k + 1))) (Rest (k + 1)) → (t : Bool) → eqb (group_number g u k (head_on g d k)) 0 ≡ t
      → Ends (pass_turns d (suc m) (pass_turn d (before-place k))) (Rest k)
  at_head m k e r true t =
      let z = eqb-true (group_number g u k (head_on g d k)) 0 t in
      same_ends _ _ (ap (pass_turns d (suc m)) (head_passed k (omega arith) z))
      (record {
        ended = r.ended;
        from = λ n. ((λ j h i. here j h i z (r.from n).0 (eqb j k) refl), (r.from n).1);
        to = λ x. r.to ((λ j h i. x.0 j (omega arith) i), x.1);
      })
    where
      here : (j : ℕ) → k ≤ j → j < g.agcount → group_number g u k (head_on g d k) ≡ 0 → ((i : ℕ) → k + 1 ≤ i → i < g.agcount → group_number g u i (head_on g d i) ≡ 0) → (b : Bool) → eqb j k ≡ b
          → group_number g u j (head_on g d j) ≡ 0
      here j h i z f true q = rw (eqb-true j k q) z
      here j h i z f false q = f j (let o = eqb-false j k q in omega arith) i
  at_head m k e r false t =
      let n = group_number g u k (head_on g d k) in
      let o = eqb-false n 0 t in
      let s : pass_turn d (before-place k) ≡ pass_ended_by (before-place k) n = head-turn k (omega arith) ∙ sym (stopped (before-place k) n g u (k + 1) o) in
      same_ends _ _ (ap (pass_turns d (suc m)) s ∙ turns-ended d (suc m) (pass_ended_by (before-place k) n) refl)
      (record { ended = refl; from = λ z. absurd (o z); to = λ x. absurd (o (x.0 k (omega arith) (omega arith))) })

  pub heads-end : (m k : ℕ) → k + m ≡ g.agcount → Ends (pass_turns d (suc m) (before-place k)) (Rest k)
  unfolding pass_turns
  heads-end zero k e =
      same_ends _ _ (log-turn k (omega arith))
      (record {
        ended = refl;
        from = λ z. ((λ j h i. absurd (omega arith)), z);
        to = λ r. r.1;
      })
  heads-end (suc m) k e = at_head m k e (heads-end m (k + 1) (omega arith)) (eqb (group_number g u k (head_on g d k)) 0) refl
