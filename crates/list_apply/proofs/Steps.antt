-- What is wanted, and what a piece that is fed asks for, by the code's own steps.
-- Assumes nothing.
use Rattle.std.proofs.Common.{◌≡◌, ℕ, ◌+◌, ◌-◌, ◌%◌, ◌^◌, ◌<◌, ◌≤◌, Bool, true, false, cond, eqb, ltb, List, length, refl, ◌∙◌, le-ltb, lt-ltb, eq-eqb, ne_eqb, le-leb}
use borrow.Author.Tests.{lt-leb}
use Rattle.list_read.specs.declared.Decoded.{Decoded}
use Rattle.list_read.specs.declared.Passed.{Passed}
use Rattle.list_read.specs.Records.{flush, zeros_kind, decode_def, within_def}
use Rattle.list_read.specs.Flushes.{next_def, ended_def}
use Rattle.list_apply.specs.declared.Applying.{Applying as State}
use Rattle.list_apply.specs.declared.Step.{Step}
use Rattle.list_apply.specs.Applying.{goes_on, ended, list_cut, list_malformed, record_behind, too_far, held, past, first_done, state, head_next, head_bytes_wanted, piece_length, applying_wanted, idle_step, stopped_by, marked_step, input_ended, following_of, taken_up, waits_def, held_back, released, accepted_by, put_piece, in_limit, fed_record, fed_decoded, applying_fed_head, fed_bytes, applying_fed}

pick_first : (b : Bool) (x y : Step) → b ≡ true → x ≡ cond b x y
pick_first b x y e = rw e refl

pick_second : (b : Bool) (x y : Step) → b ≡ false → y ≡ cond b x y
pick_second b x y e = rw e refl

-- ---- the limit
module _ (limit at len : ℕ) where
  pub limit-past : limit < at + len → false ≡ in_limit limit at len
  unfolding in_limit
  limit-past h = rw (lt-leb (at + len) limit h) refl

  pub limit-kept : (r : Bool) → at + len ≤ limit → r ≡ within_def at len → r ≡ in_limit limit at len
  unfolding in_limit
  limit-kept r h e = rw (le-leb (at + len) limit h) e

module _ (a : State) where
  -- ---- the first record
  pub next-held : a.first ≡ held → true ≡ head_next a
  unfolding head_next
  next-held e = rw (eq-eqb a.first held e) refl

  pub next-whole : (r : Bool) → (a.first ≡ held → ⊥) → r ≡ eqb a.left 0 → r ≡ head_next a
  unfolding head_next
  next-whole r h e = rw (ne_eqb a.first held h) e

  pub held-step : (o at len : ℕ) (r : Step) → o ≡ following_of a.ordinal 0 → r ≡ idle_step (state a.limit held goes_on false o a.flushes zeros_kind at len) → r ≡ held_back a at len
  unfolding held_back
  held-step o at len r e f = rw (← e) f

  module _ (flushes kind at len : ℕ) where
    pub released-step : (o n : ℕ) → o ≡ following_of a.ordinal len → n ≡ a.left
        → record { applying = state a.limit past goes_on false o flushes kind at len; action = first_done; at = a.at; len = n } ≡ released a flushes kind at len
    unfolding released
    released-step o n e f = rw (e, f) refl

    module _ (r : Step) where
      pub accepted-held : a.first ≡ held → r ≡ released a flushes kind at len → r ≡ accepted_by a flushes kind at len
      unfolding accepted_by
      accepted-held h f = rw (eq-eqb a.first held h) f

      module _ (h : a.first ≡ held → ⊥) (b : Bool) (w : b ≡ waits_def a.first kind) where
        pub accepted-waits : b ≡ true → r ≡ held_back a at len → r ≡ accepted_by a flushes kind at len
        unfolding accepted_by
        accepted-waits t f = rw (ne_eqb a.first held h, ← w, t) f

        pub accepted-taken : b ≡ false → r ≡ taken_up a flushes kind at len → r ≡ accepted_by a flushes kind at len
        unfolding accepted_by
        accepted-taken t f = rw (ne_eqb a.first held h, ← w, t) f

  -- ---- what is wanted
  module _ (size n : ℕ) where
    pub wants-none : (a.stop ≡ 0 → ⊥) → 0 ≡ applying_wanted a size
    unfolding applying_wanted
    wants-none h = rw (ne_eqb a.stop 0 h) refl

    pub wants-head : a.stop ≡ 0 → head_next a ≡ true → n ≡ head_bytes_wanted a.marked → n ≡ applying_wanted a size
    unfolding applying_wanted
    wants-head s l e = rw (eq-eqb a.stop 0 s, l) e

    pub wants-zeros : a.stop ≡ 0 → head_next a ≡ false → a.kind ≡ zeros_kind → 0 ≡ applying_wanted a size
    unfolding applying_wanted
    wants-zeros s l k = rw (eq-eqb a.stop 0 s, l, eq-eqb a.kind zeros_kind k) refl

    pub wants-piece : a.stop ≡ 0 → head_next a ≡ false → (a.kind ≡ zeros_kind → ⊥) → n ≡ piece_length a size → n ≡ applying_wanted a size
    unfolding applying_wanted
    wants-piece s l k e = rw (eq-eqb a.stop 0 s, l, ne_eqb a.kind zeros_kind k) e

  -- ---- the end of the input
  module _ (n : ℕ) (r : Step) (e : n ≡ ended_def a.flushes) where
    pub end_whole : n ≡ 0 → r ≡ stopped_by a ended → r ≡ input_ended a
    unfolding input_ended
    end_whole z f = rw (← e, eq-eqb n 0 z) f

    pub end-cut : (n ≡ 0 → ⊥) → r ≡ stopped_by a list_cut → r ≡ input_ended a
    unfolding input_ended
    end-cut z f = rw (← e, ne_eqb n 0 z) f

  -- ---- a record's head, and a piece of what it writes
  module _ (o flushes kind at len : ℕ) (r : Step) (e : o ≡ following_of a.ordinal len) (f : r ≡ idle_step (state a.limit past goes_on false o flushes kind at len)) where
    pub taken-flush : kind ≡ flush → record { applying = r.applying; action = flush; at = r.at; len = r.len } ≡ taken_up a flushes kind at len
    unfolding taken_up
    taken-flush k = rw (f, e, eq-eqb kind flush k) refl

    pub taken-write : (kind ≡ flush → ⊥) → r ≡ taken_up a flushes kind at len
    unfolding taken_up
    taken-write k = rw (ne_eqb kind flush k, ← e) f

  pub piece-put : (n left o at : ℕ) → left ≡ a.left - n → o ≡ following_of a.ordinal left → at ≡ (a.at + n) % 2 ^ 64
      → record { applying = state a.limit a.first goes_on false o a.flushes a.kind at left; action = a.kind; at = a.at; len = n } ≡ put_piece a n
  unfolding put_piece
  piece-put n left o at l e f = rw (e, f, l) refl

  module _ (kind at len : ℕ) (p : Passed) (r : Step) (e : p ≡ next_def a.flushes kind) where
    pub record-behind : (p.number ≡ 0 → ⊥) → r ≡ stopped_by a record_behind → r ≡ fed_record a kind at len
    unfolding fed_record
    record-behind h f = rw (← e, ne_eqb p.number 0 h) f

    module _ (b : Bool) (z : p.number ≡ 0) (w : b ≡ in_limit a.limit at len) where
      pub record-taken : b ≡ true → r ≡ accepted_by a p.flushes kind at len → r ≡ fed_record a kind at len
      unfolding fed_record
      record-taken t f = rw (← e, eq-eqb p.number 0 z, ← w, t) f

      pub record-far : b ≡ false → r ≡ stopped_by a too_far → r ≡ fed_record a kind at len
      unfolding fed_record
      record-far t f = rw (← e, eq-eqb p.number 0 z, ← w, t) f

  -- ---- a head
  module _ (xs : List ℕ) (n : ℕ) (d : Decoded) (r : Step) (h : n ≡ head_bytes_wanted a.marked) (e : d ≡ decode_def (ltb (length xs) n) xs) where
    pub head-malformed : (d.number ≡ 0 → ⊥) → r ≡ stopped_by a list_malformed → r ≡ fed_decoded a xs
    unfolding fed_decoded
    head-malformed z f = rw (← h, ← e, ne_eqb d.number 0 z) f

    pub head-marked : d.number ≡ 0 → d.kind ≡ 0 → r ≡ marked_step a → r ≡ fed_decoded a xs
    unfolding fed_decoded
    head-marked z k f = rw (← h, ← e, eq-eqb d.number 0 z, eq-eqb d.kind 0 k) f

    pub head-whole : d.number ≡ 0 → (d.kind ≡ 0 → ⊥) → r ≡ fed_record a d.kind d.at d.len → r ≡ fed_decoded a xs
    unfolding fed_decoded
    head-whole z k f = rw (← h, ← e, eq-eqb d.number 0 z, ne_eqb d.kind 0 k) f

  module _ (xs : List ℕ) (r : Step) where
    pub head-rest : a.marked ≡ true → r ≡ fed_decoded a xs → r ≡ applying_fed_head a xs
    unfolding applying_fed_head
    head-rest m f = f ∙ pick_first a.marked _ _ m

    pub head-ended : a.marked ≡ false → length xs ≡ 0 → r ≡ input_ended a → r ≡ applying_fed_head a xs
    unfolding applying_fed_head
    head-ended m l f = f ∙ pick_first (eqb (length xs) 0) _ _ (eq-eqb (length xs) 0 l) ∙ pick_second a.marked (fed_decoded a xs) _ m

    pub head_first : a.marked ≡ false → (length xs ≡ 0 → ⊥) → r ≡ fed_decoded a xs → r ≡ applying_fed_head a xs
    unfolding applying_fed_head
    head_first m l f = f ∙ pick_second (eqb (length xs) 0) (input_ended a) _ (ne_eqb (length xs) 0 l) ∙ pick_second a.marked (fed_decoded a xs) _ m

  -- ---- a piece
  module _ (xs : List ℕ) (size n : ℕ) (r : Step) where
    pub bytes_cut : n ≡ piece_length a size → length xs < n → r ≡ stopped_by a list_malformed → r ≡ fed_bytes a xs size
    unfolding fed_bytes
    bytes_cut e h f = rw (← e, lt-ltb (length xs) n h) f

    pub bytes-put : n ≡ piece_length a size → n ≤ length xs → r ≡ put_piece a n → r ≡ fed_bytes a xs size
    unfolding fed_bytes
    bytes-put e h f = rw (← e, le-ltb (length xs) n h) f

    pub fed-none : (a.stop ≡ 0 → ⊥) → r ≡ idle_step a → r ≡ applying_fed a xs size
    unfolding applying_fed
    fed-none s f = rw (ne_eqb a.stop 0 s) f

    pub fed-head : a.stop ≡ 0 → head_next a ≡ true → r ≡ applying_fed_head a xs → r ≡ applying_fed a xs size
    unfolding applying_fed
    fed-head s l f = rw (eq-eqb a.stop 0 s, l) f

    pub fed-zeros : a.stop ≡ 0 → head_next a ≡ false → a.kind ≡ zeros_kind → n ≡ piece_length a size → r ≡ put_piece a n → r ≡ applying_fed a xs size
    unfolding applying_fed
    fed-zeros s l k e f = rw (eq-eqb a.stop 0 s, l, eq-eqb a.kind zeros_kind k, ← e) f

    pub fed-bytes : a.stop ≡ 0 → head_next a ≡ false → (a.kind ≡ zeros_kind → ⊥) → r ≡ fed_bytes a xs size → r ≡ applying_fed a xs size
    unfolding applying_fed
    fed-bytes s l k f = rw (eq-eqb a.stop 0 s, l, ne_eqb a.kind zeros_kind k) f

-- ---- a record that waits
pub waits-zeros : (first kind : ℕ) (r : Bool) → first ≡ 0 → r ≡ eqb kind zeros_kind → r ≡ waits_def first kind
unfolding waits_def
waits-zeros first kind r z e = rw (eq-eqb first 0 z) e

pub waits-none : (first kind : ℕ) → (first ≡ 0 → ⊥) → false ≡ waits_def first kind
unfolding waits_def
waits-none first kind h = rw (ne_eqb first 0 h) refl

-- ---- the record in hand
pub following-next : (o r left : ℕ) → left ≡ 0 → r ≡ (o + 1) % 2 ^ 64 → r ≡ following_of o left
unfolding following_of
following-next o r left z e = rw (eq-eqb left 0 z) e

pub following-same : (o left : ℕ) → (left ≡ 0 → ⊥) → o ≡ following_of o left
unfolding following_of
following-same o left h = rw (ne_eqb left 0 h) refl
