-- A list is applied to its end only where two flushes are past, whatever was fed.
-- Assumes nothing.
use mathlib.Core.Path.{◌≡◌, refl, ◌∙◌}
use mathlib.Core.Bool.{Bool, true, false, true≢false, cond}
use mathlib.Core.List.{List, [], ◌∷◌}
use Prim.Native.Nat.{ℕ}
use native.Mathlib.Omega.{arith}
use lib.Dec.{ltb, eqb}
use lib.ListN.{length}
use borrow.Author.Tests.{eqb-true, eqb-false}
use Rattle.seqs.specs.Lists.{fold}
use Rattle.list_read.specs.Records.{zeros_kind, decode_def}
use Rattle.list_read.specs.Flushes.{next_def, ended_def}
use Rattle.list_read.proofs.Ending.{cut-end}
use Rattle.list_apply.specs.declared.Applying.{Applying as State}
use Rattle.list_apply.specs.declared.Step.{Step}
use Rattle.list_apply.specs.Applying.{goes_on, ended, list_cut, held, applying_begun, head_next, head_bytes_wanted, piece_length, stopped_by, input_ended, taken_up, waits_def, held_back, released, accepted_by, put_piece, in_limit, fed_record, fed_decoded, applying_fed_head, fed_bytes, applying_fed}
use Rattle.list_apply_laws.specs.Turns.{fed_all, Fed, TwoFlushesPast}

-- by a test
by-test : (b : Bool) (x y : Step) → (b ≡ true → TwoFlushesPast x.applying) → (b ≡ false → TwoFlushesPast y.applying) → TwoFlushesPast (cond b x y).applying
by-test true x y f g = f refl
by-test false x y f g = g refl

-- a list that goes on, or was refused, didn't end
not-ended : (a : State) (n : ℕ) → (n ≡ ended → ⊥) → TwoFlushesPast (stopped_by a n).applying
not-ended a n h e = absurd (h e)

pub two_past : (n : ℕ) (b : Bool) → eqb n 2 ≡ b → eqb (ended_def n) 0 ≡ true → n ≡ 2
two_past n true e z = eqb-true n 2 e
two_past n false e z = let k = cut-end n (eqb-false n 2 e) in let l = eqb-true (ended_def n) 0 z in absurd (omega arith)

module _ (a : State) where
  ended-whole : TwoFlushesPast (input_ended a).applying
  unfolding input_ended
  ended-whole =
      by-test (eqb (ended_def a.flushes) 0) (stopped_by a ended) (stopped_by a list_cut) (λ z e. two_past a.flushes (eqb a.flushes 2) refl z)
      (λ z. not-ended a list_cut (λ e. omega arith))

  piece-whole : (n : ℕ) → TwoFlushesPast (put_piece a n).applying
  unfolding put_piece
  piece-whole n e = absurd (omega arith)

  taken-whole : (flushes kind at len : ℕ) → TwoFlushesPast (taken_up a flushes kind at len).applying
  unfolding taken_up
  taken-whole flushes kind at len e = absurd (omega arith)

  accepted-whole : (flushes kind at len : ℕ) → TwoFlushesPast (accepted_by a flushes kind at len).applying
  unfolding accepted_by released held_back
  accepted-whole flushes kind at len =
      by-test (eqb a.first held) _ _ (λ h e. absurd (omega arith))
      (λ h. by-test (waits_def a.first kind) _ _ (λ w e. absurd (omega arith)) (λ w. taken-whole flushes kind at len))

  record-whole : (kind at len : ℕ) → TwoFlushesPast (fed_record a kind at len).applying
  unfolding fed_record
  record-whole kind at len =
      by-test (eqb (next_def a.flushes kind).number 0) _ _
      (λ z. by-test (in_limit a.limit at len) _ _ (λ w. accepted-whole (next_def a.flushes kind).flushes kind at len) (λ w e. absurd (omega arith)))
      (λ z e. absurd (omega arith))

  module _ (given : TwoFlushesPast a) (xs : List ℕ) where
    decoded-whole : TwoFlushesPast (fed_decoded a xs).applying
    unfolding fed_decoded
    decoded-whole =
        let d = decode_def (ltb (length xs) (head_bytes_wanted a.marked)) xs in
        by-test (eqb d.number 0) _ _ (λ z. by-test (eqb d.kind 0) _ _ (λ k. given) (λ k. record-whole d.kind d.at d.len)) (λ z e. absurd (omega arith))

    head-whole : TwoFlushesPast (applying_fed_head a xs).applying
    unfolding applying_fed_head
    head-whole = by-test a.marked _ _ (λ m. decoded-whole) (λ m. by-test (eqb (length xs) 0) _ _ (λ l. ended-whole) (λ l. decoded-whole))

    fed-whole : (size : ℕ) → TwoFlushesPast (applying_fed a xs size).applying
    unfolding applying_fed fed_bytes
    fed-whole size =
        by-test (eqb a.stop goes_on) _ _
        (λ s. by-test (head_next a) _ _ (λ l. head-whole)
        (λ l. by-test (eqb a.kind zeros_kind) _ _ (λ k. piece-whole (piece_length a size))
        (λ k. by-test (ltb (length xs) (piece_length a size)) _ _ (λ c e. absurd (omega arith)) (λ c. piece-whole (piece_length a size)))))
        (λ s. given)

all_whole : (size : ℕ) (a : State) (pieces : List (List ℕ)) → TwoFlushesPast a → TwoFlushesPast (fed_all size a pieces)
unfolding fold
all_whole size a [] g = g
all_whole size a (xs ∷ pieces) g = all_whole size (applying_fed a xs size).applying pieces (fed-whole a g xs size)

-- WHAT IS REACHED BY FEEDING ANY PIECES ENDS AS A LIST DOES ONLY BEHIND ITS SECOND FLUSH
pub ended-behind-two : (size limit : ℕ) (b : State) → Fed size (applying_begun limit) b → TwoFlushesPast b
ended-behind-two size limit b f = rw f.reached (all_whole size (applying_begun limit) f.pieces (λ e. absurd (omega arith)))
