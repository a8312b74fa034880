-- What a state begins with, what it wants, and what a turn answers and leaves, by the code's own steps.
-- Assumes nothing.
use mathlib.Core.Path.{◌≡◌, refl, sym, ap, ap₂, ◌∙◌}
use mathlib.Core.List.{List}
use Prim.Native.Nat.{ℕ, suc, ◌+◌, ◌-◌, ◌≤◌, ◌<◌}
use native.Mathlib.Omega.{arith}
use lib.ListN.{length, take, drop}
use borrow.Author.Tests.{eq-eqb, ne_eqb, le-leb, lt-leb}
use borrow.Rule.Slice.PartMut.{put_mid, put_same, same_len_mid}
use Rattle.refusals.specs.Numbers.{no_place, wrong_length}
use Rattle.endian.specs.Bytes.{patch}
use Rattle.request.specs.declared.Request.{Request}
use Rattle.request.specs.Parse.{parse_def}
use Rattle.run.specs.declared.Run.{Run}
use Rattle.run.specs.Runs.{run_of, accepted}
use Rattle.list_lengths.specs.declared.Counted.{Counted}
use Rattle.list_lengths.specs.Pieces.{write_number, count_answer, length_answer}
use Rattle.list_records.specs.Records.{list_bytes}
use Rattle.list_spec.specs.Listing.{list_piece}
use Rattle.head_bytes.proofs.Lending.{part_length}
use Rattle.list_write.specs.Writing.{part_bytes}
use Rattle.list_write.proofs.Lent.{lent-part}
use Rattle.structs.specs.Written.{Written}
use Rattle.structs.proofs.Written.{written_in}
use Rattle.list_send.specs.declared.Sending.{Sending as State}
use Rattle.list_send.specs.declared.Sent.{Sent}
use Rattle.list_send.specs.Sending.{sending, sending_begun, next_piece, sending_stepped, piece_bytes, sending_refused, sending_wanted, send_number, unsent, sent_def, sent_on, Turn}

-- ---- before the first piece
module _ (xs : List ℕ) (r : Request) (run : Run) (e : r ≡ parse_def xs) (f : run ≡ run_of r) where
  asked : accepted xs ≡ run
  unfolding accepted
  asked = sym (f ∙ ap run_of e)

  pub begin-refused : (run.number ≡ 0 → ⊥) → sending run r.device 0 0 ≡ sending_begun xs
  unfolding sending_begun
  begin-refused h = rw (asked, ne_eqb run.number 0 h, e) refl

  pub begin-ready : (c : Counted) → run.number ≡ 0 → c ≡ count_answer run → sending run r.device c.value c.value ≡ sending_begun xs
  unfolding sending_begun
  begin-ready c z k = rw (asked, eq-eqb run.number 0 z, ← k, ← e) refl

-- ---- what is wanted
module _ (s : State) where
  pub wants-refused : (s.run.number ≡ 0 → ⊥) → sending_refused s.run.number ≡ sending_wanted s
  unfolding sending_wanted
  wants-refused h = rw (ne_eqb s.run.number 0 h) refl

  pub wants-none : s.run.number ≡ 0 → s.left ≡ 0 → sending_refused no_place ≡ sending_wanted s
  unfolding sending_wanted
  wants-none z l = rw (z, l) refl

  pub wants-chunk : (k : ℕ) (c : Counted) → s.run.number ≡ 0 → (s.left ≡ 0 → ⊥) → k ≡ next_piece s → c ≡ length_answer s.run k → c ≡ sending_wanted s
  unfolding sending_wanted
  wants-chunk k c z l e f = f ∙ rw (z, ne_eqb s.left 0 l, e) refl

-- ---- the number of a turn
module _ (s : State) (work len : ℕ) (w : Counted) (is : w ≡ sending_wanted s) where
  pub not-wanted : (w.number ≡ 0 → ⊥) → send_number s work len ≡ w.number
  unfolding send_number
  not-wanted h = rw (← is, ne_eqb w.number 0 h) refl

  pub too_short : w.number ≡ 0 → len < w.value → send_number s work len ≡ wrong_length
  unfolding send_number
  too_short z h = rw (← is, z, lt-leb w.value len h) refl

  pub as_written : w.number ≡ 0 → w.value ≤ len → send_number s work len ≡ write_number s.run (next_piece s) w.value work
  unfolding send_number
  as_written z h = rw (← is, z, le-leb w.value len h) refl

-- ---- a turn
module _ (s : State) (work buf : List ℕ) where
  abbrev number : ℕ
  number = send_number s (length work) (length buf)

  pub refused-turn : (n : ℕ) (r : Sent) (work_left left : List ℕ) → r ≡ unsent s n → number ≡ n → (n ≡ 0 → ⊥) → work_left ≡ work → left ≡ buf → Turn s r work buf work_left left
  unfolding sent_def
  refused-turn n r work_left left e f h w b =
      record {
        answered = e ∙ rw (f, ne_eqb n 0 h) refl;
        buffer = b ∙ rw (f, ne_eqb n 0 h) refl;
        part = w ∙ rw (f, ne_eqb n 0 h) refl;
        inside = rw e (omega arith);
      }

  pub sent-turn : (n : ℕ) (t : State) (work_left left : List ℕ) → t ≡ sending_stepped s → number ≡ 0 → n ≡ (sending_wanted s).value → left ≡ patch 0 (piece_bytes s) buf
      → work_left ≡ patch 0 (part_bytes s.run (next_piece s)) work → n ≤ length left → Turn s (record { number = 0; length = n; sending = t }) work buf work_left left
  unfolding sent_def
  sent-turn n t work_left left e f v b w i = record { answered = rw (f, e, v) refl; buffer = rw f b; part = rw f w; inside = i }

-- what isn't 0 has written nothing
unwritten : (n r : ℕ) (new old left : List ℕ) → Written n new old r left → (r ≡ 0 → ⊥) → left ≡ old
unwritten n r new old left w h = w.bytes ∙ rw (← w.number, ne_eqb r 0 h) refl

-- A turn whose piece is written into the first n bytes of the buffer.
module _ (s : State) (work buf : List ℕ) (w : Counted) (is : w ≡ sending_wanted s) (z : w.number ≡ 0) (h : w.value ≤ length buf) (k r : ℕ) (at : k ≡ next_piece s)
    (work_left left : List ℕ) where
  abbrev n : ℕ
  n = w.value

  abbrev lent : List ℕ
  lent = take (0 + n - 0) (drop 0 buf)

  abbrev written : ℕ
  written = write_number s.run k (length lent) (length work)

  number_is : written ≡ send_number s (length work) (length buf)
  number_is =
      ap₂ (λ (j m : ℕ). write_number s.run j m (length work)) at (part_length 0 n buf (omega arith))
      ∙ sym (as_written s (length work) (length buf) w is z h)

  module _ (b : Written written (list_bytes (list_piece s.run s.device k)) lent r left) (p : Written written (patch 0 (part_bytes s.run k) work) work r work_left) where
    pub chunk-refused : (a : Sent) → a ≡ unsent s r → (r ≡ 0 → ⊥) → Turn s a work buf work_left (put_mid 0 (0 + n - 0) buf left)
    chunk-refused a e f =
        refused-turn s work buf r a work_left (put_mid 0 (0 + n - 0) buf left) e (sym (b.number ∙ number_is)) f (unwritten _ _ _ _ _ p f)
        (ap (put_mid 0 (0 + n - 0) buf) (unwritten _ _ _ _ _ b f) ∙ put_same 0 (0 + n - 0) buf)

    pub chunk-sent : (t : State) → t ≡ sending_stepped s → r ≡ 0 → length left ≡ length lent → Turn s (record { number = 0; length = n; sending = t }) work buf work_left (put_mid 0 (0 + n - 0) buf left)
    chunk-sent t e f l =
        let q = sym b.number ∙ f in
        let m = same_len_mid 0 (0 + n - 0) buf left l in
        sent-turn s work buf n t work_left (put_mid 0 (0 + n - 0) buf left) e (sym number_is ∙ q) (ap (λ (c : Counted). c.value) is)
        (lent-part n (list_bytes (list_piece s.run s.device k)) buf left h l (written_in b q) ∙ ap (λ (j : ℕ). patch 0 (list_bytes (list_piece s.run s.device j)) buf) at)
        (written_in p q ∙ ap (λ (j : ℕ). patch 0 (part_bytes s.run j) work) at) (omega arith)

-- ---- one turn more, where `left` of n turns are still to come
pub turn_more : (s t u : State) (n left work len : ℕ) → t ≡ sent_on (n - left) s work len → u ≡ (sent_def t work len).sending → 0 < left → left ≤ n → u ≡ sent_on (n - (left - 1)) s work len
unfolding sent_on
turn_more s t u n left work len e f h l =
    let k : suc (n - left) ≡ n - (left - 1) = omega arith in
    f ∙ ap (λ (v : State). (sent_def v work len).sending) e ∙ ap (λ (i : ℕ). sent_on i s work len) k

pub no-turn : (s : State) (n work len : ℕ) → s ≡ sent_on (n - n) s work len
unfolding sent_on
no-turn s n work len = let e : 0 ≡ n - n = omega arith in ap (λ (i : ℕ). sent_on i s work len) e

pub all-turns : (s t : State) (n left work len : ℕ) → t ≡ sent_on (n - left) s work len → left ≡ 0 → n ≡ s.left → t ≡ sent_on s.left s work len
all-turns s t n left work len e z f = let k : n - left ≡ s.left = omega arith in e ∙ ap (λ (i : ℕ). sent_on i s work len) k
