-- The turns of a sending program hand out the list of the run that its input asks for, and nothing of a refused one.
-- Assumes nothing.
use mathlib.Core.Path.{◌≡◌, refl, sym, ap, ap₂, ◌∙◌}
use mathlib.Core.List.{List, [], ◌∷◌, ◌++◌, append_assoc, append-nil}
use Prim.Native.Nat.{ℕ, zero, suc, ◌+◌, ◌-◌, ◌<◌, ◌≤◌, max}
use native.Mathlib.Omega.{arith}
use lib.Dec.{eqb}
use lib.ListN.{length, take, drop, get_or, length-append}
use lib.Seq.{take_at}
use borrow.Author.Tests.{eq-eqb, ne_eqb, le-leb}
use Rattle.endian.specs.Bytes.{patch}
use Rattle.endian.proofs.Laws.{patch-split, length-patch}
use Rattle.request.specs.declared.Request.{Request}
use Rattle.request.specs.Parse.{parse_def}
use Rattle.run.specs.declared.Run.{Run}
use Rattle.run.specs.Runs.{run_of, accepted}
use Rattle.list_records.specs.Records.{list_bytes}
use Rattle.list_spec.specs.Listing.{list_of, piece_count}
use Rattle.list_accepted.specs.Accepted.{AcceptedRun}
use Rattle.list_accepted.proofs.Runs.{run-bounds}
use Rattle.list_accepted.proofs.Parsed.{accepted-run}
use Rattle.list_lengths.specs.declared.Counted.{Counted}
use Rattle.list_lengths.specs.Pieces.{write_number, count_answer, length_answer, part_answer}
use Rattle.list_send.specs.declared.Sending.{Sending as State}
use Rattle.list_send.specs.declared.Sent.{Sent}
use Rattle.list_send.specs.Sending.{sending, sending_begun, next_piece, sending_stepped, piece_bytes, sending_wanted, longest_piece, send_number, unsent, sent_def, buffer_after, work_after, sent_on, handed}
use Rattle.list_laws.specs.Whole.{sent, sent_to, sent_all, WrittenWhole}
use Rattle.list_laws.specs.Room.{longest_piece_bytes, HoldsPiece, Sufficient}
use Rattle.list_laws.specs.Sending.{SendsAll, SendsNone}
use Rattle.list_laws.proofs.Whole.{written-whole, write-is}
use Rattle.list_laws.proofs.Lent.{room-enough}

-- what stands first in a buffer after it was put there
first-put : (bs xs : List ℕ) → length bs ≤ length xs → take (length bs) (patch 0 bs xs) ≡ bs
first-put bs xs h = ap (take (length bs)) (patch-split 0 bs xs (omega arith)) ∙ take_at bs (drop (0 + length bs) xs) (length bs) refl

-- ---- an accepted run, m of its pieces still to come
module _ (r : Request) (a : AcceptedRun r) (accepts : (run_of r).number ≡ 0) where
  abbrev run : Run
  run = run_of r

  abbrev device : ℕ
  device = r.device

  abbrev count : ℕ
  count = piece_count run

  abbrev at : ℕ → State
  at m = sending run device count m

  abbrev longest : ℕ
  longest = max (length_answer run 1).value (length_answer run (count - 2)).value

  -- a turn with buffers that are long enough
  module _ (m work len : ℕ) (some : 0 < m) (most : m ≤ count) (p : longest ≤ work) (q : longest ≤ len) where
    abbrev piece : List ℕ
    piece = sent run device (count - m)

    there : count - m < count
    there = omega arith

    enough : (n : ℕ) → longest ≤ n → HoldsPiece run n (count - m)
    enough n h = (room-enough r a).few n (count - m) there (omega arith) (omega arith)

    wanted : sending_wanted (at m) ≡ record { number = 0; value = length piece }
    unfolding sending_wanted
    wanted = rw (eq-eqb run.number 0 accepts, ne_eqb m 0 (λ e. omega arith)) ((written-whole r a).long (count - m) there)

    piece-within : length piece ≤ len
    piece-within = let h = (enough len q).0 in let e = ap (λ (c : Counted). c.value) ((written-whole r a).long (count - m) there) in omega arith

    number : send_number (at m) work len ≡ 0
    unfolding send_number
    number = rw (wanted, le-leb (length piece) len piece-within) (write-is r a (count - m) work there (enough work p).1)

    answer : sent_def (at m) work len ≡ record { number = 0; length = length piece; sending = at (m - 1) }
    unfolding sent_def
    answer = rw (number, wanted) refl

  -- ---- a turn hands out the next piece
  module _ (work : ℕ) (p : longest ≤ work) where
    handed-on : (m : ℕ) (xs : List ℕ) → suc m ≤ count → longest ≤ length xs
        → handed (suc m) (at (suc m)) work xs ≡ sent run device (count - suc m) ++ handed m (at m) work (patch 0 (sent run device (count - suc m)) xs)
    unfolding handed
    handed-on m xs h q =
        let s : 0 < suc m = omega arith in
        let k = sent run device (count - suc m) in
        let e : suc m - 1 ≡ m = omega arith in
        rw (answer (suc m) work (length xs) s h p q, number (suc m) work (length xs) s h p q, first-put k xs (piece-within (suc m) work (length xs) s h p q), e) refl

    -- behind those that were sent before, all of them
    all-handed : (m : ℕ) (xs : List ℕ) → m ≤ count → longest ≤ length xs → sent_to run device (count - m) ++ handed m (at m) work xs ≡ sent_all run device
    unfolding handed sent_to
    all-handed zero xs h q = let e : count - 0 ≡ count = omega arith in append-nil (sent_to run device (count - 0)) ∙ ap (sent_to run device) e
    all-handed (suc m) xs h q =
        let k = count - suc m in
        let ys = patch 0 (sent run device k) xs in
        let e : suc k ≡ count - m = omega arith in
        let l : length ys ≡ length xs = length-patch 0 (sent run device k) xs in
        ap (λ (bs : List ℕ). sent_to run device k ++ bs) (handed-on m xs h q)
        ∙ sym (append_assoc (sent_to run device k) (sent run device k) (handed m (at m) work ys))
        ∙ ap (λ (j : ℕ). sent_to run device j ++ handed m (at m) work ys) e
        ∙ all-handed m ys (omega arith) (omega arith)

    whole-list : (xs : List ℕ) → longest ≤ length xs → handed count (at count) work xs ≡ list_bytes (list_of run device)
    unfolding sent_to
    whole-list xs q =
        let e : count - count ≡ 0 = omega arith in
        ap (λ (k : ℕ). sent_to run device k ++ handed count (at count) work xs) (sym e) ∙ all-handed count xs (omega arith) q ∙ (written-whole r a).whole

    -- ---- and leaves one fewer
    after-turns : (n len : ℕ) → n ≤ count → longest ≤ len → sent_on n (at count) work len ≡ at (count - n)
    unfolding sent_on
    after-turns zero len h q = let e : count ≡ count - 0 = omega arith in ap at e
    after-turns (suc n) len h q =
        let e : count - n - 1 ≡ count - suc n = omega arith in
        ap (λ (s : State). (sent_def s work len).sending) (after-turns n len (omega arith) q)
        ∙ ap (λ (t : Sent). t.sending) (answer (count - n) work len (omega arith) (omega arith) p q)
        ∙ ap at e

    accepted-turn : (n len : ℕ) → n < count → longest ≤ len → send_number (sent_on n (at count) work len) work len ≡ 0
    accepted-turn n len h q = rw (after-turns n len (omega arith) q) (number (count - n) work len (omega arith) (omega arith) p q)

    no_more : (len : ℕ) → longest ≤ len → (sent_on count (at count) work len).left ≡ 0
    no_more len q = rw (after-turns count len (omega arith) q) (omega arith)

  longest-most : longest ≤ longest_piece_bytes
  unfolding piece_count
  longest-most =
      let s = (room-enough r a).most in
      let c = (run-bounds r a).groups.count-least in
      omega (arith, (s 1 (omega arith)).0, (s (count - 2) (omega arith)).0)

-- ---- for every input
module _ (xs : List ℕ) (bytes : (i : ℕ) → get_or xs i 0 < 256) where
  abbrev request : Request
  request = parse_def xs

  module _ (e : (accepted xs).number ≡ 0) where
    taken : AcceptedRun request
    taken = accepted-run xs bytes e

    zero_is : (run_of request).number ≡ 0
    unfolding accepted
    zero_is = e

    begun-is : sending_begun xs ≡ at request taken zero_is (piece_count (run_of request))
    unfolding sending_begun accepted
    begun-is = rw (eq-eqb (run_of request).number 0 zero_is, (written-whole request taken).counted) refl

    -- WHAT IS SENT FOR AN ACCEPTED INPUT IS ITS LIST
    pub sends-all : SendsAll (sending_begun xs) (accepted xs) (parse_def xs).device
    unfolding longest_piece accepted
    sends-all =
        rw begun-is (record {
          turns = refl;
          most = longest-most request taken zero_is;
          accepts = λ k work len h p q. accepted-turn request taken zero_is work p k len h q;
          whole = λ work ys p q. whole-list request taken zero_is work p ys q;
          ends = λ work len p q. no_more request taken zero_is work p len q;
        })

  -- AND OF A REFUSED ONE NOTHING
  module _ (e : (accepted xs).number ≡ 0 → ⊥) where
    begun-none : sending_begun xs ≡ sending (accepted xs) request.device 0 0
    unfolding sending_begun
    begun-none = rw (ne_eqb (accepted xs).number 0 e) refl

    none_number : (work len : ℕ) → send_number (sending (accepted xs) request.device 0 0) work len ≡ (accepted xs).number
    unfolding send_number sending_wanted
    none_number work len = rw (ne_eqb (accepted xs).number 0 e, ne_eqb (accepted xs).number 0 e) refl

    pub sends_none : SendsNone (sending_begun xs) (accepted xs).number
    unfolding sent_def
    sends_none =
        let f = ne_eqb (accepted xs).number 0 e in
        rw begun-none (record {
          turns = refl;
          answers = λ work len. rw (none_number work len, f) refl;
          buffer = λ work ys. rw (none_number work (length ys), f) refl;
          work = λ len ws. rw (none_number (length ws) len, f) refl;
        })
