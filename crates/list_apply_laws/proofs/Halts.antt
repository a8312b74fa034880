-- The bytes of a list end in a record: nothing of it is done.
-- Assumes nothing.
use mathlib.Core.Path.{◌≡◌, refl, sym, ap, ◌∙◌}
use mathlib.Core.Bool.{Bool, true, false}
use mathlib.Core.List.{List, [], ◌∷◌, ◌++◌, append-nil}
use Prim.Native.Nat.{ℕ, zero, suc, ◌+◌, ◌≤◌, ◌<◌, min}
use native.Mathlib.Omega.{arith}
use lib.Dec.{ltb, eqb}
use lib.ListN.{length, take, drop, length-take, length-drop}
use lib.Seq.{take_all, take-take}
use borrow.Author.Tests.{ltb-true, ltb-false, ne_eqb, lt-ltb}
use Rattle.list_records.specs.Records.{Record, WZ, Wb, FL, record_bytes}
use Rattle.list_records.proofs.Sizes.{zeros-bytes, block-bytes, flush-bytes}
use Rattle.list_read.specs.Records.{bytes, head_incomplete, head_refused, decode_def, head_said, RecordFits}
use Rattle.list_read.proofs.Encoded.{head-cut}
use Rattle.list_read.proofs.Ending.{as_many, cut-end}
use Rattle.list_apply.specs.declared.Applying.{Applying as State}
use Rattle.list_apply.specs.Applying.{goes_on, list_cut, list_malformed, held, past, state, following_of, head_next, applying_wanted, input_ended, waits_def, fed_decoded, applying_fed_head, fed_bytes, applying_fed}
use Rattle.list_apply_laws.specs.Lists.{point, asked, turn_on, Reach, Within, InOne}
use Rattle.list_apply_laws.proofs.Pieces.{reach-none, reach_step}
use Rattle.list_apply_laws.proofs.Applied.{zeros-marked, bytes-marked, first-18, block-head, mark-turn, head-turn}

-- Turns that do nothing more, and stop.
pub record Halt (size : ℕ) (s : State) (xs : List ℕ) : Type 0 where
  pub end : State
  pub rest : List ℕ
  pub go : (done : List Record) → Reach size (point s xs done) (point end rest done)
  pub stops : end.stop ≡ goes_on → ⊥

module _ (size : ℕ) (s t : State) (xs ys : List ℕ) (turn : (done : List Record) → turn_on size (point s xs done) ≡ point t ys (done ++ [])) where
  turned : (done : List Record) → turn_on size (point s xs done) ≡ point t ys done
  turned done = turn done ∙ ap (point t ys) (append-nil done)

  -- by one turn, and by one and others
  halt-by : (t.stop ≡ goes_on → ⊥) → Halt size s xs
  halt-by n =
      record {
        end = t;
        rest = ys;
        go = λ done. reach_step size (point s xs done) (point t ys done) (point t ys done) (turned done) (reach-none size (point t ys done));
        stops = n;
      }

  halt-behind : Halt size t ys → Halt size s xs
  halt-behind h =
      record {
        end = h.end;
        rest = h.rest;
        go = λ done. reach_step size (point s xs done) (point t ys done) (point h.end h.rest done) (turned done) (h.go done);
        stops = h.stops;
      }

half-mark : (c : ℕ) → head_refused ≡ decode_def true (c ∷ [])
unfolding decode_def
half-mark c = refl

-- before its head is whole
module _ (size limit first o flushes kind off left : ℕ) (before : flushes < 2) (next : head_next (state limit first goes_on false o flushes kind off left) ≡ true)
    (mark : (m : ℕ) (ys : List ℕ) (done : List Record) → decode_def false (0x57 ∷ m ∷ []) ≡ head_incomplete
    → turn_on size (point (state limit first goes_on false o flushes kind off left) (0x57 ∷ m ∷ ys) done) ≡ point (state limit first goes_on true o flushes kind off left) (0x57 ∷ m ∷ ys) (done ++ [])) where
  abbrev fresh : State
  fresh = state limit first goes_on false o flushes kind off left

  abbrev marked : State
  marked = state limit first goes_on true o flushes kind off left

  next-marked : head_next marked ≡ true
  unfolding head_next
  next-marked = next

  none_here : (done : List Record) → turn_on size (point fresh [] done) ≡ point (state limit first list_cut false o flushes kind off left) [] (done ++ [])
  unfolding turn_on applying_wanted applying_fed applying_fed_head input_ended asked
  none_here done = rw (next, ← cut-end flushes (λ e. omega arith)) refl

  one-here : (c : ℕ) (done : List Record) → turn_on size (point fresh (c ∷ []) done) ≡ point (state limit first list_malformed false o flushes kind off left) [] (done ++ [])
  unfolding turn_on applying_wanted applying_fed applying_fed_head fed_decoded asked
  one-here c done = rw (next, ← half-mark c) refl

  part-here : (xs : List ℕ) → length xs < 18 → head_refused ≡ decode_def true xs → (done : List Record)
      → turn_on size (point marked xs done) ≡ point (state limit first list_malformed true o flushes kind off left) xs (done ++ [])
  unfolding turn_on applying_wanted applying_fed applying_fed_head fed_decoded asked
  part-here xs few e done = rw (next-marked, take_all 18 xs (omega arith), lt-ltb (length xs) 18 few, ← e) refl

  halt-one : (c : ℕ) → Halt size fresh (c ∷ [])
  halt-one c = halt-by size fresh (state limit first list_malformed false o flushes kind off left) (c ∷ []) [] (one-here c) (λ e. omega arith)

  halt-part : (m : ℕ) (ys : List ℕ) → decode_def false (0x57 ∷ m ∷ []) ≡ head_incomplete → length (0x57 ∷ m ∷ ys) < 18 → head_refused ≡ decode_def true (0x57 ∷ m ∷ ys) → Halt size fresh (0x57 ∷ m ∷ ys)
  halt-part m ys d few e =
      let xs : List ℕ = 0x57 ∷ m ∷ ys in
      halt-behind size fresh marked xs xs (λ done. mark m ys done d)
      (halt-by size marked (state limit first list_malformed true o flushes kind off left) xs xs (part-here xs few e) (λ z. omega arith))

  pub halt-head : (w : Record) (i : ℕ) (rest : List ℕ) → i < (head_said w).size → Halt size fresh (take i (record_bytes w ++ rest))
  unfolding record_bytes
  halt-head w zero rest h = halt-by size fresh (state limit first list_cut false o flushes kind off left) [] [] none_here (λ e. omega arith)
  halt-head FL (suc zero) rest h = halt-one 0x46
  halt-head (WZ a n) (suc zero) rest h = halt-one 0x57
  halt-head (Wb a bs) (suc zero) rest h = halt-one 0x57
  halt-head FL (suc (suc j)) rest h = absurd (omega arith)
  halt-head (WZ a n) (suc (suc j)) rest h =
      let l = length-take (suc (suc j)) (record_bytes (WZ a n) ++ rest) in
      halt-part 0x5a _ zeros-marked (omega arith) (head-cut true (WZ a n) (suc (suc j)) rest (omega arith) h)
  halt-head (Wb a bs) (suc (suc j)) rest h =
      let l = length-take (suc (suc j)) (record_bytes (Wb a bs) ++ rest) in
      halt-part 0x42 _ bytes-marked (omega arith) (head-cut true (Wb a bs) (suc (suc j)) rest (omega arith) h)

-- in a block's bytes, which come in one piece
module _ (size limit o flushes off l : ℕ) (zs : List ℕ) (few : length zs < l) (one : l ≤ size) where
  body-here : (done : List Record) → turn_on size (point (state limit past goes_on false o flushes bytes off l) zs done) ≡ point (state limit past list_malformed false o flushes bytes off l) (drop l zs) (done ++ [])
  unfolding turn_on applying_wanted head_next applying_fed fed_bytes asked
  body-here done =
      let m : min l size ≡ l = omega arith in
      rw (ne_eqb l 0 (λ e. omega arith), m, take_all l zs (omega arith), lt-ltb (length zs) l few) refl

  pub halt-body : Halt size (state limit past goes_on false o flushes bytes off l) zs
  halt-body = halt-by size (state limit past goes_on false o flushes bytes off l) (state limit past list_malformed false o flushes bytes off l) zs (drop l zs) body-here (λ e. omega arith)

-- a block's head before a part of its bytes
module _ (a i : ℕ) (bs rest : List ℕ) (f : RecordFits (Wb a bs)) (h : 18 ≤ i) where
  pub part-head : head_said (Wb a bs) ≡ decode_def false (take 18 (take i (record_bytes (Wb a bs) ++ rest)))
  part-head = block-head rest a bs f ∙ ap (decode_def false) (sym (take-take 18 i (record_bytes (Wb a bs) ++ rest) h))

  pub part-18 : length (take 18 (take i (record_bytes (Wb a bs) ++ rest))) ≡ 18
  part-18 =
      let z = block-bytes a bs in
      ap length (take-take 18 i (record_bytes (Wb a bs) ++ rest) h) ∙ first-18 rest (Wb a bs) (omega arith)

  pub part-few : i < length (record_bytes (Wb a bs)) → length (drop 18 (take i (record_bytes (Wb a bs) ++ rest))) < length bs
  part-few k =
      let z = block-bytes a bs in
      let d = length-drop 18 (take i (record_bytes (Wb a bs) ++ rest)) in
      let t = length-take i (record_bytes (Wb a bs) ++ rest) in
      omega arith

pub head_in : (w : Record) → (head_said w).size ≤ length (record_bytes w)
head_in FL = let l = flush-bytes in omega arith
head_in (WZ a n) = let l = zeros-bytes a n in omega arith
head_in (Wb a bs) = let l = block-bytes a bs in omega arith

-- anywhere in a record that needn't wait
module _ (size limit first o flushes kind off : ℕ) (free : eqb first held ≡ false) (before : flushes < 2) (rest : List ℕ) where
  pub next-free : head_next (state limit first goes_on false o flushes kind off 0) ≡ true
  unfolding head_next
  next-free = rw free refl

  halt-block : (a i : ℕ) (bs : List ℕ) → RecordFits (Wb a bs) → Within limit (Wb a bs) → length bs ≤ size → waits_def first bytes ≡ false → 18 ≤ i → i < length (record_bytes (Wb a bs))
      → Halt size (state limit first goes_on false o flushes kind off 0) (take i (record_bytes (Wb a bs) ++ rest))
  unfolding record_bytes
  halt-block a zero bs f n q v h k = absurd (omega arith)
  halt-block a (suc zero) bs f n q v h k = absurd (omega arith)
  halt-block a (suc (suc j)) bs f n q v h k =
      let i = suc (suc j) in
      let xs = take i (record_bytes (Wb a bs) ++ rest) in
      let s = state limit first goes_on false o flushes kind off 0 in
      let m = state limit first goes_on true o flushes kind off 0 in
      let t = state limit past goes_on false (following_of o (length bs)) flushes bytes a (length bs) in
      halt-behind size s m xs xs (λ done. mark-turn size limit first o flushes kind off free before 0x42 _ done bytes-marked)
      (halt-behind size m t xs (drop 18 xs)
      (λ done. head-turn size limit first o flushes kind off free before xs bytes a (length bs) done (part-head a i bs rest f h) (part-18 a i bs rest f h) v refl refl
      (as_many flushes bytes before (λ e. omega arith)) n)
      (halt-body size limit (following_of o (length bs)) flushes a (length bs) (drop 18 xs) (part-few a i bs rest f h k) q))

  pub halt-record : (w : Record) (i : ℕ) → RecordFits w → Within limit w → InOne size w → waits_def first (head_said w).kind ≡ false → i < length (record_bytes w) → (b : Bool) → ltb i (head_said w).size ≡ b
      → Halt size (state limit first goes_on false o flushes kind off 0) (take i (record_bytes w ++ rest))
  halt-record w i f n q v h true e =
      halt-head size limit first o flushes kind off 0 before next-free (mark-turn size limit first o flushes kind off free before) w i rest (ltb-true i (head_said w).size e)
  halt-record FL i f n q v h false e = let k = ltb-false i 2 e in let l = flush-bytes in absurd (omega arith)
  halt-record (WZ a l) i f n q v h false e = let k = ltb-false i 18 e in let z = zeros-bytes a l in absurd (omega arith)
  halt-record (Wb a bs) i f n q v h false e = halt-block a i bs f n (omega (arith, q)) v (ltb-false i 18 e) h
