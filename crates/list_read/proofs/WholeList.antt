-- A list that was written is read back whole from its bytes, and any proper prefix of these is refused.
-- Assumes nothing.
use mathlib.Core.Path.{◌≡◌, refl, ap, sym, ◌∙◌}
use mathlib.Core.Bool.{Bool, true, false, cond, ◌&&◌}
use mathlib.Core.List.{List, [], ◌∷◌, ◌++◌}
use Prim.Native.Nat.{ℕ, zero, suc, ◌+◌, ◌-◌, ◌≤◌, ◌<◌}
use native.Mathlib.Omega.{arith}
use lib.Dec.{ltb, leb, eqb}
use lib.ListN.{length, take, drop, length-append}
use lib.Seq.{length-take-le, take-append-add}
use borrow.Author.Tests.{le-leb, lt-leb, ne_eqb, eqb-true, eqb-false, ltb-true, ltb-false}
use Rattle.refusals.specs.Numbers.{malformed}
use Rattle.list_records.specs.Records.{Record, WZ, Wb, FL, by_kind, record_bytes, list_bytes}
use Rattle.list_records.proofs.Sizes.{zeros-bytes, block-bytes, flush-bytes}
use Rattle.list_read.specs.declared.Decoded.{Decoded}
use Rattle.list_read.specs.Records.{head_refused, decode_def, head_said, payload_of, RecordFits}
use Rattle.list_read.specs.Flushes.{next_def, ruled, WholeList}
use Rattle.list_read.specs.Whole.{record_of, own, ListRead, read_stopped, read_before, read_from, read_list, AllFit, whole_list, CutOff}
use Rattle.list_read.proofs.Encoded.{head-back, behind-head, bytes_back, next-back, mark-cut, head-cut, bytes-cut-head}
use Rattle.list_read.proofs.Ending.{cut-end, let_by, went_on, whole-list}

-- ---- a record is given by its head and its bytes
own_is : (w : Record) → own (head_said w) ≡ length (payload_of w)
unfolding own
own_is FL = refl
own_is (WZ at len) = refl
own_is (Wb at bs) = refl

record_is : (w : Record) (xs : List ℕ) → take (length (payload_of w)) xs ≡ payload_of w → record_of (head_said w) xs ≡ w
unfolding record_of
record_is FL xs e = refl
record_is (WZ at len) xs e = refl
record_is (Wb at bs) xs e = ap (Wb at) e

number_is : (w : Record) → (head_said w).number ≡ 0
number_is FL = refl
number_is (WZ at len) = refl
number_is (Wb at bs) = refl

-- it has a mark at least
long-is : (w : Record) → length (record_bytes w) ≡ (head_said w).size + length (payload_of w)
long-is FL = flush-bytes
long-is (WZ at len) = zeros-bytes at len
long-is (Wb at bs) = block-bytes at bs

mark-in : (w : Record) → 2 ≤ (head_said w).size
mark-in FL = omega arith
mark-in (WZ at len) = omega arith
mark-in (Wb at bs) = omega arith

-- so a list has no more records than bytes
records-few : (ws : List Record) → length ws ≤ length (list_bytes ws)
unfolding list_bytes
records-few [] = omega arith
records-few (w ∷ ws) =
    let l = length-append (record_bytes w) (list_bytes ws) in
    let h = long-is w in
    let m = mark-in w in
    let r = records-few ws in
    omega arith

-- ---- one record, and the rest behind it
module _ (most n : ℕ) (w : Record) (rest : List ℕ) (before : n < 2) (f : RecordFits w) where
  first_back : record_of (head_said w) (drop (head_said w).size (record_bytes w ++ rest)) ≡ w
  first_back = record_is w (drop (head_said w).size (record_bytes w ++ rest)) (bytes_back w rest)

  others-left : drop (own (head_said w)) (drop (head_said w).size (record_bytes w ++ rest)) ≡ rest
  others-left = ap (λ (k : ℕ). drop k (drop (head_said w).size (record_bytes w ++ rest))) (own_is w) ∙ next-back w rest

  some : length (record_bytes w ++ rest) ≡ 0 → ⊥
  some e = let l = length-append (record_bytes w) rest in let h = long-is w in let m = mark-in w in omega arith

  here : own (head_said w) ≤ length (drop (head_said w).size (record_bytes w ++ rest))
  here =
      let l = length-append (payload_of w) rest in
      let e = ap (λ (xs : List ℕ). length xs) (behind-head w rest) in
      let o = own_is w in
      omega arith

  step_back : read_from (suc most) n (record_bytes w ++ rest) ≡ read_before w (read_from most (n + by_kind 0 0 1 w) rest)
  unfolding read_from
  step_back =
      rw (
        ne_eqb (length (record_bytes w ++ rest)) 0 some,
        ← head-back true w rest f,
        number_is w,
        ← let_by n w before,
        le-leb (own (head_said w)) (length (drop (head_said w).size (record_bytes w ++ rest))) here,
        first_back,
        others-left,
      ) refl

-- ---- a whole list
back_from : (ws : List Record) (most n : ℕ) → length ws < most → ruled n ws ≡ 0 → AllFit ws → read_from most n (list_bytes ws) ≡ whole_list ws
unfolding read_from list_bytes ruled
back_from ws zero n l z f = absurd (omega arith)
back_from [] (suc most) n l z f = rw z refl
back_from (w ∷ ws) (suc most) n l z f =
    let on = went_on n w ws (leb 2 n) refl z in
    step_back most n w (list_bytes ws) on.0 f.0 ∙ ap (read_before w) (back_from ws most (n + by_kind 0 0 1 w) (omega arith) on.1 f.1)

-- ---- a list that is cut

-- no byte is here, and two flushes are not past
none_left : (most n : ℕ) → n < 2 → read_from (suc most) n [] ≡ read_stopped malformed
unfolding read_from
none_left most n h = ap read_stopped (sym (cut-end n (λ e. omega arith)))

-- bytes that no record begins
no-head : (most n : ℕ) (xs : List ℕ) → (length xs ≡ 0 → ⊥) → head_refused ≡ decode_def true xs → read_from (suc most) n xs ≡ read_stopped malformed
unfolding read_from
no-head most n xs l e = rw (ne_eqb (length xs) 0 l, ← e) refl

-- a record whose bytes aren't all here
never : (a b : Bool) (r : ListRead) → cond (a && (b && false)) r (read_stopped malformed) ≡ read_stopped malformed
never true true r = refl
never true false r = refl
never false b r = refl

no_body : (most n : ℕ) (xs : List ℕ) (d : Decoded) → (length xs ≡ 0 → ⊥) → d ≡ decode_def true xs → length (drop d.size xs) < own d → read_from (suc most) n xs ≡ read_stopped malformed
unfolding read_from
no_body most n xs d l e b =
    rw (ne_eqb (length xs) 0 l, ← e, lt-leb (own d) (length (drop d.size xs)) b) (never (eqb d.number 0) (eqb (next_def n d.kind).number 0) _)

-- a part of a record's bytes: of its mark, of its head, or of what follows it
module _ (most n i : ℕ) (rest : List ℕ) (before : n < 2) where
  some_of : (w : Record) → i < length (record_bytes w) → length (take i (record_bytes w ++ rest)) ≡ i
  some_of w h = let l = length-append (record_bytes w) rest in length-take-le i (record_bytes w ++ rest) (omega arith)

  body-cut : (w : Record) → RecordFits w → (head_said w).size ≤ i → i < length (record_bytes w) → read_from (suc most) n (take i (record_bytes w ++ rest)) ≡ read_stopped malformed
  unfolding own
  body-cut FL f s h = let l = flush-bytes in absurd (omega arith)
  body-cut (WZ at len) f s h = let l = zeros-bytes at len in absurd (omega arith)
  body-cut (Wb at bs) f s h =
      let l = block-bytes at bs in
      let e : 18 + (i - 18) ≡ i = omega arith in
      let c = bytes-cut-head at (i - 18) bs rest f (omega arith) in
      let d = rw e at c.1 in
      let t = some_of (Wb at bs) h in
      no_body most n (take i (record_bytes (Wb at bs) ++ rest)) (head_said (Wb at bs)) (λ z. omega arith) (rw e at c.0) (omega arith)

  record-cut : (w : Record) → RecordFits w → (a b c : Bool) → eqb i 0 ≡ a → ltb i 2 ≡ b → ltb i (head_said w).size ≡ c → i < length (record_bytes w)
      → read_from (suc most) n (take i (record_bytes w ++ rest)) ≡ read_stopped malformed
  record-cut w f true b c p q s h = rw (eqb-true i 0 p) (none_left most n before)
  record-cut w f false true c p q s h =
      let k = eqb-false i 0 p in
      let t = some_of w h in
      let l = length-append (record_bytes w) rest in
      no-head most n (take i (record_bytes w ++ rest)) (λ z. k (omega arith)) (mark-cut true i (record_bytes w ++ rest) (ltb-true i 2 q) (omega arith))
  record-cut w f false false true p q s h =
      let k = eqb-false i 0 p in
      let t = some_of w h in
      no-head most n (take i (record_bytes w ++ rest)) (λ z. k (omega arith)) (head-cut true w i rest (ltb-false i 2 q) (ltb-true i (head_said w).size s))
  record-cut w f false false false p q s h = body-cut w f (ltb-false i (head_said w).size s) h

-- all of a record, and a part of the rest
cut-rest : (w : Record) (i : ℕ) (rest : List ℕ) → length (record_bytes w) ≤ i → take i (record_bytes w ++ rest) ≡ record_bytes w ++ take (i - length (record_bytes w)) rest
cut-rest w i rest h =
    let e : length (record_bytes w) + (i - length (record_bytes w)) ≡ i = omega arith in
    ap (λ (k : ℕ). take k (record_bytes w ++ rest)) (sym e) ∙ take-append-add (record_bytes w) rest (i - length (record_bytes w))

cut-behind : (w : Record) (ws : List Record) (r : ListRead) → CutOff ws r → CutOff (w ∷ ws) (read_before w r)
cut-behind w ws r c = (c.0, (c.1.0, ap (λ (vs : List Record). w ∷ vs) c.1.1))

-- nothing was read
none_read : (ws : List Record) (n : ℕ) (xs : List ℕ) → CutOff ws (read_from zero n xs)
unfolding read_from
none_read ws n xs = (refl, (ws, refl))

-- by where the cut lies: in the first record, or behind it
cut_at : (w : Record) (ws : List Record) (most n i : ℕ) (b : Bool) → ltb i (length (record_bytes w)) ≡ b → i < length (record_bytes w ++ list_bytes ws) → n < 2 → RecordFits w
    → ((j : ℕ) → j < length (list_bytes ws) → CutOff ws (read_from most (n + by_kind 0 0 1 w) (take j (list_bytes ws))))
    → CutOff (w ∷ ws) (read_from (suc most) n (take i (record_bytes w ++ list_bytes ws)))
cut_at w ws most n i true e h k f behind =
    rw (record-cut most n i (list_bytes ws) k w f (eqb i 0) (ltb i 2) (ltb i (head_said w).size) refl refl refl (ltb-true i (length (record_bytes w)) e)) (refl, (w ∷ ws, refl))
cut_at w ws most n i false e h k f behind =
    let l = length-append (record_bytes w) (list_bytes ws) in
    let j = i - length (record_bytes w) in
    let m = ltb-false i (length (record_bytes w)) e in
    rw (cut-rest w i (list_bytes ws) m, step_back most n w (take j (list_bytes ws)) k f) (cut-behind w ws (read_from most (n + by_kind 0 0 1 w) (take j (list_bytes ws))) (behind j (omega arith)))

cut-from : (ws : List Record) (most n i : ℕ) → i < length (list_bytes ws) → ruled n ws ≡ 0 → AllFit ws → CutOff ws (read_from most n (take i (list_bytes ws)))
unfolding list_bytes
cut-from ws zero n i h z f = none_read ws n (take i (list_bytes ws))
cut-from [] (suc most) n i h z f = absurd (omega arith)
cut-from (w ∷ ws) (suc most) n i h z f =
    let on = went_on n w ws (leb 2 n) refl z in
    cut_at w ws most n i (ltb i (length (record_bytes w))) refl h on.0 f.0 (λ j l. cut-from ws most (n + by_kind 0 0 1 w) j l on.1 f.1)

-- ---- a list of records that fit, with two flushes, the second last
module _ (ws : List Record) (f : AllFit ws) (w : WholeList ws) where
  -- its bytes are read back as its records
  pub list_back : read_list (list_bytes ws) ≡ whole_list ws
  unfolding read_list
  list_back = back_from ws (suc (length (list_bytes ws))) 0 (let l = records-few ws in omega arith) ((whole-list ws).1 w) f

  -- and cut at any byte they are refused: what was read until then are its first records
  pub list-cut : (i : ℕ) → i < length (list_bytes ws) → CutOff ws (read_list (take i (list_bytes ws)))
  unfolding read_list
  list-cut i h = cut-from ws (suc (length (take i (list_bytes ws)))) 0 i h ((whole-list ws).1 w) f
