-- What is read is what was written: bytes that are read as a whole list are the bytes of its records.
-- Assumes nothing.
use mathlib.Core.Path.{◌≡◌, refl, ap, ap₂, sym, ◌∙◌}
use mathlib.Core.Bool.{Bool, true, false, true≢false, cond, ◌&&◌}
use mathlib.Core.List.{List, [], ◌∷◌, ◌++◌}
use mathlib.Core.Logic.{◌↔◌}
use Prim.Native.Nat.{ℕ, zero, suc, ◌+◌, ◌*◌, ◌/◌, ◌%◌, ◌≤◌, ◌<◌}
use native.Mathlib.Omega.{arith}
use lib.Dec.{leb, eqb}
use lib.ListN.{length, take, drop, get_or, take-append-drop, length-drop}
use lib.Seq.{take-suc, get_or-drop, drop-drop, length-take-le}
use borrow.Author.Tests.{leb-true, eqb-true}
use Rattle.refusals.specs.Numbers.{malformed}
use Rattle.endian.specs.Bytes.{be_at, be_bytes}
use Rattle.endian.specs.Fields.{part}
use Rattle.endian.proofs.Laws.{at_more, at_bound}
use Rattle.endian.proofs.Widths.{be-last}
use Rattle.list_records.specs.Records.{Record, WZ, Wb, FL, record_bytes, list_bytes}
use Rattle.list_read.specs.declared.Decoded.{Decoded}
use Rattle.list_read.specs.Records.{flush_mark, zeros_mark, bytes_mark, flush, zeros_kind, bytes, head, head_refused, write_head, decode_def, head_said, RecordFits}
use Rattle.list_read.specs.Flushes.{next_def, ended_def, ruled, WholeList}
use Rattle.list_read.specs.Whole.{record_of, own, ListRead, read_stopped, read_before, read_from, read_list, AllFit, whole_list}
use Rattle.list_read.proofs.Ending.{whole-list}
use Rattle.list_read.proofs.Encoded.{record-encoded}
use Rattle.list_read.proofs.WholeList.{list_back}

-- every number is a byte
abbrev Octets : List ℕ → Type 0
Octets xs = (i : ℕ) → get_or xs i 0 < 256

-- ---- a number that is read has the bytes that it was read from
low_byte : (a b : ℕ) → b < 256 → ((a * 256 + b) / 256 ≡ a) × ((a * 256 + b) % 256 ≡ b)
low_byte a b h = (omega arith, omega arith)

be-at : (n off : ℕ) (xs : List ℕ) → Octets xs → off + n ≤ length xs → be_bytes n (be_at n off xs) ≡ part off n xs
unfolding be_bytes be_at
be-at zero off xs o h = refl
be-at (suc n) off xs o h =
    let a = be_at n off xs in
    let b = get_or xs (off + n) 0 in
    let l = length-drop off xs in
    let m = low_byte a b (o (off + n)) in
    ap (be_bytes (suc n)) (at_more n off xs) ∙ be-last n (a * 256 + b)
    ∙ ap₂ (λ (k : ℕ) (j : ℕ). be_bytes n k ++ (j ∷ [])) m.0 m.1
    ∙ ap₂ (λ (bs : List ℕ) (j : ℕ). bs ++ (j ∷ [])) (be-at n off xs o (omega arith)) (sym (get_or-drop off xs n 0))
    ∙ sym (take-suc (drop off xs) n 0 (omega arith))

module _ (xs : List ℕ) (o : Octets xs) where
  abbrev mark : ℕ
  mark = be_at 2 0 xs

  abbrev offset : ℕ
  offset = be_at 8 2 xs

  abbrev size : ℕ
  size = be_at 8 10 xs

  -- a number, and the rest behind it
  joined : (n off : ℕ) → off + n ≤ length xs → be_bytes n (be_at n off xs) ++ drop (off + n) xs ≡ drop off xs
  joined n off h = ap₂ (λ (ms bs : List ℕ). ms ++ bs) (be-at n off xs o h) (sym (drop-drop n off xs)) ∙ take-append-drop n (drop off xs)

  -- a mark, and a whole head
  mark-joined : 2 ≤ length xs → be_bytes 2 mark ++ drop 2 xs ≡ xs
  mark-joined h = joined 2 0 h

  head-joined : 18 ≤ length xs → be_bytes 2 mark ++ (be_bytes 8 offset ++ (be_bytes 8 size ++ drop 18 xs)) ≡ xs
  head-joined h =
      ap (λ (bs : List ℕ). be_bytes 2 mark ++ (be_bytes 8 offset ++ bs)) (joined 8 10 h)
      ∙ ap (λ (bs : List ℕ). be_bytes 2 mark ++ bs) (joined 8 2 (omega arith))
      ∙ mark-joined (omega arith)

  -- ---- the record that a head gives: its kind, its numbers, and the bytes that it was read from
  record Read (d : Decoded) : Type 0 where
    kind : (head_said (record_of d (drop d.size xs))).kind ≡ d.kind
    fit : RecordFits (record_of d (drop d.size xs))
    back : record_bytes (record_of d (drop d.size xs)) ++ drop (own d) (drop d.size xs) ≡ xs

  read-flush : 2 ≤ length xs → mark ≡ flush_mark → Read (head flush 0 0 2)
  unfolding record_of own
  read-flush h e =
      record {
        kind = refl;
        fit = (omega arith, omega arith);
        back = sym (record-encoded FL (drop 2 xs)) ∙ ap (λ (m : ℕ). be_bytes 2 m ++ drop 2 xs) (sym e) ∙ mark-joined h;
      }

  read-zeros : 18 ≤ length xs → mark ≡ zeros_mark → Read (head zeros_kind offset size 18)
  unfolding record_of own
  read-zeros h e =
      record {
        kind = refl;
        fit = (at_bound 8 2 xs o, at_bound 8 10 xs o);
        back =
            sym (record-encoded (WZ offset size) (drop 18 xs))
            ∙ ap (λ (m : ℕ). be_bytes 2 m ++ (be_bytes 8 offset ++ (be_bytes 8 size ++ drop 18 xs))) (sym e)
            ∙ head-joined h;
      }

  read-bytes : 18 ≤ length xs → mark ≡ bytes_mark → size ≤ length (drop 18 xs) → Read (head bytes offset size 18)
  unfolding record_of own
  read-bytes h e l =
      let t = length-take-le size (drop 18 xs) l in
      record {
        kind = refl;
        fit = (at_bound 8 2 xs o, rw t (at_bound 8 10 xs o));
        back =
            sym (record-encoded (Wb offset (take size (drop 18 xs))) (drop size (drop 18 xs)))
            ∙ ap₂ (λ (n : ℕ) (bs : List ℕ). be_bytes 2 bytes_mark ++ (be_bytes 8 offset ++ (be_bytes 8 n ++ bs))) t (take-append-drop size (drop 18 xs))
            ∙ ap (λ (m : ℕ). be_bytes 2 m ++ (be_bytes 8 offset ++ (be_bytes 8 size ++ drop 18 xs))) (sym e)
            ∙ head-joined h;
      }

  abbrev by_tests : Bool → Bool → Bool → Bool → Bool → Decoded
  by_tests a l f z b =
      cond a (cond f (head flush 0 0 2) (cond z (cond l (head zeros_kind offset size 18) head_refused) (cond b (cond l (head bytes offset size 18) head_refused) head_refused))) head_refused

  read_by : (a l f z b : Bool) → leb 2 (length xs) ≡ a → leb 18 (length xs) ≡ l → eqb mark flush_mark ≡ f → eqb mark zeros_mark ≡ z → eqb mark bytes_mark ≡ b
      → (by_tests a l f z b).number ≡ 0 → own (by_tests a l f z b) ≤ length (drop (by_tests a l f z b).size xs) → Read (by_tests a l f z b)
  unfolding own
  read_by false l f z b p q r s t e h = absurd (omega arith)
  read_by true l true z b p q r s t e h = read-flush (leb-true 2 (length xs) p) (eqb-true mark flush_mark r)
  read_by true true false true b p q r s t e h = read-zeros (leb-true 18 (length xs) q) (eqb-true mark zeros_mark s)
  read_by true false false true b p q r s t e h = absurd (omega arith)
  read_by true true false false true p q r s t e h = read-bytes (leb-true 18 (length xs) q) (eqb-true mark bytes_mark t) h
  read_by true false false false true p q r s t e h = absurd (omega arith)
  read_by true l false false false p q r s t e h = absurd (omega arith)

  decoded-read : (decode_def true xs).number ≡ 0 → own (decode_def true xs) ≤ length (drop (decode_def true xs).size xs) → Read (decode_def true xs)
  unfolding decode_def write_head
  decoded-read = read_by (leb 2 (length xs)) (leb 18 (length xs)) (eqb mark flush_mark) (eqb mark zeros_mark) (eqb mark bytes_mark) refl refl refl refl refl

-- ---- all that were read
record Written (n : ℕ) (xs : List ℕ) (ws : List Record) : Type 0 where
  fit : AllFit ws
  rule : ruled n ws ≡ 0
  back : list_bytes ws ≡ xs

all_three : (a b c : Bool) → (a && (b && c)) ≡ true → (a ≡ true) × ((b ≡ true) × (c ≡ true))
all_three true true true e = (refl, (refl, refl))
all_three true true false e = absurd (true≢false (sym e))
all_three true false c e = absurd (true≢false (sym e))
all_three false b c e = absurd (true≢false (sym e))

empty-is : (xs : List ℕ) → length xs ≡ 0 → [] ≡ xs
empty-is [] e = refl
empty-is (x ∷ xs) e = absurd (omega arith)

module _ (most n : ℕ) (xs : List ℕ) (o : Octets xs)
    (behind : (m : ℕ) (ys : List ℕ) → Octets ys → (read_from most m ys).number ≡ 0 → Written m ys (read_from most m ys).records) where
  abbrev d : Decoded
  d = decode_def true xs

  abbrev rest : List ℕ
  rest = drop (own d) (drop d.size xs)

  abbrev by_case : Bool → Bool → ListRead
  by_case a b =
      cond a (read_stopped (ended_def n))
      (cond b (read_before (record_of d (drop d.size xs)) (read_from most (next_def n d.kind).flushes rest)) (read_stopped malformed))

  octets-rest : Octets rest
  octets-rest i = rw (get_or-drop (own d) (drop d.size xs) i 0, get_or-drop d.size xs (own d + i) 0) (o (d.size + (own d + i)))

  rule-on : (w : Record) (ws : List Record) → (head_said w).kind ≡ d.kind → (next_def n d.kind).number ≡ 0 → ruled (next_def n d.kind).flushes ws ≡ 0 → ruled n (w ∷ ws) ≡ 0
  unfolding ruled
  rule-on w ws e z r = rw (e, z) r

  from-case : (a b : Bool) → eqb (length xs) 0 ≡ a → (eqb d.number 0 && (eqb (next_def n d.kind).number 0 && leb (own d) (length (drop d.size xs)))) ≡ b
      → (by_case a b).number ≡ 0 → Written n xs (by_case a b).records
  unfolding ruled list_bytes
  from-case true b p q e = record { fit = tt; rule = e; back = empty-is xs (eqb-true (length xs) 0 p) }
  from-case false false p q e = absurd (omega arith)
  from-case false true p q e =
      let t = all_three (eqb d.number 0) (eqb (next_def n d.kind).number 0) (leb (own d) (length (drop d.size xs))) q in
      let r = decoded-read xs o (eqb-true d.number 0 t.0) (leb-true (own d) (length (drop d.size xs)) t.1.1) in
      let w = record_of d (drop d.size xs) in
      let v = behind (next_def n d.kind).flushes rest octets-rest e in
      record {
        fit = (r.fit, v.fit);
        rule = rule-on w (read_from most (next_def n d.kind).flushes rest).records r.kind (eqb-true (next_def n d.kind).number 0 t.1.0) v.rule;
        back = ap (λ (bs : List ℕ). record_bytes w ++ bs) v.back ∙ r.back;
      }

from-read : (most n : ℕ) (xs : List ℕ) → Octets xs → (read_from most n xs).number ≡ 0 → Written n xs (read_from most n xs).records
unfolding read_from
from-read zero n xs o e = absurd (omega arith)
from-read (suc most) n xs o e = from-case most n xs o (from-read most) (eqb (length xs) 0) _ refl refl e

-- BYTES ARE READ AS A WHOLE LIST EXACTLY WHERE THEY ARE THE BYTES OF ITS RECORDS, which fit and of which the second flush is the last
module _ (xs : List ℕ) (o : Octets xs) (ws : List Record) where
  is_read : read_list xs ≡ whole_list ws → WholeList ws × (AllFit ws × (list_bytes ws ≡ xs))
  unfolding read_list
  is_read e =
      let v = from-read (suc (length xs)) 0 xs o (ap (λ (r : ListRead). r.number) e) in
      let r : (read_from (suc (length xs)) 0 xs).records ≡ ws = ap (λ (r : ListRead). r.records) e in
      let u : Written 0 xs ws = rw r at v in
      ((whole-list ws).0 u.rule, (u.fit, u.back))

  pub list-exact : (read_list xs ≡ whole_list ws) ↔ (WholeList ws × (AllFit ws × (list_bytes ws ≡ xs)))
  list-exact = (is_read, λ h. ap read_list (sym h.1.1) ∙ list_back ws h.1.0 h.0)
