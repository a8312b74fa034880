-- A record that was written is read back: its head, its bytes, and the rest of the list behind them. A part of a head is refused, or asks for more.
-- Assumes nothing.
use mathlib.Core.Path.{◌≡◌, refl, ap, ap₂, sym, ◌∙◌}
use mathlib.Core.Bool.{Bool, true}
use mathlib.Core.List.{List, [], ◌∷◌, ◌++◌, append_assoc}
use Prim.Native.Nat.{ℕ, ◌+◌, ◌^◌, ◌≤◌, ◌<◌}
use native.Mathlib.Omega.{arith}
use lib.Dec.{lit<}
use lib.ListN.{length, take, drop, length-append}
use lib.Seq.{drop_at, take_at, take-take, take-append-add, length-take-le}
use Rattle.endian.specs.Bytes.{be_at, be_bytes}
use Rattle.endian.proofs.Laws.{length-be}
use Rattle.endian.proofs.Fields.{at_part, at-written}
use Rattle.list_records.specs.Records.{Record, WZ, Wb, FL, record_bytes}
use Rattle.list_read.specs.Records.{flush_mark, zeros_mark, bytes_mark, zeros_kind, bytes, head, head_cut, write_head, decode_def, head_said, payload_of, RecordFits}
use Rattle.list_read.proofs.Heads.{write-cut, write-held, no-mark, flush-at, zeros-at, bytes-at}

-- the mark, the offset and the length, before the rest of the list
abbrev pub head_bytes : ℕ → ℕ → ℕ → List ℕ → List ℕ
head_bytes mark at len rest = be_bytes 2 mark ++ (be_bytes 8 at ++ (be_bytes 8 len ++ rest))

-- a record before the rest of the list, by its numbers
abbrev pub encoded : Record → List ℕ → List ℕ
encoded FL rest = be_bytes 2 flush_mark ++ rest
encoded (WZ at len) rest = head_bytes zeros_mark at len rest
encoded (Wb at bs) rest = head_bytes bytes_mark at (length bs) (bs ++ rest)

-- it is the record's bytes
pub record-encoded : (w : Record) (rest : List ℕ) → encoded w rest ≡ record_bytes w ++ rest
unfolding record_bytes be_bytes
record-encoded FL rest = refl
record-encoded (WZ at len) rest = ap (λ (xs : List ℕ). 0x57 ∷ 0x5a ∷ xs) (sym (append_assoc (be_bytes 8 at) (be_bytes 8 len) rest))
record-encoded (Wb at bs) rest =
    let a = be_bytes 8 at in
    let l = be_bytes 8 (length bs) in
    ap (λ (xs : List ℕ). 0x57 ∷ 0x42 ∷ xs) (ap (λ (xs : List ℕ). a ++ xs) (sym (append_assoc l bs rest)) ∙ sym (append_assoc a (l ++ bs) rest))

-- a number behind `pre` is read back
read_behind : (pre : List ℕ) (n v : ℕ) (post : List ℕ) (off : ℕ) → length pre ≡ off → v < 256 ^ n → be_at n off (pre ++ (be_bytes n v ++ post)) ≡ v
read_behind pre n v post off e h =
    at-written n v off (pre ++ (be_bytes n v ++ post)) h
    (ap (take n) (drop_at pre (be_bytes n v ++ post) off e) ∙ take_at (be_bytes n v) post n (length-be n v))

-- ---- the numbers of a head
module _ (mark at len : ℕ) (rest : List ℕ) where
  pub head-long : 18 ≤ length (head_bytes mark at len rest)
  head-long =
      let a = length-append (be_bytes 2 mark) (be_bytes 8 at ++ (be_bytes 8 len ++ rest)) in
      let b = length-append (be_bytes 8 at) (be_bytes 8 len ++ rest) in
      let c = length-append (be_bytes 8 len) rest in
      let d = length-be 2 mark in
      let e = length-be 8 at in
      let f = length-be 8 len in
      omega arith

  pub mark-back : mark < 2 ^ 16 → be_at 2 0 (head_bytes mark at len rest) ≡ mark
  mark-back h = read_behind [] 2 mark (be_bytes 8 at ++ (be_bytes 8 len ++ rest)) 0 refl h

  pub offset-back : at < 2 ^ 64 → be_at 8 2 (head_bytes mark at len rest) ≡ at
  offset-back h = read_behind (be_bytes 2 mark) 8 at (be_bytes 8 len ++ rest) 2 (length-be 2 mark) h

  pub length_back : len < 2 ^ 64 → be_at 8 10 (head_bytes mark at len rest) ≡ len
  length_back h =
      let a = length-append (be_bytes 2 mark) (be_bytes 8 at) in
      let d = length-be 2 mark in
      let e = length-be 8 at in
      ap (be_at 8 10) (sym (append_assoc (be_bytes 2 mark) (be_bytes 8 at) (be_bytes 8 len ++ rest)))
      ∙ read_behind (be_bytes 2 mark ++ be_bytes 8 at) 8 len rest 10 (omega arith) h

  pub write-back : (last : Bool) (kind : ℕ) → at < 2 ^ 64 → len < 2 ^ 64 → head kind at len 18 ≡ write_head last kind (head_bytes mark at len rest)
  write-back last kind h l =
      write-held last kind (head_bytes mark at len rest) at len head-long (sym (offset-back h)) (sym (length_back l))

-- a block's head, whatever follows it
block-head : (last : Bool) (at len : ℕ) (rest : List ℕ) → at < 2 ^ 64 → len < 2 ^ 64 → head bytes at len 18 ≡ decode_def last (head_bytes bytes_mark at len rest)
block-head last at len rest h k =
    let xs = head_bytes bytes_mark at len rest in
    let l = head-long bytes_mark at len rest in
    write-back bytes_mark at len rest last bytes h k ∙ bytes-at last xs bytes_mark (omega arith) (sym (mark-back bytes_mark at len rest (lit< tt))) refl

head-encoded : (last : Bool) (w : Record) (rest : List ℕ) → RecordFits w → head_said w ≡ decode_def last (encoded w rest)
head-encoded last FL rest f =
    let a = length-append (be_bytes 2 flush_mark) rest in
    let d = length-be 2 flush_mark in
    flush-at last (be_bytes 2 flush_mark ++ rest) flush_mark (omega arith) (sym (read_behind [] 2 flush_mark rest 0 refl (lit< tt))) refl
head-encoded last (WZ at len) rest f =
    let xs = head_bytes zeros_mark at len rest in
    let l = head-long zeros_mark at len rest in
    write-back zeros_mark at len rest last zeros_kind f.0 f.1 ∙ zeros-at last xs zeros_mark (omega arith) (sym (mark-back zeros_mark at len rest (lit< tt))) refl
head-encoded last (Wb at bs) rest f = block-head last at (length bs) (bs ++ rest) f.0 f.1

-- The head of a written record is read back, whatever follows it.
pub head-back : (last : Bool) (w : Record) (rest : List ℕ) → RecordFits w → head_said w ≡ decode_def last (record_bytes w ++ rest)
head-back last w rest f = head-encoded last w rest f ∙ ap (decode_def last) (record-encoded w rest)

-- ---- behind the head
module _ (mark at len : ℕ) where
  abbrev head18 : List ℕ
  head18 = be_bytes 2 mark ++ (be_bytes 8 at ++ be_bytes 8 len)

  long18 : length head18 ≡ 18
  long18 =
      let d = length-be 2 mark in
      let e = length-be 8 at in
      let f = length-be 8 len in
      let g = length-append (be_bytes 2 mark) (be_bytes 8 at ++ be_bytes 8 len) in
      let h = length-append (be_bytes 8 at) (be_bytes 8 len) in
      omega arith

  head_apart : (rest : List ℕ) → head_bytes mark at len rest ≡ head18 ++ rest
  head_apart rest =
      let m = be_bytes 2 mark in
      let a = be_bytes 8 at in
      let l = be_bytes 8 len in
      ap (λ (xs : List ℕ). m ++ xs) (sym (append_assoc a l rest)) ∙ sym (append_assoc m (a ++ l) rest)

  rest-of-head : (rest : List ℕ) → drop 18 (head_bytes mark at len rest) ≡ rest
  rest-of-head rest = ap (drop 18) (head_apart rest) ∙ drop_at head18 rest 18 long18

  -- a head and a part of what follows it
  part-behind : (i : ℕ) (rest : List ℕ) → take (18 + i) (head_bytes mark at len rest) ≡ head_bytes mark at len (take i rest)
  part-behind i rest =
      let e : 18 + i ≡ length head18 + i = let l = long18 in omega arith in
      ap₂ (λ (k : ℕ) (xs : List ℕ). take k xs) e (head_apart rest) ∙ take-append-add head18 rest i ∙ sym (head_apart (take i rest))

behind-encoded : (w : Record) (rest : List ℕ) → drop (head_said w).size (encoded w rest) ≡ payload_of w ++ rest
behind-encoded FL rest = drop_at (be_bytes 2 flush_mark) rest 2 (length-be 2 flush_mark)
behind-encoded (WZ at len) rest = rest-of-head zeros_mark at len rest
behind-encoded (Wb at bs) rest = rest-of-head bytes_mark at (length bs) (bs ++ rest)

-- Behind its head stand a record's bytes, and then the rest of the list.
pub behind-head : (w : Record) (rest : List ℕ) → drop (head_said w).size (record_bytes w ++ rest) ≡ payload_of w ++ rest
behind-head w rest = ap (drop (head_said w).size) (sym (record-encoded w rest)) ∙ behind-encoded w rest

pub bytes_back : (w : Record) (rest : List ℕ) → take (length (payload_of w)) (drop (head_said w).size (record_bytes w ++ rest)) ≡ payload_of w
bytes_back w rest = ap (take (length (payload_of w))) (behind-head w rest) ∙ take_at (payload_of w) rest (length (payload_of w)) refl

pub next-back : (w : Record) (rest : List ℕ) → drop (length (payload_of w)) (drop (head_said w).size (record_bytes w ++ rest)) ≡ rest
next-back w rest = ap (drop (length (payload_of w))) (behind-head w rest) ∙ drop_at (payload_of w) rest (length (payload_of w)) refl

-- ---- a part of a head
-- The mark is cut.
pub mark-cut : (last : Bool) (n : ℕ) (xs : List ℕ) → n < 2 → n ≤ length xs → head_cut last ≡ decode_def last (take n xs)
mark-cut last n xs h l =
    let e = length-take-le n xs l in
    no-mark last (take n xs) (omega arith)

-- The mark stands, and the rest of a write's head is cut.
module _ (last : Bool) (n at len : ℕ) (rest : List ℕ) (two : 2 ≤ n) (few : n < 18) where
  shorter : (mark : ℕ) → length (take n (head_bytes mark at len rest)) ≡ n
  shorter mark =
      let l = head-long mark at len rest in
      length-take-le n (head_bytes mark at len rest) (omega arith)

  mark-kept : (mark : ℕ) → mark < 2 ^ 16 → mark ≡ be_at 2 0 (take n (head_bytes mark at len rest))
  mark-kept mark h =
      let xs = head_bytes mark at len rest in
      sym (at_part 2 0 (take n xs) ∙ ap (be_at 2 0) (take-take 2 n xs two) ∙ sym (at_part 2 0 xs) ∙ mark-back mark at len rest h)

  zeros-cut : head_cut last ≡ decode_def last (take n (head_bytes zeros_mark at len rest))
  zeros-cut =
      let xs = take n (head_bytes zeros_mark at len rest) in
      let e = shorter zeros_mark in
      write-cut last zeros_kind xs (omega arith) ∙ zeros-at last xs zeros_mark (omega arith) (mark-kept zeros_mark (lit< tt)) refl

  bytes_cut : head_cut last ≡ decode_def last (take n (head_bytes bytes_mark at len rest))
  bytes_cut =
      let xs = take n (head_bytes bytes_mark at len rest) in
      let e = shorter bytes_mark in
      write-cut last bytes xs (omega arith) ∙ bytes-at last xs bytes_mark (omega arith) (mark-kept bytes_mark (lit< tt)) refl

write-head-cut : (last : Bool) (w : Record) (n : ℕ) (rest : List ℕ) → 2 ≤ n → n < (head_said w).size → head_cut last ≡ decode_def last (take n (encoded w rest))
write-head-cut last FL n rest two few = absurd (omega arith)
write-head-cut last (WZ at len) n rest two few = zeros-cut last n at len rest two few
write-head-cut last (Wb at bs) n rest two few = bytes_cut last n at (length bs) (bs ++ rest) two few

-- A part of a write's head is refused where the list ends with it, and asks for more elsewhere.
pub head-cut : (last : Bool) (w : Record) (n : ℕ) (rest : List ℕ) → 2 ≤ n → n < (head_said w).size → head_cut last ≡ decode_def last (take n (record_bytes w ++ rest))
head-cut last w n rest two few = write-head-cut last w n rest two few ∙ ap (λ (xs : List ℕ). decode_def last (take n xs)) (record-encoded w rest)

-- A block's head stands whole before a part of its bytes.
pub bytes-cut-head : (at i : ℕ) (bs rest : List ℕ) → RecordFits (Wb at bs) → i < length bs
    → (head_said (Wb at bs) ≡ decode_def true (take (18 + i) (record_bytes (Wb at bs) ++ rest))) × (length (drop 18 (take (18 + i) (record_bytes (Wb at bs) ++ rest))) ≡ i)
bytes-cut-head at i bs rest f h =
    let zs = bs ++ rest in
    let l = length-append bs rest in
    let e = part-behind bytes_mark at (length bs) i zs in
    let w = ap (take (18 + i)) (record-encoded (Wb at bs) rest) in (
      block-head true at (length bs) (take i zs) f.0 f.1 ∙ ap (decode_def true) (sym e ∙ w),
      ap (λ (xs : List ℕ). length (drop 18 xs)) (sym w ∙ e) ∙ ap length (rest-of-head bytes_mark at (length bs) (take i zs)) ∙ length-take-le i zs (omega arith),
    )
