-- Records one behind the other, each read at its own offset: what a list of such pieces is as a list of records.
-- Assumes nothing.
use mathlib.Core.Path.{◌≡◌, refl, sym, ap, ◌∙◌}
use mathlib.Core.List.{List, [], ◌∷◌, ◌++◌, append_assoc, append-nil}
use Prim.Native.Nat.{ℕ, ◌+◌, ◌-◌, ◌^◌, ◌≤◌, ◌<◌, min}
use native.Mathlib.Omega.{arith}
use lib.ListN.{length, get_or, take, replicate, length-append}
use lib.Seq.{drop-append-add, drop_at, take_at, get_or-append-add}
use Rattle.endian.specs.Bytes.{be_bytes, be_at}
use Rattle.endian.specs.Fields.{part}
use Rattle.endian.proofs.Laws.{length-be}
use Rattle.endian.proofs.Fields.{at-written}
use Rattle.request.specs.Cases.{dv, op, lb, id}
use Rattle.request.specs.Options.{label_at}
use Rattle.request_input.specs.declared.Record.{Record}
use Rattle.request_input.specs.Records.{entry, whole_record, record_at, records}
use Rattle.request_input.proofs.Marks.{held, device-at, option-at, label-at, uuid-at}
use Rattle.request_input.proofs.Splitting.{records-end, records-more}

-- the bytes of a record, its key, and its value by its offset
pub record Piece : Type 0 where
  pub bytes : List ℕ
  pub key : ℕ
  pub value : ℕ → ℕ

abbrev pub at_offset : Piece → ℕ → Record
at_offset p at = entry p.key (p.value at) (at + length p.bytes)

-- it is read wherever it stands, and has a byte at least
pub record Reads (p : Piece) : Type 0 where
  pub reads : (pre post : List ℕ) → record_at (length pre) (pre ++ (p.bytes ++ post)) ≡ at_offset p (length pre)
  pub some : 0 < length p.bytes

abbrev pub All : List Piece → Type 0
All [] = Unit {0}
All (p ∷ ps) = Reads p × All ps

unfoldable pub joined : List Piece → List ℕ
joined [] = []
joined (p ∷ ps) = p.bytes ++ joined ps

unfoldable pub entries : ℕ → List Piece → List Record
entries at [] = []
entries at (p ∷ ps) = at_offset p at ∷ entries (at + length p.bytes) ps

pub records-are : (pre : List ℕ) (ps : List Piece) → All ps → records (length pre) (pre ++ joined ps) ≡ entries (length pre) ps
unfolding joined entries
records-are pre [] a = rw append-nil (records-end pre (length pre) (omega arith))
records-are pre (p ∷ ps) a =
    let b = p.bytes in
    let xs = pre ++ (b ++ joined ps) in
    let s = a.0.some in
    let m : length xs ≡ length pre + (length b + length (joined ps)) = simp length-append in
    let e = a.0.reads pre (joined ps) in
    let n : length pre + length b ≡ length (pre ++ b) = sym (length-append pre b) in
    records-more xs (length pre) (omega arith)
    ∙ rw e (ap (λ (rs : List Record). at_offset p (length pre) ∷ rs)
    (ap (λ (ys : List ℕ). records (length pre + length b) ys) (sym (append_assoc pre b (joined ps)))
    ∙ rw n (records-are (pre ++ b) ps a.1)))

-- ---- a number inside appended lists
pub field_at : (n v k : ℕ) (pre mid post : List ℕ) → length mid ≡ k → v < 256 ^ n → be_at n (length pre + k) (pre ++ (mid ++ (be_bytes n v ++ post))) ≡ v
field_at n v k pre mid post l h =
    at-written n v (length pre + k) (pre ++ (mid ++ (be_bytes n v ++ post))) h
    (ap (take n) (drop-append-add pre (mid ++ (be_bytes n v ++ post)) k ∙ drop_at mid (be_bytes n v ++ post) k l) ∙ take_at (be_bytes n v) post n (length-be n v))

-- ---- the four kinds
abbrev pub device-piece : ℕ → ℕ → ℕ → Piece
device-piece a b c = record { bytes = dv a b c; key = 0; value = λ at. at + 2 }

abbrev pub option-piece : ℕ → ℕ → Piece
option-piece c v = record { bytes = op c v; key = 3 + c; value = λ at. v }

abbrev pub label-piece : List ℕ → Piece
label-piece bs = record { bytes = lb bs; key = 1; value = λ at. at + 2 }

abbrev pub uuid-piece : List ℕ → Piece
uuid-piece bs = record { bytes = id bs; key = 2; value = λ at. at + 2 }

mark-at : (m : ℕ) (pre post : List ℕ) → m < 65536 → m ≡ be_at 2 (length pre) (pre ++ (be_bytes 2 m ++ post))
mark-at m pre post h = let z : length pre + 0 ≡ length pre = omega arith in sym (rw z at (field_at 2 m 0 pre [] post refl h))

pub device-reads : (a b c : ℕ) → Reads (device-piece a b c)
unfolding dv be_bytes
device-reads a b c = record {
  reads = λ pre post.
      let xs = pre ++ (dv a b c ++ post) in
      let l : length xs ≡ length pre + (18 + length post) = simp length-append in
      sym (held (length xs) 0 (length pre + 2) (length pre + 18) (omega arith)
      ∙ device-at (length pre) xs 0x4456 (omega arith) (mark-at 0x4456 pre (be_bytes 8 a ++ (be_bytes 4 b ++ (be_bytes 4 c ++ post))) (omega arith)) refl);
  some = omega arith;
}

pub option-reads : (c v : ℕ) → v < 2 ^ 64 → Reads (option-piece c v)
unfolding op be_bytes
option-reads c v h = record {
  reads = λ pre post.
      let xs = pre ++ (op c v ++ post) in
      let l : length xs ≡ length pre + (11 + length post) = simp length-append in
      let d : get_or xs (length pre + 2) 0 ≡ c = get_or-append-add pre (op c v ++ post) 2 0 in
      let e : be_at 8 (length pre + 3) xs ≡ v = field_at 8 v 3 pre (79 ∷ 80 ∷ c ∷ []) post refl h in
      let n = length pre + 11 in
      sym (held (length xs) (3 + c) v n (omega arith)
      ∙ ap (λ (k : ℕ). whole_record (length xs) (3 + k) v n) (sym d)
      ∙ ap (λ (w : ℕ). whole_record (length xs) (3 + get_or xs (length pre + 2) 0) w n) (sym e)
      ∙ option-at (length pre) xs 0x4f50 (omega arith) (mark-at 0x4f50 pre (c ∷ (be_bytes 8 v ++ post)) (omega arith)) refl);
  some = omega arith;
}

pub label-reads : (bs : List ℕ) → Reads (label-piece bs)
unfolding lb be_bytes
label-reads bs = record {
  reads = λ pre post.
      let xs = pre ++ (lb bs ++ post) in
      let l : length xs ≡ length pre + (3 + length bs + length post) = simp length-append (omega arith) in
      let d : length bs ≡ get_or xs (length pre + 2) 0 = sym (get_or-append-add pre (lb bs ++ post) 2 0) in
      let q : length pre + length (lb bs) ≡ length pre + (3 + length bs) = omega arith in
      sym (held (length xs) 1 (length pre + 2) (length pre + (3 + length bs)) (omega arith)
      ∙ label-at (length pre) xs 0x4c42 (omega arith) (mark-at 0x4c42 pre (length bs ∷ (bs ++ post)) (omega arith)) (length bs) d refl)
      ∙ ap (λ (n : ℕ). entry 1 (length pre + 2) n) (sym q);
  some = omega arith;
}

pub uuid-reads : (bs : List ℕ) → length bs ≡ 16 → Reads (uuid-piece bs)
unfolding id be_bytes
uuid-reads bs h = record {
  reads = λ pre post.
      let xs = pre ++ (id bs ++ post) in
      let l : length xs ≡ length pre + (18 + length post) = simp length-append (omega arith) in
      let q : length pre + length (id bs) ≡ length pre + 18 = omega arith in
      sym (held (length xs) 2 (length pre + 2) (length pre + 18) (omega arith)
      ∙ uuid-at (length pre) xs 0x4944 (omega arith) (mark-at 0x4944 pre (bs ++ post) (omega arith)) refl)
      ∙ ap (λ (n : ℕ). entry 2 (length pre + 2) n) (sym q);
  some = omega arith;
}

-- ---- the bytes behind a mark
pub label-there : (pre text post : List ℕ) → length text ≤ 12
    → label_at (length pre + 2) (pre ++ (lb text ++ post)) ≡ record { length = length text; bytes = text ++ replicate (12 - length text) 0 }
unfolding label_at lb be_bytes
label-there pre text post h =
    let xs = pre ++ (lb text ++ post) in
    let n : get_or xs (length pre + 2) 0 ≡ length text = get_or-append-add pre (lb text ++ post) 2 0 in
    let m : min (length text) 12 ≡ length text = omega arith in
    let e : length pre + 2 + 1 ≡ length pre + 3 = omega arith in
    let d : part (length pre + 2 + 1) (length text) xs ≡ text =
    rw e (ap (take (length text)) (drop-append-add pre (lb text ++ post) 3) ∙ take_at text post (length text) refl) in
    rw (n, m, d) refl

pub uuid-there : (pre bytes post : List ℕ) → length bytes ≡ 16 → part (length pre + 2) 16 (pre ++ (id bytes ++ post)) ≡ bytes
unfolding id be_bytes
uuid-there pre bytes post h = ap (take 16) (drop-append-add pre (id bytes ++ post) 2) ∙ take_at bytes post 16 h
