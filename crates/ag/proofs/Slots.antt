-- The slots of the free list: a number put into a slot, one turn of the loop after the other.
-- Assumes nothing.
use mathlib.Core.Path.{◌≡◌, refl, ap, sym, ◌∙◌}
use mathlib.Core.List.{List, [], ◌∷◌, ◌++◌}
use Prim.Native.Nat.{ℕ, zero, suc, ◌+◌, ◌*◌, ◌%◌, ◌≤◌, ◌<◌}
use native.Mathlib.Nat.{add-zero, mod-lt}
use native.Mathlib.Numerals.{add-one}
use native.Mathlib.Omega.{arith}
use lib.ListN.{length, take, get_or, set, replicate, length-set, length-replicate}
use lib.Seq.{take-suc, length-take-le}
use Rattle.endian.specs.Bytes.{be_bytes, numbers_bytes, patch}
use Rattle.endian.proofs.Laws.{length-be, patch-append}
use Rattle.endian.proofs.Order.{patch-over}
use Rattle.endian.specs.Fields.{byte_run, write_fields}
use Rattle.structs.specs.Written.{null32}
use Rattle.structs.proofs.Reading.{patch-apart, write-append}
use Rattle.ag.specs.Agfl.{placed, slots_of, agfl_header, agfl_slots, agfl_fields}

-- every slot null, as 0xff bytes
pub nulls : (n : ℕ) → numbers_bytes 4 (replicate n null32) ≡ replicate (4 * n) 255
unfolding numbers_bytes be_bytes
nulls zero = refl
nulls (suc n) =
    let e : 4 * suc n ≡ suc (suc (suc (suc (4 * n)))) = omega arith in
    ap (λ (l : List ℕ). 255 ∷ (255 ∷ (255 ∷ (255 ∷ l)))) (nulls n) ∙ sym (ap (λ (k : ℕ). replicate k 255) e)

-- a number over the bytes of one slot
pub slot-put : (vs : List ℕ) (o j v : ℕ) (xs : List ℕ) → j < length vs
    → patch (o + 4 * j) (be_bytes 4 v) (patch o (numbers_bytes 4 vs) xs) ≡ patch o (numbers_bytes 4 (set vs j v)) xs
unfolding numbers_bytes
slot-put [] o j v xs h = absurd (omega arith)
slot-put (w ∷ vs) o zero v xs h =
    ap (λ (k : ℕ). patch k (be_bytes 4 v) (patch o (be_bytes 4 w ++ numbers_bytes 4 vs) xs)) (add-zero o)
    ∙ ap (patch o (be_bytes 4 v)) (patch-append o (be_bytes 4 w) (numbers_bytes 4 vs) xs)
    ∙ patch-over o (be_bytes 4 v) (be_bytes 4 w) (patch (o + length (be_bytes 4 w)) (numbers_bytes 4 vs) xs) (length-be 4 v ∙ sym (length-be 4 w))
    ∙ ap (λ (k : ℕ). patch o (be_bytes 4 v) (patch (o + k) (numbers_bytes 4 vs) xs)) (length-be 4 w ∙ sym (length-be 4 v))
    ∙ sym (patch-append o (be_bytes 4 v) (numbers_bytes 4 vs) xs)
slot-put (w ∷ vs) o (suc j) v xs h =
    let b = length-be 4 w in
    let e : o + 4 * suc j ≡ o + length (be_bytes 4 w) + 4 * j = omega arith in
    let t : o + length (be_bytes 4 w) ≤ o + 4 * suc j = omega arith in
    ap (patch (o + 4 * suc j) (be_bytes 4 v)) (patch-append o (be_bytes 4 w) (numbers_bytes 4 vs) xs)
    ∙ sym (patch-apart o (o + 4 * suc j) (be_bytes 4 w) (be_bytes 4 v) (patch (o + length (be_bytes 4 w)) (numbers_bytes 4 vs) xs) t)
    ∙ ap (patch o (be_bytes 4 w)) (ap (λ (k : ℕ). patch k (be_bytes 4 v) (patch (o + length (be_bytes 4 w)) (numbers_bytes 4 vs) xs)) e ∙ slot-put vs (o + length (be_bytes 4 w)) j v xs (omega arith))
    ∙ sym (patch-append o (be_bytes 4 w) (numbers_bytes 4 (set vs j v)) xs)

-- one block more
pub placed-more : (n first : ℕ) (bs : List ℕ) (b : ℕ) (slots : List ℕ) → placed n first (bs ++ (b ∷ [])) slots ≡ set (placed n first bs slots) ((first + length bs) % n) b
placed-more n first [] b slots = ap (λ (k : ℕ). set slots (k % n) b) (sym (add-zero first))
placed-more n first (c ∷ bs) b slots =
    let e : suc first + length bs ≡ first + suc (length bs) = omega arith in
    placed-more n (suc first) bs b (set slots (first % n) c) ∙ ap (λ (k : ℕ). set (placed n (suc first) bs (set slots (first % n) c)) (k % n) b) e

pub length-placed : (n first : ℕ) (bs slots : List ℕ) → length (placed n first bs slots) ≡ length slots
length-placed n first [] slots = refl
length-placed n first (b ∷ bs) slots = length-placed n (suc first) bs (set slots (first % n) b) ∙ length-set slots (first % n) b

-- a turn of the loop
pub slot_turn : (n first i : ℕ) (list xs ys zs : List ℕ) → 0 < n → i < length list
    → ys ≡ patch 36 (numbers_bytes 4 (placed n first (take i list) (replicate n null32))) xs
    → zs ≡ patch (36 + 4 * ((first + i) % n)) (be_bytes 4 (get_or list i 0)) ys
    → zs ≡ patch 36 (numbers_bytes 4 (placed n first (take (i + 1) list) (replicate n null32))) xs
slot_turn n first i list xs ys zs pos lt e d =
    let slots = replicate n null32 in
    let k : length (take i list) ≡ i = length-take-le i list (omega arith) in
    let w : length (placed n first (take i list) slots) ≡ n = length-placed n first (take i list) slots ∙ length-replicate n null32 in
    let m : (first + i) % n < n = mod-lt (first + i) pos in
    d ∙ ap (patch (36 + 4 * ((first + i) % n)) (be_bytes 4 (get_or list i 0))) e
    ∙ slot-put (placed n first (take i list) slots) 36 ((first + i) % n) (get_or list i 0) xs (rw w m)
    ∙ ap (λ (l : List ℕ). patch 36 (numbers_bytes 4 l) xs)
    (ap (λ (j : ℕ). set (placed n first (take i list) slots) ((first + j) % n) (get_or list i 0)) (sym k)
    ∙ sym (placed-more n first (take i list) (get_or list i 0) slots)
    ∙ ap (λ (l : List ℕ). placed n first l slots) (sym (ap (λ (k : ℕ). take k list) (add-one i) ∙ take-suc list i 0 lt)))

pub length_run : (vs : List ℕ) → length (numbers_bytes 4 vs) ≡ 4 * length vs
unfolding numbers_bytes be_bytes
length_run [] = refl
length_run (v ∷ vs) =
    let e : 4 * suc (length vs) ≡ suc (suc (suc (suc (4 * length vs)))) = omega arith in
    ap (λ (k : ℕ). suc (suc (suc (suc k)))) (length_run vs) ∙ sym e

-- the slots are as long as the null slots that they stand over
same_size : (n first : ℕ) (bs : List ℕ) → length (numbers_bytes 4 (placed n first bs (replicate n null32))) ≡ length {A = ℕ} (replicate (4 * n) 255)
same_size n first bs =
    length_run (placed n first bs (replicate n null32)) ∙ ap (λ (k : ℕ). 4 * k) (length-placed n first bs (replicate n null32) ∙ length-replicate n null32) ∙ sym (length-replicate (4 * n) 255)

-- where the loop begins every slot is null, and where it ends the null slots are written over
pub slot-start : (n first : ℕ) (list xs ys : List ℕ) → ys ≡ patch 36 (replicate (4 * n) 255) xs → ys ≡ patch 36 (numbers_bytes 4 (placed n first (take 0 list) (replicate n null32))) ys
slot-start n first list xs ys e =
    let p = numbers_bytes 4 (replicate n null32) in
    let f : ys ≡ patch 36 p xs = e ∙ ap (λ (l : List ℕ). patch 36 l xs) (sym (nulls n)) in
    f ∙ sym (ap (patch 36 p) f ∙ patch-over 36 p p xs refl)

pub slot-end : (n first : ℕ) (bs xs ys zs : List ℕ) → ys ≡ patch 36 (replicate (4 * n) 255) xs → zs ≡ patch 36 (numbers_bytes 4 (placed n first bs (replicate n null32))) ys
    → zs ≡ patch 36 (numbers_bytes 4 (placed n first bs (replicate n null32))) xs
slot-end n first bs xs ys zs e d =
    let p = numbers_bytes 4 (placed n first bs (replicate n null32)) in
    d ∙ ap (patch 36 p) e ∙ patch-over 36 p (replicate (4 * n) 255) xs (same_size n first bs)

-- header and slots
pub agfl-written : (seqno : ℕ) (uuid : List ℕ) (first : ℕ) (list xs ys zs : List ℕ) → length ys ≡ length xs → ys ≡ write_fields (agfl_header seqno uuid) xs
    → zs ≡ patch 36 (numbers_bytes 4 (placed (slots_of (length ys)) first list (replicate (slots_of (length ys)) null32))) ys
    → zs ≡ write_fields (agfl_fields (length xs) seqno uuid first list) xs
unfolding agfl_fields agfl_slots
agfl-written seqno uuid first list xs ys zs l a b =
    let s = byte_run 36 (numbers_bytes 4 (placed (slots_of (length xs)) first list (replicate (slots_of (length xs)) null32))) in
    b ∙ ap (λ (k : ℕ). patch 36 (numbers_bytes 4 (placed (slots_of k) first list (replicate (slots_of k) null32))) ys) l
    ∙ ap (patch 36 s.bytes) a ∙ sym (write-append (agfl_header seqno uuid) (s ∷ []) xs)
