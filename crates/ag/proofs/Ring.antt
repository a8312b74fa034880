-- The free list is read back: its header, every slot, and each block from its slot.
-- Assumes nothing.
use mathlib.Core.Path.{◌≡◌, refl, ap, sym, ◌∙◌}
use mathlib.Core.List.{List, [], ◌∷◌}
use mathlib.Core.Bool.{Bool, true, false}
use Prim.Native.Nat.{ℕ, zero, suc, ◌+◌, ◌*◌, ◌-◌, ◌/◌, ◌%◌, ◌≤◌, ◌<◌, ◌^◌}
use native.Mathlib.Nat.{div-add-mod', add-mul-mod_self_right, mod-eq_of_lt, mod-lt, one-mul, add-zero}
use native.Mathlib.Omega.{arith}
use lib.Dec.{T, ltb, lit<}
use lib.ListN.{length, get_or, set, replicate, length-replicate, length-set}
use lib.Seq.{get_or-set_same, get_or-set_other}
use borrow.Author.Tests.{ltb-true, ltb-false}
use Rattle.endian.specs.Bytes.{be_bytes, Below, numbers_bytes, numbers_at}
use Rattle.endian.specs.Fields.{part, write_fields, spans, clear}
use Rattle.endian.proofs.Fields.{write-length}
use Rattle.endian.proofs.Consecutive.{run-back}
use Rattle.crc.specs.Crc.{stamped}
use Rattle.crc.proofs.Laws.{read-stamped, length-stamped}
use Rattle.structs.specs.Holds.{Holds}
use Rattle.structs.specs.Written.{null32}
use Rattle.structs.proofs.Rising.{rises-tidy}
use Rattle.structs.proofs.Encoded.{encoded-again}
use Rattle.ag.specs.Agfl.{agfl_crc_at, slots_of, placed, agfl_header, agfl_slots, agfl_fields, agfl_bytes}
use Rattle.ag.proofs.Slots.{length_run, length-placed}

-- ---- a ring of `n` slots
-- two numbers less than `n` apart have different remainders
remainder : (n r d : ℕ) (b : Bool) → ltb (r + d) n ≡ b → 0 < d → d < n → r < n → (r + d) % n ≡ r → ⊥
remainder n r d true t p q l e =
    let h = ltb-true (r + d) n t in
    let m : r + d ≡ r = sym (mod-eq_of_lt h) ∙ e in
    omega arith
remainder n r d false t p q l e =
    let h = ltb-false (r + d) n t in
    let s : r + d ≡ r + d - n + 1 * n = omega (arith, one-mul n) in
    let g : r + d - n < n = omega arith in
    let m : r + d - n ≡ r = sym (mod-eq_of_lt g) ∙ sym (add-mul-mod_self_right (r + d - n) 1 n) ∙ ap (λ (k : ℕ). k % n) (sym s) ∙ e in
    omega arith

apart : (n a d : ℕ) → 0 < d → d < n → (a + d) % n ≡ a % n → ⊥
apart n a d p q e =
    let s : a + d ≡ a % n + d + a / n * n = omega (arith, div-add-mod' a n) in
    let m : (a % n + d) % n ≡ a % n = sym (add-mul-mod_self_right (a % n + d) (a / n) n) ∙ ap (λ (k : ℕ). k % n) (sym s) ∙ e in
    remainder n (a % n) d (ltb (a % n + d) n) refl p q (mod-lt a (let z : 0 < n = omega arith in z)) m

-- a slot that no block goes into
untouched : (n first j : ℕ) (bs slots : List ℕ) → ((i : ℕ) → i < length bs → (first + i) % n ≡ j → ⊥) → get_or (placed n first bs slots) j 0 ≡ get_or slots j 0
untouched n first j [] slots h = refl
untouched n first j (b ∷ bs) slots h =
    untouched n (suc first) j bs (set slots (first % n) b) (λ i l e. let s : first + suc i ≡ suc first + i = omega arith in h (suc i) (omega arith) (ap (λ (k : ℕ). k % n) s ∙ e))
    ∙ get_or-set_other slots (first % n) j b 0 (λ e. h 0 (omega arith) (ap (λ (k : ℕ). k % n) (add-zero first) ∙ sym e))

-- a list of at most `n` blocks: each is in its slot
pub in-slot : (n first : ℕ) (bs slots : List ℕ) → 0 < n → length slots ≡ n → length bs ≤ n → (i : ℕ) → i < length bs → get_or (placed n first bs slots) ((first + i) % n) 0 ≡ get_or bs i 0
in-slot n first [] slots p w l i h = absurd (omega arith)
in-slot n first (b ∷ bs) slots p w l zero h =
    ap (λ (k : ℕ). get_or (placed n (suc first) bs (set slots (first % n) b)) (k % n) 0) (add-zero first)
    ∙ untouched n (suc first) (first % n) bs (set slots (first % n) b) (λ i k e. let s : first + suc i ≡ suc first + i = omega arith in apart n first (suc i) (omega arith) (omega arith) (ap (λ (x : ℕ). x % n) s ∙ e))
    ∙ get_or-set_same slots (first % n) b 0 (rw w (mod-lt first p))
in-slot n first (b ∷ bs) slots p w l (suc i) h =
    let s : first + suc i ≡ suc first + i = omega arith in
    ap (λ (k : ℕ). get_or (placed n (suc first) bs (set slots (first % n) b)) (k % n) 0) s
    ∙ in-slot n (suc first) bs (set slots (first % n) b) p (length-set slots (first % n) b ∙ w) (omega arith) i (omega arith)

-- ---- numbers of 32 bits
below_set : (m : ℕ) (vs : List ℕ) (i v : ℕ) → Below m vs → v < m → Below m (set vs i v)
below_set m [] i v b h = b
below_set m (w ∷ vs) zero v b h = (h, b.1)
below_set m (w ∷ vs) (suc i) v b h = (b.0, below_set m vs i v b.1 h)

below-same : (m n v : ℕ) → v < m → Below m (replicate n v)
below-same m zero v h = tt
below-same m (suc n) v h = (h, below-same m n v h)

below-placed : (m n first : ℕ) (bs slots : List ℕ) → Below m bs → Below m slots → Below m (placed n first bs slots)
below-placed m n first [] slots b s = s
below-placed m n first (c ∷ bs) slots b s = below-placed m n (suc first) bs (set slots (first % n) c) b.1 (below_set m slots (first % n) c s b.0)

-- ---- the sector
module _ (seqno : ℕ) (uuid : List ℕ) (first : ℕ) (list xs : List ℕ) (u : length uuid ≡ 16) (l : 36 ≤ length xs) where
  slots : List ℕ
  slots = placed (slots_of (length xs)) first list (replicate (slots_of (length xs)) null32)

  slots-size : length slots ≡ slots_of (length xs)
  unfolding slots
  slots-size = length-placed (slots_of (length xs)) first list (replicate (slots_of (length xs)) null32) ∙ length-replicate (slots_of (length xs)) null32

  pub agfl-stands : spans (agfl_fields (length xs) seqno uuid first list) ≡ spans (agfl_fields (length xs) 0 (replicate 16 0) first list)
  unfolding agfl_fields agfl_header agfl_slots be_bytes
  agfl-stands = rw u refl

  -- clear of the checksum
  pub agfl-clear : T (clear agfl_crc_at 4 (spans (agfl_fields (length xs) 0 (replicate 16 0) first list)))
  unfolding agfl_fields agfl_header agfl_slots be_bytes
  agfl-clear = tt

  pub agfl-holds : Holds (agfl_fields (length xs) seqno uuid first list) (agfl_bytes seqno uuid first list xs)
  unfolding agfl_bytes agfl_fields agfl_header agfl_slots be_bytes slots
  agfl-holds k h =
      let ss = spans (agfl_fields (length xs) 0 (replicate 16 0) first list) in
      let m = 36 + length (numbers_bytes 4 slots) in
      read-stamped ss m 32 (rises-tidy 0 m ss tt (omega arith)) tt (agfl_fields (length xs) seqno uuid first list) agfl-stands xs
      (omega (arith, length_run slots, slots-size)) k h

  -- the numbers in the slots, from the first slot to the last
  pub agfl-slots : Below (2 ^ 32) list → numbers_at 4 (slots_of (length xs)) 36 (agfl_bytes seqno uuid first list xs) ≡ placed (slots_of (length xs)) first list (replicate (slots_of (length xs)) null32)
  unfolding agfl_fields agfl_header agfl_slots slots
  agfl-slots b =
      let p : part 36 (length (numbers_bytes 4 slots)) (agfl_bytes seqno uuid first list xs) ≡ numbers_bytes 4 slots = agfl-holds 4 (lit< tt) in
      ap (λ (k : ℕ). numbers_at 4 k 36 (agfl_bytes seqno uuid first list xs)) (sym slots-size)
      ∙ run-back 4 slots 36 (agfl_bytes seqno uuid first list xs) (below-placed (2 ^ 32) (slots_of (length xs)) first list (replicate (slots_of (length xs)) null32) b (below-same (2 ^ 32) (slots_of (length xs)) null32 (lit< tt)))
      (ap (λ (k : ℕ). part 36 k (agfl_bytes seqno uuid first list xs)) (sym (length_run slots)) ∙ p)

  -- encoded twice it is encoded once
  same_length : length (agfl_bytes seqno uuid first list xs) ≡ length xs
  unfolding agfl_bytes
  same_length = length-stamped agfl_crc_at (write_fields (agfl_fields (length xs) seqno uuid first list) xs) ∙ write-length (agfl_fields (length xs) seqno uuid first list) xs

  pub agfl-again : agfl_bytes seqno uuid first list (agfl_bytes seqno uuid first list xs) ≡ agfl_bytes seqno uuid first list xs
  unfolding agfl_bytes agfl_fields agfl_header agfl_slots be_bytes slots
  agfl-again =
      let ss = spans (agfl_fields (length xs) 0 (replicate 16 0) first list) in
      let m = 36 + length (numbers_bytes 4 slots) in
      let ys = agfl_bytes seqno uuid first list xs in
      ap (λ (n : ℕ). stamped agfl_crc_at (write_fields (agfl_fields n seqno uuid first list) ys)) same_length
      ∙ encoded-again ss m agfl_crc_at (rises-tidy 0 m ss tt (omega arith)) tt (agfl_fields (length xs) seqno uuid first list) agfl-stands xs
