-- Slots one after the other, and one of them replaced.
-- Assumes nothing.
use mathlib.Core.Path.{◌≡◌, refl, sym, ap, ◌∙◌}
use mathlib.Core.Bool.{true}
use mathlib.Core.List.{List, ◌++◌, append_assoc, append-nil}
use Prim.Native.Nat.{ℕ, zero, suc, ◌+◌, ◌*◌, ◌-◌, ◌≤◌, ◌<◌}
use native.Mathlib.Omega.{arith}
use native.Mathlib.Nat.{add-mul, mul-le-mul_right, add-zero}
use native.Mathlib.Numerals.{add-one}
use borrow.Rule.Slice.PartMut.{put_mid}
use lib.ListN.{length, take, drop, length-append, length-replicate, length-drop, take-append-drop}
use lib.Seq.{take_at, drop_at, drop-drop, drop-length, length-take-le}
use Rattle.endian.specs.Bytes.{patch, zeros}
use Rattle.endian.specs.Fields.{part}
use Rattle.endian.specs.Answer.{Put}
use Rattle.endian.proofs.Laws.{patch-split, part-back, put_in}
use Rattle.endian.proofs.Fields.{write-length}
use Rattle.crc.proofs.Laws.{length-stamped}
use Rattle.inode.specs.declared.dinode.Dinode.{Dinode}
use Rattle.inode.specs.Dinode.{free_fields, free_bytes, free_number, dinode_fields, dinode_bytes, dinode_number}
use Rattle.structs.specs.Sizes.{is_inode}
use Rattle.structs.specs.Written.{Written}
use Rattle.structs.proofs.Written.{written_in}
use Rattle.chunk.specs.Slots.{slots}

-- ---- lengths

pub free-length : (ino generation : ℕ) (uuid xs : List ℕ) → length (free_bytes ino generation uuid xs) ≡ length xs
unfolding free_bytes
free-length ino generation uuid xs = length-stamped 100 _ ∙ write-length (free_fields ino generation uuid) xs

pub dinode-length : (d : Dinode) (fork uuid xs : List ℕ) → length (dinode_bytes d fork uuid xs) ≡ length xs
unfolding dinode_bytes
dinode-length d fork uuid xs = length-stamped 100 _ ∙ write-length (dinode_fields d fork uuid) xs

-- slot i of n slots lies within them
pub slot-room : (i n size len : ℕ) → i < n → len ≡ n * size → i * size + size ≤ len
slot-room i n size len h e =
    let m : (i + 1) * size ≤ n * size = mul-le-mul_right size (omega arith) in
    omega (arith, add-mul i 1 size)

-- ---- a buffer of zeros

pub zeroed : (xs : List ℕ) → patch 0 (zeros (length xs)) xs ≡ zeros (length xs)
zeroed xs =
    let e : length (zeros (length xs)) ≡ length xs = length-replicate (length xs) 0 in
    patch-split 0 (zeros (length xs)) xs (omega arith)
    ∙ ap (λ (k : ℕ). zeros (length xs) ++ drop k xs) (let g : 0 + length (zeros (length xs)) ≡ length xs = omega arith in g)
    ∙ ap (λ (l : List ℕ). zeros (length xs) ++ l) (drop-length xs)
    ∙ append-nil (zeros (length xs))

-- ---- a part in the middle

module _ (pre x post : List ℕ) (a n : ℕ) (before : length pre ≡ a) (size : length x ≡ n) where
  pub middle : part a n (pre ++ (x ++ post)) ≡ x
  middle = ap (take n) (drop_at pre (x ++ post) a before) ∙ take_at x post n size

  pub replaced : (y : List ℕ) → length y ≡ n → patch a y (pre ++ (x ++ post)) ≡ pre ++ (y ++ post)
  replaced y same =
      let l : length (pre ++ (x ++ post)) ≡ a + (n + length post) = omega (arith, length-append pre (x ++ post), length-append x post) in
      let d : drop (a + length y) (pre ++ (x ++ post)) ≡ post =
      ap (λ (k : ℕ). drop (a + k) (pre ++ (x ++ post))) same
      ∙ sym (drop-drop n a (pre ++ (x ++ post)))
      ∙ ap (drop n) (drop_at pre (x ++ post) a before)
      ∙ drop_at x post n size in
      patch-split a y (pre ++ (x ++ post)) (omega arith)
      ∙ ap (λ (l : List ℕ). l ++ (y ++ drop (a + length y) (pre ++ (x ++ post)))) (take_at pre (x ++ post) a before)
      ∙ ap (λ (l : List ℕ). pre ++ (y ++ l)) d

-- ---- a part that is lent

module _ (at n : ℕ) (xs : List ℕ) (fits : at + n ≤ length xs) where
  whole : at + n - at ≡ n
  whole = omega arith

  -- it has the length asked for
  pub lent_length : length (take (at + n - at) (drop at xs)) ≡ n
  lent_length = rw whole (length-take-le n (drop at xs) (omega (arith, length-drop at xs)))

  -- what comes back in its place
  pub lent_back : (f : List ℕ → List ℕ) (ys : List ℕ) → ((zs : List ℕ) → length (f zs) ≡ length zs) → ys ≡ f (take (at + n - at) (drop at xs))
      → put_mid at (at + n - at) xs ys ≡ patch at (f (part at n xs)) xs
  lent_back f ys same e =
      part-back at n xs ys fits (ap length e ∙ same (take (at + n - at) (drop at xs)) ∙ lent_length)
      ∙ ap (λ (w : List ℕ). patch at w xs) (e ∙ ap (λ (k : ℕ). f (take k (drop at xs))) whole)

-- ---- one slot

-- zeros, and a free inode over them
pub blank-made : (ino generation : ℕ) {r q : ℕ} (uuid : List ℕ) {xs ys zs : List ℕ} → is_inode (length xs) ≡ true → Put (0 + length xs) (patch 0 (zeros (length xs)) xs) xs r ys
    → Written (free_number (length ys)) (free_bytes ino generation uuid ys) ys q zs → zs ≡ free_bytes ino generation uuid (zeros (length xs))
blank-made ino generation uuid {xs = xs} {ys = ys} t p w =
    let e : ys ≡ zeros (length xs) = put_in p (omega arith) ∙ zeroed xs in
    let l : length ys ≡ length xs = ap length e ∙ length-replicate (length xs) 0 in
    written_in w (rw (l, t) refl) ∙ ap (free_bytes ino generation uuid) e

-- a free inode in a part that is lent
pub free_back : (at n ino generation : ℕ) (uuid xs ys : List ℕ) → at + n ≤ length xs → ys ≡ free_bytes ino generation uuid (zeros (length (take (at + n - at) (drop at xs))))
    → put_mid at (at + n - at) xs ys ≡ patch at (free_bytes ino generation uuid (zeros n)) xs
free_back at n ino generation uuid xs ys fits e =
    lent_back at n xs fits (λ (zs : List ℕ). free_bytes ino generation uuid (zeros (length zs))) ys
    (λ zs. free-length ino generation uuid (zeros (length zs)) ∙ length-replicate (length zs) 0) e
    ∙ ap (λ (k : ℕ). patch at (free_bytes ino generation uuid (zeros k)) xs) (ap length (ap (λ (k : ℕ). take k (drop at xs)) (sym (whole at n xs fits))) ∙ lent_length at n xs fits)

-- an inode in a part that is lent
pub inode-back : (at n : ℕ) (d : Dinode) (fork uuid xs ys : List ℕ) {r : ℕ} → at + n ≤ length xs → dinode_number d (length fork) n ≡ 0
    → Written (dinode_number d (length fork) (length (take (at + n - at) (drop at xs)))) (dinode_bytes d fork uuid (take (at + n - at) (drop at xs))) (take (at + n - at) (drop at xs)) r ys
    → put_mid at (at + n - at) xs ys ≡ patch at (dinode_bytes d fork uuid (part at n xs)) xs
inode-back at n d fork uuid xs ys fits z w =
    lent_back at n xs fits (dinode_bytes d fork uuid) ys (dinode-length d fork uuid)
    (written_in w (ap (dinode_number d (length fork)) (lent_length at n xs fits) ∙ z))

-- ---- slots

module _ (f : ℕ → List ℕ) where
  -- one more, behind the others
  pub slots-more : (i n : ℕ) → slots f i (suc n) ≡ slots f i n ++ f (i + n)
  unfolding slots
  slots-more i zero = append-nil (f i) ∙ ap f (sym (add-zero i))
  slots-more i (suc n) =
      ap (λ (l : List ℕ). f i ++ l) (slots-more (suc i) n)
      ∙ sym (append_assoc (f i) (slots f (suc i) n) (f (suc i + n)))
      ∙ ap (λ (k : ℕ). (f i ++ slots f (suc i) n) ++ f k) (let g : suc i + n ≡ i + suc n = omega arith in g)

  module _ (size : ℕ) (sized : (i : ℕ) → length (f i) ≡ size) where
    pub slots_length : (i n : ℕ) → length (slots f i n) ≡ n * size
    unfolding slots
    slots_length i zero = omega arith
    slots_length i (suc n) =
        let e : suc n * size ≡ n * size + size = rw (← add-one n) (let g : (n + 1) * size ≡ n * size + size = omega (arith, add-mul n 1 size) in g) in
        omega (arith, length-append (f i) (slots f (suc i) n), sized i, slots_length (suc i) n)

    -- a turn of the loop over the slots
    pub slot_turn : (i : ℕ) (xs ys zs : List ℕ) → i * size + size ≤ length xs → ys ≡ slots f 0 i ++ drop (i * size) xs → zs ≡ patch (i * size) (f i) ys
        → zs ≡ slots f 0 (i + 1) ++ drop ((i + 1) * size) xs
    slot_turn i xs ys zs h e d =
        let u = drop (i * size) xs in
        let l : length (drop (i * size) xs) ≡ length xs - i * size = length-drop (i * size) xs in
        let k : i * size + size ≡ (i + 1) * size = omega (arith, add-mul i 1 size) in
        d
        ∙ ap (patch (i * size) (f i)) (e ∙ ap (λ (w : List ℕ). slots f 0 i ++ w) (sym (take-append-drop size u)))
        ∙ replaced (slots f 0 i) (take size u) (drop size u) (i * size) size (slots_length 0 i) (length-take-le size u (omega arith)) (f i) (sized i)
        ∙ sym (append_assoc (slots f 0 i) (f i) (drop size u))
        ∙ ap (λ (w : List ℕ). w ++ drop size u) (ap (λ (k : ℕ). slots f 0 i ++ f k) (let g : i ≡ 0 + i = omega arith in g) ∙ sym (slots-more 0 i))
        ∙ ap (λ (n : ℕ). slots f 0 n ++ drop size u) (sym (add-one i))
        ∙ ap (λ (w : List ℕ). slots f 0 (i + 1) ++ w) (drop-drop size (i * size) xs ∙ ap (λ (n : ℕ). drop n xs) k)

  -- what the loop starts from
  pub slots-first : (size : ℕ) (xs : List ℕ) → xs ≡ slots f 0 0 ++ drop (0 * size) xs
  unfolding slots
  slots-first size xs = ap (λ (k : ℕ). drop k xs) (let g : 0 ≡ 0 * size = omega arith in g)
