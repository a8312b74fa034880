-- A leaf whose records were written into a lent buffer before.
-- Assumes nothing.
use mathlib.Core.Path.{◌≡◌, refl, ap, sym, ◌∙◌}
use mathlib.Core.List.{List, [], ◌∷◌, ◌++◌}
use Prim.Native.Nat.{ℕ, ◌+◌, ◌*◌, ◌-◌, ◌≤◌}
use native.Mathlib.Omega.{arith}
use lib.ListN.{length, take, drop, replicate, length-replicate, replicate-append-replicate}
use lib.Seq.{take_at, length-take-le}
use mathlib.Core.Bool.{Bool}
use borrow.Author.Tests.{eq-eqb, le-leb}
use borrow.Rule.Slice.PartMut.{post_of}
use Rattle.structs.specs.Encoded.{Encoded}
use Rattle.btree.specs.Records.{records_bytes, inobt_bytes, recs_number}
use Rattle.btree.specs.declared.records.InobtRec.{InobtRec}
use Rattle.btree.proofs.Laws.{length-listed, inobt-size}
use Rattle.head_leaves.specs.Leaves.{few}
use Rattle.btree.specs.Leaf.{leaf_crc_at, leaf_number, leaf_bytes}

-- the list's own number is 0
pub list-fits : (size count len : ℕ) → len ≡ size * count → count ≤ 64 → recs_number size count len ≡ 0
unfolding recs_number
list-fits size count len e h = rw (eq-eqb len (size * count) e, le-leb count 64 h) refl

-- what is lent out of the buffer again is what was written into it
pub lent_again : (k : ℕ) (xs : List ℕ) {got ys : List ℕ} → got ≡ ys → length ys ≡ k → take (k - 0) (got ++ post_of 0 (k - 0) xs) ≡ ys
lent_again k xs {got} {ys} g e = let z : k - 0 ≡ k = omega arith in rw (z, g) (take_at ys (post_of 0 k xs) k e)

-- as many bytes are lent as the records need
pub lent_length : (k m : ℕ) (xs : List ℕ) → length xs ≡ m → k ≤ m → length (take (k - 0) (drop 0 xs)) ≡ k
lent_length k m xs e h = let z : k - 0 ≡ k = omega arith in rw z (length-take-le k xs (rw e h))

pub listed-length : {A : Type 0} (f : A → List ℕ) (size : ℕ) → ((a : A) → length (f a) ≡ size) → (n m : ℕ) (xs : List A) → length xs ≡ m → n ≤ m
    → length (records_bytes f (take n xs)) ≡ size * n
listed-length f size s n m xs e h = length-listed f size s (take n xs) ∙ ap (λ (k : ℕ). size * k) (length-take-le n xs (rw e h))

-- a leaf of the records that were lent
pub leaf-of : (magic daddr agno : ℕ) (uuid : List ℕ) (count len used : ℕ) {r : ℕ} {right : Bool} {got recs old left : List ℕ} → got ≡ recs → length recs ≡ used
    → Encoded (leaf_number (length got) len) (leaf_crc_at ∷ []) (leaf_bytes magic daddr agno uuid got count len) old r right left
    → Encoded (leaf_number used len) (leaf_crc_at ∷ []) (leaf_bytes magic daddr agno uuid recs count len) old r right left
leaf-of magic daddr agno uuid count len used e l w = rw (← l, ← e) w

-- the first n of 64 alike
take-alike : {A : Type 0} (n m : ℕ) (x : A) → n ≤ m → take n (replicate m x) ≡ replicate n x
take-alike {A} n m x h =
    let z : m ≡ n + (m - n) = omega arith in
    ap (λ (k : ℕ). take n (replicate k x)) z
    ∙ ap (λ (l : List A). take n l) (sym (replicate-append-replicate n (m - n) x))
    ∙ take_at (replicate n x) (replicate (m - n) x) n (length-replicate n x)

pub few-alike : (sparse : Bool) (n : ℕ) (r s : InobtRec) → n ≤ 64 → r ≡ s → records_bytes (inobt_bytes sparse) (take n (replicate 64 r)) ≡ records_bytes (inobt_bytes sparse) (few n s)
few-alike sparse n r s h e = ap (λ (l : List InobtRec). records_bytes (inobt_bytes sparse) l) (take-alike n 64 r h ∙ ap (λ (x : InobtRec). replicate n x) e)

pub few-length : (sparse : Bool) (n : ℕ) (r : InobtRec) → length (records_bytes (inobt_bytes sparse) (few n r)) ≡ 16 * n
few-length sparse n r = length-listed (inobt_bytes sparse) 16 (inobt-size sparse) (replicate n r) ∙ ap (λ (k : ℕ). 16 * k) (length-replicate n r)
