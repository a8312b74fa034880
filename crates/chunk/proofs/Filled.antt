-- All slots free and three of them written over: the whole chunk, and its length.
-- Assumes nothing.
use mathlib.Core.Path.{◌≡◌, refl, sym, ap, ◌∙◌}
use mathlib.Core.List.{List, [], ◌++◌, append_assoc}
use Prim.Native.Nat.{ℕ, ◌+◌, ◌*◌}
use native.Mathlib.Omega.{arith}
use lib.ListN.{length, length-append, length-replicate}
use Rattle.endian.specs.Bytes.{patch}
use Rattle.endian.specs.Fields.{part}
use Rattle.params.specs.declared.Timestamp.{Timestamp}
use Rattle.chunk.specs.Slots.{slots, free_slot}
use Rattle.chunk.specs.Chunk.{chunk_draw, bitmap_draw, summary_draw, DrawnAs, root_over, bitmap_over, summary_over, contents}
use Rattle.chunk.proofs.Pieces.{free-length, dinode-length, middle, replaced, slots_length}

module _ (f : ℕ → List ℕ) (size : ℕ) (sized : (i : ℕ) → length (f i) ≡ size) where
  -- the first three slots, and the others
  split : slots f 0 64 ≡ f 0 ++ (f 1 ++ (f 2 ++ slots f 3 61))
  unfolding slots
  split = refl

  -- three writes, each over what stands in its slot
  pub three-over : (r b s : List ℕ → List ℕ) → ((xs : List ℕ) → length (r xs) ≡ length xs) → ((xs : List ℕ) → length (b xs) ≡ length xs) → ((xs : List ℕ) → length (s xs) ≡ length xs)
      → (w x y z : List ℕ) → w ≡ slots f 0 64 → x ≡ patch (0 * size) (r (part (0 * size) size w)) w → y ≡ patch (1 * size) (b (part (1 * size) size x)) x → z ≡ patch (2 * size) (s (part (2 * size) size y)) y
      → z ≡ r (f 0) ++ (b (f 1) ++ (s (f 2) ++ slots f 3 61))
  three-over r b s lr lb ls w x y z ew ex ey ez =
      let last = slots f 3 61 in
      let l0 = lr (f 0) ∙ sized 0 in
      let l1 = lb (f 1) ∙ sized 1 in
      let ew' : w ≡ [] ++ (f 0 ++ (f 1 ++ (f 2 ++ last))) = ew ∙ split in
      let ex' : x ≡ r (f 0) ++ (f 1 ++ (f 2 ++ last)) =
      ex
      ∙ ap (λ (l : List ℕ). patch (0 * size) (r (part (0 * size) size l)) l) ew'
      ∙ ap (λ (l : List ℕ). patch (0 * size) (r l) ([] ++ (f 0 ++ (f 1 ++ (f 2 ++ last))))) (middle [] (f 0) (f 1 ++ (f 2 ++ last)) (0 * size) size (omega arith) (sized 0))
      ∙ replaced [] (f 0) (f 1 ++ (f 2 ++ last)) (0 * size) size (omega arith) (sized 0) (r (f 0)) l0 in
      let h1 : length (r (f 0)) ≡ 1 * size = omega arith in
      let ey' : y ≡ (r (f 0) ++ b (f 1)) ++ (f 2 ++ last) =
      ey
      ∙ ap (λ (l : List ℕ). patch (1 * size) (b (part (1 * size) size l)) l) ex'
      ∙ ap (λ (l : List ℕ). patch (1 * size) (b l) (r (f 0) ++ (f 1 ++ (f 2 ++ last)))) (middle (r (f 0)) (f 1) (f 2 ++ last) (1 * size) size h1 (sized 1))
      ∙ replaced (r (f 0)) (f 1) (f 2 ++ last) (1 * size) size h1 (sized 1) (b (f 1)) l1
      ∙ sym (append_assoc (r (f 0)) (b (f 1)) (f 2 ++ last)) in
      let h2 : length (r (f 0) ++ b (f 1)) ≡ 2 * size = omega (arith, length-append (r (f 0)) (b (f 1))) in
      ez
      ∙ ap (λ (l : List ℕ). patch (2 * size) (s (part (2 * size) size l)) l) ey'
      ∙ ap (λ (l : List ℕ). patch (2 * size) (s l) ((r (f 0) ++ b (f 1)) ++ (f 2 ++ last))) (middle (r (f 0) ++ b (f 1)) (f 2) last (2 * size) size h2 (sized 2))
      ∙ replaced (r (f 0) ++ b (f 1)) (f 2) last (2 * size) size h2 (sized 2) (s (f 2)) (ls (f 2) ∙ sized 2)
      ∙ append_assoc (r (f 0)) (b (f 1)) (s (f 2) ++ last)

  three-length : (r b s : List ℕ → List ℕ) → ((xs : List ℕ) → length (r xs) ≡ length xs) → ((xs : List ℕ) → length (b xs) ≡ length xs) → ((xs : List ℕ) → length (s xs) ≡ length xs)
      → length (r (f 0) ++ (b (f 1) ++ (s (f 2) ++ slots f 3 61))) ≡ 64 * size
  three-length r b s lr lb ls =
      omega (
        arith,
        length-append (r (f 0)) (b (f 1) ++ (s (f 2) ++ slots f 3 61)),
        length-append (b (f 1)) (s (f 2) ++ slots f 3 61),
        length-append (s (f 2)) (slots f 3 61),
        lr (f 0),
        lb (f 1),
        ls (f 2),
        sized 0,
        sized 1,
        sized 2,
        slots_length f size sized 3 61,
      )

module _ (first size flags2 : ℕ) (time : Timestamp) (uuid : List ℕ) (seed : ℕ) where
  free-sized : (generation i : ℕ) → length (free_slot first generation uuid size i) ≡ size
  free-sized generation i = free-length (first + i) generation uuid _ ∙ length-replicate size 0

  -- what `fill_chunk` leaves
  pub filled : (chunk bitmap summary state : ℕ) (w x y z : List ℕ) → DrawnAs seed chunk bitmap summary state → w ≡ slots (free_slot first chunk uuid size) 0 64
      → x ≡ patch (0 * size) (root_over first flags2 time uuid (part (0 * size) size w)) w
      → y ≡ patch (1 * size) (bitmap_over first flags2 bitmap time uuid (part (1 * size) size x)) x
      → z ≡ patch (2 * size) (summary_over first flags2 summary time uuid (part (2 * size) size y)) y
      → z ≡ contents first size flags2 time uuid seed
  unfolding contents
  filled chunk bitmap summary state w x y z d ew ex ey ez =
      three-over (free_slot first chunk uuid size) size (free-sized chunk) (root_over first flags2 time uuid) (bitmap_over first flags2 bitmap time uuid) (summary_over first flags2 summary time uuid)
      (dinode-length _ _ _) (dinode-length _ _ _) (dinode-length _ _ _) w x y z ew ex ey ez
      ∙ rw (d.chunk-is, d.bitmap-is, d.summary-is) refl

  -- for callers: all 64 inodes, each of `size` bytes
  pub contents-length : length (contents first size flags2 time uuid seed) ≡ 64 * size
  unfolding contents
  contents-length =
      three-length (free_slot first (chunk_draw seed).value uuid size) size (free-sized (chunk_draw seed).value) (root_over first flags2 time uuid) (bitmap_over first flags2 (bitmap_draw seed).value time uuid) (summary_over first flags2 (summary_draw seed).value time uuid)
      (dinode-length _ _ _) (dinode-length _ _ _) (dinode-length _ _ _)
