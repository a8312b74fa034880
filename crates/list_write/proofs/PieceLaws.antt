-- The records of each piece, one after the other over a buffer of the piece's length.
-- Assumes nothing.
use mathlib.Core.Path.{◌≡◌, refl, sym, ap, ◌∙◌}
use mathlib.Core.List.{List, [], ◌∷◌, ◌++◌, append_assoc, append-nil}
use Prim.Native.Nat.{ℕ, ◌+◌, ◌*◌, ◌-◌, ◌/◌, ◌<◌, ◌≤◌, ◌^◌, min}
use native.Mathlib.Omega.{arith}
use native.Mathlib.Nat.{mul-le-mul, mul-le-mul_right}
use lib.ListN.{length, length-append}
use Rattle.endian.specs.Answer.{Put}
use Rattle.endian.specs.Bytes.{be_bytes, patch}
use Rattle.endian.proofs.Laws.{length-be, length-patch, patch-append, put_in}
use Rattle.structs.proofs.Reading.{patch-whole}
use Rattle.geometry.specs.declared.Geometry.{Geometry}
use Rattle.geometry.specs.Log.{prealloc_of}
use Rattle.geometry_layout.specs.Bounds.{Bounds}
use Rattle.geometry_layout.specs.Places.{byte_of, disk_blocks_before}
use Rattle.geometry_places.specs.Answers.{root_chunk}
use Rattle.list_records.specs.Records.{Record, WZ, Wb, FL, record_bytes, list_bytes, block_records}
use Rattle.run.specs.declared.Run.{Run}
use Rattle.list_spec.specs.Listing.{blocks_end, tail_start, log_offset, log_block, head_blocks, header_blocks, chunk_blocks, head_finished, opening, head_records, chunk_records, closing, list_piece}
use Rattle.list_lengths.specs.Lengths.{blocks_length}
use Rattle.list_lengths.proofs.Which.{group-length, root-length, head-size, root-size}
use Rattle.list_lengths.specs.Pieces.{sizes_in, listed_length, part_length}
use Rattle.list_write.specs.Writing.{part_bytes, record_head, zero_heads}
use Rattle.group_bytes.proofs.Accepted.{size-least, size-most}
use Rattle.list_write.proofs.Which.{opening-chunk, group-chunk, root-chunk, closing-chunk, opening-part, group-part, root-part, closing-part}
use Rattle.list_write.proofs.Accepted.{group-room, group-blocks}
use Rattle.list_records.proofs.Sizes.{zeros-bytes, block-bytes}
use Rattle.list_write.proofs.Splitting.{zeros-head, flush-bytes, head-length, list-append, blocks-length}

-- the header blocks are of the head
pub header-within : (g : Geometry) → header_blocks g ≤ head_blocks g
unfolding prealloc_of
header-within g = omega arith

-- two and three runs of bytes, the last written first
two_runs : (o p : ℕ) (a b xs : List ℕ) → o + length a ≡ p → patch o a (patch p b xs) ≡ patch o (a ++ b) xs
two_runs o p a b xs e = ap (λ (i : ℕ). patch o a (patch i b xs)) (sym e) ∙ sym (patch-append o a b xs)

three-runs : (o p q : ℕ) (a b c xs : List ℕ) → o + length a ≡ p → p + length b ≡ q → patch o a (patch p b (patch q c xs)) ≡ patch o (a ++ (b ++ c)) xs
three-runs o p q a b c xs e f = ap (λ (l : List ℕ). patch o a l) (two_runs p q b c xs f) ∙ two_runs o p a (b ++ c) xs e

-- ---- the opening

module _ (bs device log n : ℕ) where
  -- the three records of zeros
  pub zeros-done : (end disk_blocks_before tail last first : ℕ) (xs ys zs ws : List ℕ) → end ≡ device / bs * bs → disk_blocks_before ≡ end - 131072 → tail ≡ disk_blocks_before / bs * bs → last ≡ end - tail → first ≡ min 131072 end
      → ys ≡ patch 36 (record_head 0x575a log n) xs → zs ≡ patch 18 (record_head 0x575a tail last) ys → ws ≡ patch 0 (record_head 0x575a 0 first) zs → ws ≡ patch 0 (zero_heads bs device log n) xs
  unfolding zero_heads blocks_end tail_start
  zeros-done end disk_blocks_before tail last first xs ys zs ws e b t l f p q r =
      let ht = record_head 0x575a tail last in
      let hf = record_head 0x575a 0 first in
      r
      ∙ ap (λ (v : List ℕ). patch 0 hf v) (q ∙ ap (λ (v : List ℕ). patch 18 ht v) p)
      ∙ three-runs 0 18 36 hf ht (record_head 0x575a log n) xs (ap (λ (i : ℕ). 0 + i) (head-length 0x575a 0 first)) (ap (λ (i : ℕ). 18 + i) (head-length 0x575a tail last))
      ∙ rw (l, f, t, b, e, zeros-head, zeros-head, zeros-head) refl

  pub zeros-long : length (zero_heads bs device log n) ≡ 54
  unfolding zero_heads
  zeros-long =
      let a = record_bytes (WZ 0 (min 131072 (blocks_end bs device))) in
      let b = record_bytes (WZ (tail_start bs device) (blocks_end bs device - tail_start bs device)) in
      let c = record_bytes (WZ log n) in
      let la : length a ≡ 18 = zeros-bytes 0 (min 131072 (blocks_end bs device)) in
      let lb : length b ≡ 18 = zeros-bytes (tail_start bs device) (blocks_end bs device - tail_start bs device) in
      let lc : length c ≡ 18 = zeros-bytes log n in
      let i : length (a ++ (b ++ c)) ≡ length a + length (b ++ c) = length-append a (b ++ c) in
      let j : length (b ++ c) ≡ length b + length c = length-append b c in
      omega arith

  -- and the log's first block behind them
  pub opening-whole : (block xs ys zs : List ℕ) → length xs ≡ 54 + (18 + length block) → ys ≡ patch 54 (record_bytes (Wb log block)) xs → zs ≡ patch 0 (zero_heads bs device log n) ys
      → zs ≡ zero_heads bs device log n ++ record_bytes (Wb log block)
  opening-whole block xs ys zs l p q =
      let Z = zero_heads bs device log n in
      let D = record_bytes (Wb log block) in
      let lz : length Z ≡ 54 = zeros-long in
      let ld : length D ≡ 18 + length block = block-bytes log block in
      let lzd : length (Z ++ D) ≡ length Z + length D = length-append Z D in
      q ∙ ap (λ (v : List ℕ). patch 0 Z v) p ∙ two_runs 0 54 Z D xs (ap (λ (i : ℕ). 0 + i) lz) ∙ patch-whole (Z ++ D) xs (omega arith)

module _ (run : Run) (device : ℕ) where
  opening-is : list_bytes (opening run device) ≡ zero_heads run.geometry.blocksize device (log_offset run.geometry) (run.geometry.logblocks * run.geometry.blocksize) ++ record_bytes (Wb (log_offset run.geometry) (log_block run.geometry run.uuid))
  unfolding opening zero_heads list_bytes
  opening-is = simp (append_assoc, append-nil) refl

  pub opening-done : (bs at n k : ℕ) (block zs : List ℕ) → k ≡ 0 → bs ≡ run.geometry.blocksize → at ≡ byte_of bs run.geometry.agsize run.geometry.logagno run.geometry.log_agbno → n ≡ run.geometry.logblocks * bs
      → block ≡ part_bytes run k → zs ≡ zero_heads bs device at n ++ record_bytes (Wb at block) → zs ≡ list_bytes (list_piece run device k)
  unfolding log_offset
  opening-done bs at n k block zs h b a m p e =
      e ∙ rw (m, p, opening-part run k h, a, b) (sym opening-is) ∙ ap (λ (r : List Record). list_bytes r) (sym (opening-chunk run device k h))

-- ---- blocks alone

pub blocks-done : (bs offset n : ℕ) (src xs ys : List ℕ) → n * bs ≤ length src → length xs ≡ blocks_length bs n → ys ≡ patch 0 (list_bytes (block_records bs offset n src)) xs → ys ≡ list_bytes (block_records bs offset n src)
blocks-done bs offset n src xs ys h l e = e ∙ patch-whole (list_bytes (block_records bs offset n src)) xs (blocks-length bs offset n src h ∙ sym l)

module _ (run : Run) (device : ℕ) where
  pub group-done : (bs at n k : ℕ) (src xs ys : List ℕ) → (k ≡ 0 → ⊥) → k ≤ run.geometry.agcount → bs ≡ run.geometry.blocksize → n ≡ head_blocks run.geometry → at ≡ byte_of bs run.geometry.agsize (k - 1) 0
      → src ≡ part_bytes run k → length src ≡ part_length run.geometry k → length xs ≡ listed_length run.geometry k
      → ys ≡ patch 0 (list_bytes (block_records bs at n src)) xs → ys ≡ list_bytes (list_piece run device k)
  unfolding head_records
  group-done bs at n k src xs ys z h b m a s l lx e =
      let g = run.geometry in
      let ls : length src ≡ head_blocks g * g.blocksize = l ∙ head-size (sizes_in g) g.agcount k z (λ q. z (omega arith)) in
      blocks-done bs at n src xs ys (rw (m, b) (omega arith)) (rw (m, b) (lx ∙ group-length (sizes_in g) g.agcount k z h)) e
      ∙ rw (a, s, group-part run k z h, m, b) refl
      ∙ ap (λ (r : List Record). list_bytes r) (sym (group-chunk run device k z h))

  pub root-done : (bs at block n k : ℕ) (src xs ys : List ℕ) → run.geometry.agcount < k → k - 1 ≡ run.geometry.agcount → bs ≡ run.geometry.blocksize → n ≡ chunk_blocks run.geometry → block ≡ root_chunk run.geometry
      → at ≡ byte_of bs run.geometry.agsize 0 block → src ≡ part_bytes run k → length src ≡ part_length run.geometry k → length xs ≡ listed_length run.geometry k
      → ys ≡ patch 0 (list_bytes (block_records bs at n src)) xs → ys ≡ list_bytes (list_piece run device k)
  unfolding chunk_records
  root-done bs at block n k src xs ys z h b m r a s l lx e =
      let g = run.geometry in
      let ls : length src ≡ chunk_blocks g * g.blocksize = l ∙ root-size (sizes_in g) g.agcount k (λ q. omega arith) h in
      blocks-done bs at n src xs ys (rw (m, b) (omega arith)) (rw (m, b) (lx ∙ root-length (sizes_in g) g.agcount k z h)) e
      ∙ rw (a, s, root-part run k z h, r, m, b) refl
      ∙ ap (λ (r : List Record). list_bytes r) (sym (root-chunk run device k z h))

  -- ---- the closing

  closing-is : list_bytes (closing run) ≡ record_bytes FL ++ (list_bytes (block_records run.geometry.blocksize 0 (header_blocks run.geometry) (head_finished run.geometry run.uuid)) ++ record_bytes FL)
  unfolding closing list_bytes
  closing-is = ap (λ (l : List ℕ). record_bytes FL ++ l) (list-append (block_records run.geometry.blocksize 0 (header_blocks run.geometry) (head_finished run.geometry run.uuid)) (FL ∷ []) ∙ rw append-nil refl)

  pub closing-done : (bs n k : ℕ) (src ws : List ℕ) → run.geometry.agcount < k → (k - 1 ≡ run.geometry.agcount → ⊥) → bs ≡ run.geometry.blocksize → n ≡ header_blocks run.geometry → src ≡ part_bytes run k
      → ws ≡ record_bytes FL ++ (list_bytes (block_records bs 0 n src) ++ record_bytes FL) → ws ≡ list_bytes (list_piece run device k)
  closing-done bs n k src ws z h b m s e =
      e ∙ rw (s, closing-part run k z h, m, b) (sym closing-is) ∙ ap (λ (r : List Record). list_bytes r) (sym (closing-chunk run device k z h))

-- a flush, blocks, and a flush, the last written first
pub closing-whole : {r t : ℕ} (bs n end : ℕ) (src xs ys zs ws : List ℕ) → end ≡ length xs - 2 → n * bs ≤ length src → length xs ≡ 2 + blocks_length bs n + 2
    → Put (end + 2) (patch end (be_bytes 2 0x464c) xs) xs r ys → zs ≡ patch 2 (list_bytes (block_records bs 0 n src)) ys → Put (0 + 2) (patch 0 (be_bytes 2 0x464c) zs) zs t ws
    → ws ≡ record_bytes FL ++ (list_bytes (block_records bs 0 n src) ++ record_bytes FL)
closing-whole bs n end src xs ys zs ws f l lx p q u =
    let F = be_bytes 2 0x464c in
    let B = list_bytes (block_records bs 0 n src) in
    let lf : length F ≡ 2 = length-be 2 0x464c in
    let lb : length B ≡ blocks_length bs n = blocks-length bs 0 n src l in
    let e : ys ≡ patch end F xs = put_in p (omega arith) in
    let ly : length ys ≡ length xs = ap (λ (v : List ℕ). length v) e ∙ length-patch end F xs in
    let lz : length zs ≡ length ys = ap (λ (v : List ℕ). length v) q ∙ length-patch 2 B ys in
    let h : ws ≡ patch 0 F zs = put_in u (omega arith) in
    let i : length (F ++ (B ++ F)) ≡ length F + length (B ++ F) = length-append F (B ++ F) in
    let j : length (B ++ F) ≡ length B + length F = length-append B F in
    h
    ∙ ap (λ (v : List ℕ). patch 0 F v) (q ∙ ap (λ (v : List ℕ). patch 2 B v) e)
    ∙ three-runs 0 2 end F B F xs (ap (λ (i : ℕ). 0 + i) lf) (omega arith)
    ∙ patch-whole (F ++ (B ++ F)) xs (omega arith)
    ∙ rw flush-bytes refl

-- ---- places and lengths fit 64 bits

module _ (g : Geometry) (z : Bounds g) where
  pub log-place : (bs : ℕ) → bs ≡ g.blocksize → (g.logagno * g.agsize + g.log_agbno < 2 ^ 64) × ((g.logagno * g.agsize + g.log_agbno) * bs < 2 ^ 64)
  log-place bs e =
      let a = z.places.log-start in
      let b = z.places.head-most in
      rw e (group-room g z g.logagno g.log_agbno z.places.log-inside (omega arith))

  pub log-bytes : (bs : ℕ) → bs ≡ g.blocksize → g.logblocks * bs < 2 ^ 64
  log-bytes bs e = let w = mul-le-mul z.places.log-blocks (size-most g z) in rw e (omega arith)

  -- a root chunk's first block
  pub root-few : root_chunk g + chunk_blocks g ≤ 80
  unfolding root_chunk
  root-few = z.places.chunk-room

  -- n blocks of group k from block b on, over the whole buffer
  pub blocks-room : (bs at n few k b len work : ℕ) → bs ≡ g.blocksize → n ≡ few → at ≡ byte_of bs g.agsize k b → k < g.agcount → b + few ≤ 1000 → len ≡ few * g.blocksize → work ≡ blocks_length g.blocksize few
      → (at + n * bs ≤ 2 ^ 64) × (0 < bs) × (n * bs ≤ len) × (0 + n * (18 + bs) ≤ work)
  unfolding byte_of disk_blocks_before blocks_length
  blocks-room bs at n few k b len work e m a h f l r =
      let w = group-blocks g z k b few h f in
      let s = size-least g z in
      rw (a, m, e) (w, omega arith, omega arith, omega arith)

  -- the header blocks are of group 0's head
  pub closing-room : (bs n len : ℕ) → bs ≡ g.blocksize → n ≡ header_blocks g → len ≡ head_blocks g * g.blocksize → (0 < bs) × (n * bs ≤ 2 ^ 64) × (n * bs ≤ len)
  closing-room bs n len b m l =
      let s = size-least g z in
      let v = mul-le-mul z.places.header-most (size-most g z) in
      let w = mul-le-mul_right g.blocksize (header-within g) in
      rw (m, b) (omega arith, omega arith, omega arith)
