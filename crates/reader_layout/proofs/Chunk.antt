-- EVERY INODE OF A ROOT CHUNK VERIFIES, AND HAS ITS NUMBER AND THE DISK'S UUID: one law over the 64 slots.
-- Assumes nothing.
use mathlib.Core.Path.{◌≡◌, refl, ap, sym, subst, ◌∙◌}
use mathlib.Core.Bool.{Bool, true, false}
use mathlib.Core.List.{List, [], ◌++◌}
use Prim.Native.Nat.{ℕ, zero, suc, ◌+◌, ◌*◌, ◌^◌, ◌≤◌, ◌<◌}
use native.Mathlib.Nat.{add-zero, suc-mul, zero-mul}
use native.Mathlib.Omega.{arith}
use lib.Dec.{ltb, lit<}
use lib.ListN.{length, length-replicate}
use lib.Seq.{take_at}
use Rattle.endian.specs.Bytes.{zeros}
use Rattle.endian.specs.Fields.{part}
use Rattle.endian.proofs.Fields.{write-length}
use Rattle.endian.proofs.Laws.{length-be}
use Rattle.crc.specs.Crc.{verified}
use Rattle.crc.proofs.Laws.{stamped-verifies}
use Rattle.structs.specs.Written.{null32}
use Rattle.structs.proofs.Lengths.{inode-least}
use Rattle.structs.proofs.Reading.{read_number}
use Rattle.params.specs.declared.Timestamp.{Timestamp}
use Rattle.inode.specs.declared.dinode.Dinode.{Dinode}
use Rattle.inode.specs.Dinode.{inode_magic, version, free_fields, free_bytes, dinode_fields, dinode_bytes}
use Rattle.inode.specs.Directory.{directory_header, empty_dir}
use Rattle.inode.proofs.Held.{dinode-holds, dinode-ino, free-holds, free-ino}
use Rattle.geometry.specs.declared.Geometry.{Geometry}
use Rattle.geometry_layout.specs.Bounds.{Bounds}
use Rattle.geometry_places.specs.Answers.{root_chunk, root_ino}
use Rattle.chunk.specs.Slots.{slots, free_slot}
use Rattle.chunk.specs.Inodes.{new_bitmap, flags_of, no_time, root_inode, file_inode}
use Rattle.chunk.specs.Chunk.{chunk_draw, bitmap_draw, summary_draw, root_over, bitmap_over, summary_over, contents, chunk_bytes}
use Rattle.chunk.proofs.Pieces.{free-length, dinode-length}
use Rattle.chunk.proofs.Chunks.{size-inode, first_group, first-is, first_fits}
use Rattle.reader_decoded.proofs.Parts.{part-behind}
use Rattle.reader_layout.specs.Chunk.{inode_in, InodeAt, Inodes}

-- ---- slots one after the other

pub first_part : (x ys : List ℕ) (size : ℕ) → length x ≡ size → part (0 * size) size (x ++ ys) ≡ x
first_part x ys size e = ap (λ (o : ℕ). part o size (x ++ ys)) (zero-mul size) ∙ take_at x ys size e

pub next-part : (x ys : List ℕ) (i size : ℕ) → length x ≡ size → part (suc i * size) size (x ++ ys) ≡ part (i * size) size ys
next-part x ys i size e =
    let q : suc i * size ≡ size + i * size = (let m = suc-mul i size in omega arith) in
    ap (λ (o : ℕ). part o size (x ++ ys)) q ∙ part-behind x ys size (i * size) size e

slot-part : (f : ℕ → List ℕ) (size : ℕ) → ((i : ℕ) → length (f i) ≡ size) → (j n i : ℕ) → i < n → part (i * size) size (slots f j n) ≡ f (j + i)
unfolding slots
slot-part f size sized j zero i h = absurd (omega arith)
slot-part f size sized j (suc n) zero h = first_part (f j) (slots f (suc j) n) size (sized j) ∙ ap f (sym (add-zero j))
slot-part f size sized j (suc n) (suc i) h =
    let e : suc j + i ≡ j + suc i = omega arith in
    next-part (f j) (slots f (suc j) n) i size (sized j) ∙ slot-part f size sized (suc j) n i (omega arith) ∙ ap f e

-- ---- the 64 inodes

module _ (first size flags2 : ℕ) (time : Timestamp) (uuid : List ℕ) (seed : ℕ) where
  abbrev pub free : ℕ → List ℕ
  free i = free_slot first (chunk_draw seed).value uuid size i

  abbrev pub root : List ℕ
  root = root_over first flags2 time uuid (free 0)

  abbrev bitmap : List ℕ
  bitmap = bitmap_over first flags2 (bitmap_draw seed).value time uuid (free 1)

  abbrev summary : List ℕ
  summary = summary_over first flags2 (summary_draw seed).value time uuid (free 2)

  abbrev others : List ℕ
  others = slots free 3 61

  pub free-long : (i : ℕ) → length (free i) ≡ size
  free-long i = free-length (first + i) (chunk_draw seed).value uuid (zeros size) ∙ length-replicate {A = ℕ} size 0

  root-long : length root ≡ size
  root-long = dinode-length _ _ uuid (free 0) ∙ free-long 0

  bitmap-long : length bitmap ≡ size
  bitmap-long = dinode-length _ _ uuid (free 1) ∙ free-long 1

  summary-long : length summary ≡ size
  summary-long = dinode-length _ _ uuid (free 2) ∙ free-long 2

  pub first-inode : part (0 * size) size (contents first size flags2 time uuid seed) ≡ root
  unfolding contents
  first-inode = first_part root (bitmap ++ (summary ++ others)) size root-long

  -- what holds of the three in use and of every free one holds of all
  each-inode : (P : ℕ → List ℕ → Type 0) → P 0 root → P 1 bitmap → P 2 summary → ((i : ℕ) → i < 64 → P i (free i))
      → (i : ℕ) → i < 64 → P i (part (i * size) size (contents first size flags2 time uuid seed))
  unfolding contents
  each-inode P a b c f zero h = subst (P 0) (sym first-inode) a
  each-inode P a b c f (suc zero) h =
      subst (P 1) (sym (next-part root (bitmap ++ (summary ++ others)) 0 size root-long ∙ first_part bitmap (summary ++ others) size bitmap-long)) b
  each-inode P a b c f (suc (suc zero)) h =
      subst (P 2)
      (sym (next-part root (bitmap ++ (summary ++ others)) 1 size root-long ∙ next-part bitmap (summary ++ others) 0 size bitmap-long ∙ first_part summary others size summary-long)) c
  each-inode P a b c f (suc (suc (suc i))) h =
      let e : 3 + i ≡ suc (suc (suc i)) = omega arith in
      subst (P (suc (suc (suc i))))
      (sym
      (next-part root (bitmap ++ (summary ++ others)) (suc (suc i)) size root-long
      ∙ next-part bitmap (summary ++ others) (suc i) size bitmap-long
      ∙ next-part summary others i size summary-long
      ∙ slot-part free size free-long 3 61 i (omega arith)
      ∙ ap free e))
      (f (suc (suc (suc i))) h)

-- ---- one inode

module _ (g : Geometry) (u : List ℕ) (u16 : length u ≡ 16) where
  free-verifies : (n generation : ℕ) (xs : List ℕ) → 512 ≤ length xs → verified 100 (free_bytes n generation u xs) ≡ true
  unfolding free_bytes
  free-verifies n generation xs h = stamped-verifies 100 _ (omega (arith, write-length (free_fields n generation u) xs))

  used-verifies : (d : Dinode) (fork xs : List ℕ) → 512 ≤ length xs → verified 100 (dinode_bytes d fork u xs) ≡ true
  unfolding dinode_bytes
  used-verifies d fork xs h = stamped-verifies 100 _ (omega (arith, write-length (dinode_fields d fork u) xs))

  free-at : (i generation : ℕ) (xs : List ℕ) → 512 ≤ length xs → root_ino g + i < 2 ^ 64 → InodeAt g u i (free_bytes (root_ino g + i) generation u xs)
  unfolding free_fields
  free-at i generation xs l b =
      let n = root_ino g + i in
      let zs = free_bytes n generation u xs in
      let held = free-holds n generation u xs u16 (omega arith) in
      record {
        checksum = free-verifies n generation xs l;
        magic = read_number (free_fields n generation u) zs held 0 0 2 inode_magic (lit< tt) refl (lit< tt);
        version = read_number (free_fields n generation u) zs held 1 4 1 version (lit< tt) refl (lit< tt);
        next-unlinked = read_number (free_fields n generation u) zs held 3 96 4 null32 (lit< tt) refl (lit< tt);
        ino = free-ino n generation u xs u16 (omega arith) b;
        uuid = ap (λ (m : ℕ). part 160 m zs) (sym u16) ∙ held 5 (lit< tt);
      }

  used-at : (i : ℕ) (d : Dinode) (fork xs : List ℕ) → 512 ≤ length xs → length fork ≤ 10 → d.ino ≡ root_ino g + i → root_ino g + i < 2 ^ 64
      → InodeAt g u i (dinode_bytes d fork u xs)
  unfolding dinode_fields
  used-at i d fork xs l f e b =
      let zs = dinode_bytes d fork u xs in
      let fits : 176 + length fork ≤ length xs = omega arith in
      let held = dinode-holds d fork u xs u16 fits in
      record {
        checksum = used-verifies d fork xs l;
        magic = read_number (dinode_fields d fork u) zs held 0 0 2 inode_magic (lit< tt) refl (lit< tt);
        version = read_number (dinode_fields d fork u) zs held 2 4 1 version (lit< tt) refl (lit< tt);
        next-unlinked = read_number (dinode_fields d fork u) zs held 13 96 4 null32 (lit< tt) refl (lit< tt);
        ino = dinode-ino d fork u xs u16 fits (omega (arith, e, b)) ∙ e;
        uuid = ap (λ (m : ℕ). part 160 m zs) (sym u16) ∙ held 18 (lit< tt);
      }

-- ---- the root chunk of a geometry

dir-at : (t : Bool) (parent : ℕ) → length (directory_header t parent) ≤ 10
dir-at true parent = omega (arith, length-be 4 parent)
dir-at false parent = omega (arith, length-be 8 parent)

pub dir-few : (parent : ℕ) → length (empty_dir parent) ≤ 10
unfolding empty_dir
dir-few parent = dir-at (ltb parent (2 ^ 32)) parent

module _ (g : Geometry) (z : Bounds g) (u : List ℕ) (u16 : length u ≡ 16) (time : Timestamp) (seed : ℕ) where
  pub size-least : 512 ≤ g.inodesize
  size-least = inode-least g.inodesize (size-inode g z)

  ino-fits : (i : ℕ) → i < 64 → root_ino g + i < 2 ^ 64
  unfolding root_ino root_chunk
  ino-fits i h =
      let n = root_chunk g in
      let c = z.places.chunk-room in
      let a = z.places.chunk_inside in
      let s = first_group g z in
      omega (arith, first-is g z n, first_fits g z n (omega arith))

  pub chunk-inodes : Inodes g u (chunk_bytes g (root_chunk g) u time seed)
  unfolding chunk_bytes inode_in root_ino
  chunk-inodes i h =
      let first = root_ino g in
      let size = g.inodesize in
      let flags = flags_of g.features in
      let long = free-long first size flags time u seed in
      each-inode first size flags time u seed (InodeAt g u)
      (used-at g u u16 0 (root_inode first flags time) (empty_dir first) (free first size flags time u seed 0) (omega (arith, long 0, size-least)) (dir-few first) (sym (add-zero first)) (ino-fits 0 (lit< tt)))
      (used-at g u u16 1 (file_inode (first + 1) new_bitmap flags (bitmap_draw seed).value no_time time) [] (free first size flags time u seed 1) (omega (arith, long 1, size-least)) (omega arith) refl (ino-fits 1 (lit< tt)))
      (used-at g u u16 2 (file_inode (first + 2) 0 flags (summary_draw seed).value time time) [] (free first size flags time u seed 2) (omega (arith, long 2, size-least)) (omega arith) refl (ino-fits 2 (lit< tt)))
      (λ j l. free-at g u u16 j (chunk_draw seed).value (zeros size) (omega (arith, length-replicate {A = ℕ} size 0, size-least)) (ino-fits j l))
      i h
