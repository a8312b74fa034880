-- THE ROOTS of a head that a run leaves: the header of each, at its block.
-- Assumes nothing.
use mathlib.Core.Path.{◌≡◌, refl, ap, sym, subst, ◌∙◌}
use mathlib.Core.Bool.{Bool, true, false, cond}
use mathlib.Core.List.{List, [], ◌∷◌}
use Prim.Native.Nat.{ℕ, zero, suc, ◌+◌, ◌*◌, ◌/◌, ◌^◌, ◌≤◌, ◌<◌}
use native.Mathlib.Nat.{add-mul}
use native.Mathlib.Omega.{arith}
use lib.Dec.{eqb, lit<}
use lib.ListN.{length, get_or, length-take, length-replicate}
use Rattle.arith.specs.Choice.{bit}
use Rattle.arith.proofs.Laws.{bit_le}
use Rattle.endian.specs.Fields.{part}
use Rattle.structs.specs.Written.{null32}
use Rattle.structs.proofs.Lengths.{block-least}
use Rattle.structs.proofs.Reading.{read_number}
use Rattle.seqs.specs.Lists.{total}
use Rattle.geometry.specs.declared.Geometry.{Geometry}
use Rattle.geometry_layout.specs.Places.{disk_blocks_before as blocks_before, cnt_block, ibt_block, fibt_block, rmap_block, refc_block, daddr_of}
use Rattle.btree.specs.declared.records.AllocRec.{AllocRec}
use Rattle.btree.specs.Records.{records_bytes, alloc_bytes, inobt_bytes, rmap_bytes}
use Rattle.btree.specs.Leaf.{leaf_header, leaf_fields, leaf_bytes}
use Rattle.btree.proofs.Laws.{length-listed, alloc-size, inobt-size, rmap-size}
use Rattle.btree.proofs.Held.{leaf-holds}
use Rattle.plan_free.specs.Free.{free_of}
use Rattle.plan_rmap.specs.Rmap.{rmap_of}
use Rattle.plan.specs.declared.AgPlan.{AgPlan}
use Rattle.plan.specs.Plan.{planned}
use Rattle.sb.specs.declared.SbState.{SbState}
use Rattle.head_leaves.specs.Leaves.{chunk_rec, few}
use Rattle.head_frame.specs.declared.Frame.{Frame}
use Rattle.head_frame.specs.Frames.{frame_of, FrameBounds}
use Rattle.head_frame.proofs.Fitting.{plan-narrow, plan-few}
use Rattle.head_bytes.specs.Head.{bno_magic, cnt_magic, ino_magic, fino_magic, rmap_magic, refc_magic, root_bytes, bno_root, cnt_root, inode_root, rmap_root, refc_root, head_bytes}
use Rattle.head_bytes.specs.Sorting.{by_size}
use Rattle.head_bytes.proofs.BySize.{by-size-total}
use Rattle.list_accepted.specs.Accepted.{Source}
use Rattle.reader_decoded.specs.Decoded.{block_at}
use Rattle.reader_decoded.proofs.Parts.{joined, part-behind}
use Rattle.reader_decoded.proofs.Numbers.{free-length}
use Rattle.reader_decoded.proofs.Sectors.{whole, block_back}
use Rattle.reader_decoded.proofs.Checks.{Blocks, before, before-long, counted, mapped, freed, roots, roots-ok, roots-count, whole_is}
use Rattle.reader_layout.specs.Layouts.{header_blocks_of, LeafAt, RootsAt}
use Rattle.reader_layout.proofs.Chunk.{first_part, next-part}
use Rattle.reader_layout.proofs.Groups.{label, u16, is-plan, group-is, has-is, ok}

-- ---- blocks one after the other

block-part : (bs : ℕ) (ps : List (List ℕ)) → Blocks bs ps → (i : ℕ) → i < length ps → part (i * bs) bs (joined ps []) ≡ get_or ps i []
block-part bs [] a i h = absurd (omega arith)
block-part bs (x ∷ ps) a zero h = first_part x (joined ps []) bs a.0
block-part bs (x ∷ ps) a (suc i) h = next-part x (joined ps []) i bs a.0 ∙ block-part bs ps a.2 i (omega arith)

-- one that may be there, and what stands behind it
opt-behind : (t : Bool) (x : List ℕ) (ps : List (List ℕ)) (n : ℕ) → get_or (cond t (x ∷ ps) ps) (bit t + n) [] ≡ get_or ps n []
unfolding bit
opt-behind true x ps n = let e : 1 + n ≡ suc n = omega arith in ap (λ (i : ℕ). get_or (x ∷ ps) i []) e
opt-behind false x ps n = let e : 0 + n ≡ n = omega arith in ap (λ (i : ℕ). get_or ps i []) e

opt-here : (t : Bool) (x : List ℕ) (ps : List (List ℕ)) → t ≡ true → get_or (cond t (x ∷ ps) ps) 0 [] ≡ x
opt-here t x ps e = rw e refl

third : (a b c : List ℕ) (ps : List (List ℕ)) (n : ℕ) → get_or (a ∷ b ∷ c ∷ ps) (3 + n) [] ≡ get_or ps n []
third a b c ps n = let e : 3 + n ≡ suc (suc (suc n)) = omega arith in ap (λ (i : ℕ). get_or (a ∷ b ∷ c ∷ ps) i []) e

on_bit : (t : Bool) → t ≡ true → bit t ≡ 1
unfolding bit
on_bit t e = rw e refl

-- sorted, they are as many
ones : (xs : List AllocRec) → total (λ r. 1) xs ≡ length xs
unfolding total
ones [] = refl
ones (x ∷ xs) = let e = ones xs in omega arith

sorted-length : (xs : List AllocRec) → length (by_size xs) ≡ length xs
sorted-length xs = sym (ones (by_size xs)) ∙ by-size-total (λ r. 1) xs ∙ ones xs

module _ (g : Geometry) (u : List ℕ) (z : Source g u) (k : ℕ) (h : k < g.agcount) (s : SbState) where
  abbrev p : AgPlan
  p = (planned g k).plan

  abbrev w : Frame
  w = frame_of g p

  abbrev head : List ℕ
  head = head_bytes g p u s

  fine : FrameBounds w
  fine = ok g u z k h s

  id16 : length u ≡ 16
  id16 = u16 g u z k h s

  block-long : 1024 ≤ w.block
  block-long = block-least w.block fine.block-is

  -- ---- where they stand

  root_is : (i : ℕ) → i < length (roots w p g s u fine) → block_at g (header_blocks_of g + i) head ≡ get_or (roots w p g s u fine) i []
  unfolding frame_of
  root_is i l =
      block_back g p u s (label g u z k h s) (is-plan g u z k h s) id16 (w.header + i) _
      (ap (λ (o : ℕ). part o w.block (whole w p g s u fine)) (add-mul w.header i w.block)
      ∙ ap (λ (xs : List ℕ). part (w.header * w.block + i * w.block) w.block xs) (whole_is w p g s u fine)
      ∙ part-behind (before w p g s u fine) (joined (roots w p g s u fine) []) (w.header * w.block) (i * w.block) w.block (before-long w p g s u fine)
      ∙ block-part w.block (roots w p g s u fine) (roots-ok w p g s u fine) i l)

  -- ---- the header of a leaf

  leaf-at : (magic b : ℕ) (recs : List ℕ) (n : ℕ) → magic < 256 ^ 4 → b ≤ 10 → n < 256 ^ 2 → 56 + length recs ≤ w.block → LeafAt g u k b magic n (root_bytes w u magic b recs n)
  unfolding root_bytes daddr_of blocks_before leaf_fields leaf_header frame_of
  leaf-at magic b recs n m t c f =
      let daddr = daddr_of w.block w.agsize w.agno b in
      let fs = leaf_fields magic daddr w.agno u recs n in
      let zs = leaf_bytes magic daddr w.agno u recs n w.block in
      let held = leaf-holds magic daddr w.agno u recs n w.block id16 f in
      let e = group-is g u z k h s in
      let narrow = plan-narrow g p (label g u z k h s) (is-plan g u z k h s) in
      record {
        magic = read_number fs zs held 0 0 4 magic (lit< tt) refl m;
        level = read_number fs zs held 1 4 2 0 (lit< tt) refl (lit< tt);
        numrecs = read_number fs zs held 2 6 2 n (lit< tt) refl c;
        leftsib = read_number fs zs held 3 8 4 null32 (lit< tt) refl (lit< tt);
        rightsib = read_number fs zs held 4 12 4 null32 (lit< tt) refl (lit< tt);
        blkno = read_number fs zs held 5 16 8 daddr (lit< tt) refl (fine.addresses b t).1 ∙ ap (λ (j : ℕ). (j * g.agsize + b) * (g.blocksize / 512)) e;
        lsn = read_number fs zs held 6 24 8 0 (lit< tt) refl (lit< tt);
        uuid = ap (λ (j : ℕ). part 32 j zs) (sym id16) ∙ held 7 (lit< tt);
        owner = read_number fs zs held 8 48 4 w.agno (lit< tt) refl narrow.group ∙ e;
      }

  -- ---- their records

  few-free : p.free.len ≤ 2
  few-free = (plan-few g p (label g u z k h s) (is-plan g u z k h s)).free-most

  few-maps : p.rmap.len ≤ 8
  few-maps = (plan-few g p (label g u z k h s) (is-plan g u z k h s)).rmap-most

  free-room : 56 + length (records_bytes alloc_bytes (free_of p.free)) ≤ w.block
  free-room =
      omega (
        arith,
        length-listed alloc_bytes 8 alloc-size (free_of p.free),
        free-length g p (label g u z k h s) (is-plan g u z k h s),
        few-free,
        block-long,
      )

  size_room : 56 + length (records_bytes alloc_bytes (by_size (free_of p.free))) ≤ w.block
  size_room =
      omega (
        arith,
        length-listed alloc_bytes 8 alloc-size (by_size (free_of p.free)),
        sorted-length (free_of p.free),
        free-length g p (label g u z k h s) (is-plan g u z k h s),
        few-free,
        block-long,
      )

  maps-room : 56 + length (records_bytes rmap_bytes (rmap_of p.rmap)) ≤ w.block
  maps-room = omega (arith, length-listed rmap_bytes 24 rmap-size (rmap_of p.rmap), length-take p.rmap.len p.rmap.recs, few-maps, block-long)

  chunk-room : 56 + length (records_bytes (inobt_bytes w.features.sparse) (few (bit w.has_chunk) (chunk_rec w.newino))) ≤ w.block
  chunk-room =
      omega (
        arith,
        length-listed (inobt_bytes w.features.sparse) 16 (inobt-size w.features.sparse) (few (bit w.has_chunk) (chunk_rec w.newino)),
        length-replicate (bit w.has_chunk) (chunk_rec w.newino),
        bit_le w.has_chunk,
        block-long,
      )

  inode-leaf : (magic b : ℕ) → magic < 256 ^ 4 → b ≤ 10 → LeafAt g u k b magic (bit (eqb k 0)) (inode_root w u magic b)
  unfolding inode_root frame_of
  inode-leaf magic b m t =
      subst (λ (n : ℕ). LeafAt g u k b magic n (inode_root w u magic b)) (ap (λ (t : Bool). bit t) (has-is g u z k h s))
      (leaf-at magic b _ (bit w.has_chunk) m t (omega (arith, bit_le w.has_chunk)) chunk-room)

  header-few : header_blocks_of g ≤ 4
  unfolding frame_of
  header-few = fine.header-most

  abbrev its : List (List ℕ)
  its = roots w p g s u fine

  many : length its ≡ 3 + bit w.features.finobt + bit w.features.rmapbt + bit w.features.reflink
  many = roots-count w p g s u fine

  at-root : (i b magic n : ℕ) (x : List ℕ) → header_blocks_of g + i ≡ b → i < length its → get_or its i [] ≡ x → LeafAt g u k b magic n x → LeafAt g u k b magic n (block_at g b head)
  at-root i b magic n x q l e a = subst (LeafAt g u k b magic n) (sym (ap (λ (j : ℕ). block_at g j head) (sym q) ∙ root_is i l ∙ e)) a

  abbrev f : ℕ
  f = bit g.features.finobt

  abbrev m : ℕ
  m = bit g.features.rmapbt

  -- which of the roots it is
  free-third : g.features.finobt ≡ true → get_or its 3 [] ≡ inode_root w u fino_magic (fibt_block w.header)
  unfolding frame_of
  free-third on = opt-here g.features.finobt (inode_root w u fino_magic (fibt_block w.header)) (mapped w p g s u fine) on

  maps-there : g.features.rmapbt ≡ true → get_or its (3 + (f + 0)) [] ≡ rmap_root w u p.rmap
  unfolding frame_of
  maps-there on =
      third (bno_root w u p.free) (cnt_root w u p.free) (inode_root w u ino_magic (ibt_block w.header)) (freed w p g s u fine) (f + 0)
      ∙ opt-behind g.features.finobt (inode_root w u fino_magic (fibt_block w.header)) (mapped w p g s u fine) 0
      ∙ opt-here g.features.rmapbt (rmap_root w u p.rmap) (counted w p g s u fine) on

  counts-there : g.features.reflink ≡ true → get_or its (3 + (f + (m + 0))) [] ≡ refc_root w u
  unfolding frame_of
  counts-there on =
      third (bno_root w u p.free) (cnt_root w u p.free) (inode_root w u ino_magic (ibt_block w.header)) (freed w p g s u fine) (f + (m + 0))
      ∙ opt-behind g.features.finobt (inode_root w u fino_magic (fibt_block w.header)) (mapped w p g s u fine) (m + 0)
      ∙ opt-behind g.features.rmapbt (rmap_root w u p.rmap) (counted w p g s u fine) 0
      ∙ opt-here g.features.reflink (refc_root w u) [] on

  bno-leaf : LeafAt g u k (header_blocks_of g) bno_magic p.free.len (bno_root w u p.free)
  unfolding bno_root frame_of
  bno-leaf = leaf-at bno_magic (header_blocks_of g) (records_bytes alloc_bytes (free_of p.free)) p.free.len (lit< tt) (omega (arith, header-few)) (omega (arith, few-free)) free-room

  cnt-leaf : LeafAt g u k (header_blocks_of g + 1) cnt_magic p.free.len (cnt_root w u p.free)
  unfolding cnt_root cnt_block frame_of
  cnt-leaf = leaf-at cnt_magic (header_blocks_of g + 1) (records_bytes alloc_bytes (by_size (free_of p.free))) p.free.len (lit< tt) (omega (arith, header-few)) (omega (arith, few-free)) size_room

  maps-leaf : LeafAt g u k (header_blocks_of g + 3 + f) rmap_magic p.rmap.len (rmap_root w u p.rmap)
  unfolding rmap_root rmap_block frame_of
  maps-leaf =
      leaf-at rmap_magic (header_blocks_of g + 3 + f) (records_bytes rmap_bytes (rmap_of p.rmap)) p.rmap.len (lit< tt)
      (omega (arith, header-few, bit_le g.features.finobt)) (omega (arith, few-maps)) maps-room

  counts-leaf : LeafAt g u k (header_blocks_of g + 3 + f + m) refc_magic 0 (refc_root w u)
  unfolding refc_root refc_block frame_of
  counts-leaf =
      leaf-at refc_magic (header_blocks_of g + 3 + f + m) [] 0 (lit< tt)
      (omega (arith, header-few, bit_le g.features.finobt, bit_le g.features.rmapbt)) (lit< tt) (omega (arith, block-long))

  pub roots-at : RootsAt g u k (head_bytes g (planned g k).plan u s)
  unfolding ibt_block fibt_block frame_of
  roots-at =
      let n = many in
      record {
        by-block = at-root 0 (header_blocks_of g) bno_magic p.free.len _ (omega arith) (omega arith) refl bno-leaf;
        by-size = at-root 1 (header_blocks_of g + 1) cnt_magic p.free.len _ refl (omega arith) refl cnt-leaf;
        inodes = at-root 2 (header_blocks_of g + 2) ino_magic (bit (eqb k 0)) _ refl (omega arith) refl (inode-leaf ino_magic (header_blocks_of g + 2) (lit< tt) (omega (arith, header-few)));
        free-inodes =
            λ on.
            at-root 3 (header_blocks_of g + 3) fino_magic (bit (eqb k 0)) _ refl (omega (arith, on_bit g.features.finobt on)) (free-third on)
            (inode-leaf fino_magic (header_blocks_of g + 3) (lit< tt) (omega (arith, header-few)));
        mappings =
            λ on. at-root (3 + (f + 0)) (header_blocks_of g + 3 + f) rmap_magic p.rmap.len _ (omega arith) (omega (arith, on_bit g.features.rmapbt on)) (maps-there on) maps-leaf;
        counts =
            λ on. at-root (3 + (f + (m + 0))) (header_blocks_of g + 3 + f + m) refc_magic 0 _ (omega arith) (omega (arith, on_bit g.features.reflink on)) (counts-there on) counts-leaf;
      }
