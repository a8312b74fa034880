-- The trees of a head are read back: the free records are the plan's, and the chunk is where the plan has it.
-- Assumes nothing.
use Rattle.std.specs.Prelude.{Option, Some, None}
use mathlib.Core.Path.{◌≡◌, refl, ap, sym, ◌∙◌}
use mathlib.Core.Bool.{Bool, true, false, cond}
use mathlib.Core.List.{List, [], ◌∷◌, ◌++◌, append-nil}
use Prim.Native.Nat.{ℕ, ◌+◌, ◌*◌, ◌/◌, ◌^◌, ◌≤◌, ◌<◌}
use native.Mathlib.Nat.{mul-div_cancel}
use native.Mathlib.Omega.{arith}
use lib.Dec.{lit<}
use lib.ListN.{length}
use lib.Pow.{pow_pos}
use Rattle.arith.specs.Choice.{bit}
use Rattle.endian.specs.Bytes.{be_at}
use Rattle.endian.specs.Fields.{part}
use Rattle.structs.proofs.Reading.{read_number}
use Rattle.structs.proofs.Lengths.{block-least}
use Rattle.geometry.specs.declared.Geometry.{Geometry}
use Rattle.geometry_layout.specs.Places.{ibt_block, daddr_of}
use Rattle.geometry_layout.proofs.Bounding.{answer-bounds}
use Rattle.btree.specs.declared.records.AllocRec.{AllocRec}
use Rattle.btree.specs.declared.records.InobtRec.{InobtRec}
use Rattle.btree.specs.Records.{records_bytes, alloc_bytes, inobt_fields, inobt_bytes}
use Rattle.btree.specs.Decode.{read_records, alloc_of, AllocFits}
use Rattle.btree.proofs.Laws.{length-listed, alloc-size, inobt-size}
use Rattle.btree.proofs.Held.{listed_back, alloc-back, sparse-holds, full-holds, leaf-records, leaf-numrecs}
use Rattle.ag.specs.declared.agf.Agf.{Agf}
use Rattle.ag.specs.declared.agi.Agi.{Agi}
use Rattle.head_leaves.specs.Leaves.{chunk_rec, few}
use Rattle.sb.specs.declared.SbState.{SbState}
use Rattle.plan_free.specs.Free.{free_of}
use Rattle.plan.specs.declared.AgPlan.{AgPlan}
use Rattle.plan_same.specs.Same.{is_plan}
use Rattle.head_frame.specs.declared.Frame.{Frame}
use Rattle.head_frame.specs.Frames.{frame_of, has_chunk, chunk_ino, FrameBounds}
use Rattle.plan_summary.proofs.Narrow.{plan-answer}
use Rattle.head_frame.proofs.Fitting.{plan-narrow, plan-few}
use Rattle.head_bytes.specs.Head.{agf_for, agi_for, bno_magic, ino_magic, root_bytes, bno_root, inode_root, head_bytes}
use Rattle.reader_decoded.specs.Decoded.{block_at, agf_in, agi_in, numrecs_in, records_in, free_records_in, chunk_of_record, chunks_in, chunk_list}
use Rattle.reader_decoded.proofs.Numbers.{free-length, free-narrow}
use Rattle.reader_decoded.proofs.Sectors.{bno-there, ino-there, fine, block_back, agf-in, agi-in}

-- ---- the records of a root

module _ (w : Frame) (uuid : List ℕ) (u : length uuid ≡ 16) (magic b : ℕ) (recs : List ℕ) (n : ℕ) (few-recs : n < 2 ^ 16) (fits : 56 + length recs ≤ w.block) where
  pub root-numrecs : numrecs_in (root_bytes w uuid magic b recs n) ≡ n
  unfolding numrecs_in root_bytes
  root-numrecs = leaf-numrecs magic (daddr_of w.block w.agsize w.agno b) w.agno uuid recs n w.block u fits few-recs

  pub root-records : part 56 (length recs) (root_bytes w uuid magic b recs n) ≡ recs
  unfolding root_bytes
  root-records = leaf-records magic (daddr_of w.block w.agsize w.agno b) w.agno uuid recs n w.block u fits

-- the first inode of a record, in both forms
start_back : (sparse : Bool) (r : InobtRec) → r.startino < 2 ^ 32 → be_at 4 0 (inobt_bytes sparse r) ≡ r.startino
start_back true r h = read_number (inobt_fields true r) (inobt_bytes true r) (sparse-holds r) 0 0 4 r.startino (lit< tt) refl h
start_back false r h = read_number (inobt_fields false r) (inobt_bytes false r) (full-holds r) 0 0 4 r.startino (lit< tt) refl h

module _ (g : Geometry) (p : AgPlan) (uuid : List ℕ) (s : SbState) (l : length g.label ≡ 12) (h : is_plan g p ≡ true) (u : length uuid ≡ 16) where
  abbrev w : Frame
  w = frame_of g p

  abbrev xs : List ℕ
  xs = head_bytes g p uuid s

  ok : FrameBounds w
  ok = fine g p uuid s l h u

  block-long : 1024 ≤ w.block
  block-long = block-least w.block ok.block-is

  -- ---- the tree by block

  bno-in : (agf_in g xs).bno_root ≡ w.header
  unfolding agf_for
  bno-in = ap (λ (a : Agf). a.bno_root) (agf-in g p uuid s l h u)

  bno-leaf : block_at g (agf_in g xs).bno_root xs ≡ bno_root w uuid p.free
  bno-leaf = ap (λ (b : ℕ). block_at g b xs) bno-in ∙ block_back g p uuid s l h u w.header _ (bno-there w p g s uuid ok)

  abbrev frees : List AllocRec
  frees = free_of p.free

  frees-long : length (records_bytes alloc_bytes frees) ≡ 8 * length frees
  frees-long = length-listed alloc_bytes 8 alloc-size frees

  free-room : 56 + length (records_bytes alloc_bytes frees) ≤ w.block
  free-room =
      let a = frees-long in
      let b = free-length g p l h in
      let c = (plan-few g p l h).free-most in
      let d = block-long in
      omega arith

  free-few : p.free.len < 2 ^ 16
  free-few = let c = (plan-few g p l h).free-most in omega arith

  frees-in : numrecs_in (bno_root w uuid p.free) ≡ length frees
  unfolding bno_root
  frees-in = root-numrecs w uuid u bno_magic w.header (records_bytes alloc_bytes frees) p.free.len free-few free-room ∙ sym (free-length g p l h)

  frees-there : part 56 (8 * length frees) (bno_root w uuid p.free) ≡ records_bytes alloc_bytes frees
  unfolding bno_root
  frees-there =
      ap (λ (n : ℕ). part 56 n (bno_root w uuid p.free)) (sym frees-long)
      ∙ root-records w uuid u bno_magic w.header (records_bytes alloc_bytes frees) p.free.len free-few free-room

  -- THE FREE RECORDS ARE THE PLAN'S
  pub free_in : free_records_in g xs ≡ free_of p.free
  unfolding free_records_in
  free_in =
      ap (λ (leaf : List ℕ). records_in alloc_of 8 leaf) bno-leaf
      ∙ ap (λ (n : ℕ). read_records alloc_of 8 n 56 (bno_root w uuid p.free)) frees-in
      ∙ listed_back alloc_bytes 8 alloc_of AllocFits alloc-size alloc-back frees 56 (bno_root w uuid p.free) (free-narrow g p l h) frees-there

  -- ---- the inode tree

  ibt-in : (agi_in g xs).root ≡ ibt_block w.header
  unfolding agi_for
  ibt-in = ap (λ (a : Agi). a.root) (agi-in g p uuid s l h u)

  ibt-leaf : block_at g (agi_in g xs).root xs ≡ inode_root w uuid ino_magic (ibt_block w.header)
  ibt-leaf = ap (λ (b : ℕ). block_at g b xs) ibt-in ∙ block_back g p uuid s l h u (ibt_block w.header) _ (ino-there w p g s uuid ok)

  -- no record, or the chunk's
  abbrev ino_recs : Bool → Bool → ℕ → List ℕ
  ino_recs sparse t ino = records_bytes (inobt_bytes sparse) (few (bit t) (chunk_rec ino))

  abbrev leaf_of : Bool → Bool → ℕ → List ℕ
  leaf_of sparse t ino = root_bytes w uuid ino_magic (ibt_block w.header) (ino_recs sparse t ino) (bit t)

  module _ (sparse : Bool) (ino : ℕ) (small : ino < 2 ^ 32) where
    one-long : length (inobt_bytes sparse (chunk_rec ino) ++ []) ≡ 16
    one-long = ap (λ (x : List ℕ). length x) (append-nil (inobt_bytes sparse (chunk_rec ino))) ∙ inobt-size sparse (chunk_rec ino)

    one-room : 56 + length (inobt_bytes sparse (chunk_rec ino) ++ []) ≤ w.block
    one-room = let a = one-long in let b = block-long in omega arith

    one-there : part 56 16 (leaf_of sparse true ino) ≡ inobt_bytes sparse (chunk_rec ino)
    unfolding bit
    one-there =
        ap (λ (n : ℕ). part 56 n (leaf_of sparse true ino)) (sym one-long)
        ∙ root-records w uuid u ino_magic (ibt_block w.header) (ino_recs sparse true ino) 1 (lit< tt) one-room
        ∙ append-nil (inobt_bytes sparse (chunk_rec ino))

    one_block : chunk_of_record g (inobt_bytes sparse (chunk_rec ino)) ≡ ino / g.inopblock
    unfolding chunk_of_record chunk_rec
    one_block = ap (λ (n : ℕ). n / g.inopblock) (start_back sparse (chunk_rec ino) small)

    leaf-chunks : (t : Bool) → records_in (chunk_of_record g) 16 (leaf_of sparse t ino) ≡ cond t (ino / g.inopblock ∷ []) []
    unfolding bit
    leaf-chunks true =
        ap (λ (n : ℕ). read_records (chunk_of_record g) 16 n 56 (leaf_of sparse true ino))
        (root-numrecs w uuid u ino_magic (ibt_block w.header) (ino_recs sparse true ino) 1 (lit< tt) one-room)
        ∙ ap (λ (r : List ℕ). chunk_of_record g r ∷ []) one-there
        ∙ ap (λ (n : ℕ). n ∷ []) one_block
    leaf-chunks false =
        ap (λ (n : ℕ). read_records (chunk_of_record g) 16 n 56 (leaf_of sparse false ino))
        (root-numrecs w uuid u ino_magic (ibt_block w.header) [] 0 (lit< tt) (let b = block-long in omega arith))

  -- the first inode by inodes per block is the block
  inodes-some : 0 < g.inopblock
  inodes-some = let b = (answer-bounds g l (plan-answer g p l h).0).sizes.inodes-power in rw b (pow_pos g.inopblog)

  chunk-at : (c : Option ℕ) → cond (has_chunk c) (chunk_ino g.inopblog c / g.inopblock ∷ []) [] ≡ chunk_list c
  unfolding has_chunk chunk_ino chunk_list
  chunk-at None = refl
  chunk-at (Some c) =
      let b = (answer-bounds g l (plan-answer g p l h).0).sizes.inodes-power in
      ap (λ (n : ℕ). n ∷ []) (ap (λ (n : ℕ). c * n / g.inopblock) (sym b) ∙ mul-div_cancel c inodes-some)

  -- THE CHUNK IS THE PLAN'S
  pub chunks-in : chunks_in g xs ≡ chunk_list p.chunk
  unfolding chunks_in inode_root frame_of
  chunks-in =
      ap (λ (leaf : List ℕ). records_in (chunk_of_record g) 16 leaf) ibt-leaf
      ∙ leaf-chunks w.features.sparse w.newino (plan-narrow g p l h).inode w.has_chunk
      ∙ chunk-at p.chunk
