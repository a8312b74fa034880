-- EVERY CHECKSUM OF A HEAD VERIFIES: those of its sectors by themselves, those of its roots by one law over a list of blocks.
-- Assumes nothing.
use mathlib.Core.Path.{◌≡◌, refl, ap, sym, ◌∙◌}
use mathlib.Core.Bool.{Bool, true, false, cond}
use mathlib.Core.List.{List, [], ◌∷◌, ◌++◌, append_assoc, append-nil}
use Prim.Native.Nat.{ℕ, zero, suc, ◌+◌, ◌*◌, ◌-◌, ◌≤◌, ◌<◌}
use native.Mathlib.Nat.{add-mul, suc-mul, zero-mul}
use native.Mathlib.Omega.{arith}
use lib.ListN.{length, take, replicate, length-replicate, length-append}
use lib.Seq.{take_at}
use Rattle.endian.specs.Bytes.{zeros}
use Rattle.arith.specs.Choice.{bit}
use Rattle.endian.specs.Fields.{part}
use Rattle.endian.proofs.Fields.{write-length}
use Rattle.crc.specs.Crc.{verified}
use Rattle.crc.proofs.Laws.{stamped-verifies}
use Rattle.structs.proofs.Lengths.{sector-least, block-least}
use Rattle.geometry.specs.declared.Geometry.{Geometry}
use Rattle.geometry.specs.Log.{header_of, prealloc_of}
use Rattle.geometry_layout.specs.Places.{ibt_block, fibt_block, daddr_of}
use Rattle.btree.specs.Leaf.{leaf_bytes, leaf_fields}
use Rattle.ag.specs.Agf.{agf_bytes, agf_fields}
use Rattle.ag.specs.Agi.{agi_bytes, agi_fields}
use Rattle.ag.specs.Agfl.{agfl_bytes, agfl_fields}
use Rattle.sb.specs.declared.SbState.{SbState}
use Rattle.sb.specs.Superblock.{sb_bytes, sb_fields}
use Rattle.plan.specs.declared.AgPlan.{AgPlan}
use Rattle.plan_same.specs.Same.{is_plan}
use Rattle.head_frame.specs.declared.Frame.{Frame}
use Rattle.head_frame.specs.Frames.{frame_of, FrameBounds}
use Rattle.head_bytes.specs.Head.{agf_for, agi_for, ino_magic, fino_magic, root_bytes, bno_root, cnt_root, inode_root, rmap_root, refc_root, sectors_bytes, roots_bytes, behind_bytes, head_bytes}
use Rattle.head_bytes.proofs.Lending.{sb-length, agf-length, agi-length, agfl-length}
use Rattle.head_bytes.proofs.Whole.{root-length}
use Rattle.reader_decoded.specs.Decoded.{sector_at, block_at}
use Rattle.reader_decoded.specs.Checks.{Checked}
use Rattle.reader_decoded.proofs.Parts.{joined, part-behind}
use Rattle.reader_decoded.proofs.Sectors.{whole, agf-there, agi-there, list-there, fine, sector-back, block_back}

-- ---- a list of blocks, each with its checksum

abbrev pub Blocks : ℕ → List (List ℕ) → Type 0
Blocks bs [] = Unit {0}
Blocks bs (x ∷ xs) = (length x ≡ bs) × (verified 52 x ≡ true) × Blocks bs xs

block-at : (bs : ℕ) (ps : List (List ℕ)) → Blocks bs ps → (i : ℕ) → i < length ps → verified 52 (part (i * bs) bs (joined ps [])) ≡ true
block-at bs [] a i h = absurd (omega arith)
block-at bs (x ∷ ps) a zero h =
    ap (λ (ys : List ℕ). verified 52 ys) (ap (λ (o : ℕ). part o bs (x ++ joined ps [])) (zero-mul bs) ∙ take_at x (joined ps []) bs a.0) ∙ a.1
block-at bs (x ∷ ps) a (suc i) h =
    let e : suc i * bs ≡ bs + i * bs = (let q = suc-mul i bs in omega arith) in
    ap (λ (ys : List ℕ). verified 52 ys)
    (ap (λ (o : ℕ). part o bs (x ++ joined ps [])) e ∙ part-behind x (joined ps []) bs (i * bs) bs a.0)
    ∙ block-at bs ps a.2 i (omega arith)

-- one more block where it is on
opt-joined : (on : Bool) (x : List ℕ) (ps : List (List ℕ)) (rest : List ℕ) → rest ≡ joined ps [] → cond on x [] ++ rest ≡ joined (cond on (x ∷ ps) ps) []
opt-joined true x ps rest e = ap (λ (ys : List ℕ). x ++ ys) e
opt-joined false x ps rest e = e

opt-last : (on : Bool) (x : List ℕ) → cond on x [] ≡ joined (cond on (x ∷ []) []) []
opt-last true x = sym (append-nil x)
opt-last false x = refl

opt-blocks : (bs : ℕ) (on : Bool) (x : List ℕ) (ps : List (List ℕ)) → length x ≡ bs → verified 52 x ≡ true → Blocks bs ps → Blocks bs (cond on (x ∷ ps) ps)
opt-blocks bs true x ps l v a = (l, v, a)
opt-blocks bs false x ps l v a = a

opt-length : (on : Bool) (x : List ℕ) (ps : List (List ℕ)) → length (cond on (x ∷ ps) ps) ≡ bit on + length ps
unfolding bit
opt-length true x ps = (let e : suc (length ps) ≡ 1 + length ps = omega arith in e)
opt-length false x ps = (let e : length ps ≡ 0 + length ps = omega arith in e)

-- ---- a frame's structures

module _ (w : Frame) (p : AgPlan) (g : Geometry) (s : SbState) (uuid : List ℕ) (ok : FrameBounds w) where
  abbrev sector : List ℕ
  sector = zeros w.sector

  sector-long : 512 ≤ length sector
  sector-long = let a = sector-least w.sector ok.sector-is in let b = length-replicate {A = ℕ} w.sector 0 in omega arith

  sb-checked : verified 224 (sb_bytes g s sector) ≡ true
  unfolding sb_bytes
  sb-checked = stamped-verifies 224 _ (let a = write-length (sb_fields g s) sector in let b = sector-long in omega arith)

  agf-checked : verified 216 (agf_bytes (agf_for w p.free p.agfl.len) uuid sector) ≡ true
  unfolding agf_bytes
  agf-checked =
      stamped-verifies 216 _ (let a = write-length (agf_fields (agf_for w p.free p.agfl.len) uuid) sector in let b = sector-long in omega arith)

  agi-checked : verified 312 (agi_bytes (agi_for w) uuid sector) ≡ true
  unfolding agi_bytes
  agi-checked = stamped-verifies 312 _ (let a = write-length (agi_fields (agi_for w) uuid) sector in let b = sector-long in omega arith)

  list-checked : verified 32 (agfl_bytes w.agno uuid 1 (take p.agfl.len p.agfl.blocks) sector) ≡ true
  unfolding agfl_bytes
  list-checked =
      stamped-verifies 32 _
      (let a = write-length (agfl_fields (length sector) w.agno uuid 1 (take p.agfl.len p.agfl.blocks)) sector in let b = sector-long in omega arith)

  root-checked : (magic b : ℕ) (recs : List ℕ) (n : ℕ) → verified 52 (root_bytes w uuid magic b recs n) ≡ true
  unfolding root_bytes leaf_bytes
  root-checked magic b recs n =
      stamped-verifies 52 _
      (let a = write-length (leaf_fields magic (daddr_of w.block w.agsize w.agno b) w.agno uuid recs n) (replicate w.block 0) in
      let c = length-replicate {A = ℕ} w.block 0 in
      let d = block-least w.block ok.block-is in
      omega arith)

  abbrev Root : List ℕ → Type 0
  Root x = (length x ≡ w.block) × (verified 52 x ≡ true)

  bno-ok : Root (bno_root w uuid p.free)
  unfolding bno_root
  bno-ok = (root-length w uuid _ _ _ _, root-checked _ _ _ _)

  cnt-ok : Root (cnt_root w uuid p.free)
  unfolding cnt_root
  cnt-ok = (root-length w uuid _ _ _ _, root-checked _ _ _ _)

  inode-ok : (magic b : ℕ) → Root (inode_root w uuid magic b)
  unfolding inode_root
  inode-ok magic b = (root-length w uuid _ _ _ _, root-checked _ _ _ _)

  rmap-ok : Root (rmap_root w uuid p.rmap)
  unfolding rmap_root
  rmap-ok = (root-length w uuid _ _ _ _, root-checked _ _ _ _)

  refc-ok : Root (refc_root w uuid)
  unfolding refc_root
  refc-ok = (root-length w uuid _ _ _ _, root-checked _ _ _ _)

  -- the roots that are on, from the last to the first
  abbrev pub counted : List (List ℕ)
  counted = cond w.features.reflink (refc_root w uuid ∷ []) []

  abbrev pub mapped : List (List ℕ)
  mapped = cond w.features.rmapbt (rmap_root w uuid p.rmap ∷ counted) counted

  abbrev pub freed : List (List ℕ)
  freed = cond w.features.finobt (inode_root w uuid fino_magic (fibt_block w.header) ∷ mapped) mapped

  abbrev pub roots : List (List ℕ)
  roots = bno_root w uuid p.free ∷ cnt_root w uuid p.free ∷ inode_root w uuid ino_magic (ibt_block w.header) ∷ freed

  roots-are : roots_bytes w p uuid ≡ joined roots []
  unfolding roots_bytes
  roots-are =
      ap (λ (ys : List ℕ). bno_root w uuid p.free ++ (cnt_root w uuid p.free ++ (inode_root w uuid ino_magic (ibt_block w.header) ++ ys)))
      (opt-joined w.features.finobt _ mapped _ (opt-joined w.features.rmapbt _ counted _ (opt-last w.features.reflink _)))

  pub roots-ok : Blocks w.block roots
  roots-ok =
      let c = opt-blocks w.block w.features.reflink (refc_root w uuid) [] refc-ok.0 refc-ok.1 tt in
      let m = opt-blocks w.block w.features.rmapbt (rmap_root w uuid p.rmap) counted rmap-ok.0 rmap-ok.1 c in
      let i = inode-ok fino_magic (fibt_block w.header) in
      let f = opt-blocks w.block w.features.finobt (inode_root w uuid fino_magic (fibt_block w.header)) mapped i.0 i.1 m in
      let j = inode-ok ino_magic (ibt_block w.header) in
      (bno-ok.0, bno-ok.1, (cnt-ok.0, cnt-ok.1, (j.0, j.1, f)))

  pub roots-count : length roots ≡ 3 + bit w.features.finobt + bit w.features.rmapbt + bit w.features.reflink
  roots-count =
      let a = opt-length w.features.finobt (inode_root w uuid fino_magic (fibt_block w.header)) mapped in
      let b = opt-length w.features.rmapbt (rmap_root w uuid p.rmap) counted in
      let c = opt-length w.features.reflink (refc_root w uuid) [] in
      omega arith

  -- what stands before the roots
  abbrev pub before : List ℕ
  before = sb_bytes g s sector ++ (sectors_bytes w p uuid ++ zeros (w.header * w.block - 4 * w.sector))

  pub before-long : length before ≡ w.header * w.block
  unfolding sectors_bytes
  before-long =
      let z = length-replicate {A = ℕ} w.sector 0 in
      let q = length-replicate {A = ℕ} (w.header * w.block - 4 * w.sector) 0 in
      let a = sb-length g s sector in
      let b = agf-length (agf_for w p.free p.agfl.len) uuid sector in
      let c = agi-length (agi_for w) uuid sector in
      let d = agfl-length w.agno uuid 1 (take p.agfl.len p.agfl.blocks) sector in
      let f = ok.sectors-fit in
      simp length-append (omega arith)

  pub whole_is : whole w p g s uuid ok ≡ before ++ joined roots []
  unfolding behind_bytes
  whole_is = ap (λ (ys : List ℕ). sb_bytes g s sector ++ (sectors_bytes w p uuid ++ (zeros (w.header * w.block - 4 * w.sector) ++ ys))) roots-are ∙ simp append_assoc

  pub root-there : (i : ℕ) → i < length roots → verified 52 (part ((w.header + i) * w.block) w.block (whole w p g s uuid ok)) ≡ true
  root-there i h =
      ap (λ (ys : List ℕ). verified 52 ys)
      (ap (λ (o : ℕ). part o w.block (whole w p g s uuid ok)) (add-mul w.header i w.block)
      ∙ ap (λ (zs : List ℕ). part (w.header * w.block + i * w.block) w.block zs) whole_is
      ∙ part-behind before (joined roots []) (w.header * w.block) (i * w.block) w.block before-long)
      ∙ block-at w.block roots roots-ok i h

  sb-there : part (0 * w.sector) w.sector (whole w p g s uuid ok) ≡ sb_bytes g s sector
  sb-there =
      ap (λ (o : ℕ). part o w.sector (whole w p g s uuid ok)) (zero-mul w.sector)
      ∙ take_at (sb_bytes g s sector) (behind_bytes w p uuid) w.sector (sb-length g s sector ∙ length-replicate {A = ℕ} w.sector 0)

-- ---- of a plan of the planner

module _ (g : Geometry) (p : AgPlan) (uuid : List ℕ) (s : SbState) (l : length g.label ≡ 12) (h : is_plan g p ≡ true) (u : length uuid ≡ 16) where
  abbrev w : Frame
  w = frame_of g p

  ok : FrameBounds w
  ok = fine g p uuid s l h u

  at-sector : (off i : ℕ) (ys : List ℕ) → part (i * w.sector) w.sector (whole w p g s uuid ok) ≡ ys → verified off ys ≡ true
      → verified off (sector_at g i (head_bytes g p uuid s)) ≡ true
  at-sector off i ys e v = ap (λ (zs : List ℕ). verified off zs) (sector-back g p uuid s l h u i ys e) ∙ v

  at-root : (b : ℕ) → header_of g.sectsize g.blocksize ≤ b → b < prealloc_of g.features g.sectsize g.blocksize
      → verified 52 (block_at g b (head_bytes g p uuid s)) ≡ true
  unfolding frame_of prealloc_of
  at-root b least most =
      let i = b - header_of g.sectsize g.blocksize in
      let e : b ≡ w.header + i = omega arith in
      let n = roots-count w p g s uuid ok in
      ap (λ (zs : List ℕ). verified 52 zs)
      (block_back g p uuid s l h u b _ refl ∙ ap (λ (c : ℕ). part (c * w.block) w.block (whole w p g s uuid ok)) e)
      ∙ root-there w p g s uuid ok i (omega arith)

  pub head-checked : Checked g (head_bytes g p uuid s)
  head-checked =
      record {
        superblock = at-sector 224 0 _ (sb-there w p g s uuid ok) (sb-checked w p g s uuid ok);
        agf = at-sector 216 1 _ (agf-there w p g s uuid ok) (agf-checked w p g s uuid ok);
        agi = at-sector 312 2 _ (agi-there w p g s uuid ok) (agi-checked w p g s uuid ok);
        list = at-sector 32 3 _ (list-there w p g s uuid ok) (list-checked w p g s uuid ok);
        roots = at-root;
      }
