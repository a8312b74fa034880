-- The head part by part, and as a whole.
-- Assumes nothing.
use mathlib.Core.Path.{◌≡◌, refl, ap, sym, ◌∙◌}
use mathlib.Core.Bool.{Bool, true, false, cond}
use mathlib.Core.List.{List, [], ◌∷◌, ◌++◌, append_assoc}
use Prim.Native.Nat.{ℕ, ◌+◌, ◌*◌, ◌-◌, ◌≤◌, ◌<◌}
use native.Mathlib.Nat.{add-mul, mul-le-mul_right}
use native.Mathlib.Omega.{arith}
use lib.ListN.{length, take, drop, replicate, length-append, length-replicate}
use Rattle.arith.specs.Choice.{bit}
use Rattle.endian.specs.Bytes.{patch, zeros}
use Rattle.endian.proofs.Laws.{patch-split, length-patch}
use Rattle.geometry.specs.declared.Geometry.{Geometry}
use Rattle.geometry_layout.specs.Places.{cnt_block, ibt_block, fibt_block, rmap_block, refc_block}
use Rattle.ag.specs.Agf.{agf_bytes}
use Rattle.ag.specs.Agi.{agi_bytes}
use Rattle.ag.specs.Agfl.{agfl_bytes}
use Rattle.sb.specs.declared.SbState.{SbState}
use Rattle.sb.specs.Superblock.{sb_bytes}
use Rattle.plan_free.specs.declared.FreeList.{FreeList}
use Rattle.plan_rmap.specs.declared.RmapList.{RmapList}
use Rattle.plan.specs.declared.AgPlan.{AgPlan}
use Rattle.head_frame.specs.declared.Frame.{Frame}
use Rattle.head_frame.specs.Frames.{FrameBounds}
use Rattle.head_bytes.specs.Head.{frame_blocks, agf_for, agi_for, ino_magic, fino_magic, root_bytes, bno_root, cnt_root, inode_root, rmap_root, refc_root, sectors_bytes, roots_bytes, behind_bytes}
use Rattle.head_bytes.specs.Parts.{sector_on, block_if, sectors_on, roots_on, more_on}
use Rattle.head_bytes.proofs.Lending.{sb-length, agf-length, agi-length, agfl-length, leaf-length}
use Rattle.head_bytes.proofs.Laying.{Starts, next, next-if, next-sector, all_laid}

-- ---- room for a block

pub block_room : (b n bs len : ℕ) → b < n → n * bs ≤ len → b * bs + bs ≤ len
block_room b n bs len h r =
    let m : (b + 1) * bs ≤ n * bs = mul-le-mul_right bs (omega arith) in
    let d : (b + 1) * bs ≡ b * bs + 1 * bs = add-mul b 1 bs in
    omega arith

bit-true : (b : Bool) → b ≡ true → bit b ≡ 1
unfolding bit
bit-true b e = rw e refl

module _ (w : Frame) where
  pub fibt-inside : w.features.finobt ≡ true → fibt_block w.header < frame_blocks w
  unfolding frame_blocks fibt_block
  fibt-inside e = let n = bit-true w.features.finobt e in omega arith

  pub rmap-inside : w.features.rmapbt ≡ true → rmap_block w.features w.header < frame_blocks w
  unfolding frame_blocks rmap_block
  rmap-inside e = let n = bit-true w.features.rmapbt e in omega arith

  pub refc-inside : w.features.reflink ≡ true → refc_block w.features w.header < frame_blocks w
  unfolding frame_blocks refc_block
  refc-inside e = let n = bit-true w.features.reflink e in omega arith

  pub three-inside : w.header + 3 ≤ frame_blocks w
  unfolding frame_blocks
  three-inside = omega arith

-- ---- lengths

longer : (pre new : List ℕ) (n bs : ℕ) → length pre ≡ n * bs → length new ≡ bs → length (pre ++ new) ≡ (n + 1) * bs
longer pre new n bs e l =
    let d : (n + 1) * bs ≡ n * bs + 1 * bs = add-mul n 1 bs in
    let a = length-append pre new in
    omega arith

longer-if : (on : Bool) (pre new : List ℕ) (n bs : ℕ) → length pre ≡ n * bs → length new ≡ bs → length (pre ++ cond on new []) ≡ (n + bit on) * bs
unfolding bit
longer-if true pre new n bs e l = longer pre new n bs e l
longer-if false pre new n bs e l =
    let a = length-append pre [] in
    let z : n + 0 ≡ n = omega arith in
    rw z (omega arith)

module _ (w : Frame) (uuid : List ℕ) where
  pub root-length : (magic b : ℕ) (recs : List ℕ) (n : ℕ) → length (root_bytes w uuid magic b recs n) ≡ w.block
  unfolding root_bytes
  root-length magic b recs n = leaf-length magic _ w.agno uuid recs n w.block

  bno-length : (l : FreeList) → length (bno_root w uuid l) ≡ w.block
  unfolding bno_root
  bno-length l = root-length _ _ _ _

  cnt-length : (l : FreeList) → length (cnt_root w uuid l) ≡ w.block
  unfolding cnt_root
  cnt-length l = root-length _ _ _ _

  inode-length : (magic b : ℕ) → length (inode_root w uuid magic b) ≡ w.block
  unfolding inode_root
  inode-length magic b = root-length _ _ _ _

  rmap-length : (l : RmapList) → length (rmap_root w uuid l) ≡ w.block
  unfolding rmap_root
  rmap-length l = root-length _ _ _ _

  refc-length : length (refc_root w uuid) ≡ w.block
  unfolding refc_root
  refc-length = root-length _ _ _ _

if-length : (on : Bool) (a : ℕ) (new xs : List ℕ) → length (block_if on a new xs) ≡ length xs
unfolding block_if
if-length true a new xs = length-patch a new xs
if-length false a new xs = refl

on-length : (a n : ℕ) (f : List ℕ → List ℕ) (xs : List ℕ) → length (sector_on a n f xs) ≡ length xs
unfolding sector_on
on-length a n f xs = length-patch a _ xs

-- a block that is put, and one that is left out
pub block_on : (on : Bool) (a : ℕ) (new xs ys : List ℕ) → on ≡ true → ys ≡ patch a new xs → ys ≡ block_if on a new xs
unfolding block_if
block_on on a new xs ys e p = rw e p

pub block-off : (on : Bool) (a : ℕ) (new xs : List ℕ) → on ≡ false → xs ≡ block_if on a new xs
unfolding block_if
block-off on a new xs e = rw e refl

-- ---- part by part over the lent bytes

module _ (w : Frame) (p : AgPlan) (g : Geometry) (s : SbState) (uuid xs : List ℕ) (ok : FrameBounds w) (fits : length xs ≡ frame_blocks w * w.block) where
  abbrev ss : ℕ
  ss = w.sector

  abbrev hb : ℕ
  hb = w.header * w.block

  abbrev SB : List ℕ
  SB = sb_bytes g s (zeros ss)

  abbrev AGF : List ℕ
  AGF = agf_bytes (agf_for w p.free p.agfl.len) uuid (zeros ss)

  abbrev AGI : List ℕ
  AGI = agi_bytes (agi_for w) uuid (zeros ss)

  abbrev LIST : List ℕ
  LIST = agfl_bytes w.agno uuid 1 (take p.agfl.len p.agfl.blocks) (zeros ss)

  zs : (n : ℕ) → length (zeros n) ≡ n
  zs n = length-replicate {A = ℕ} n 0

  l1 : length SB ≡ ss
  l1 = sb-length g s (zeros ss) ∙ zs ss

  l2 : length AGF ≡ ss
  l2 = agf-length (agf_for w p.free p.agfl.len) uuid (zeros ss) ∙ zs ss

  l3 : length AGI ≡ ss
  l3 = agi-length (agi_for w) uuid (zeros ss) ∙ zs ss

  l4 : length LIST ≡ ss
  l4 = agfl-length w.agno uuid 1 (take p.agfl.len p.agfl.blocks) (zeros ss) ∙ zs ss

  room : hb ≤ length xs
  room = let m : w.header * w.block ≤ frame_blocks w * w.block = mul-le-mul_right w.block (let t = three-inside w in omega arith) in omega arith

  abbrev x0 : List ℕ
  x0 = patch 0 (replicate hb 0) xs

  s0 : Starts ([] ++ zeros hb) x0
  s0 =
      record {
        rest = drop (0 + length (zeros hb)) xs;
        is = patch-split 0 (zeros hb) xs (let z = zs hb in let r = room in omega arith);
      }

  abbrev x1 : List ℕ
  x1 = sector_on 0 ss (sb_bytes g s) x0

  s1 : Starts (SB ++ zeros (hb - ss)) x1
  s1 = next-sector 0 ss hb (sb_bytes g s) [] x0 x1 s0 refl (let k = ok.sectors-fit in omega arith) l1 refl

  abbrev x2 : List ℕ
  x2 = sector_on ss ss (agf_bytes (agf_for w p.free p.agfl.len) uuid) x1

  s2 : Starts ((SB ++ AGF) ++ zeros (hb - ss - ss)) x2
  s2 = next-sector ss ss (hb - ss) (agf_bytes (agf_for w p.free p.agfl.len) uuid) SB x1 x2 s1 l1 (let k = ok.sectors-fit in omega arith) l2 refl

  abbrev x3 : List ℕ
  x3 = sector_on (2 * ss) ss (agi_bytes (agi_for w) uuid) x2

  s3 : Starts (((SB ++ AGF) ++ AGI) ++ zeros (hb - ss - ss - ss)) x3
  s3 =
      next-sector (2 * ss) ss (hb - ss - ss) (agi_bytes (agi_for w) uuid) (SB ++ AGF) x2 x3 s2
      (let a = length-append SB AGF in let b = l1 in let c = l2 in omega arith) (let k = ok.sectors-fit in omega arith) l3 refl

  abbrev x4 : List ℕ
  x4 = sector_on (3 * ss) ss (agfl_bytes w.agno uuid 1 (take p.agfl.len p.agfl.blocks)) x3

  abbrev gap : ℕ
  gap = hb - ss - ss - ss - ss

  s4 : Starts ((((SB ++ AGF) ++ AGI) ++ LIST) ++ zeros gap) x4
  s4 =
      next-sector (3 * ss) ss (hb - ss - ss - ss) (agfl_bytes w.agno uuid 1 (take p.agfl.len p.agfl.blocks)) ((SB ++ AGF) ++ AGI) x3 x4 s3
      (let a = length-append SB AGF in let b = length-append (SB ++ AGF) AGI in let c = l1 in let d = l2 in let e = l3 in omega arith)
      (let k = ok.sectors-fit in omega arith) l4 refl

  abbrev PREFIX : List ℕ
  PREFIX = (((SB ++ AGF) ++ AGI) ++ LIST) ++ zeros gap

  n4 : length PREFIX ≡ hb
  n4 =
      let a = length-append SB AGF in
      let b = length-append (SB ++ AGF) AGI in
      let c = length-append ((SB ++ AGF) ++ AGI) LIST in
      let d = length-append (((SB ++ AGF) ++ AGI) ++ LIST) (zeros gap) in
      let e = zs gap in
      let k = ok.sectors-fit in
      let f1 = l1 in
      let f2 = l2 in
      let f3 = l3 in
      let f4 = l4 in
      omega arith

  lx : length x4 ≡ length xs
  lx = on-length (3 * ss) ss _ x3 ∙ on-length (2 * ss) ss _ x2 ∙ on-length ss ss _ x1 ∙ on-length 0 ss _ x0 ∙ length-patch 0 (replicate hb 0) xs

  -- the roots

  abbrev BNO : List ℕ
  BNO = bno_root w uuid p.free

  abbrev CNT : List ℕ
  CNT = cnt_root w uuid p.free

  abbrev INO : List ℕ
  INO = inode_root w uuid ino_magic (ibt_block w.header)

  abbrev FINO : List ℕ
  FINO = inode_root w uuid fino_magic (fibt_block w.header)

  abbrev MAPS : List ℕ
  MAPS = rmap_root w uuid p.rmap

  abbrev REFC : List ℕ
  REFC = refc_root w uuid

  -- block b of the head has room for a root
  fit : (b : ℕ) (new ys : List ℕ) → b < frame_blocks w → length new ≡ w.block → length ys ≡ length xs → b * w.block + length new ≤ length ys
  fit b new ys h l e =
      let r : b * w.block + w.block ≤ length xs = block_room b (frame_blocks w) w.block (length xs) h (let f = fits in omega arith) in
      rw (l, e) r

  abbrev y1 : List ℕ
  y1 = patch hb BNO x4

  t1 : Starts (PREFIX ++ BNO) y1
  t1 = next hb PREFIX BNO x4 y1 s4 n4 (fit w.header BNO x4 (let t = three-inside w in omega arith) (bno-length w uuid p.free) lx) refl

  m1 : length (PREFIX ++ BNO) ≡ (w.header + 1) * w.block
  m1 = longer PREFIX BNO w.header w.block n4 (bno-length w uuid p.free)

  abbrev y2 : List ℕ
  y2 = patch (cnt_block w.header * w.block) CNT y1

  k1 : length y1 ≡ length xs
  k1 = length-patch hb BNO x4 ∙ lx

  t2 : Starts ((PREFIX ++ BNO) ++ CNT) y2
  unfolding cnt_block
  t2 = next ((w.header + 1) * w.block) (PREFIX ++ BNO) CNT y1 y2 t1 m1 (fit (w.header + 1) CNT y1 (let t = three-inside w in omega arith) (cnt-length w uuid p.free) k1) refl

  m2 : length ((PREFIX ++ BNO) ++ CNT) ≡ (w.header + 1 + 1) * w.block
  m2 = longer (PREFIX ++ BNO) CNT (w.header + 1) w.block m1 (cnt-length w uuid p.free)

  k2 : length y2 ≡ length xs
  k2 = length-patch (cnt_block w.header * w.block) CNT y1 ∙ k1

  abbrev y3 : List ℕ
  y3 = patch (ibt_block w.header * w.block) INO y2

  t3 : Starts (((PREFIX ++ BNO) ++ CNT) ++ INO) y3
  unfolding ibt_block
  t3 =
      next ((w.header + 2) * w.block) ((PREFIX ++ BNO) ++ CNT) INO y2 y3 t2 (m2 ∙ ap (λ (n : ℕ). n * w.block) (let z : w.header + 1 + 1 ≡ w.header + 2 = omega arith in z))
      (fit (w.header + 2) INO y2 (let t = three-inside w in omega arith) (inode-length w uuid ino_magic (ibt_block w.header)) k2) refl

  abbrev THREE : List ℕ
  THREE = ((PREFIX ++ BNO) ++ CNT) ++ INO

  m3 : length THREE ≡ (w.header + 3) * w.block
  m3 =
      longer ((PREFIX ++ BNO) ++ CNT) INO (w.header + 1 + 1) w.block m2 (inode-length w uuid ino_magic (ibt_block w.header))
      ∙ ap (λ (n : ℕ). n * w.block) (let z : w.header + 1 + 1 + 1 ≡ w.header + 3 = omega arith in z)

  k3 : length y3 ≡ length xs
  k3 = length-patch (ibt_block w.header * w.block) INO y2 ∙ k2

  abbrev y4 : List ℕ
  y4 = block_if w.features.finobt (fibt_block w.header * w.block) FINO y3

  t4 : Starts (THREE ++ cond w.features.finobt FINO []) y4
  unfolding block_if fibt_block
  t4 =
      next-if w.features.finobt ((w.header + 3) * w.block) THREE FINO y3 y4 t3 (λ e. m3)
      (λ e. fit (w.header + 3) FINO y3 (fibt-inside w e) (inode-length w uuid fino_magic (fibt_block w.header)) k3) refl

  abbrev FOUR : List ℕ
  FOUR = THREE ++ cond w.features.finobt FINO []

  m4 : length FOUR ≡ (w.header + 3 + bit w.features.finobt) * w.block
  m4 = longer-if w.features.finobt THREE FINO (w.header + 3) w.block m3 (inode-length w uuid fino_magic (fibt_block w.header))

  k4 : length y4 ≡ length xs
  k4 = if-length w.features.finobt (fibt_block w.header * w.block) FINO y3 ∙ k3

  abbrev y5 : List ℕ
  y5 = block_if w.features.rmapbt (rmap_block w.features w.header * w.block) MAPS y4

  t5 : Starts (FOUR ++ cond w.features.rmapbt MAPS []) y5
  unfolding block_if rmap_block
  t5 =
      next-if w.features.rmapbt ((w.header + 3 + bit w.features.finobt) * w.block) FOUR MAPS y4 y5 t4 (λ e. m4)
      (λ e. fit (w.header + 3 + bit w.features.finobt) MAPS y4 (rmap-inside w e) (rmap-length w uuid p.rmap) k4) refl

  abbrev FIVE : List ℕ
  FIVE = FOUR ++ cond w.features.rmapbt MAPS []

  m5 : length FIVE ≡ (w.header + 3 + bit w.features.finobt + bit w.features.rmapbt) * w.block
  m5 = longer-if w.features.rmapbt FOUR MAPS (w.header + 3 + bit w.features.finobt) w.block m4 (rmap-length w uuid p.rmap)

  k5 : length y5 ≡ length xs
  k5 = if-length w.features.rmapbt (rmap_block w.features w.header * w.block) MAPS y4 ∙ k4

  abbrev y6 : List ℕ
  y6 = block_if w.features.reflink (refc_block w.features w.header * w.block) REFC y5

  t6 : Starts (FIVE ++ cond w.features.reflink REFC []) y6
  unfolding block_if refc_block
  t6 =
      next-if w.features.reflink ((w.header + 3 + bit w.features.finobt + bit w.features.rmapbt) * w.block) FIVE REFC y5 y6 t5 (λ e. m5)
      (λ e. fit (w.header + 3 + bit w.features.finobt + bit w.features.rmapbt) REFC y5 (refc-inside w e) (refc-length w uuid) k5) refl

  abbrev ALL : List ℕ
  ALL = FIVE ++ cond w.features.reflink REFC []

  m6 : length ALL ≡ frame_blocks w * w.block
  unfolding frame_blocks
  m6 = longer-if w.features.reflink FIVE REFC (w.header + 3 + bit w.features.finobt + bit w.features.rmapbt) w.block m5 (refc-length w uuid)

  k6 : length y6 ≡ length xs
  k6 = if-length w.features.reflink (refc_block w.features w.header * w.block) REFC y5 ∙ k5

  laid : y6 ≡ ALL
  laid = all_laid ALL y6 t6 (m6 ∙ sym fits ∙ sym k6)

  -- the same, each part behind the one before it
  in_order : ALL ≡ SB ++ behind_bytes w p uuid
  unfolding behind_bytes sectors_bytes roots_bytes
  in_order = let z : hb - 4 * ss ≡ gap = omega arith in rw z (simp append_assoc refl)

  -- THE WHOLE HEAD
  pub whole : more_on w p uuid (roots_on w p uuid (sectors_on w p uuid (sector_on 0 ss (sb_bytes g s) (patch 0 (replicate hb 0) xs)))) ≡ SB ++ behind_bytes w p uuid
  unfolding more_on roots_on sectors_on
  whole = laid ∙ in_order

  pub whole_length : length (SB ++ behind_bytes w p uuid) ≡ frame_blocks w * w.block
  whole_length = ap (λ (l : List ℕ). length l) (sym in_order) ∙ m6
