-- The parts of a head stand where the geometry says, and its headers are read back: AGF, AGI and the free list's entries.
-- Assumes nothing.
use mathlib.Core.Path.{◌≡◌, refl, ap, sym, ◌∙◌}
use mathlib.Core.Bool.{true, cond}
use mathlib.Core.List.{List, [], ◌∷◌, ◌++◌, append_assoc}
use Prim.Native.Nat.{ℕ, ◌+◌, ◌*◌, ◌-◌, ◌/◌, ◌%◌, ◌≤◌}
use native.Mathlib.Nat.{add-mul, le-div_iff_mul-le}
use native.Mathlib.Omega.{arith}
use lib.Dec.{lit<}
use lib.ListN.{length, take, replicate, length-replicate}
use Rattle.endian.specs.Bytes.{numbers_at, zeros}
use Rattle.endian.specs.Fields.{part}
use Rattle.structs.specs.Written.{null32}
use Rattle.structs.proofs.Lengths.{sector-least}
use Rattle.geometry.specs.declared.Geometry.{Geometry}
use Rattle.geometry_layout.specs.Places.{ibt_block, fibt_block, agfl_size}
use Rattle.ag.specs.declared.agf.Agf.{Agf}
use Rattle.ag.specs.Agf.{agf_bytes}
use Rattle.ag.specs.Agi.{agi_bytes}
use Rattle.ag.specs.Agfl.{slots_of, placed, agfl_bytes}
use Rattle.ag.specs.Decode.{agf_of as agf_read, agi_of as agi_read}
use Rattle.ag.proofs.Held.{agf-back, agi-back}
use Rattle.ag.proofs.Ring.{agfl-slots}
use Rattle.sb.specs.declared.SbState.{SbState}
use Rattle.sb.specs.Superblock.{sb_bytes}
use Rattle.plan.specs.declared.AgPlan.{AgPlan}
use Rattle.plan_same.specs.Same.{is_plan}
use Rattle.head_frame.specs.declared.Frame.{Frame}
use Rattle.head_frame.specs.Frames.{frame_of, FrameBounds}
use Rattle.head_frame.proofs.Fitting.{plan-narrow, plan-few, plan-fine}
use Rattle.head_bytes.specs.Head.{agf_for, agi_for, ino_magic, fino_magic, bno_root, cnt_root, inode_root, rmap_root, refc_root, sectors_bytes, roots_bytes, behind_bytes, head_bytes}
use Rattle.head_bytes.proofs.Lending.{sb-length, agf-length, agi-length, agfl-length}
use Rattle.head_bytes.proofs.Whole.{root-length}
use Rattle.head_bytes.proofs.Ready.{head-from}
use Rattle.reader_decoded.specs.Decoded.{sector_at, block_at, agf_in, agi_in, entries, slots_in, list_in}
use Rattle.reader_decoded.proofs.Parts.{joined, part_at}
use Rattle.reader_decoded.proofs.Slots.{entries-back}
use Rattle.reader_decoded.proofs.Numbers.{agf-fits, agi-fits, entries_of, list_length, list-fits}

-- ---- the parts one after the other

module _ (w : Frame) (p : AgPlan) (g : Geometry) (s : SbState) (uuid : List ℕ) (ok : FrameBounds w) where
  abbrev ss : ℕ
  ss = w.sector

  abbrev SB : List ℕ
  SB = sb_bytes g s (zeros ss)

  abbrev pub AGF : List ℕ
  AGF = agf_bytes (agf_for w p.free p.agfl.len) uuid (zeros ss)

  abbrev pub AGI : List ℕ
  AGI = agi_bytes (agi_for w) uuid (zeros ss)

  abbrev pub LIST : List ℕ
  LIST = agfl_bytes w.agno uuid 1 (take p.agfl.len p.agfl.blocks) (zeros ss)

  abbrev gapped : List ℕ
  gapped = zeros (w.header * w.block - 4 * ss)

  abbrev parts : List (List ℕ)
  parts = SB ∷ AGF ∷ AGI ∷ LIST ∷ gapped ∷ bno_root w uuid p.free ∷ cnt_root w uuid p.free ∷ inode_root w uuid ino_magic (ibt_block w.header) ∷ []

  abbrev others : List ℕ
  others =
      cond w.features.finobt (inode_root w uuid fino_magic (fibt_block w.header)) []
      ++ (cond w.features.rmapbt (rmap_root w uuid p.rmap) []
      ++ cond w.features.reflink (refc_root w uuid) [])

  abbrev pub whole : List ℕ
  whole = SB ++ behind_bytes w p uuid

  laid : whole ≡ joined parts others
  unfolding behind_bytes sectors_bytes roots_bytes
  laid = simp append_assoc

  zeros-length : (n : ℕ) → length (zeros n) ≡ n
  zeros-length n = length-replicate {A = ℕ} n 0

  sb-long : length SB ≡ ss
  sb-long = sb-length g s (zeros ss) ∙ zeros-length ss

  agf-long : length AGF ≡ ss
  agf-long = agf-length (agf_for w p.free p.agfl.len) uuid (zeros ss) ∙ zeros-length ss

  agi-long : length AGI ≡ ss
  agi-long = agi-length (agi_for w) uuid (zeros ss) ∙ zeros-length ss

  list-long : length LIST ≡ ss
  list-long = agfl-length w.agno uuid 1 (take p.agfl.len p.agfl.blocks) (zeros ss) ∙ zeros-length ss

  bno-long : length (bno_root w uuid p.free) ≡ w.block
  unfolding bno_root
  bno-long = root-length w uuid _ _ _ _

  cnt-long : length (cnt_root w uuid p.free) ≡ w.block
  unfolding cnt_root
  cnt-long = root-length w uuid _ _ _ _

  ino-long : length (inode_root w uuid ino_magic (ibt_block w.header)) ≡ w.block
  unfolding inode_root
  ino-long = root-length w uuid _ _ _ _

  -- the header sectors
  pub agf-there : part (1 * ss) ss whole ≡ AGF
  agf-there = rw laid (part_at parts others 1 (1 * ss) ss (lit< tt) (let a = sb-long in omega arith) (sym agf-long))

  pub agi-there : part (2 * ss) ss whole ≡ AGI
  agi-there = rw laid (part_at parts others 2 (2 * ss) ss (lit< tt) (let a = sb-long in let b = agf-long in omega arith) (sym agi-long))

  pub list-there : part (3 * ss) ss whole ≡ LIST
  list-there =
      rw laid (part_at parts others 3 (3 * ss) ss (lit< tt) (let a = sb-long in let b = agf-long in let c = agi-long in omega arith) (sym list-long))

  -- the roots by block and of the inodes
  pub bno-there : part (w.header * w.block) w.block whole ≡ bno_root w uuid p.free
  bno-there =
      let a = sb-long in
      let b = agf-long in
      let c = agi-long in
      let d = list-long in
      let z = zeros-length (w.header * w.block - 4 * ss) in
      let f = ok.sectors-fit in
      rw laid (part_at parts others 5 (w.header * w.block) w.block (lit< tt) (omega arith) (sym bno-long))

  pub ino-there : part (ibt_block w.header * w.block) w.block whole ≡ inode_root w uuid ino_magic (ibt_block w.header)
  unfolding ibt_block
  ino-there =
      let a = sb-long in
      let b = agf-long in
      let c = agi-long in
      let d = list-long in
      let z = zeros-length (w.header * w.block - 4 * ss) in
      let f = ok.sectors-fit in
      let m = bno-long in
      let n = cnt-long in
      let e = add-mul w.header 2 w.block in
      rw laid (part_at parts others 7 ((w.header + 2) * w.block) w.block (lit< tt) (omega arith) (sym ino-long))

-- ---- of a plan of the planner

module _ (g : Geometry) (p : AgPlan) (uuid : List ℕ) (s : SbState) (l : length g.label ≡ 12) (h : is_plan g p ≡ true) (u : length uuid ≡ 16) where
  abbrev w : Frame
  w = frame_of g p

  abbrev xs : List ℕ
  xs = head_bytes g p uuid s

  pub fine : FrameBounds w
  fine = plan-fine g p l h

  head-is : whole w p g s uuid fine ≡ xs
  head-is = head-from g p w uuid s refl

  -- a sector, and a block
  pub sector-back : (i : ℕ) (ys : List ℕ) → part (i * w.sector) w.sector (whole w p g s uuid fine) ≡ ys → sector_at g i xs ≡ ys
  unfolding sector_at frame_of
  sector-back i ys e = ap (λ (zs : List ℕ). part (i * g.sectsize) g.sectsize zs) (sym head-is) ∙ e

  pub block_back : (b : ℕ) (ys : List ℕ) → part (b * w.block) w.block (whole w p g s uuid fine) ≡ ys → block_at g b xs ≡ ys
  unfolding block_at frame_of
  block_back b ys e = ap (λ (zs : List ℕ). part (b * g.blocksize) g.blocksize zs) (sym head-is) ∙ e

  sector-long : 512 ≤ length (zeros w.sector)
  sector-long = let a = sector-least w.sector fine.sector-is in let b = length-replicate {A = ℕ} w.sector 0 in omega arith

  -- THE AGF IS READ BACK
  pub agf-in : agf_in g xs ≡ agf_for w p.free p.agfl.len
  unfolding agf_in frame_of
  agf-in =
      let n = plan-narrow g p l h in
      let f = plan-few g p l h in
      let z = sector-long in
      ap (λ (zs : List ℕ). agf_read zs) (sector-back 1 _ (agf-there w p g s uuid fine))
      ∙ agf-back (agf_for w p.free p.agfl.len) uuid (zeros w.sector) u (omega arith)
      (agf-fits w fine.header-most n.group n.blocks p.free p.agfl.len f.list-most f.blocks-most f.longest-most)

  -- THE AGI IS READ BACK
  pub agi-in : agi_in g xs ≡ agi_for w
  unfolding agi_in frame_of
  agi-in =
      let n = plan-narrow g p l h in
      let z = sector-long in
      ap (λ (zs : List ℕ). agi_read zs) (sector-back 2 _ (agi-there w p g s uuid fine))
      ∙ agi-back (agi_for w) uuid (zeros w.sector) u (omega arith) (agi-fits w fine.header-most n.group n.blocks n.inode)

  -- the group's number and length
  pub group-in : (agf_in g xs).seqno ≡ p.agno
  unfolding agf_for frame_of
  group-in = ap (λ (a : Agf). a.seqno) agf-in

  pub length-in : (agf_in g xs).length ≡ p.length
  unfolding agf_for frame_of
  length-in = ap (λ (a : Agf). a.length) agf-in

  -- the slots
  abbrev ring_size : ℕ
  ring_size = slots_of (length (zeros w.sector))

  abbrev ring : List ℕ
  ring = placed ring_size 1 (entries_of p) (replicate ring_size null32)

  slots-in : slots_in g xs ≡ ring
  unfolding slots_in agfl_size frame_of
  slots-in =
      let z = sector-long in
      let e = length-replicate {A = ℕ} g.sectsize 0 in
      ap (λ (n : ℕ). numbers_at 4 ((n - 36) / 4) 36 (sector_at g 3 xs)) (sym e)
      ∙ ap (λ (zs : List ℕ). numbers_at 4 ring_size 36 zs) (sector-back 3 _ (list-there w p g s uuid fine))
      ∙ agfl-slots w.agno uuid 1 (entries_of p) (zeros w.sector) u (omega arith) (list-fits g p l h)

  ring-most : 6 ≤ ring_size
  ring-most = let z = sector-long in (le-div_iff_mul-le (lit< tt)).1 (omega arith)

  first-in : (agf_in g xs).flfirst ≡ 1
  unfolding agf_for
  first-in = ap (λ (a : Agf). a.flfirst) agf-in

  count-in : (agf_in g xs).flcount ≡ length (entries_of p)
  unfolding agf_for
  count-in = ap (λ (a : Agf). a.flcount) agf-in ∙ sym (list_length g p l h)

  -- the AGF's last is the slot of the last entry
  pub last-in : (agf_in g xs).fllast ≡ ((agf_in g xs).flfirst + (agf_in g xs).flcount - 1) % agfl_size g.sectsize
  unfolding agf_for frame_of
  last-in =
      let e : p.agfl.len ≡ (agf_in g xs).flfirst + (agf_in g xs).flcount - 1 = let a = first-in in let b = count-in in let c = list_length g p l h in omega arith in
      ap (λ (a : Agf). a.fllast) agf-in ∙ ap (λ (n : ℕ). n % agfl_size g.sectsize) e

  -- THE FREE LIST'S ENTRIES IN USE ARE THE PLAN'S
  pub list-in : list_in g xs ≡ take p.agfl.len p.agfl.blocks
  unfolding list_in
  list-in =
      let m = (plan-few g p l h).list-most in
      let r = ring-most in
      let n = list_length g p l h in
      ap (λ (k : ℕ). entries (slots_in g xs) k (agf_in g xs).flcount) first-in
      ∙ ap (λ (k : ℕ). entries (slots_in g xs) 1 k) count-in
      ∙ ap (λ (zs : List ℕ). entries zs 1 (length (entries_of p))) slots-in
      ∙ entries-back ring_size 1 (entries_of p) (replicate ring_size null32) (omega arith) (length-replicate ring_size null32) (omega arith)
