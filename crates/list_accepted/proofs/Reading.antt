-- Fields read back from a whole head: the superblock's, and the group's number in the AGF.
-- Assumes nothing.
use mathlib.Core.Path.{◌≡◌, refl, sym, ap, ◌∙◌}
use mathlib.Core.List.{List, ◌++◌, append_assoc}
use Prim.Native.Nat.{ℕ, ◌+◌, ◌*◌, ◌-◌, ◌^◌, ◌≤◌, ◌<◌}
use native.Mathlib.Omega.{arith}
use lib.Dec.{lit<}
use lib.ListN.{length, get_or, take, length-replicate}
use lib.Seq.{take_at}
use Rattle.arith.specs.Choice.{bit}
use Rattle.endian.specs.Bytes.{be_at, zeros}
use Rattle.endian.specs.Fields.{part}
use Rattle.endian.proofs.Consecutive.{part-part, at-inside}
use Rattle.structs.proofs.Reading.{read_number}
use Rattle.geometry.specs.declared.Geometry.{Geometry}
use Rattle.ag.specs.declared.agf.Agf.{Agf}
use Rattle.ag.specs.Agf.{agf_fields, agf_bytes}
use Rattle.ag.specs.Agi.{agi_bytes}
use Rattle.ag.specs.Agfl.{agfl_bytes}
use Rattle.ag.proofs.Held.{agf-holds}
use Rattle.sb.specs.declared.SbState.{SbState}
use Rattle.sb.specs.Superblock.{sb_bytes}
use Rattle.sb.proofs.Read.{dblocks-back, uuid-back, rootino-back, agcount-back, inprogress-back, fdblocks-back}
use Rattle.plan.specs.declared.AgPlan.{AgPlan}
use Rattle.head_frame.specs.Frames.{frame_of}
use Rattle.head_bytes.specs.Head.{agf_for, agi_for, sectors_bytes, roots_bytes, behind_bytes, head_bytes}
use Rattle.head_bytes.proofs.Bytes.{head_first, head-behind}
use Rattle.head_bytes.proofs.Lending.{agf-length}
use Rattle.list_accepted.specs.Superblocks.{mark_at, root_field, free_field}

module _ (g : Geometry) (label : length g.label ≡ 12) (sector : 512 ≤ g.sectsize) (p : AgPlan) (uuid : List ℕ) (s : SbState) (id : length s.uuid ≡ 16) where
  abbrev head : List ℕ
  head = head_bytes g p uuid s

  -- the sector that the superblock is written into
  room : 264 ≤ length (zeros g.sectsize)
  room = rw (length-replicate {A = ℕ} g.sectsize 0) (omega arith)

  -- a number, and bytes, inside the first sector
  number : (n off : ℕ) → off + n ≤ 512 → be_at n off head ≡ be_at n off (sb_bytes g s (zeros g.sectsize))
  number n off h =
      let e : 0 + off ≡ off = omega arith in
      sym (at-inside n 0 g.sectsize off head (omega arith) ∙ rw e refl) ∙ ap (be_at n off) (head_first g p uuid s)

  bytes : (n off : ℕ) → off + n ≤ 512 → part off n head ≡ part off n (sb_bytes g s (zeros g.sectsize))
  bytes n off h =
      let e : 0 + off ≡ off = omega arith in
      sym (part-part 0 g.sectsize off n head (omega arith) ∙ rw e refl) ∙ ap (λ (xs : List ℕ). part off n xs) (head_first g p uuid s)

  pub blocks-of : g.dblocks < 2 ^ 64 → be_at 8 8 head ≡ g.dblocks
  blocks-of h = number 8 8 (omega arith) ∙ dblocks-back g s id label (zeros g.sectsize) room h

  pub id-of : part 32 16 head ≡ s.uuid
  id-of = bytes 16 32 (omega arith) ∙ uuid-back g s id label (zeros g.sectsize) room

  pub root-of : s.rootino < 2 ^ 64 → root_field head ≡ s.rootino
  root-of h = number 8 56 (omega arith) ∙ rootino-back g s id label (zeros g.sectsize) room h

  pub groups_of : g.agcount < 2 ^ 32 → be_at 4 88 head ≡ g.agcount
  groups_of h = number 4 88 (omega arith) ∙ agcount-back g s id label (zeros g.sectsize) room h

  pub mark_of : bit s.inprogress < 256 → get_or head mark_at 0 ≡ bit s.inprogress
  unfolding be_at
  mark_of h =
      let e : be_at 1 126 head ≡ bit s.inprogress = number 1 126 (omega arith) ∙ inprogress-back g s id label (zeros g.sectsize) room h in
      let d : be_at 1 126 head ≡ get_or head 126 0 * 1 + 0 = refl in
      omega arith

  pub free_of : s.fdblocks < 2 ^ 64 → free_field head ≡ s.fdblocks
  free_of h = number 8 144 (omega arith) ∙ fdblocks-back g s id label (zeros g.sectsize) room h

  -- ---- the AGF stands in the second sector

  abbrev agf : Agf
  agf = agf_for (frame_of g p) p.free p.agfl.len

  agf-part : part g.sectsize g.sectsize head ≡ agf_bytes agf uuid (zeros g.sectsize)
  unfolding behind_bytes sectors_bytes frame_of
  agf-part =
      let w = frame_of g p in
      let xs = agf_bytes agf uuid (zeros g.sectsize) in
      let ys = agi_bytes (agi_for w) uuid (zeros g.sectsize) ++ agfl_bytes w.agno uuid 1 (take p.agfl.len p.agfl.blocks) (zeros g.sectsize) in
      let zs = zeros (w.header * w.block - 4 * w.sector) ++ roots_bytes w p uuid in
      ap (take g.sectsize) (head-behind g p uuid s ∙ append_assoc xs ys zs)
      ∙ take_at xs (ys ++ zs) g.sectsize (agf-length agf uuid (zeros g.sectsize) ∙ length-replicate {A = ℕ} g.sectsize 0)

  pub group_of : length uuid ≡ 16 → p.agno < 2 ^ 32 → be_at 4 (g.sectsize + 8) head ≡ p.agno
  unfolding agf_for agf_fields frame_of
  group_of u h =
      let xs = zeros g.sectsize in
      let l : 216 ≤ length xs = let r = room in omega arith in
      sym (at-inside 4 g.sectsize g.sectsize 8 head (omega arith))
      ∙ ap (be_at 4 8) agf-part
      ∙ read_number (agf_fields agf uuid) (agf_bytes agf uuid xs) (agf-holds agf uuid xs u l) 2 8 4 p.agno (lit< tt) refl h
