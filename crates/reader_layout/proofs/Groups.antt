-- AGF, AGI AND FREE LIST of a head that a run leaves, field by field, whatever state its superblock is in.
-- Assumes nothing.
use Rattle.std.specs.Prelude.{Some, None}
use mathlib.Core.Path.{◌≡◌, refl, ap, sym, ◌∙◌}
use mathlib.Core.Bool.{Bool, true, false, cond}
use mathlib.Core.List.{List, [], ◌∷◌}
use Prim.Native.Nat.{ℕ, zero, suc, ◌+◌, ◌*◌, ◌-◌, ◌%◌, ◌^◌, ◌≤◌, ◌<◌}
use native.Mathlib.Nat.{mul-suc, mod-eq_of_lt, le-div_iff_mul-le}
use native.Mathlib.Omega.{arith}
use lib.Dec.{eqb, lit<}
use lib.ListN.{length, get_or, take, replicate, length-replicate}
use Rattle.arith.specs.Choice.{when}
use Rattle.endian.specs.Bytes.{be_bytes, be_at, Below, numbers_at, numbers_bytes, zeros}
use Rattle.endian.specs.Fields.{Field, field, part, nth}
use Rattle.endian.proofs.Consecutive.{run-back}
use Rattle.structs.specs.Holds.{Holds}
use Rattle.structs.specs.Written.{null32}
use Rattle.structs.proofs.Lengths.{sector-least}
use Rattle.structs.proofs.Reading.{read_number}
use Rattle.geometry.specs.declared.Geometry.{Geometry}
use Rattle.geometry_layout.specs.Places.{cnt_block, ibt_block, fibt_block, rmap_block, refc_block, group_blocks}
use Rattle.geometry_places.specs.Answers.{root_chunk}
use Rattle.ag.specs.declared.agf.Agf.{Agf}
use Rattle.ag.specs.declared.agi.Agi.{Agi}
use Rattle.ag.specs.Sector.{ag_version}
use Rattle.ag.specs.Agf.{agf_magic, agf_fields, agf_bytes}
use Rattle.ag.specs.Agi.{agi_magic, agi_fields, agi_bytes}
use Rattle.ag.specs.Agfl.{agfl_magic, slots_of, placed, agfl_header, agfl_slots, agfl_fields, agfl_bytes}
use Rattle.ag.specs.Decode.{agf_of as agf_read, agi_of as agi_read}
use Rattle.ag.proofs.Held.{agf-holds, agi-holds}
use Rattle.ag.proofs.Ring.{in-slot, agfl-holds, agfl-slots}
use Rattle.plan_site.specs.Sites.{site_of}
use Rattle.plan.specs.declared.AgPlan.{AgPlan}
use Rattle.plan.specs.Plan.{planned}
use Rattle.plan_same.specs.Same.{is_plan}
use Rattle.plan_same.proofs.Planners.{planned-group, planned-is-plan}
use Rattle.plan_closed.specs.Closed.{closed_ag_plan}
use Rattle.plan_summary.proofs.Narrow.{plan-closed}
use Rattle.sb.specs.declared.SbState.{SbState}
use Rattle.head_frame.specs.declared.Frame.{Frame}
use Rattle.head_frame.specs.Frames.{frame_of, has_chunk, chunk_ino, FrameBounds}
use Rattle.head_frame.proofs.Fitting.{plan-narrow, plan-few}
use Rattle.head_bytes.specs.Head.{agf_for, agi_for, head_bytes}
use Rattle.list_spec.proofs.Whole.{group-planned}
use Rattle.list_accepted.specs.Accepted.{Source}
use Rattle.list_accepted.proofs.Runs.{source-label, source-plans, source-uuid}
use Rattle.reader_decoded.specs.Decoded.{sector_at, agf_in, agi_in}
use Rattle.reader_decoded.proofs.Numbers.{entries_of, list_length, list-fits}
use Rattle.reader_decoded.proofs.Sectors.{agf-there, agi-there, list-there, fine, sector-back, agf-in, agi-in}
use Rattle.reader_layout.specs.Layouts.{AgfAt, AgiAt, FreeListAt}

-- ---- the chunk is group 0's

chunk-has : (t : Bool) (c : ℕ) → has_chunk (cond t (Some c) None) ≡ t
unfolding has_chunk
chunk-has true c = refl
chunk-has false c = refl

chunk-first : (t : Bool) (c log : ℕ) → chunk_ino log (cond t (Some c) None) ≡ when t (c * 2 ^ log) null32
unfolding chunk_ino when
chunk-first true c log = refl
chunk-first false c log = refl

-- ---- numbers one after the other, each by its place

nth_number : (n c off j : ℕ) (xs : List ℕ) → j < c → get_or (numbers_at n c off xs) j 0 ≡ be_at n (off + n * j) xs
unfolding numbers_at
nth_number n zero off j xs h = absurd (omega arith)
nth_number n (suc c) off zero xs h = let e : off ≡ off + n * 0 = omega arith in ap (λ (o : ℕ). be_at n o xs) e
nth_number n (suc c) off (suc j) xs h =
    let e : off + n + n * j ≡ off + n * suc j = (let m = mul-suc n j in omega arith) in
    nth_number n c (off + n) j xs (omega arith) ∙ ap (λ (o : ℕ). be_at n o xs) e

nth-taken : (m i : ℕ) (xs : List ℕ) → i < m → get_or (take m xs) i 0 ≡ get_or xs i 0
nth-taken zero i xs h = absurd (omega arith)
nth-taken (suc m) i [] h = refl
nth-taken (suc m) zero (x ∷ xs) h = refl
nth-taken (suc m) (suc i) (x ∷ xs) h = nth-taken m i xs (omega arith)

below-nulls : (n : ℕ) → Below (256 ^ 4) (replicate n null32)
below-nulls zero = tt
below-nulls (suc n) = (lit< tt, below-nulls n)

module _ (g : Geometry) (u : List ℕ) (z : Source g u) (k : ℕ) (h : k < g.agcount) (s : SbState) where
  abbrev p : AgPlan
  p = (planned g k).plan

  abbrev w : Frame
  w = frame_of g p

  abbrev head : List ℕ
  head = head_bytes g p u s

  pub label : length g.label ≡ 12
  label = source-label g u z

  pub u16 : length u ≡ 16
  u16 = source-uuid g u z

  its-plan : (planned g k).number ≡ 0
  its-plan = group-planned g label (source-plans g u z) k h

  pub is-plan : is_plan g (planned g k).plan ≡ true
  is-plan = planned-is-plan g k its-plan

  pub group-is : (planned g k).plan.agno ≡ k
  group-is = planned-group g k its-plan

  closed : p ≡ closed_ag_plan (site_of g k)
  closed = plan-closed g p label is-plan ∙ ap (λ (n : ℕ). closed_ag_plan (site_of g n)) group-is

  length-is : p.length ≡ group_blocks g.dblocks g.agsize g.agcount k
  unfolding site_of
  length-is = ap (λ (q : AgPlan). q.length) closed

  pub has-is : has_chunk (planned g k).plan.chunk ≡ eqb k 0
  unfolding site_of
  has-is = ap (λ (q : AgPlan). has_chunk q.chunk) closed ∙ chunk-has (eqb k 0) _

  newino-is : chunk_ino g.inopblog p.chunk ≡ when (eqb k 0) (root_chunk g * 2 ^ g.inopblog) null32
  unfolding site_of root_chunk
  newino-is = ap (λ (q : AgPlan). chunk_ino g.inopblog q.chunk) closed ∙ chunk-first (eqb k 0) _ g.inopblog

  pub ok : FrameBounds (frame_of g (planned g k).plan)
  ok = fine g p u s label is-plan u16

  sector-long : 512 ≤ length (zeros w.sector)
  sector-long = omega (arith, sector-least w.sector ok.sector-is, length-replicate {A = ℕ} w.sector 0)

  -- ---- the AGF

  abbrev A : Agf
  A = agf_for w p.free p.agfl.len

  agf-is : sector_at g 1 head ≡ agf_bytes A u (zeros w.sector)
  agf-is = sector-back g p u s label is-plan u16 1 _ (agf-there w p g s u ok)

  agf-number : (i off n v : ℕ) → i < 22 → nth (agf_fields A u) i ≡ field off n v → v < 256 ^ n → be_at n off (sector_at g 1 head) ≡ v
  unfolding agf_fields
  agf-number i off n v l e b =
      ap (be_at n off) agf-is
      ∙ read_number (agf_fields A u) (agf_bytes A u (zeros w.sector)) (agf-holds A u (zeros w.sector) u16 (omega (arith, sector-long))) i off n v l e b

  agf-id : part 64 16 (sector_at g 1 head) ≡ u
  unfolding agf_fields
  agf-id =
      ap (λ (xs : List ℕ). part 64 16 xs) agf-is
      ∙ ap (λ (m : ℕ). part 64 m (agf_bytes A u (zeros w.sector))) (sym u16)
      ∙ agf-holds A u (zeros w.sector) u16 (omega (arith, sector-long)) 16 (lit< tt)

  pub agf-at : AgfAt g u k (sector_at g 1 head)
  unfolding agf_in agf_read agf_for frame_of agf_fields cnt_block rmap_block refc_block
  agf-at =
      let e = agf-in g p u s label is-plan u16 in
      record {
        magicnum = agf-number 0 0 4 agf_magic (lit< tt) refl (lit< tt);
        versionnum = agf-number 1 4 4 ag_version (lit< tt) refl (lit< tt);
        seqno = ap (λ (a : Agf). a.seqno) e ∙ group-is;
        length = ap (λ (a : Agf). a.length) e ∙ length-is;
        bno-root = ap (λ (a : Agf). a.bno_root) e;
        cnt-root = ap (λ (a : Agf). a.cnt_root) e;
        rmap-root = ap (λ (a : Agf). a.rmap_root) e;
        bno-level = ap (λ (a : Agf). a.bno_level) e;
        cnt-level = ap (λ (a : Agf). a.cnt_level) e;
        rmap-level = ap (λ (a : Agf). a.rmap_level) e;
        flfirst = ap (λ (a : Agf). a.flfirst) e;
        fllast = ap (λ (a : Agf). a.fllast) e;
        flcount = ap (λ (a : Agf). a.flcount) e;
        freeblks = ap (λ (a : Agf). a.freeblks) e;
        longest = ap (λ (a : Agf). a.longest) e;
        btreeblks = ap (λ (a : Agf). a.btreeblks) e;
        uuid = agf-id;
        rmap-blocks = ap (λ (a : Agf). a.rmap_blocks) e;
        refcount-blocks = ap (λ (a : Agf). a.refcount_blocks) e;
        refcount-root = ap (λ (a : Agf). a.refcount_root) e;
        refcount-level = ap (λ (a : Agf). a.refcount_level) e;
        lsn = agf-number 21 208 8 0 (lit< tt) refl (lit< tt);
      }

  -- ---- the AGI

  abbrev I : Agi
  I = agi_for w

  agi-is : sector_at g 2 head ≡ agi_bytes I u (zeros w.sector)
  agi-is = sector-back g p u s label is-plan u16 2 _ (agi-there w p g s u ok)

  agi-held : (i : ℕ) → i < 17 → part (nth (agi_fields I u) i).at (length (nth (agi_fields I u) i).bytes) (sector_at g 2 head) ≡ (nth (agi_fields I u) i).bytes
  unfolding agi_fields
  agi-held i l =
      ap (λ (xs : List ℕ). part (nth (agi_fields I u) i).at (length (nth (agi_fields I u) i).bytes) xs) agi-is
      ∙ agi-holds I u (zeros w.sector) u16 (omega (arith, sector-long)) i l

  agi-number : (i off n v : ℕ) → i < 17 → nth (agi_fields I u) i ≡ field off n v → v < 256 ^ n → be_at n off (sector_at g 2 head) ≡ v
  unfolding agi_fields
  agi-number i off n v l e b =
      ap (be_at n off) agi-is
      ∙ read_number (agi_fields I u) (agi_bytes I u (zeros w.sector)) (agi-holds I u (zeros w.sector) u16 (omega (arith, sector-long))) i off n v l e b

  agi-nulls : numbers_at 4 64 40 (sector_at g 2 head) ≡ replicate 64 null32
  unfolding agi_fields numbers_bytes be_bytes
  agi-nulls = run-back 4 (replicate 64 null32) 40 (sector_at g 2 head) (below-nulls 64) (agi-held 10 (lit< tt))

  agi-id : part 296 16 (sector_at g 2 head) ≡ u
  unfolding agi_fields
  agi-id = ap (λ (m : ℕ). part 296 m (sector_at g 2 head)) (sym u16) ∙ agi-held 11 (lit< tt)

  pub agi-at : AgiAt g u k (sector_at g 2 head)
  unfolding agi_in agi_read agi_for frame_of agi_fields ibt_block fibt_block
  agi-at =
      let e = agi-in g p u s label is-plan u16 in
      record {
        magicnum = agi-number 0 0 4 agi_magic (lit< tt) refl (lit< tt);
        versionnum = agi-number 1 4 4 ag_version (lit< tt) refl (lit< tt);
        seqno = ap (λ (a : Agi). a.seqno) e ∙ group-is;
        length = ap (λ (a : Agi). a.length) e ∙ length-is;
        count = ap (λ (a : Agi). a.count) e ∙ ap (λ (t : Bool). when t 64 0) has-is;
        root = ap (λ (a : Agi). a.root) e;
        level = ap (λ (a : Agi). a.level) e;
        freecount = ap (λ (a : Agi). a.freecount) e ∙ ap (λ (t : Bool). when t 61 0) has-is;
        newino = ap (λ (a : Agi). a.newino) e ∙ newino-is;
        dirino = agi-number 9 36 4 null32 (lit< tt) refl (lit< tt);
        unlinked = agi-nulls;
        uuid = agi-id;
        lsn = agi-number 12 320 8 0 (lit< tt) refl (lit< tt);
        free-root = ap (λ (a : Agi). a.free_root) e;
        free-level = ap (λ (a : Agi). a.free_level) e;
        iblocks = ap (λ (a : Agi). a.iblocks) e;
        fblocks = ap (λ (a : Agi). a.fblocks) e;
      }

  -- ---- the free list

  abbrev L : List ℕ
  L = agfl_bytes w.agno u 1 (entries_of p) (zeros w.sector)

  list-is : sector_at g 3 head ≡ L
  list-is = sector-back g p u s label is-plan u16 3 _ (list-there w p g s u ok)

  abbrev slot_count : ℕ
  slot_count = slots_of (length (zeros w.sector))

  slots-many : 64 ≤ slot_count
  slots-many = (le-div_iff_mul-le (lit< tt)).1 (omega (arith, sector-long))

  slot_is : (i : ℕ) → i < p.agfl.len → be_at 4 (36 + 4 * (1 + i)) L ≡ get_or p.agfl.blocks i 0
  slot_is i l =
      let few = (plan-few g p label is-plan).list-most in
      let n = list_length g p label is-plan in
      let m = slots-many in
      let e : (1 + i) % slot_count ≡ 1 + i = mod-eq_of_lt (omega arith) in
      sym (nth_number 4 slot_count 36 (1 + i) L (omega arith))
      ∙ ap (λ (xs : List ℕ). get_or xs (1 + i) 0) (agfl-slots w.agno u 1 (entries_of p) (zeros w.sector) u16 (omega (arith, sector-long)) (list-fits g p label is-plan))
      ∙ ap (λ (j : ℕ). get_or (placed slot_count 1 (entries_of p) (replicate slot_count null32)) j 0) (sym e)
      ∙ in-slot slot_count 1 (entries_of p) (replicate slot_count null32) (omega arith) (length-replicate slot_count null32) (omega arith) i (omega arith)
      ∙ nth-taken p.agfl.len i p.agfl.blocks l

  abbrev list_fields : List Field
  list_fields = agfl_fields (length (zeros w.sector)) w.agno u 1 (entries_of p)

  list_held : Holds list_fields L
  list_held = agfl-holds w.agno u 1 (entries_of p) (zeros w.sector) u16 (omega (arith, sector-long))

  pub list_at : FreeListAt g u k (sector_at g 3 head)
  unfolding agfl_fields agfl_header agfl_slots frame_of
  list_at =
      let narrow = plan-narrow g p label is-plan in
      record {
        magicnum = ap (be_at 4 0) list-is ∙ read_number list_fields L list_held 0 0 4 agfl_magic (lit< tt) refl (lit< tt);
        seqno = ap (be_at 4 4) list-is ∙ read_number list_fields L list_held 1 4 4 p.agno (lit< tt) refl narrow.group ∙ group-is;
        uuid = ap (λ (xs : List ℕ). part 8 16 xs) list-is ∙ ap (λ (m : ℕ). part 8 m L) (sym u16) ∙ list_held 2 (lit< tt);
        lsn = ap (be_at 8 24) list-is ∙ read_number list_fields L list_held 3 24 8 0 (lit< tt) refl (lit< tt);
        bno = λ i l. ap (be_at 4 (36 + 4 * (1 + i))) list-is ∙ slot_is i l;
      }
