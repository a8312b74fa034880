-- WHAT THE RECORDS OF A RUN LEAVE, STRUCTURE BY STRUCTURE, on any device: the sectors of every head, and the inodes of the root chunk.
-- Assumes nothing.
use mathlib.Core.Path.{◌≡◌, refl, ap, sym, subst, ◌∙◌}
use mathlib.Core.Bool.{Bool, true, false, not, cond}
use mathlib.Core.List.{List}
use Prim.Native.Nat.{ℕ, ◌+◌, ◌*◌, ◌^◌, ◌≤◌, ◌<◌}
use native.Mathlib.Nat.{zero-mul}
use native.Mathlib.Omega.{arith}
use borrow.Author.Tests.{eqb-true}
use lib.Dec.{eqb, lit<}
use lib.ListN.{length}
use Rattle.arith.specs.Choice.{when, bit}
use Rattle.endian.specs.Bytes.{be_at, zeros}
use Rattle.endian.specs.Fields.{part}
use Rattle.endian.proofs.Consecutive.{at-inside}
use Rattle.structs.specs.Written.{null64}
use Rattle.structs.proofs.Written.{passed}
use Rattle.inode_time.specs.Time.{time_inside}
use Rattle.geometry.specs.declared.Geometry.{Geometry}
use Rattle.geometry_layout.specs.Bounds.{Bounds}
use Rattle.geometry_places.specs.Answers.{root_chunk, root_ino}
use Rattle.plan.specs.Plan.{planned}
use Rattle.chunk.specs.Chunk.{chunk_length, chunk_bytes}
use Rattle.sb.specs.declared.SbState.{SbState}
use Rattle.sb.specs.Superblock.{sb_bytes}
use Rattle.sb_states.specs.States.{finished_state, secondary_state, state_of}
use Rattle.sb_states.proofs.Known.{root-room}
use Rattle.head_bytes.specs.Head.{head_bytes}
use Rattle.head_bytes.proofs.Bytes.{head_first}
use Rattle.request.specs.declared.Request.{Request}
use Rattle.run.specs.Runs.{time_refusal, run_of}
use Rattle.list_records.specs.Device.{Device}
use Rattle.list_spec.specs.Listing.{head_written, head_finished, head_left}
use Rattle.list_accepted.specs.Accepted.{AcceptedRun}
use Rattle.list_accepted.proofs.Runs.{run-answered, run-bounds, run-label, run-plans, run-timely, run-uuid-length, source_of}
use Rattle.list_accepted.proofs.Sizes.{sector-least}
use Rattle.list_accepted.proofs.Superblocks.{says}
use Rattle.list_accepted.proofs.Heads.{run-left}
use Rattle.reader_exact.specs.Disk.{head_on, formatted}
use Rattle.reader_exact.proofs.Disk.{head-formatted}
use Rattle.reader_decoded.specs.Decoded.{sector_at}
use Rattle.reader_layout.specs.Layouts.{SuperblockAt, AgfAt, AgiAt, FreeListAt, RootsAt}
use Rattle.reader_layout.specs.Chunk.{chunk_on, inode_in, Inodes, DirectoryAt}
use Rattle.reader_layout.proofs.Chunk.{chunk-inodes}
use Rattle.reader_layout.proofs.Directory.{directory-at}
use Rattle.reader_layout.proofs.Groups.{agf-at, agi-at, list_at}
use Rattle.reader_layout.proofs.Roots.{roots-at}
use Rattle.reader_layout.proofs.Super.{Stated, superblock-at}

-- ---- the state of group k's superblock at the end

module _ (g : Geometry) (u : List ℕ) (k : ℕ) where
  abbrev last-state : Bool → SbState
  last-state t = cond t (finished_state g u) (secondary_state g u k)

  left_at : (t : Bool) → eqb k 0 ≡ t → cond t (head_finished g u) (head_written g u k) ≡ head_bytes g (planned g k).plan u (last-state t)
  unfolding head_finished head_written state_of
  left_at true e = ap (λ (j : ℕ). head_bytes g (planned g j).plan u (finished_state g u)) (sym (eqb-true k 0 e))
  left_at false e = rw e refl

  left_is : head_left g u k ≡ head_bytes g (planned g k).plan u (last-state (eqb k 0))
  unfolding head_left
  left_is = left_at (eqb k 0) refl

  stated-at : length u ≡ 16 → root_ino g + 2 < 2 ^ 64 → (t : Bool) → eqb k 0 ≡ t → Stated g u k (last-state t)
  unfolding finished_state secondary_state when bit
  stated-at l r true e =
      record {
        size = l;
        id = refl;
        bitmap = ap (λ (b : Bool). when b (root_ino g + 1) null64) (sym e);
        bitmap-fits = omega arith;
        summary = ap (λ (b : Bool). when b (root_ino g + 2) null64) (sym e);
        summary-fits = omega arith;
        mark = ap (λ (b : Bool). bit (not b)) (sym e);
        count = ap (λ (b : Bool). when b 64 0) (sym e);
        count_fits = lit< tt;
        free = ap (λ (b : Bool). when b 61 0) (sym e);
        free-fits = lit< tt;
      }
  stated-at l r false e =
      record {
        size = l;
        id = refl;
        bitmap = ap (λ (b : Bool). when b (root_ino g + 1) null64) (sym e);
        bitmap-fits = lit< tt;
        summary = ap (λ (b : Bool). when b (root_ino g + 2) null64) (sym e);
        summary-fits = lit< tt;
        mark = ap (λ (b : Bool). bit (not b)) (sym e);
        count = ap (λ (b : Bool). when b 64 0) (sym e);
        count_fits = lit< tt;
        free = ap (λ (b : Bool). when b 61 0) (sym e);
        free-fits = lit< tt;
      }

module _ (r : Request) (a : AcceptedRun r) (old : Device) where
  abbrev g : Geometry
  g = (run_of r).geometry

  abbrev u : List ℕ
  u = (run_of r).uuid

  bounds : Bounds g
  bounds = run-bounds r a

  -- ---- heads

  module _ (k : ℕ) (h : k < (run_of r).geometry.agcount) where
    abbrev s : SbState
    s = last-state g u k (eqb k 0)

    abbrev head : List ℕ
    head = head_on g (formatted r old) k

    head-is : head ≡ head_bytes g (planned g k).plan u s
    head-is = head-formatted r a old k h ∙ left_is g u k

    -- a number of the first sector is one of the head
    number_in : (n off : ℕ) → off + n ≤ 512 → be_at n off (sector_at g 0 head) ≡ be_at n off head
    unfolding sector_at
    number_in n off l =
        let e : 0 * g.sectsize + off ≡ off = (let m = zero-mul g.sectsize in omega arith) in
        at-inside n (0 * g.sectsize) g.sectsize off head (omega (arith, sector-least g bounds)) ∙ ap (λ (o : ℕ). be_at n o head) e

    sector-is : sector_at g 0 head ≡ sb_bytes g s (zeros g.sectsize)
    unfolding sector_at
    sector-is =
        ap (λ (o : ℕ). part o g.sectsize head) (zero-mul g.sectsize)
        ∙ ap (λ (xs : List ℕ). part 0 g.sectsize xs) head-is
        ∙ head_first g (planned g k).plan u s

    pub superblock-left : SuperblockAt (run_of r).geometry (run_of r).uuid k (sector_at (run_of r).geometry 0 (head_on (run_of r).geometry (formatted r old) k))
    superblock-left =
        let m = stated-at g u k (run-uuid-length r a) (root-room g (run-label r a) (run-plans r a)) (eqb k 0) refl in
        let said = says g u (source_of r a) k h in
        let f = head-formatted r a old k h in
        subst (SuperblockAt g u k) (sym sector-is)
        (superblock-at g bounds (run-answered r a) (run-label r a) u k s m g.sectsize (omega (arith, sector-least g bounds))
        (sym (ap (be_at 8 56) sector-is) ∙ number_in 8 56 (omega arith) ∙ ap (be_at 8 56) f ∙ said.root)
        (sym (ap (be_at 8 144) sector-is) ∙ number_in 8 144 (omega arith) ∙ ap (be_at 8 144) f ∙ said.free))

    pub agf-left : AgfAt (run_of r).geometry (run_of r).uuid k (sector_at (run_of r).geometry 1 (head_on (run_of r).geometry (formatted r old) k))
    agf-left = subst (λ (xs : List ℕ). AgfAt g u k (sector_at g 1 xs)) (sym head-is) (agf-at g u (source_of r a) k h s)

    pub agi-left : AgiAt (run_of r).geometry (run_of r).uuid k (sector_at (run_of r).geometry 2 (head_on (run_of r).geometry (formatted r old) k))
    agi-left = subst (λ (xs : List ℕ). AgiAt g u k (sector_at g 2 xs)) (sym head-is) (agi-at g u (source_of r a) k h s)

    pub list_left : FreeListAt (run_of r).geometry (run_of r).uuid k (sector_at (run_of r).geometry 3 (head_on (run_of r).geometry (formatted r old) k))
    list_left = subst (λ (xs : List ℕ). FreeListAt g u k (sector_at g 3 xs)) (sym head-is) (list_at g u (source_of r a) k h s)

    pub roots-left : RootsAt (run_of r).geometry (run_of r).uuid k (head_on (run_of r).geometry (formatted r old) k)
    roots-left = subst (λ (xs : List ℕ). RootsAt g u k xs) (sym head-is) (roots-at g u (source_of r a) k h s)

  -- ---- the root chunk

  chunk-is : chunk_on g (formatted r old) ≡ chunk_bytes g (root_chunk g) u (run_of r).time (run_of r).seed
  unfolding chunk_on formatted chunk_length
  chunk-is = (run-left r a old).chunk

  pub inodes-left : Inodes (run_of r).geometry (run_of r).uuid (chunk_on (run_of r).geometry (formatted r old))
  inodes-left = subst (λ (xs : List ℕ). Inodes g u xs) (sym chunk-is) (chunk-inodes g bounds u (run-uuid-length r a) (run_of r).time (run_of r).seed)

  timely : time_inside g.features.bigtime (run_of r).time.secs (run_of r).time.nsecs ≡ true
  unfolding time_refusal
  timely = (passed 26 0 (time_inside g.features.bigtime (run_of r).time.secs (run_of r).time.nsecs) (lit< tt) (run-timely r a)).0

  pub directory-left : DirectoryAt (run_of r).geometry (run_of r).time (inode_in (run_of r).geometry 0 (chunk_on (run_of r).geometry (formatted r old)))
  directory-left =
      subst (λ (xs : List ℕ). DirectoryAt g (run_of r).time (inode_in g 0 xs)) (sym chunk-is)
      (directory-at g bounds u (run-uuid-length r a) (run_of r).time timely (run_of r).seed)
