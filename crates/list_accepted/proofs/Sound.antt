-- Every accepted run is sound on its device: its parts lie one behind the other, inside, and have their lengths.
-- Assumes nothing.
use mathlib.Core.Path.{◌≡◌, refl, ap, ◌∙◌}
use mathlib.Core.Bool.{Bool, true, false, cond, ◌&&◌}
use mathlib.Core.List.{List}
use Prim.Native.Nat.{ℕ, ◌+◌, ◌*◌, ◌-◌, ◌^◌, ◌≤◌, ◌<◌}
use native.Mathlib.Omega.{arith}
use native.Mathlib.Nat.{mul-le-mul_right, one-mul}
use borrow.Author.Tests.{eq-eqb, ltb-false, ne_eqb, le-leb, le-ltb}
use lib.Dec.{ltb, eqb}
use lib.Pow.{pow-add}
use lib.ListN.{length, replicate, length-append, length-replicate}
use Rattle.endian.specs.Bytes.{zeros}
use Rattle.arith.specs.Choice.{when}
use Rattle.endian.proofs.Fields.{write-length}
use Rattle.geometry.specs.declared.Geometry.{Geometry}
use Rattle.geometry.specs.Log.{prealloc_of}
use Rattle.geometry_layout.specs.Places.{freelist_of, group_blocks, lsunit_bytes, logsunit_of}
use Rattle.geometry_layout.specs.Bounds.{Bounds}
use Rattle.geometry_layout.proofs.Inside.{inside, blocks-least}
use Rattle.geometry_places.specs.Answers.{root_chunk}
use Rattle.plan_site.specs.Sites.{site_of}
use Rattle.plan_site.proofs.Sites.{bounds-sound}
use Rattle.plan_closed.specs.Closed.{list_short, list_at}
use Rattle.plan_totals.specs.Totals.{plans_number}
use Rattle.plan_totals.proofs.Whole.{all-planned}
use Rattle.log_record.specs.Record.{clear_sunit, rounded_up, basic_blocks_of, record_fields, log_record_bytes}
use Rattle.sb.specs.declared.SbState.{SbState}
use Rattle.plan.specs.Plan.{planned}
use Rattle.plan_same.proofs.Planners.{planned-is-plan}
use Rattle.head_bytes.specs.Head.{head_bytes, head_length}
use Rattle.head_bytes.proofs.Bytes.{head-length}
use Rattle.chunk.specs.Chunk.{chunk_length}
use Rattle.chunk.proofs.Chunks.{chunk-length}
use Rattle.sb_states.specs.States.{state_of, finished_state}
use Rattle.request.specs.declared.Request.{Request}
use Rattle.run.specs.Runs.{run_of}
use Rattle.list_spec.specs.Listing.{head_blocks, header_blocks, log_unit, first_record, log_block, head_written, head_finished}
use Rattle.list_spec.specs.Sound.{SoundRun}
use Rattle.list_spec.proofs.Whole.{group-planned}
use Rattle.list_accepted.specs.Accepted.{AcceptedRun}
use Rattle.list_accepted.specs.Superblocks.{changed_byte}
use Rattle.list_accepted.proofs.Sizes.{block-least, block-most}
use Rattle.list_accepted.proofs.Runs.{run-plans, run-bounds, run-label, run_inside}
use Rattle.list_accepted.proofs.Finished.{finished-same}

-- ---- the log's first record

-- it is cleared with a block where a sector is above 512 bytes, else with none
unit-at : (s b : ℕ) (t : Bool) → 1024 ≤ b → clear_sunit (logsunit_of (when t b 0)) (when t s 0) ≡ when t b 0
unfolding clear_sunit logsunit_of when
unit-at s b true h = rw (ne_eqb b 0 (λ e. omega arith), ne_eqb b 1 (λ e. omega arith)) refl
unit-at s b false h = refl

unit-blocks : (b m : ℕ) (t : Bool) → 1024 ≤ b → b ≡ m * 512 → 512 * basic_blocks_of (when t b 0) ≤ b
unfolding basic_blocks_of rounded_up when
unit-blocks b m true h e = omega arith
unit-blocks b m false h e = omega arith

module _ (g : Geometry) (z : Bounds g) (uuid : List ℕ) where
  unit-is : log_unit g ≡ when (ltb 512 g.sectsize) g.blocksize 0
  unfolding log_unit lsunit_bytes
  unit-is = rw z.sizes.log-sector (unit-at g.sectsize g.blocksize (ltb 512 g.sectsize) (block-least g z))

  in_halves : g.blocksize ≡ 2 ^ (g.blocklog - 9) * 512
  in_halves =
      let l = z.sizes.block-least in
      let e : g.blocklog ≡ g.blocklog - 9 + 9 = omega arith in
      z.sizes.block-power ∙ ap (λ (n : ℕ). 2 ^ n) e ∙ pow-add 2 (g.blocklog - 9) 9

  record-length : length (first_record g uuid) ≡ 512 * basic_blocks_of (log_unit g)
  unfolding first_record log_record_bytes
  record-length =
      write-length (record_fields uuid (log_unit g) (2 ^ 32) (2 ^ 32)) (replicate (512 * basic_blocks_of (log_unit g)) 0) ∙ length-replicate {A = ℕ} (512 * basic_blocks_of (log_unit g)) 0

  -- it is at most a block long
  record-most : length (first_record g uuid) ≤ g.blocksize
  record-most = rw (record-length, unit-is) (unit-blocks g.blocksize (2 ^ (g.blocklog - 9)) (ltb 512 g.sectsize) (block-least g z) in_halves)

  log-long : length (log_block g uuid) ≡ g.blocksize
  unfolding log_block
  log-long =
      let xs = first_record g uuid in
      let m = record-most in
      length-append xs (zeros (g.blocksize - length xs))
      ∙ ap (λ (n : ℕ). length xs + n) (length-replicate {A = ℕ} (g.blocksize - length xs) 0)
      ∙ omega arith

-- ---- places

module _ (g : Geometry) (z : Bounds g) where
  header-some : 0 < header_blocks g
  unfolding site_of
  header-some = (bounds-sound g 0 z).bno-least

  header-head : header_blocks g ≤ head_blocks g
  unfolding prealloc_of
  header-head = omega arith

  log-some : 0 < g.logblocks
  unfolding site_of
  log-some = (bounds-sound g 0 z).log-least

  last-room : (g.agcount - 1) * g.agsize + head_blocks g ≤ g.dblocks
  unfolding group_blocks when
  last-room =
      let n = g.agcount - 1 in
      let l : 1024 ≤ g.dblocks - n * g.agsize = rw (eq-eqb n n refl) at (blocks-least g z n) in
      let h = z.places.head-most in
      omega arith

  first-inside : g.agsize ≤ g.dblocks
  first-inside =
      let c = z.groups.count-least in
      let m : 1 * g.agsize ≤ (g.agcount - 1) * g.agsize = mul-le-mul_right g.agsize (omega arith) in
      let o = one-mul g.agsize in
      let b = z.groups.before_last in
      omega arith

-- the log group has its free list behind the log: the log ends inside it
module _ (g : Geometry) (z : Bounds g) (l : length g.label ≡ 12) (p : plans_number g ≡ 0) where
  not_short : (eqb g.logagno g.logagno && ltb (group_blocks g.dblocks g.agsize g.agcount g.logagno - cond (eqb g.logagno g.logagno) (g.log_agbno + g.logblocks) (head_blocks g)) (freelist_of g.features)) ≡ false
  unfolding list_short list_at site_of
  not_short = (all-planned g l p).1

  log-ends : g.log_agbno + g.logblocks < group_blocks g.dblocks g.agsize g.agcount g.logagno
  unfolding site_of
  log-ends =
      let n = g.logagno in
      let e = rw (eq-eqb n n refl) at not_short in
      let f = ltb-false (group_blocks g.dblocks g.agsize g.agcount n - (g.log_agbno + g.logblocks)) (freelist_of g.features) e in
      let s = (bounds-sound g n z).need-least in
      omega arith

  log-inside : g.logagno * g.agsize + g.log_agbno + g.logblocks ≤ g.dblocks
  log-inside =
      let i = inside g.dblocks g.agsize g.agcount g.logagno (g.log_agbno + g.logblocks) z.groups.before_last z.places.log-inside log-ends in
      omega arith

-- ---- heads

head-long : (g : Geometry) (uuid : List ℕ) → length g.label ≡ 12 → plans_number g ≡ 0 → (k : ℕ) → k < g.agcount → (s : SbState)
    → length (head_bytes g (planned g k).plan uuid s) ≡ head_blocks g * g.blocksize
unfolding head_length
head-long g uuid l p k h s = head-length g (planned g k).plan uuid s l (planned-is-plan g k (group-planned g l p k h))

-- behind the first block there is neither the mark nor the checksum
behind-changed : (i : ℕ) → 1024 ≤ i → changed_byte i ≡ false
unfolding changed_byte
behind-changed i h = rw (ne_eqb i 126 (λ e. omega arith), le-leb 224 i (omega arith), le-ltb i 228 (omega arith)) refl

-- EVERY ACCEPTED RUN IS SOUND
pub sound : (r : Request) → AcceptedRun r → SoundRun (run_of r) r.device
unfolding head_written head_finished root_chunk chunk_length
sound r a =
    let g = (run_of r).geometry in
    let uuid = (run_of r).uuid in
    let z = run-bounds r a in
    let l = run-label r a in
    let p = run-plans r a in
    let c = z.groups.count-least in
    record {
      block-least = block-least g z;
      block-most = block-most g z;
      large = let d = z.groups.disk-least in let i = run_inside r a in omega arith;
      two = z.groups.count-least;
      header-some = header-some g z;
      header-head = header-head g z;
      head-room = let h = z.places.head-most in let s = z.places.chunk_inside in omega arith;
      log-not-first = z.places.log-not-first;
      log-group = z.places.log-inside;
      log-some = log-some g z;
      log-after = let e = z.places.log-start in omega arith;
      log-room = let h = z.places.log-room in omega arith;
      chunk-after = let h = z.places.chunk-after in omega arith;
      chunk-room = let h = z.places.chunk-room in let s = z.places.chunk_inside in omega arith;
      last-room = last-room g z;
      log-inside = log-inside g z l p;
      first-inside = first-inside g z;
      inside = run_inside r a;
      head-most = z.places.head-most;
      group-least = z.groups.group-least;
      last-least = z.groups.last-least;
      log-least = z.places.log-bytes;
      head-long = λ k h. head-long g uuid l p k h (state_of g uuid k);
      finished-long = head-long g uuid l p 0 (omega arith) (finished_state g uuid);
      log-long = log-long g z uuid;
      chunk-long = chunk-length g z (root_chunk g) uuid (run_of r).time (run_of r).seed;
      agrees = λ i h. let b = block-least g z in finished-same g uuid i (behind-changed i (omega arith));
    }
