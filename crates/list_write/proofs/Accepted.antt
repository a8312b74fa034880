-- What an accepted run gives: every part is accepted, and its place fits 64 bits.
-- Assumes nothing.
use mathlib.Core.Path.{◌≡◌, refl, sym, ap, ◌∙◌}
use mathlib.Core.Bool.{Bool, true}
use mathlib.Core.List.{List}
use Prim.Native.Nat.{ℕ, ◌+◌, ◌*◌, ◌<◌, ◌≤◌, ◌^◌}
use native.Mathlib.Omega.{arith}
use native.Mathlib.Nat.{mul-le-mul, mul-le-mul_right}
use borrow.Author.Tests.{le-leb}
use lib.ListN.{length}
use Rattle.structs.specs.Written.{Written}
use Rattle.structs.proofs.Written.{passed, written_in}
use Rattle.params.specs.declared.Timestamp.{Timestamp}
use Rattle.inode_time.specs.Time.{time_inside}
use Rattle.geometry.specs.declared.Geometry.{Geometry}
use Rattle.geometry_layout.specs.Bounds.{Bounds}
use Rattle.geometry_layout.proofs.Inside.{blocks-least, fitting}
use Rattle.geometry_places.specs.Answers.{root_chunk}
use Rattle.plan_totals.specs.Totals.{plans_number}
use Rattle.chunk.specs.Chunk.{chunk_number, chunk_bytes, ChunkMade}
use Rattle.chunk.proofs.Chunks.{a-place, first_group, chunk_in}
use Rattle.run.specs.Runs.{time_refusal}
use Rattle.head_bytes.specs.Head.{head_length}
use Rattle.list_spec.specs.Listing.{head_blocks, chunk_blocks, log_block, head_written, head_finished, head_left}
use Rattle.group_bytes.specs.Answers.{head_refusal, log_refusal}
use Rattle.group_bytes.proofs.Accepted.{answered, bounded, size-least}
use Rattle.group_bytes.proofs.Made.{head-fits}
use Rattle.group_bytes.proofs.Logging.{block-fits}

-- ---- the parts of an accepted geometry

module _ (g : Geometry) (l : length g.label ≡ 12) (p : plans_number g ≡ 0) where
  pub group-made : {r : ℕ} (uuid : List ℕ) (k : ℕ) (xs ys : List ℕ) → k < g.agcount → length xs ≡ head_blocks g * g.blocksize
      → Written (head_refusal g k (length xs)) (head_written g uuid k) xs r ys → ys ≡ head_written g uuid k
  unfolding head_length
  group-made uuid k xs ys h e w = written_in w (sym (head-fits g k (length xs) p e h))

  pub finished-made : {r : ℕ} (uuid xs ys : List ℕ) → length xs ≡ head_blocks g * g.blocksize
      → Written (head_refusal g 0 (length xs)) (head_left g uuid 0) xs r ys → ys ≡ head_finished g uuid
  unfolding head_length head_left
  finished-made uuid xs ys e w = let c = (bounded g l p).groups.count-least in written_in w (sym (head-fits g 0 (length xs) p e (omega arith)))

  pub log-made : {r : ℕ} (uuid xs ys : List ℕ) → length xs ≡ g.blocksize → Written (log_refusal g (length xs)) (log_block g uuid) xs r ys → ys ≡ log_block g uuid
  log-made uuid xs ys e w = written_in w (sym (block-fits g (length xs) p e))

  -- the root chunk
  stored : (time : Timestamp) → time_refusal g time ≡ 0 → time_inside g.features.bigtime time.secs time.nsecs ≡ true
  unfolding time_refusal
  stored time z = (passed 26 0 (time_inside g.features.bigtime time.secs time.nsecs) (omega arith) z).0

  chunk-there : root_chunk g + chunk_blocks g ≤ g.agsize
  unfolding root_chunk
  chunk-there = let z = bounded g l p in let b = z.places.chunk-room in let a = z.places.chunk_inside in omega arith

  root-accepted : (time : Timestamp) (len : ℕ) → time_refusal g time ≡ 0 → len ≡ chunk_blocks g * g.blocksize → chunk_number g (root_chunk g) time len ≡ 0
  root-accepted time len z e =
      sym (a-place g (root_chunk g) time len true (chunk_blocks g) (sym (le-leb (root_chunk g + chunk_blocks g) g.agsize chunk-there)) refl (first_group g (bounded g l p)) (answered g l p) (stored time z) e refl)

  pub root-made : {number state next : ℕ} {right : Bool} {sums : List ℕ} (at : ℕ) (uuid : List ℕ) (time : Timestamp) (seed : ℕ) (xs ys : List ℕ) → time_refusal g time ≡ 0 → length xs ≡ chunk_blocks g * g.blocksize
      → at ≡ root_chunk g → ChunkMade (chunk_number g at time (length xs)) next sums (chunk_bytes g at uuid time seed) xs number state right ys
      → ys ≡ chunk_bytes g (root_chunk g) uuid time seed
  root-made at uuid time seed xs ys z e a w =
      (chunk_in w (ap (λ (x : ℕ). chunk_number g x time (length xs)) a ∙ root-accepted time (length xs) z e)).0
      ∙ ap (λ (x : ℕ). chunk_bytes g x uuid time seed) a

-- ---- places fit 64 bits

module _ (g : Geometry) (z : Bounds g) where
  -- a few blocks of a group lie on the disk
  pub group-room : (k b : ℕ) → k < g.agcount → b ≤ 1000 → (k * g.agsize + b < 2 ^ 64) × ((k * g.agsize + b) * g.blocksize < 2 ^ 64)
  group-room k b h few =
      let f = fitting g z k b h (let m = blocks-least g z k in omega arith) in
      let d = f.before-disk in
      let s = size-least g z in
      let v = mul-le-mul (let u : k * g.agsize + b + 1 ≤ g.dblocks = omega arith in u) s in
      let m = z.groups.disk-most in
      let w = mul-le-mul_right g.blocksize (let u : k * g.agsize + b ≤ g.dblocks = omega arith in u) in
      let x = mul-le-mul (let u : g.dblocks ≤ g.dblocks = omega arith in u) s in
      (omega arith, f.byte-most)

  -- n blocks from block b on
  pub group-blocks : (k b n : ℕ) → k < g.agcount → b + n ≤ 1000 → (k * g.agsize + b) * g.blocksize + n * g.blocksize ≤ 2 ^ 64
  group-blocks k b n h few =
      let r = (group-room k (b + n) h few).1 in
      omega arith
