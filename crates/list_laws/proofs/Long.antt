-- Each piece of a sound run's list has the length that `piece_length` answers.
-- Assumes nothing.
use mathlib.Core.Path.{◌≡◌, refl}
use mathlib.Core.Bool.{Bool, true, false, cond}
use mathlib.Core.List.{[], ◌∷◌}
use Prim.Native.Nat.{ℕ, ◌+◌, ◌*◌, ◌-◌, ◌<◌}
use native.Mathlib.Omega.{arith}
use native.Mathlib.Nat.{mul-le-mul_right}
use borrow.Author.Tests.{eqb-false, leb-true}
use lib.Dec.{leb, eqb}
use lib.ListN.{length}
use Rattle.arith.specs.Choice.{when}
use Rattle.geometry_layout.specs.Places.{byte_of}
use Rattle.geometry_places.specs.Answers.{root_chunk}
use Rattle.chunk.specs.Chunk.{chunk_bytes}
use Rattle.list_records.specs.Records.{FL, OneBlock, All, list_bytes}
use Rattle.list_records.proofs.Blocks.{all_append, blocks-whole}
use Rattle.list_records.proofs.Sums.{bytes-total}
use Rattle.run.specs.declared.Run.{Run}
use Rattle.list_spec.specs.Listing.{head_blocks, header_blocks, chunk_blocks, head_written, head_finished, opening, head_records, chunk_records, header_records, closing, list_piece}
use Rattle.list_spec.specs.Sound.{SoundRun}
use Rattle.list_spec.proofs.Counts.{opening-total, closing-total}
use Rattle.list_lengths.specs.Lengths.{blocks_length, piece_list_length}
use Rattle.list_laws.specs.Long.{Long}
use Rattle.list_write.proofs.Splitting.{blocks-length}

module _ (run : Run) (device : ℕ) (s : SoundRun run device) where
  abbrev bs : ℕ
  bs = run.geometry.blocksize

  abbrev groups : ℕ
  groups = run.geometry.agcount

  opening-long : length (list_bytes (opening run device)) ≡ 3 * 18 + blocks_length bs 1
  unfolding opening blocks_length
  opening-long =
      let whole : All (OneBlock bs) (opening run device) = (tt, (tt, (tt, (s.log-long, tt)))) in
      omega (arith, bytes-total bs (opening run device) whole, opening-total 18 (18 + bs) 2 run device)

  head-long : (k : ℕ) → k < groups → length (list_bytes (head_records run k)) ≡ blocks_length bs (head_blocks run.geometry)
  unfolding head_records
  head-long k h = blocks-length bs (byte_of bs run.geometry.agsize k 0) (head_blocks run.geometry) (head_written run.geometry run.uuid k) (omega (arith, s.head-long k h))

  root-long : length (list_bytes (chunk_records run)) ≡ blocks_length bs (chunk_blocks run.geometry)
  unfolding chunk_records
  root-long = blocks-length bs (byte_of bs run.geometry.agsize 0 (root_chunk run.geometry)) (chunk_blocks run.geometry) (chunk_bytes run.geometry (root_chunk run.geometry) run.uuid run.time run.seed) (omega (arith, s.chunk-long))

  closing-long : length (list_bytes (closing run)) ≡ 2 + blocks_length bs (header_blocks run.geometry) + 2
  unfolding closing blocks_length
  closing-long =
      let work = mul-le-mul_right bs s.header-head in
      let header = blocks-whole bs 0 (header_blocks run.geometry) (head_finished run.geometry run.uuid) (omega (arith, s.finished-long)) in
      let whole : All (OneBlock bs) (closing run) = (tt, all_append (OneBlock bs) (header_records run) (FL ∷ []) header (tt, tt)) in
      omega (arith, bytes-total bs (closing run) whole, closing-total 18 (18 + bs) 2 run)

  long-at : (k : ℕ) (a b c : Bool) → eqb k 0 ≡ a → leb k groups ≡ b
      → length (list_bytes (cond a (opening run device) (cond b (head_records run (k - 1)) (cond c (chunk_records run) (closing run)))))
      ≡ when a (3 * 18 + blocks_length bs 1) (when b (blocks_length bs (head_blocks run.geometry)) (when c (blocks_length bs (chunk_blocks run.geometry)) (2 + blocks_length bs (header_blocks run.geometry) + 2)))
  unfolding when
  long-at k true b c e f = opening-long
  long-at k false true c e f = let n = eqb-false k 0 e in let h = leb-true k groups f in head-long (k - 1) (omega arith)
  long-at k false false true e f = root-long
  long-at k false false false e f = closing-long

  -- EACH CHUNK HAS ITS LENGTH
  pub chunk-long : (k : ℕ) → Long run device k
  unfolding list_piece piece_list_length
  chunk-long k = long-at k (eqb k 0) (leb k groups) (eqb k (groups + 1)) refl refl
