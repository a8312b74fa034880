-- The form of a run's list.
-- Assumes nothing.
use mathlib.Core.Path.{◌≡◌, refl, ap, ◌∙◌}
use Prim.Native.Nat.{ℕ, ◌+◌, ◌*◌, ◌≤◌, ◌<◌}
use native.Mathlib.Omega.{arith}
use native.Mathlib.Nat.{mul-mod_left, zero-mod}
use lib.ListN.{length}
use Rattle.geometry_layout.specs.Places.{byte_of}
use Rattle.geometry_places.specs.Answers.{root_chunk}
use Rattle.chunk.specs.Chunk.{chunk_bytes}
use Rattle.run.specs.declared.Run.{Run}
use Rattle.list_records.specs.Records.{All, OneBlock, list_bytes, payload}
use Rattle.list_records.proofs.Blocks.{blocks-whole}
use Rattle.list_records.proofs.Sums.{payload-total, bytes-total}
use Rattle.list_records.specs.Device.{InsideDevice}
use Rattle.list_records.proofs.Applying.{blocks-fit, blocks-rising}
use Rattle.list_spec.specs.Listing.{tail_start, log_offset, head_blocks, header_blocks, chunk_blocks, head_written, head_finished, opening, head_records, chunk_records, list_of, block_count, list_length}
use Rattle.list_spec.specs.Sound.{SoundRun}
use Rattle.list_spec.specs.Order.{Ordered}
use Rattle.list_spec.proofs.Counts.{list-total, list_count, list-zeros, list-flushes, list-blocks}
use Rattle.list_spec.proofs.Parts.{list_all}
use Rattle.list_spec.proofs.Spans.{spans}

module _ (run : Run) (device : ℕ) (s : SoundRun run device) where
  -- ---- every part has its blocks

  head-room : (k : ℕ) → k < run.geometry.agcount → head_blocks run.geometry * run.geometry.blocksize ≤ length (head_written run.geometry run.uuid k)
  head-room k h = omega (arith, s.head-long k h)

  chunk-room : chunk_blocks run.geometry * run.geometry.blocksize ≤ length (chunk_bytes run.geometry (root_chunk run.geometry) run.uuid run.time run.seed)
  chunk-room = omega (arith, s.chunk-long)

  header-room : header_blocks run.geometry * run.geometry.blocksize ≤ length (head_finished run.geometry run.uuid)
  header-room = let p = spans run device s in omega (arith, s.finished-long, p.header-head)

  -- ---- where the records lie

  opening-fits : All (InsideDevice run.geometry.blocksize device) (opening run device)
  unfolding opening tail_start log_offset byte_of
  opening-fits =
      let p = spans run device s in
      let bs = run.geometry.blocksize in
      ((zero-mod bs, omega arith), ((mul-mod_left _ bs, omega arith), ((mul-mod_left _ bs, omega arith), ((mul-mod_left _ bs, omega (arith, s.log-long)), tt))))

  list-fits : All (InsideDevice run.geometry.blocksize device) (list_of run device)
  unfolding head_records chunk_records byte_of
  list-fits =
      let p = spans run device s in
      let bs = run.geometry.blocksize in
      let one = p.end 1 (omega (arith, s.two)) in
      list_all (InsideDevice bs device) run device opening-fits
      (λ k h. blocks-fit bs device _ _ _ _ refl (omega (arith, p.end k h)))
      (blocks-fit bs device _ _ _ _ refl (omega (arith, p.chunk-heads 1 (omega arith))))
      (zero-mod bs, omega arith)
      (blocks-fit bs device 0 _ _ _ (omega arith) (omega arith))

  list-whole : All (OneBlock run.geometry.blocksize) (list_of run device)
  unfolding opening head_records chunk_records
  list-whole =
      let bs = run.geometry.blocksize in
      list_all (OneBlock bs) run device (tt, (tt, (tt, (s.log-long, tt)))) (λ k h. blocks-whole bs _ _ _ (head-room k h)) (blocks-whole bs _ _ _ chunk-room) tt
      (blocks-whole bs _ _ _ header-room)

  -- ---- the bytes of the list

  list-bytes : length (list_bytes (list_of run device)) ≡ list_length run.geometry
  unfolding list_length
  list-bytes = let bs = run.geometry.blocksize in omega (arith, bytes-total bs (list_of run device) list-whole, list-total 18 (18 + bs) 2 run device)

  list-carries : payload (list_of run device) ≡ block_count run.geometry * run.geometry.blocksize
  list-carries = let bs = run.geometry.blocksize in payload-total bs (list_of run device) list-whole ∙ ap (λ n. n * bs) (list-blocks run device)

  -- THE FORM OF THE LIST
  pub ordered : Ordered run device
  unfolding head_records chunk_records
  ordered = record {
    fits = list-fits;
    one_block = list-whole;
    head-rises = λ k h. blocks-rising run.geometry.blocksize _ _ _ (head-room k h);
    chunk-rises = blocks-rising run.geometry.blocksize _ _ _ chunk-room;
    header-rises = blocks-rising run.geometry.blocksize 0 _ _ header-room;
    count = list_count run device;
    bytes = list-bytes;
    zeros-count = list-zeros run device;
    flush-count = list-flushes run device;
    block-count = list-blocks run device;
    carries = list-carries;
  }
