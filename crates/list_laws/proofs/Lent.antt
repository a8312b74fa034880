-- The buffers that `writelist` lends are long enough for every piece of an accepted run and its part.
-- Assumes nothing.
use mathlib.Core.Path.{◌≡◌, refl, ◌∙◌}
use Prim.Native.Nat.{ℕ, ◌-◌, ◌<◌, ◌≤◌}
use native.Mathlib.Omega.{arith}
use Rattle.request.specs.declared.Request.{Request}
use Rattle.run.specs.declared.Run.{Run}
use Rattle.run.specs.Runs.{run_of}
use Rattle.list_spec.specs.Listing.{head_blocks, chunk_blocks, piece_count}
use Rattle.list_accepted.specs.Accepted.{AcceptedRun}
use Rattle.list_accepted.proofs.Runs.{run-bounds}
use Rattle.list_lengths.specs.Lengths.{blocks_length}
use Rattle.list_lengths.proofs.Which.{group-length, root-length}
use Rattle.list_lengths.specs.Pieces.{sizes_in, listed_length, part_length, length_answer, part_answer}
use Rattle.list_laws.specs.Room.{longest_piece_bytes, HoldsPiece, Sufficient}
use Rattle.list_laws.proofs.Room.{chunk-within, part-within, head-within, root-within}
use Rattle.list_laws.proofs.Whole.{there}

module _ (r : Request) (a : AcceptedRun r) where
  abbrev run : Run
  run = run_of r

  length-value : (k : ℕ) → k < piece_count run → (length_answer run k).value ≡ listed_length run.geometry k
  unfolding length_answer
  length-value k h = rw (there r a k h) refl

  part-value : (k : ℕ) → k < piece_count run → (part_answer run k).value ≡ part_length run.geometry k
  unfolding part_answer
  part-value k h = rw (there r a k h) refl

  -- the first head, and the root chunk
  head-value : (length_answer run 1).value ≡ blocks_length run.geometry.blocksize (head_blocks run.geometry)
  unfolding piece_count
  head-value =
      let c = (run-bounds r a).groups.count-least in
      length-value 1 (omega arith) ∙ group-length (sizes_in run.geometry) run.geometry.agcount 1 (λ e. omega arith) (omega arith)

  root-value : (length_answer run (piece_count run - 2)).value ≡ blocks_length run.geometry.blocksize (chunk_blocks run.geometry)
  unfolding piece_count
  root-value = length-value (piece_count run - 2) (omega arith) ∙ root-length (sizes_in run.geometry) run.geometry.agcount (piece_count run - 2) (omega arith) (omega arith)

  holds : (n k : ℕ) → k < piece_count run → blocks_length run.geometry.blocksize (head_blocks run.geometry) ≤ n
      → blocks_length run.geometry.blocksize (chunk_blocks run.geometry) ≤ n → HoldsPiece run n k
  holds n k h p q =
      let z = run-bounds r a in
      (rw (length-value k h) (chunk-within run.geometry z n p q k), rw (part-value k h) (part-within run.geometry z n p q k))

  -- THE LENT ROOM IS ENOUGH
  pub room-enough : Sufficient (run_of r)
  room-enough =
      let z = run-bounds r a in
      record {
        few = λ n k h p q. holds n k h (omega (arith, head-value)) (omega (arith, root-value));
        most = λ k h. holds longest_piece_bytes k h (head-within run.geometry z) (root-within run.geometry z);
      }
