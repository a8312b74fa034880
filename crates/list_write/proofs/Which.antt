-- Which piece is the k-th, and which part it is split from.
-- Assumes nothing.
use mathlib.Core.Path.{◌≡◌, refl}
use Prim.Native.Nat.{ℕ, ◌+◌, ◌-◌, ◌<◌, ◌≤◌}
use native.Mathlib.Omega.{arith}
use borrow.Author.Tests.{eq-eqb, ne_eqb, le-leb, lt-leb}
use Rattle.run.specs.declared.Run.{Run}
use Rattle.geometry_places.specs.Answers.{root_chunk}
use Rattle.chunk.specs.Chunk.{chunk_bytes}
use Rattle.list_spec.specs.Listing.{log_block, head_written, head_finished, opening, head_records, chunk_records, closing, list_piece}
use Rattle.list_write.specs.Writing.{part_bytes}

module _ (run : Run) (device k : ℕ) where
  abbrev groups : ℕ
  groups = run.geometry.agcount

  pub opening-chunk : k ≡ 0 → list_piece run device k ≡ opening run device
  unfolding list_piece
  opening-chunk e = rw (eq-eqb k 0 e) refl

  pub group-chunk : (k ≡ 0 → ⊥) → k ≤ groups → list_piece run device k ≡ head_records run (k - 1)
  unfolding list_piece
  group-chunk n h = rw (ne_eqb k 0 n, le-leb k groups h) refl

  pub root-chunk : groups < k → k - 1 ≡ groups → list_piece run device k ≡ chunk_records run
  unfolding list_piece
  root-chunk h e = rw (ne_eqb k 0 (λ q. omega arith), lt-leb k groups h, eq-eqb k (groups + 1) (omega arith)) refl

  pub closing-chunk : groups < k → (k - 1 ≡ groups → ⊥) → list_piece run device k ≡ closing run
  unfolding list_piece
  closing-chunk h n = rw (ne_eqb k 0 (λ q. omega arith), lt-leb k groups h, ne_eqb k (groups + 1) (λ q. n (omega arith))) refl

module _ (run : Run) (k : ℕ) where
  pub opening-part : k ≡ 0 → part_bytes run k ≡ log_block run.geometry run.uuid
  unfolding part_bytes
  opening-part e = rw (eq-eqb k 0 e) refl

  pub group-part : (k ≡ 0 → ⊥) → k ≤ run.geometry.agcount → part_bytes run k ≡ head_written run.geometry run.uuid (k - 1)
  unfolding part_bytes
  group-part n h = rw (ne_eqb k 0 n, le-leb k run.geometry.agcount h) refl

  pub root-part : run.geometry.agcount < k → k - 1 ≡ run.geometry.agcount → part_bytes run k ≡ chunk_bytes run.geometry (root_chunk run.geometry) run.uuid run.time run.seed
  unfolding part_bytes
  root-part h e = rw (ne_eqb k 0 (λ q. omega arith), lt-leb k run.geometry.agcount h, eq-eqb k (run.geometry.agcount + 1) (omega arith)) refl

  pub closing-part : run.geometry.agcount < k → (k - 1 ≡ run.geometry.agcount → ⊥) → part_bytes run k ≡ head_finished run.geometry run.uuid
  unfolding part_bytes
  closing-part h n = rw (ne_eqb k 0 (λ q. omega arith), lt-leb k run.geometry.agcount h, ne_eqb k (run.geometry.agcount + 1) (λ q. n (omega arith))) refl

-- piece k is the head of the group before
pub one_less : (k n : ℕ) → (k ≡ 0 → ⊥) → k ≤ n → k - 1 < n
one_less k n z h = omega arith
