-- How long the k-th piece is, and the part that it is split from.
-- Assumes nothing.
use mathlib.Core.Path.{◌≡◌, refl}
use Prim.Native.Nat.{ℕ, ◌+◌, ◌*◌, ◌-◌, ◌<◌, ◌≤◌}
use native.Mathlib.Omega.{arith}
use borrow.Author.Tests.{eq-eqb, ne_eqb, le-leb, lt-leb}
use Rattle.arith.specs.Choice.{when}
use Rattle.list_lengths.specs.declared.parts.Sizes.{Sizes}
use Rattle.list_lengths.specs.Lengths.{flush_size, record_head_size, blocks_length, piece_list_length, split_part}

module _ (s : Sizes) (groups k : ℕ) where
  pub opening-length : k ≡ 0 → piece_list_length s groups k ≡ 3 * record_head_size + blocks_length s.block 1
  unfolding piece_list_length when
  opening-length e = rw (eq-eqb k 0 e) refl

  pub group-length : (k ≡ 0 → ⊥) → k ≤ groups → piece_list_length s groups k ≡ blocks_length s.block s.head
  unfolding piece_list_length when
  group-length n h = rw (ne_eqb k 0 n, le-leb k groups h) refl

  pub root-length : groups < k → k - 1 ≡ groups → piece_list_length s groups k ≡ blocks_length s.block s.chunk
  unfolding piece_list_length when
  root-length h e = rw (ne_eqb k 0 (λ q. omega arith), lt-leb k groups h, eq-eqb k (groups + 1) (omega arith)) refl

  pub closing-length : groups < k → (k - 1 ≡ groups → ⊥) → piece_list_length s groups k ≡ flush_size + blocks_length s.block s.header + flush_size
  unfolding piece_list_length when
  closing-length h n = rw (ne_eqb k 0 (λ q. omega arith), lt-leb k groups h, ne_eqb k (groups + 1) (λ q. n (omega arith))) refl

  pub opening-size : k ≡ 0 → split_part s groups k ≡ s.block
  unfolding split_part when
  opening-size e = rw (eq-eqb k 0 e) refl

  pub root-size : (k ≡ 0 → ⊥) → k - 1 ≡ groups → split_part s groups k ≡ s.chunk * s.block
  unfolding split_part when
  root-size n e = rw (ne_eqb k 0 n, eq-eqb k (groups + 1) (omega arith)) refl

  pub head-size : (k ≡ 0 → ⊥) → (k - 1 ≡ groups → ⊥) → split_part s groups k ≡ s.head * s.block
  unfolding split_part when
  head-size n h = rw (ne_eqb k 0 n, ne_eqb k (groups + 1) (λ q. h (omega arith))) refl
