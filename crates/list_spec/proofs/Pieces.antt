-- The list is its chunks, one after the other.
-- Assumes nothing.
use mathlib.Core.Path.{◌≡◌, refl, sym, ap, ◌∙◌}
use mathlib.Core.List.{List, [], ◌∷◌, ◌++◌, append_assoc, append-nil}
use Prim.Native.Nat.{ℕ, zero, suc, ◌+◌, ◌-◌, ◌≤◌}
use native.Mathlib.Omega.{arith}
use borrow.Author.Tests.{eq-eqb, ne_eqb, le-leb, lt-leb}
use Rattle.run.specs.declared.Run.{Run}
use Rattle.list_records.specs.Records.{Record}
use Rattle.list_spec.specs.Listing.{opening, head_records, heads_to, chunk_records, closing, list_of, piece_count, list_piece, pieces_to}

module _ (run : Run) (device : ℕ) where
  first_chunk : list_piece run device 0 ≡ opening run device
  unfolding list_piece
  first_chunk = refl

  head-chunk : (k : ℕ) → suc k ≤ run.geometry.agcount → list_piece run device (suc k) ≡ head_records run k
  unfolding list_piece
  head-chunk k h = let e : suc k - 1 ≡ k = omega arith in rw (ne_eqb (suc k) 0 (λ q. omega arith), le-leb (suc k) run.geometry.agcount h, e)

  root-chunk : list_piece run device (run.geometry.agcount + 1) ≡ chunk_records run
  unfolding list_piece
  root-chunk =
      let n = run.geometry.agcount in
      rw (ne_eqb (n + 1) 0 (λ q. omega arith), lt-leb (n + 1) n (omega arith), eq-eqb (n + 1) (n + 1) refl)

  last-chunk : list_piece run device (run.geometry.agcount + 2) ≡ closing run
  unfolding list_piece
  last-chunk =
      let n = run.geometry.agcount in
      rw (ne_eqb (n + 2) 0 (λ q. omega arith), lt-leb (n + 2) n (omega arith), ne_eqb (n + 2) (n + 1) (λ q. omega arith))

  heads-to : (n : ℕ) → n ≤ run.geometry.agcount → pieces_to run device (suc n) ≡ opening run device ++ heads_to run n
  unfolding pieces_to heads_to
  heads-to zero h = rw first_chunk (sym (append-nil (opening run device)))
  heads-to (suc n) h =
      rw (heads-to n (omega arith), head-chunk n h) (append_assoc (opening run device) (heads_to run n) (head_records run n))

  -- THE LIST BY ITS CHUNKS
  pub by-chunks : pieces_to run device (piece_count run) ≡ list_of run device
  unfolding piece_count list_of pieces_to
  by-chunks =
      let n = run.geometry.agcount in
      let e : n + 3 ≡ suc (suc (suc n)) = omega arith in
      let a : suc n ≡ n + 1 = omega arith in
      let b : suc (suc n) ≡ n + 2 = omega arith in
      let h = heads-to n (omega arith) in
      ap (λ (m : ℕ). pieces_to run device m) e
      ∙ ap (λ (xs : List Record). (xs ++ list_piece run device (suc n)) ++ list_piece run device (suc (suc n))) h
      ∙ rw (b, last-chunk, a, root-chunk) (simp append_assoc refl)
