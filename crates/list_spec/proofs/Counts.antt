-- How many records a run writes, of each kind and in all: one sum by kind over its list.
-- Assumes nothing.
use mathlib.Core.Path.{◌≡◌}
use mathlib.Core.List.{List, [], ◌∷◌, ◌++◌}
use Prim.Native.Nat.{ℕ, zero, suc, ◌+◌, ◌*◌}
use native.Mathlib.Omega.{arith}
use lib.ListN.{length}
use Rattle.seqs.specs.Lists.{total}
use Rattle.seqs.proofs.Laws.{total-append}
use Rattle.run.specs.declared.Run.{Run}
use Rattle.list_records.specs.Records.{Record, FL, by_kind, zeroings, block_writes, flushes}
use Rattle.list_records.proofs.Sums.{blocks-total, count-total}
use Rattle.list_spec.specs.Listing.{head_blocks, header_blocks, chunk_blocks, opening, head_records, heads_to, chunk_records, header_records, closing, list_of, block_count, record_count}

-- z for each WZ, b for each WB, f for each FL
module _ (z b f : ℕ) (run : Run) where
  abbrev sum : List Record → ℕ
  sum rs = total (by_kind z b f) rs

  pub opening-total : (device : ℕ) → sum (opening run device) ≡ 3 * z + b
  unfolding opening total
  opening-total device = omega arith

  heads-total : (n : ℕ) → sum (heads_to run n) ≡ n * head_blocks run.geometry * b
  unfolding heads_to head_records total
  heads-total zero = omega arith
  heads-total (suc n) =
      let one : sum (head_records run n) ≡ head_blocks run.geometry * b = blocks-total z b f _ _ (head_blocks run.geometry) _ in
      omega (arith, total-append (by_kind z b f) (heads_to run n) (head_records run n), heads-total n)

  chunk-total : sum (chunk_records run) ≡ chunk_blocks run.geometry * b
  unfolding chunk_records
  chunk-total = blocks-total z b f _ _ (chunk_blocks run.geometry) _

  pub closing-total : sum (closing run) ≡ header_blocks run.geometry * b + 2 * f
  unfolding closing total
  closing-total =
      let header : sum (header_records run) ≡ header_blocks run.geometry * b = blocks-total z b f _ _ (header_blocks run.geometry) _ in
      omega (arith, total-append (by_kind z b f) (header_records run) (FL ∷ []))

  -- THE WHOLE LIST
  pub list-total : (device : ℕ) → sum (list_of run device) ≡ 3 * z + block_count run.geometry * b + 2 * f
  unfolding list_of block_count
  list-total device =
      let hs = heads_to run run.geometry.agcount in
      let joined = total-append (by_kind z b f) in
      omega (
        arith,
        joined (opening run device) (hs ++ (chunk_records run ++ closing run)),
        joined hs (chunk_records run ++ closing run),
        joined (chunk_records run) (closing run),
        opening-total device,
        heads-total run.geometry.agcount,
        chunk-total,
        closing-total,
      )

-- one for each record
pub list_count : (run : Run) (device : ℕ) → length (list_of run device) ≡ record_count run.geometry
unfolding record_count block_count
list_count run device = omega (arith, count-total (list_of run device), list-total 1 1 1 run device)

-- of each kind
pub list-zeros : (run : Run) (device : ℕ) → zeroings (list_of run device) ≡ 3
list-zeros run device = omega (arith, list-total 1 0 0 run device)

pub list-flushes : (run : Run) (device : ℕ) → flushes (list_of run device) ≡ 2
list-flushes run device = omega (arith, list-total 0 0 1 run device)

pub list-blocks : (run : Run) (device : ℕ) → block_writes (list_of run device) ≡ block_count run.geometry
list-blocks run device = omega (arith, list-total 0 1 0 run device)
