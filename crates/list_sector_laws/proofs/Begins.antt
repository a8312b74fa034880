-- How a run's list begins: three records of zeros, the log's block, and group 0's first block.
-- Assumes nothing.
use mathlib.Core.Path.{◌≡◌, refl, sym, ap, ◌∙◌}
use mathlib.Core.List.{List, [], ◌∷◌, ◌++◌, append_assoc, append-nil}
use Prim.Native.Nat.{ℕ, zero, suc, ◌+◌, ◌*◌, ◌-◌, ◌<◌, min}
use native.Mathlib.Omega.{arith}
use lib.ListN.{take, drop}
use Rattle.geometry_layout.specs.Places.{byte_of}
use Rattle.list_records.specs.Records.{Record, WZ, Wb, block_records}
use Rattle.run.specs.declared.Run.{Run}
use Rattle.list_spec.specs.Listing.{whack_size, blocks_end, tail_start, head_blocks, log_offset, log_block, head_written, opening, head_records, heads_to, chunk_records, closing, list_of}
use Rattle.list_spec.proofs.Spans.{byte-sum}

-- the first block of a write
blocks-first : (bs offset n : ℕ) (bytes : List ℕ) → 0 < n → block_records bs offset n bytes ≡ Wb offset (take bs bytes) ∷ block_records bs (offset + bs) (n - 1) (drop bs bytes)
unfolding block_records
blocks-first bs offset zero bytes h = absurd (omega arith)
blocks-first bs offset (suc n) bytes h = let e : suc n - 1 ≡ n = omega arith in rw e refl

module _ (run : Run) where
  -- the heads of the groups behind group 0
  pub heads_behind : ℕ → List Record
  heads_behind zero = []
  heads_behind (suc n) = heads_behind n ++ head_records run (suc n)

  heads-first : (n : ℕ) → heads_to run (suc n) ≡ head_records run 0 ++ heads_behind n
  unfolding heads_to heads_behind
  heads-first zero = sym (append-nil (head_records run 0))
  heads-first (suc n) = ap (λ (rs : List Record). rs ++ head_records run (suc n)) (heads-first n) ∙ append_assoc (head_records run 0) (heads_behind n) (head_records run (suc n))

  -- group 0's first block, as it is written first
  abbrev pub first_block : List ℕ
  first_block = take run.geometry.blocksize (head_written run.geometry run.uuid 0)

  -- its head's other blocks
  abbrev pub other_blocks : List Record
  other_blocks =
      block_records run.geometry.blocksize run.geometry.blocksize (head_blocks run.geometry - 1)
      (drop run.geometry.blocksize (head_written run.geometry run.uuid 0))

  head_first : 0 < head_blocks run.geometry → head_records run 0 ≡ Wb 0 first_block ∷ other_blocks
  unfolding head_records
  head_first h =
      let bs = run.geometry.blocksize in
      let o : byte_of bs run.geometry.agsize 0 0 ≡ 0 = byte-sum bs run.geometry.agsize 0 0 ∙ (omega arith) in
      let z : 0 + bs ≡ bs = omega arith in
      let n = head_blocks run.geometry in
      let xs = head_written run.geometry run.uuid 0 in
      rw o (blocks-first bs 0 n xs h ∙ ap (λ (at : ℕ). Wb 0 (take bs xs) ∷ block_records bs at (n - 1) (drop bs xs)) z)

  -- the records behind it
  abbrev pub rest_of : List Record
  rest_of = (other_blocks ++ heads_behind (run.geometry.agcount - 1)) ++ (chunk_records run ++ closing run)

  heads-begin : 0 < run.geometry.agcount → 0 < head_blocks run.geometry → heads_to run run.geometry.agcount ≡ (Wb 0 first_block ∷ other_blocks) ++ heads_behind (run.geometry.agcount - 1)
  heads-begin c h =
      let e : run.geometry.agcount ≡ suc (run.geometry.agcount - 1) = omega arith in
      ap (heads_to run) e ∙ heads-first (run.geometry.agcount - 1) ∙ ap (λ (rs : List Record). rs ++ heads_behind (run.geometry.agcount - 1)) (head_first h)

  -- THE FIRST FIVE RECORDS
  pub list-begins : (device : ℕ) → 0 < run.geometry.agcount → 0 < head_blocks run.geometry
      → list_of run device
      ≡ WZ 0 (min whack_size (blocks_end run.geometry.blocksize device))
      ∷ WZ (tail_start run.geometry.blocksize device) (blocks_end run.geometry.blocksize device - tail_start run.geometry.blocksize device)
      ∷ WZ (log_offset run.geometry) (run.geometry.logblocks * run.geometry.blocksize)
      ∷ Wb (log_offset run.geometry) (log_block run.geometry run.uuid)
      ∷ Wb 0 first_block
      ∷ rest_of
  unfolding list_of opening
  list-begins device c h = ap (λ (rs : List Record). opening run device ++ (rs ++ (chunk_records run ++ closing run))) (heads-begin c h)
