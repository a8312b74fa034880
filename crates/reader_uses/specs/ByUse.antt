-- The uses of a group's blocks and their totals as the bytes of the heads name them: head by the geometry that the superblock names, log by
-- the superblock's log start and length, free list by its entries in use, chunk by the inode tree's record, free by the records of the tree
-- by block.
-- Assumes nothing.
use Rattle.std.specs.Prelude.{cond, ◌≡◌, List, [], ◌∷◌, ℕ, ◌+◌, ◌*◌, ◌-◌, ◌≤◌, ◌<◌, eqb, length}
use Rattle.seqs.specs.Lists.{fold, total}
use Rattle.seqs.specs.Runs.{weigh, run_length, has}
use Rattle.geometry.specs.declared.Geometry.{Geometry}
use Rattle.geometry.specs.Log.{prealloc_of}
use Rattle.geometry_layout.specs.Places.{group_blocks, chunk_of}
use Rattle.plan_free.specs.Free.{alloc_start, alloc_count}
use Rattle.table_lines.specs.declared.Row.{Row}
use Rattle.table_lines.specs.declared.Total.{Total}
use Rattle.plan_totals.specs.Totals.{max_count, plans_number, sum_to, row_of, total_of}
use Rattle.plan_summary.specs.Summaries.{summarised, row_by_summary as row_of_summary}
use Rattle.plan_uses.specs.Uses.{self, one}
use Rattle.list_spec.specs.Listing.{head_left}
use Rattle.reader_decoded.specs.Decoded.{agf_in, LogRun, log_run_in, list_in, chunks_in, free_records_in, count_in}

-- ---- what each use of a group weighs, for a weight f of runs: f a c is that of the blocks from a up to, not including, c

-- head: the preallocated blocks of the geometry
unfoldable pub head_part : (ℕ → ℕ → ℕ) → Geometry → ℕ
head_part f g = f 0 (prealloc_of g.features g.sectsize g.blocksize)

-- log: its run, where group k is its group
abbrev pub log_runs : (ℕ → ℕ → ℕ) → LogRun → ℕ → ℕ
log_runs f r k = cond (eqb k r.group) (f r.at (r.at + r.blocks)) 0

-- as group 0's head sb names it
unfoldable pub log_part : (ℕ → ℕ → ℕ) → Geometry → List ℕ → ℕ → ℕ
log_part f g sb k = log_runs f (log_run_in g sb) k

-- free list: each entry in use of the group's head xs is a run of one block
unfoldable pub list_part : (ℕ → ℕ → ℕ) → Geometry → List ℕ → ℕ
list_part f g xs = weigh self one f (list_in g xs)

-- chunk: the blocks of 64 inodes from each first block on
abbrev pub chunk_length_of : Geometry → ℕ → ℕ
chunk_length_of g b = chunk_of g.inodesize g.blocksize

unfoldable pub chunk_part : (ℕ → ℕ → ℕ) → Geometry → List ℕ → ℕ
chunk_part f g xs = weigh self (chunk_length_of g) f (chunks_in g xs)

-- free: each record
unfoldable pub free_part : (ℕ → ℕ → ℕ) → Geometry → List ℕ → ℕ
free_part f g xs = weigh alloc_start alloc_count f (free_records_in g xs)

-- the five uses
pub data Use : Type 0 where
  head : Use
  log : Use
  list : Use
  chunk : Use
  free : Use

-- what a use of group k weighs, sb being group 0's head and xs the group's
abbrev pub use_weight : (ℕ → ℕ → ℕ) → Geometry → List ℕ → List ℕ → ℕ → Use → ℕ
use_weight f g sb xs k head = head_part f g
use_weight f g sb xs k log = log_part f g sb k
use_weight f g sb xs k list = list_part f g xs
use_weight f g sb xs k chunk = chunk_part f g xs
use_weight f g sb xs k free = free_part f g xs

-- how often block b of group k has a use
unfoldable pub uses_in : Geometry → List ℕ → List ℕ → ℕ → ℕ → Use → ℕ
uses_in g sb xs k b v = use_weight (has b) g sb xs k v

-- the blocks of a use
unfoldable pub blocks_in : Geometry → List ℕ → List ℕ → ℕ → Use → ℕ
blocks_in g sb xs k v = use_weight run_length g sb xs k v

-- a number for each use, added up
abbrev pub all_uses : (Use → ℕ) → ℕ
all_uses n = total n (head ∷ log ∷ list ∷ chunk ∷ free ∷ [])

-- one use has it once, and no other has it
pub record Once (n : Use → ℕ) : Type 0 where
  pub it : Use
  pub there : n it ≡ 1
  pub others : (v : Use) → (v ≡ it → ⊥) → n v ≡ 0

-- ---- totals over all groups, whose heads are `heads`

-- free blocks: the sum of record lengths
unfoldable pub free_total : Geometry → (ℕ → List ℕ) → ℕ
free_total g heads = sum_to g.agcount (λ k. total alloc_count (free_records_in g (heads k)))

-- free-list blocks: the entries in use
unfoldable pub list_total : Geometry → (ℕ → List ℕ) → ℕ
list_total g heads = sum_to g.agcount (λ k. length (list_in g (heads k)))

-- blocks of the chunks
unfoldable pub chunk_total : Geometry → (ℕ → List ℕ) → ℕ
chunk_total g heads = sum_to g.agcount (λ k. length (chunks_in g (heads k)) * chunk_of g.inodesize g.blocksize)

-- what is left of all blocks without heads, log and chunks
unfoldable pub rest_total : Geometry → (ℕ → List ℕ) → ℕ
rest_total g heads =
    g.dblocks - g.agcount * prealloc_of g.features g.sectsize g.blocksize - (log_run_in g (heads 0)).blocks - chunk_total g heads

-- ---- planlist's table: a row for each group, and the last line

-- group and length by the AGF, log by the superblock, and the rest by entries and records
unfoldable pub row_by_bytes : Geometry → List ℕ → List ℕ → ℕ → Row
row_by_bytes g sb xs k =
    record {
      number = 0;
      group = (agf_in g xs).seqno;
      length = (agf_in g xs).length;
      log = cond (eqb k (log_run_in g sb).group) (log_run_in g sb).blocks 0;
      list = length (list_in g xs);
      chunk = length (chunks_in g xs) * chunk_of g.inodesize g.blocksize;
      free = total alloc_count (free_records_in g xs);
      longest = fold max_count 0 (free_records_in g xs);
    }

-- sums over the groups
unfoldable pub total_in : Geometry → (ℕ → List ℕ) → Total
total_in g heads =
    record {
      length = sum_to g.agcount (λ k. (agf_in g (heads k)).length);
      log = (log_run_in g (heads 0)).blocks;
      list = list_total g heads;
      chunk = chunk_total g heads;
      free = free_total g heads;
    }

-- ---- the heads of a disk that an accepted run with geometry g and UUID u leaves
pub record LeftHeads (g : Geometry) (u : List ℕ) (heads : ℕ → List ℕ) : Type 0 where
  pub label : length g.label ≡ 12
  pub uuid : length u ≡ 16
  pub plans : plans_number g ≡ 0
  pub bytes : (k : ℕ) → k < g.agcount → heads k ≡ head_left g u k

-- ---- what the heads of a disk say of it, g being the geometry that group 0's superblock names
pub record Used (g : Geometry) (heads : ℕ → List ℕ) : Type 0 where
  -- each block of each group has exactly one use, and none past the group has one
  pub one-use : (k b : ℕ) → k < g.agcount → b < group_blocks g.dblocks g.agsize g.agcount k
      → Once (uses_in g (heads 0) (heads k) k b)
  pub no-use : (k b : ℕ) → k < g.agcount → group_blocks g.dblocks g.agsize g.agcount k ≤ b → (v : Use)
      → uses_in g (heads 0) (heads k) k b v ≡ 0
  -- free blocks and free-list blocks are the superblock's free count
  pub free-total : free_total g heads + list_total g heads ≡ count_in (heads 0)
  -- which is all blocks less heads, log and chunk
  pub count-total : count_in (heads 0) ≡ rest_total g heads
  -- the table is planlist's
  pub rows : (k : ℕ) → k < g.agcount → row_by_bytes g (heads 0) (heads k) k ≡ row_of g k
  pub last_line : total_in g heads ≡ total_of g

-- ---- what `summary_of` and `row_at` give of that geometry, which is printed, is what the bytes say
pub record Printed (g : Geometry) (heads : ℕ → List ℕ) : Type 0 where
  pub rows : (k : ℕ) → k < g.agcount → row_of_summary (summarised g).summary k ≡ row_by_bytes g (heads 0) (heads k) k
  pub last_line : (summarised g).summary.total ≡ total_in g heads
