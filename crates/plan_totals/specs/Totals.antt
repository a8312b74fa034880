-- What the plans of all groups come to: free blocks, rows of planlist's table, sums over the groups.
-- Assumes nothing.
use Rattle.std.specs.Prelude.{cond, ℕ, zero, suc, ◌+◌, ◌*◌, ◌-◌, ◌^◌, ◌<◌, ltb, eqb, take, Option, Some, None, Result}
use Rattle.refusals.specs.Numbers.{no_answer, free_list_short}
use Rattle.seqs.specs.Lists.{fold}
use Rattle.geometry.specs.declared.Geometry.{Geometry}
use Rattle.geometry.specs.Log.{prealloc_of}
use Rattle.geometry_answers.specs.Named.{is_answer}
use Rattle.geometry_layout.specs.Places.{freelist_of, chunk_of}
use Rattle.btree.specs.declared.records.AllocRec.{AllocRec}
use Rattle.geometry_places.specs.Answers.{unless64}
use Rattle.plan_site.specs.declared.Site.{Site}
use Rattle.plan_site.specs.Sites.{site_of}
use Rattle.plan_free.specs.declared.FreeList.{FreeList}
use Rattle.plan_free.specs.Free.{free_of}
use Rattle.plan.specs.declared.AgPlan.{AgPlan}
use Rattle.plan.specs.Plan.{planned}
use Rattle.plan_closed.specs.Closed.{has_root_chunk, list_at, list_short}
use Rattle.table_lines.specs.declared.Row.{Row}
use Rattle.table_lines.specs.declared.Total.{Total}

-- ---- the free records of one plan

abbrev pub add_count : ℕ → AllocRec → ℕ
add_count n r = n + r.count

abbrev pub larger_count : ℕ → ℕ → ℕ
larger_count a b = cond (ltb a b) b a

abbrev pub max_count : ℕ → AllocRec → ℕ
max_count n r = larger_count n r.count

-- the blocks of all records, and of the longest; 0 where there is none
unfoldable pub freeblks_of : FreeList → ℕ
freeblks_of l = fold add_count 0 (free_of l)

unfoldable pub longest_of : FreeList → ℕ
longest_of l = fold max_count 0 (free_of l)

-- the running numbers: blocks of the first n records, and of the longest of these
abbrev pub total_after : FreeList → ℕ → ℕ
total_after l n = fold add_count 0 (take n (free_of l))

abbrev pub longest_after : FreeList → ℕ → ℕ
longest_after l n = fold max_count 0 (take n (free_of l))

-- none of them reaches 2^30
pub record NarrowRecords (l : FreeList) : Type 0 where
  pub total : (n : ℕ) → total_after l n < 2 ^ 30
  pub longest : (n : ℕ) → longest_after l n < 2 ^ 30

-- ---- sums over groups

-- f 0 + f 1 + .., n numbers
unfoldable pub sum_to : ℕ → (ℕ → ℕ) → ℕ
sum_to zero f = 0
sum_to (suc n) f = sum_to n f + f n

-- the first of f 0, f 1, .., n numbers, that isn't 0; else 0
unfoldable pub first_to : ℕ → (ℕ → ℕ) → ℕ
first_to zero f = 0
first_to (suc n) f = cond (eqb (first_to n f) 0) (f n) (first_to n f)

-- the number of the whole geometry: 31, or the first that planning a group gives
unfoldable pub plans_number : Geometry → ℕ
plans_number g = cond (is_answer g) (first_to g.agcount (λ k. (planned g k).number)) no_answer

-- blocks that a plan leaves free or puts on the free list
abbrev pub free_of_plan : AgPlan → ℕ
free_of_plan p = freeblks_of p.free + p.agfl.len

-- the free count of the disk: over all groups, free and free-list blocks of their plans
unfoldable pub free_count : Geometry → ℕ
free_count g = sum_to g.agcount (λ k. free_of_plan (planned g k).plan)

-- `free_count`: 31, 25, or the free count
unfoldable pub free_count_answer : Geometry → Result ℕ ℕ
free_count_answer g = unless64 (plans_number g) (free_count g)

-- ---- the same in constant time

-- 25 where the log group is short of blocks
unfoldable pub const_number : Geometry → ℕ
const_number g = cond (is_answer g) (cond (list_short (site_of g g.logagno)) free_list_short 0) no_answer

-- all blocks but heads, log and root chunk
unfoldable pub const_count : Geometry → ℕ
const_count g =
    g.dblocks - g.agcount * prealloc_of g.features g.sectsize g.blocksize - g.logblocks - chunk_of g.inodesize g.blocksize

-- ---- rows

abbrev pub no_row : ℕ → Row
no_row n = record { number = n; group = 0; length = 0; log = 0; list = 0; chunk = 0; free = 0; longest = 0 }

-- blocks of the root chunk, where the plan has one
abbrev pub chunk_blocks_of : Option ℕ → ℕ → ℕ
chunk_blocks_of None n = 0
chunk_blocks_of (Some at) n = n

-- the row of a plan
abbrev pub row_from : Geometry → ℕ → AgPlan → Row
row_from g k p =
    record {
      number = 0;
      group = p.agno;
      length = p.length;
      log = cond (eqb k g.logagno) g.logblocks 0;
      list = p.agfl.len;
      chunk = chunk_blocks_of p.chunk (chunk_of g.inodesize g.blocksize);
      free = freeblks_of p.free;
      longest = longest_of p.free;
    }

-- `row`: 31, 29, 25, or the row of the group's plan
unfoldable pub row_of : Geometry → ℕ → Row
row_of g k = cond (eqb (planned g k).number 0) (row_from g k (planned g k).plan) (no_row (planned g k).number)

-- the last line: sums of the rows
unfoldable pub total_of : Geometry → Total
total_of g =
    record {
      length = sum_to g.agcount (λ k. (row_of g k).length);
      log = sum_to g.agcount (λ k. (row_of g k).log);
      list = sum_to g.agcount (λ k. (row_of g k).list);
      chunk = sum_to g.agcount (λ k. (row_of g k).chunk);
      free = sum_to g.agcount (λ k. (row_of g k).free);
    }

-- ---- the same by plain arithmetic

-- blocks free before the root chunk, and after it; elsewhere after the free list
abbrev pub before_chunk : Site → ℕ
before_chunk s = s.chunk_at - (s.head + s.need)

abbrev pub after_chunk : Site → ℕ
after_chunk s = s.length - (s.chunk_at + s.chunk_blocks)

abbrev pub after_list : Site → ℕ
after_list s = s.length - (list_at s + s.need)

unfoldable pub closed_row : Site → Row
closed_row s =
    cond (list_short s) (no_row free_list_short)
    (record {
      number = 0;
      group = s.agno;
      length = s.length;
      log = cond s.has_log s.log_blocks 0;
      list = s.need;
      chunk = cond (has_root_chunk s) s.chunk_blocks 0;
      free = cond (has_root_chunk s) (before_chunk s + after_chunk s) (after_list s);
      longest = cond (has_root_chunk s) (larger_count (before_chunk s) (after_chunk s)) (after_list s);
    })

unfoldable pub closed_total : Geometry → Total
closed_total g =
    record {
      length = g.dblocks;
      log = g.logblocks;
      list = g.agcount * freelist_of g.features;
      chunk = chunk_of g.inodesize g.blocksize;
      free = const_count g - g.agcount * freelist_of g.features;
    }
