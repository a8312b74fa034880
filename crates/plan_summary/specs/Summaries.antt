-- The plans of all groups in a few numbers: from them each group's row of the table, in constant time.
-- Assumes nothing.
use Rattle.std.specs.Prelude.{cond, ℕ, ◌*◌, ◌-◌, max, ltb, eqb}
use Rattle.refusals.specs.Numbers.{no_place, no_answer}
use Rattle.arith.specs.Choice.{when}
use Rattle.geometry.specs.declared.Geometry.{Geometry}
use Rattle.geometry.specs.Log.{prealloc_of}
use Rattle.geometry_layout.specs.Places.{freelist_of, chunk_of, root_chunk_of}
use Rattle.plan.specs.declared.AgPlan.{AgPlan}
use Rattle.plan.specs.Plan.{planned}
use Rattle.plan_same.specs.Same.{is_plan}
use Rattle.table_lines.specs.declared.Row.{Row}
use Rattle.plan_totals.specs.Totals.{plans_number, const_count, no_row, closed_total, freeblks_of, longest_of}
use Rattle.plan_summary.specs.declared.Summary.{Summary}
use Rattle.plan_summary.specs.declared.Summarised.{Summarised}
use Rattle.plan_summary.specs.declared.records.FreeTotals.{FreeTotals}
use Rattle.plan_summary.specs.declared.records.GroupTotals.{GroupTotals}

-- ---- the numbers of a geometry

unfoldable pub summary_of : Geometry → Summary
summary_of g =
    record {
      agcount = g.agcount;
      agsize = g.agsize;
      last = g.dblocks - (g.agcount - 1) * g.agsize;
      logagno = g.logagno;
      logblocks = g.logblocks;
      head = prealloc_of g.features g.sectsize g.blocksize;
      list = freelist_of g.features;
      chunk_at = root_chunk_of g.features g.sectsize g.inodesize g.blocksize;
      chunk = chunk_of g.inodesize g.blocksize;
      count = const_count g;
      total = closed_total g;
    }

abbrev pub no_summary : Summary
no_summary =
    record {
      agcount = 0;
      agsize = 0;
      last = 0;
      logagno = 0;
      logblocks = 0;
      head = 0;
      list = 0;
      chunk_at = 0;
      chunk = 0;
      count = 0;
      total = record { length = 0; log = 0; list = 0; chunk = 0; free = 0 };
    }

-- `summary_of`: 31, 25, or the summary
unfoldable pub summarised : Geometry → Summarised
summarised g =
    cond (eqb (plans_number g) 0) (record { number = 0; summary = summary_of g })
    (record { number = plans_number g; summary = no_summary })

-- ---- the free records of one plan

-- `free_totals`: 31 unless the plan is the planner's for its group
unfoldable pub free_totals : Geometry → AgPlan → FreeTotals
free_totals g p =
    cond (is_plan g p) (record { number = 0; blocks = freeblks_of p.free; longest = longest_of p.free })
    (record { number = no_answer; blocks = 0; longest = 0 })

-- `group_totals`: what the planner answers for group k, with the totals of an accepted plan
unfoldable pub group_totals : Geometry → ℕ → GroupTotals
group_totals g k =
    record {
      number = (planned g k).number;
      plan = (planned g k).plan;
      blocks = cond (eqb (planned g k).number 0) (freeblks_of (planned g k).plan.free) 0;
      longest = cond (eqb (planned g k).number 0) (longest_of (planned g k).plan.free) 0;
    }

-- ---- a row of a summary

unfoldable pub length_in : Summary → ℕ → ℕ
length_in s k = when (eqb k (s.agcount - 1)) s.last s.agsize

unfoldable pub log_blocks_in : Summary → ℕ → ℕ
log_blocks_in s k = when (eqb k s.logagno) s.logblocks 0

unfoldable pub chunk_blocks_in : Summary → ℕ → ℕ
chunk_blocks_in s k = when (eqb k 0) s.chunk 0

-- all but head, log, free list and chunk is free
unfoldable pub free_blocks_in : Summary → ℕ → ℕ
free_blocks_in s k = length_in s k - s.head - log_blocks_in s k - s.list - chunk_blocks_in s k

-- in one record, but in group 0 before and after the chunk
unfoldable pub longest_in : Summary → ℕ → ℕ
longest_in s k = when (eqb k 0) (max (s.chunk_at - s.head - s.list) (length_in s k - s.chunk_at - s.chunk)) (free_blocks_in s k)

-- the row of group k, or 29
unfoldable pub row_by_summary : Summary → ℕ → Row
row_by_summary s k =
    cond (ltb k s.agcount)
    (record {
      number = 0;
      group = k;
      length = length_in s k;
      log = log_blocks_in s k;
      list = s.list;
      chunk = chunk_blocks_in s k;
      free = free_blocks_in s k;
      longest = longest_in s k;
    })
    (no_row no_place)
