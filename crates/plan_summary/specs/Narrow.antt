-- The running numbers of a group are below 2^30: those over its free records, and those of its row.
-- Assumes nothing.
use Rattle.std.specs.Prelude.{◌≡◌, true, false, ℕ, ◌+◌, ◌*◌, ◌-◌, ◌^◌, ◌<◌, replicate}
use Rattle.geometry.specs.declared.Geometry.{Geometry}
use Rattle.geometry_answers.specs.Named.{named_answer, is_answer}
use Rattle.plan_site.specs.declared.Site.{Site}
use Rattle.plan_site.specs.Sites.{site_of}
use Rattle.plan.specs.Plan.{planned}
use Rattle.plan_totals.specs.Totals.{freeblks_of, longest_of, plans_number, NarrowRecords}
use Rattle.plan_summary.specs.declared.Summary.{Summary}
use Rattle.plan_summary.specs.Summaries.{summary_of, length_in, log_blocks_in, chunk_blocks_in, free_blocks_in, longest_in}

-- a summary's numbers of one group
pub record NarrowSummary (s : Summary) : Type 0 where
  pub agsize : s.agsize < 2 ^ 30
  pub last : s.last < 2 ^ 30
  pub logblocks : s.logblocks < 2 ^ 30
  pub head : s.head < 2 ^ 30
  pub list : s.list < 2 ^ 30
  pub chunk-at : s.chunk_at < 2 ^ 30
  pub chunk : s.chunk < 2 ^ 30

-- every number from which the row of group k is worked out, in the order of the differences
pub record NarrowRow (s : Summary) (k : ℕ) : Type 0 where
  pub length : length_in s k < 2 ^ 30
  pub log : log_blocks_in s k < 2 ^ 30
  pub chunk : chunk_blocks_in s k < 2 ^ 30
  -- free: less head, less log, less free list, less chunk
  pub after-head : length_in s k - s.head < 2 ^ 30
  pub after-log : length_in s k - s.head - log_blocks_in s k < 2 ^ 30
  pub after_list : length_in s k - s.head - log_blocks_in s k - s.list < 2 ^ 30
  pub free : free_blocks_in s k < 2 ^ 30
  -- longest: before the chunk, and after it
  pub head-to-chunk : s.chunk_at - s.head < 2 ^ 30
  pub list-to-chunk : s.chunk_at - s.head - s.list < 2 ^ 30
  pub from-chunk : length_in s k - s.chunk_at < 2 ^ 30
  pub after-chunk : length_in s k - s.chunk_at - s.chunk < 2 ^ 30
  pub longest : longest_in s k < 2 ^ 30

-- the numbers by which 25 is decided: where the log ends, and what lies behind it
pub record NarrowLog (s : Site) : Type 0 where
  pub log-end : s.log_at + s.log_blocks < 2 ^ 30
  pub behind : s.length - (s.log_at + s.log_blocks) < 2 ^ 30

-- all of a group
pub record NarrowGroup (g : Geometry) (k : ℕ) : Type 0 where
  pub records : NarrowRecords (planned g k).plan.free
  pub summary : NarrowSummary (summary_of g)
  pub row : NarrowRow (summary_of g) k
  pub log : NarrowLog (site_of g k)

-- ---- the bound is near

-- three of the largest groups, of 2^30 − 1 blocks of 1024 bytes, without features
unfoldable pub largest_groups : Geometry
largest_groups =
    (named_answer false
    (record {
      dblocks = 3 * (2 ^ 30 - 1);
      agsize = 2 ^ 30 - 1;
      blocksize = 1024;
      sectsize = 512;
      inodesize = 512;
      imaxpct = 5;
      features = record {
        finobt = false;
        rmapbt = false;
        reflink = false;
        inobtcount = false;
        bigtime = false;
        nrext64 = false;
        sparse = false;
      };
      label = replicate 12 0;
    })).geometry

-- they are an answer of the geometry step, all their plans are accepted, and the last has 2^30 − 10 free blocks in one record
pub record Near : Type 0 where
  pub answer : is_answer largest_groups ≡ true
  pub plans : plans_number largest_groups ≡ 0
  pub free : freeblks_of (planned largest_groups 2).plan.free ≡ 2 ^ 30 - 10
  pub longest : longest_of (planned largest_groups 2).plan.free ≡ 2 ^ 30 - 10
  pub row-free : free_blocks_in (summary_of largest_groups) 2 ≡ 2 ^ 30 - 10
  pub row-longest : longest_in (summary_of largest_groups) 2 ≡ 2 ^ 30 - 10
