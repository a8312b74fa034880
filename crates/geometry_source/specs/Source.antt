-- The source's own arithmetic for the log, with its cut in group 0, and its last tests in their order.
-- Assumes nothing.
use Rattle.std.specs.Prelude.{Bool, List, [], ◌∷◌, ℕ, ◌*◌, ◌-◌, ◌/◌, ◌^◌, min, max, ltb, eqb}
use Rattle.refusals.specs.Numbers.{disk_too_small, log_too_small, too_few_groups}
use Rattle.refusals.specs.Table.{Refusal, ◌if◌}
use Rattle.arith.specs.Choice.{when}
use Rattle.geometry.specs.Limits.{min_bytes, realistic_log_bytes, max_log_bytes, max_log_blocks, log_ratio, min_groups}
use Rattle.geometry.specs.declared.Chosen.{Chosen}
use Rattle.geometry_layout.specs.Places.{usable_of, chunk_of}

-- the file system is under 300 MiB, in blocks of 2 ^ b bytes
unfoldable pub under300 : ℕ → ℕ → Bool
under300 d b = ltb d (min_bytes / 2 ^ b)

-- ---- the log

-- a 2048th of the bytes, in blocks; at least 64 MiB; at most one less than a whole group can hand out, and the largest log in blocks
unfoldable pub source_wanted : ℕ → ℕ → ℕ → ℕ → ℕ
source_wanted d agsize prealloc b =
    min (min (max (d * 2 ^ b / log_ratio / 2 ^ b) (realistic_log_bytes / 2 ^ b)) (usable_of agsize prealloc - 1)) max_log_blocks

-- and at most the largest log in bytes
unfoldable pub source_log : ℕ → ℕ → ℕ → ℕ → ℕ
source_log d agsize prealloc b =
    when (ltb max_log_bytes (source_wanted d agsize prealloc b * 2 ^ b)) (max_log_bytes / 2 ^ b) (source_wanted d agsize prealloc b)

-- the log is larger than what a whole group has behind its head
unfoldable pub log_too_large : ℕ → ℕ → ℕ → ℕ → Bool
log_too_large d agsize prealloc b = ltb (agsize - prealloc) (source_log d agsize prealloc b)

-- chunks of inodes that a log in group 0 leaves room for
abbrev pub cut_chunks : ℕ
cut_chunks = 4

-- the cut: where the log's group, half the count, is group 0, the log has so much less than the most that it may have
unfoldable pub cut_log : ℕ → ℕ → ℕ → ℕ → ℕ
cut_log agcount most chunk log = when (eqb (agcount / 2) 0) (min log (most - chunk * cut_chunks)) log

-- what the geometry step chooses, with its log cut
unfoldable pub cut_chosen : Chosen → Chosen
cut_chosen c =
    record {
      sizes = c.sizes;
      asked = c.asked;
      groups = c.groups;
      imaxpct = c.imaxpct;
      prealloc = c.prealloc;
      log = cut_log c.groups.agcount (usable_of c.groups.agsize c.prealloc - 1)
          (chunk_of c.sizes.inode c.sizes.block) c.log;
    }

-- ---- the last tests

-- In the source's order, for a log that was cut; `none` stands for its two refusals that have no number. The second of them is the first
-- test again, the same test on the same block count.
abbrev pub source_tests : ℕ → ℕ → ℕ → ℕ → ℕ → ℕ → ℕ → List Refusal
source_tests none d agsize agcount prealloc b cut =
    disk_too_small if under300 d b
    ∷ none if log_too_large d agsize prealloc b
    ∷ none if under300 d b
    ∷ log_too_small if ltb cut (realistic_log_bytes / 2 ^ b)
    ∷ too_few_groups if ltb agcount min_groups
    ∷ []

-- 21 to 23 alone
abbrev pub numbered_tests : ℕ → ℕ → ℕ → ℕ → List Refusal
numbered_tests d agcount b log =
    disk_too_small if ltb d (min_bytes / 2 ^ b)
    ∷ log_too_small if ltb log (realistic_log_bytes / 2 ^ b)
    ∷ too_few_groups if ltb agcount min_groups
    ∷ []
