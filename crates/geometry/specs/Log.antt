-- Head blocks, log and imaxpct, and refusals 19 to 24.
-- Assumes nothing.
use Rattle.std.specs.Prelude.{Bool, not, List, [], ◌∷◌, ℕ, ◌+◌, ◌*◌, ◌-◌, ◌/◌, min, max, ltb, eqb, Option, unwrap_or}
use Rattle.refusals.specs.Numbers.{imaxpct_above100, label_too_long, disk_too_small, log_too_small, too_few_groups, agcount_unlike}
use Rattle.arith.specs.Choice.{when, bit}
use Rattle.arith.specs.Numbers.{ceil_div}
use Rattle.refusals.specs.Table.{Refusal, ◌if◌}
use Rattle.geometry.specs.Limits.{tib, min_bytes, realistic_log_bytes, max_log_bytes, max_log_blocks, log_ratio, log_reserve, rmap_freelist, plain_freelist, min_groups, max_imaxpct, label_room}
use Rattle.geometry.specs.Groups.{group_blocks}
use Rattle.params.specs.declared.Features.{Features}

-- the blocks of the four header sectors
unfoldable pub header_of : ℕ → ℕ → ℕ
header_of sector bs = ceil_div (4 * sector) bs

-- header blocks, three roots, and one more for each of finobt, rmapbt, reflink
unfoldable pub prealloc_of : Features → ℕ → ℕ → ℕ
prealloc_of f sector bs = header_of sector bs + 3 + bit f.finobt + bit f.rmapbt + bit f.reflink

-- the free list has 6 blocks with rmapbt, else 4
unfoldable pub freelist_of : Features → ℕ
freelist_of f = when f.rmapbt rmap_freelist plain_freelist

-- the log's upper limit: in roomy sizing the log group's own length less head and the larger of 5 and the free list, else agsize less head
-- and 5
unfoldable pub log_limit : Bool → Features → ℕ → ℕ → ℕ → ℕ → ℕ
log_limit roomy f dblocks agsize agcount prealloc =
    when roomy (group_blocks dblocks agsize agcount (agcount / 2) - prealloc - max log_reserve (freelist_of f))
    (agsize - prealloc - log_reserve)

-- the log: a 2048th of the blocks, at least 64 MiB, at most the limit, 1,048,576 blocks and 2,136,997,888 bytes
unfoldable pub log_blocks : ℕ → ℕ → ℕ → ℕ
log_blocks dblocks limit bs =
    min (min (min (max (dblocks / log_ratio) (realistic_log_bytes / bs)) limit) max_log_blocks) (max_log_bytes / bs)

-- imaxpct where none is given: 25 below 1 TiB, 5 below 50 TiB, else 1
unfoldable pub default_imaxpct : ℕ → ℕ → ℕ
default_imaxpct bs d = when (ltb d (tib / bs)) 25 (when (ltb d (50 * tib / bs)) 5 1)

abbrev pub imaxpct_of : Option ℕ → ℕ → ℕ → ℕ
imaxpct_of option bs d = unwrap_or option (default_imaxpct bs d)

-- refusals 19 to 24; `label` is the label's length
unfoldable pub last_refusals : ℕ → ℕ → ℕ → ℕ → ℕ → ℕ → ℕ → List Refusal
last_refusals imaxpct label bs dblocks agsize agcount log =
    imaxpct_above100 if ltb max_imaxpct imaxpct
    ∷ label_too_long if ltb label_room label
    ∷ disk_too_small if ltb dblocks (min_bytes / bs)
    ∷ log_too_small if ltb log (realistic_log_bytes / bs)
    ∷ too_few_groups if ltb agcount min_groups
    ∷ agcount_unlike if not (eqb agcount (ceil_div dblocks agsize))
    ∷ []
