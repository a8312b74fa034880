-- THE SENTENCES OF REFUSALS: what each number says, once, in the numbers' order. The programs print them on standard error behind the
-- number, and `zechurqi numbers` reads this page.
-- Assumes nothing.
use Rattle.std.specs.Prelude.{cond, List, [], ◌∷◌, ℕ, eqb}
use Prim.Native.String.{String}
use Rattle.refusals.specs.Numbers.{inobtcount_alone, block_no_power, block_of512, block_too_large, bad_sector, block_below_sector, sector_below_logical, bad_inode, size_above_device, too_few_blocks, agsize_no_multiple, agsize_zero, agcount_zero, last_group_short, group_too_small, group_too_large, group_above_disk, too_many_groups, imaxpct_above100, label_too_long, disk_too_small, log_too_small, too_few_groups, agcount_unlike, free_list_short, time_out_of_range, wrong_length, malformed, no_place, not_left, no_answer, not_valid, not_free, too_many_records, sunit_too_large, bad_range, not_in_profile, none_reaches, bad_sizes, area_too_small, too_many_disks, not_holdable, not_held}

-- a number beside its sentence
infix 68 ◌says◌
pub data Row : Type 0 where
  ◌says◌ : ℕ → String → Row

-- the sentences
unfoldable pub sentences : List Row
sentences =
    inobtcount_alone says "inobtcount without finobt"
    ∷ block_no_power says "the block size is no power of two from 512 to 65,536"
    ∷ block_of512 says "blocks of 512 bytes"
    ∷ block_too_large says "blocks above 16,384 bytes"
    ∷ bad_sector says "the sector size is no power of two from 512 to 32,768"
    ∷ block_below_sector says "a block is smaller than a sector"
    ∷ sector_below_logical says "a sector is smaller than the device's logical sector"
    ∷ bad_inode says "the inode size is no power of two from 512 to 2048, or above half a block"
    ∷ size_above_device says "the size to use is larger than the device"
    ∷ too_few_blocks says "fewer blocks than 16 MiB have"
    ∷ agsize_no_multiple says "the group size is no multiple of the block size"
    ∷ agsize_zero says "the group size is 0"
    ∷ agcount_zero says "the group count is 0, and no group size is given"
    ∷ last_group_short says "the last group is under 16 MiB, and the group count is given"
    ∷ group_too_small says "a group has less than 16 MiB"
    ∷ group_too_large says "a group has 1 TiB or more"
    ∷ group_above_disk says "a group has more blocks than the file system"
    ∷ too_many_groups says "more than 4,294,967,294 groups"
    ∷ imaxpct_above100 says "imaxpct is above 100"
    ∷ label_too_long says "the label has more than 12 bytes"
    ∷ disk_too_small says "fewer than 300 MiB"
    ∷ log_too_small says "the log has less than 64 MiB"
    ∷ too_few_groups says "fewer than 2 groups"
    ∷ agcount_unlike says "the group count is not the block count by the group size, rounded up"
    ∷ free_list_short says "the log group has fewer free blocks than its free list takes"
    ∷ time_out_of_range says "no inode can store the time"
    ∷ wrong_length says "a buffer has not the length that is needed, or a file ends early"
    ∷ malformed says "the input records, or a list of written records, are malformed"
    ∷ no_place says "there is no such group, no such block or slot in it, or no such piece of a list"
    ∷ not_left says "no accepted run leaves these bytes in this place"
    ∷ no_answer says "the geometry is no answer of the geometry step, or the plan is not the planner's"
    ∷ not_valid says "records are unsorted, overlap, are empty or end too late"
    ∷ not_free says "no record holds the run that is asked for"
    ∷ too_many_records says "a list has more than 64 records, or records don't fit the leaf block"
    ∷ sunit_too_large says "a log stripe unit is above 16,384 bytes"
    ∷ bad_range says "the smallest device size is above the largest, or they lie more than 65,536 blocks apart"
    ∷ not_in_profile says "a rule of the scan station profile fails"
    ∷ none_reaches says "no size that is formatted has so many free blocks"
    ∷ bad_sizes says "the number of sizes to try is 0 or above 65,536, or the last doesn't fit 64 bits"
    ∷ area_too_small says "a disk's list doesn't fit what is left of the staging area"
    ∷ too_many_disks says "more than 16 disks for a cabinet"
    ∷ not_holdable says "a run to hold is empty or not wholly free"
    ∷ not_held says "no such run is held"
    ∷ []

-- what is said of any other number
abbrev pub unknown_number : String
unknown_number = "no such number"

-- the sentence of n in some rows
unfoldable pub sentence_in : List Row → ℕ → String
sentence_in [] n = unknown_number
sentence_in ((m says text) ∷ rows) n = cond (eqb n m) text (sentence_in rows n)

-- THE SENTENCE OF A NUMBER
abbrev pub sentence : ℕ → String
sentence n = sentence_in sentences n

-- the texts of some rows
unfoldable pub texts_of : List Row → List String
texts_of [] = []
texts_of ((n says text) ∷ rows) = text ∷ texts_of rows

-- THE PAGE'S LINES: line n is the sentence of n, line 0 that of a number that has none
unfoldable pub texts : List String
texts = unknown_number ∷ texts_of sentences
