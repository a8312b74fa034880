-- THE NUMBERS OF REFUSALS, each once, in their order; what each says stands in crate refusal_sentences (specs/Sentences.antt). 0 accepts.
-- Where several apply the smallest is given, but 28 and 31 come before all others, and 34 for a list that is handed in comes before 32 and
-- 33 (docs/SCOPE.md, section 2). 1 to 24 are the geometry step's, 25 the planner's, 26 that of a run's time; 42 and 43 are those of held
-- runs.
-- Assumes nothing.
use Rattle.std.specs.Prelude.{ℕ}

-- ---- features and sizes

abbrev pub inobtcount_alone : ℕ
inobtcount_alone = 1

abbrev pub block_no_power : ℕ
block_no_power = 2

abbrev pub block_of512 : ℕ
block_of512 = 3

abbrev pub block_too_large : ℕ
block_too_large = 4

abbrev pub bad_sector : ℕ
bad_sector = 5

abbrev pub block_below_sector : ℕ
block_below_sector = 6

abbrev pub sector_below_logical : ℕ
sector_below_logical = 7

abbrev pub bad_inode : ℕ
bad_inode = 8

-- ---- block count and groups

abbrev pub size_above_device : ℕ
size_above_device = 9

abbrev pub too_few_blocks : ℕ
too_few_blocks = 10

abbrev pub agsize_no_multiple : ℕ
agsize_no_multiple = 11

abbrev pub agsize_zero : ℕ
agsize_zero = 12

abbrev pub agcount_zero : ℕ
agcount_zero = 13

abbrev pub last_group_short : ℕ
last_group_short = 14

abbrev pub group_too_small : ℕ
group_too_small = 15

abbrev pub group_too_large : ℕ
group_too_large = 16

abbrev pub group_above_disk : ℕ
group_above_disk = 17

abbrev pub too_many_groups : ℕ
too_many_groups = 18

-- ---- imaxpct, label, disk and log

abbrev pub imaxpct_above100 : ℕ
imaxpct_above100 = 19

abbrev pub label_too_long : ℕ
label_too_long = 20

abbrev pub disk_too_small : ℕ
disk_too_small = 21

abbrev pub log_too_small : ℕ
log_too_small = 22

abbrev pub too_few_groups : ℕ
too_few_groups = 23

abbrev pub agcount_unlike : ℕ
agcount_unlike = 24

-- ---- planning, and the time of a run

abbrev pub free_list_short : ℕ
free_list_short = 25

abbrev pub time_out_of_range : ℕ
time_out_of_range = 26

-- ---- bytes, records and places

abbrev pub wrong_length : ℕ
wrong_length = 27

abbrev pub malformed : ℕ
malformed = 28

abbrev pub no_place : ℕ
no_place = 29

abbrev pub not_left : ℕ
not_left = 30

-- ---- geometries, plans and lists that are handed in

abbrev pub no_answer : ℕ
no_answer = 31

abbrev pub not_valid : ℕ
not_valid = 32

abbrev pub not_free : ℕ
not_free = 33

abbrev pub too_many_records : ℕ
too_many_records = 34

abbrev pub sunit_too_large : ℕ
sunit_too_large = 35

-- ---- questions about many disks

abbrev pub bad_range : ℕ
bad_range = 36

abbrev pub not_in_profile : ℕ
not_in_profile = 37

abbrev pub none_reaches : ℕ
none_reaches = 38

abbrev pub bad_sizes : ℕ
bad_sizes = 39

abbrev pub area_too_small : ℕ
area_too_small = 40

abbrev pub too_many_disks : ℕ
too_many_disks = 41

-- ---- held runs

abbrev pub not_holdable : ℕ
not_holdable = 42

abbrev pub not_held : ℕ
not_held = 43
