-- The limits of file system, groups, log, imaxpct, label and directory blocks, each once, with its unit.
-- Assumes nothing.
use Rattle.std.specs.Prelude.{ℕ, ◌*◌, ◌-◌, ◌/◌, ◌^◌}

abbrev pub mib : ℕ
mib = 2 ^ 20

abbrev pub tib : ℕ
tib = 2 ^ 40

-- bytes of the least group
abbrev pub min_group_bytes : ℕ
min_group_bytes = 16 * mib

-- bytes of the largest group
abbrev pub max_group_bytes : ℕ
max_group_bytes = tib - 1

abbrev pub min_group : ℕ → ℕ
min_group bs = min_group_bytes / bs

abbrev pub max_group : ℕ → ℕ
max_group bs = max_group_bytes / bs

-- the largest number of groups
abbrev pub max_groups : ℕ
max_groups = 4294967294

-- bytes from which on all groups are of the largest size
abbrev pub large_bytes : ℕ
large_bytes = 4 * tib

-- bytes from which on there are four groups, and two
abbrev pub four_group_bytes : ℕ
four_group_bytes = 64 * mib

abbrev pub two_group_bytes : ℕ
two_group_bytes = 32 * mib

-- bytes of the least file system
abbrev pub min_bytes : ℕ
min_bytes = 300 * mib

-- the least number of groups
abbrev pub min_groups : ℕ
min_groups = 2

-- bytes of the least log
abbrev pub realistic_log_bytes : ℕ
realistic_log_bytes = 64 * mib

-- bytes of the largest log
abbrev pub max_log_bytes : ℕ
max_log_bytes = 2136997888

-- blocks of the largest log
abbrev pub max_log_blocks : ℕ
max_log_blocks = 1048576

-- blocks of the file system for one of the log
abbrev pub log_ratio : ℕ
log_ratio = 2048

-- blocks that the log's upper limit leaves of a whole group; roomy sizing leaves at least as many of the log's own
abbrev pub log_reserve : ℕ
log_reserve = 5

-- blocks of a free list, with rmapbt and without
abbrev pub rmap_freelist : ℕ
rmap_freelist = 6

abbrev pub plain_freelist : ℕ
plain_freelist = 4

-- percent of the blocks that inodes may take
abbrev pub max_imaxpct : ℕ
max_imaxpct = 100

-- bytes of a label
abbrev pub label_room : ℕ
label_room = 12

-- bytes of the least directory block, and its logarithm
abbrev pub min_dir_block : ℕ
min_dir_block = 4096

abbrev pub min_dir_log : ℕ
min_dir_log = 12
