-- One size in plain numbers, as the code works it out: what the size has no part in is worked out once. `step_is` (proofs/Numbered.antt)
-- says that this is the size's number.
-- Assumes nothing.
use Rattle.std.specs.Prelude.{not, false, ◌&&◌, List, [], ◌∷◌, ℕ, ◌-◌, ◌/◌, min, max, leb, ltb, eqb, Option, Some, None, is_some, unwrap_or}
use Rattle.refusals.specs.Numbers.{size_above_device, too_few_blocks, last_group_short, group_too_small, group_too_large, group_above_disk, too_many_groups, imaxpct_above100, label_too_long, disk_too_small, log_too_small, too_few_groups, agcount_unlike, free_list_short}
use Rattle.refusals.specs.Table.{Refusal, ◌if◌, first}
use Rattle.arith.specs.Choice.{when}
use Rattle.arith.specs.Numbers.{ceil_div}
use Rattle.params.specs.declared.Params.{Params}
use Rattle.geometry.specs.Sizes.{sizes_of}
use Rattle.geometry.specs.declared.groups.Groups.{Groups}
use Rattle.geometry.specs.Limits.{min_group, max_group, max_groups, large_bytes, four_group_bytes, two_group_bytes, min_bytes, min_groups, realistic_log_bytes, max_log_bytes, max_log_blocks, log_ratio, max_imaxpct, label_room}
use Rattle.geometry.specs.Groups.{groups_of, group_blocks, is_short, trim, options_refusals}
use Rattle.geometry.specs.Log.{prealloc_of, freelist_of, log_limit, imaxpct_of}
use Rattle.run.specs.Runs.{or_next}
use Rattle.inquire_sizes.specs.declared.step.Limits.{Limits}
use Rattle.inquire_sizes.specs.declared.step.Fixed.{Fixed}
use Rattle.inquire_sizes.specs.declared.step.At.{At}

-- ---- what the size has no part in

-- an option of bytes in blocks
unfoldable pub in_blocks : Option ℕ → ℕ → Option ℕ
in_blocks (Some bytes) bs = Some (bytes / bs)
in_blocks None bs = None

-- the limits, in blocks of bs bytes
unfoldable pub limits_of : ℕ → Limits
limits_of bs =
    record {
      least = min_group bs;
      most = max_group bs;
      large = large_bytes / bs;
      four = four_group_bytes / bs;
      two = two_group_bytes / bs;
      least_disk = min_bytes / bs;
      least_log = realistic_log_bytes / bs;
      most_log = max_log_bytes / bs;
    }

-- 11 to 13, as for a disk that has blocks enough
unfoldable pub early_number : Option ℕ → Option ℕ → ℕ → ℕ
early_number agsize agcount bs = first (options_refusals agsize agcount bs (min_group bs) (min_group bs) false) 0

-- 19 and 20; an absent imaxpct is at most 25 on any disk
unfoldable pub late_number : Option ℕ → ℕ → ℕ → ℕ
late_number imaxpct label bs = first (imaxpct_above100 if ltb max_imaxpct (imaxpct_of imaxpct bs 0)
    ∷ label_too_long if ltb label_room label ∷ []) 0

unfoldable pub fixed_with : Params → ℕ → ℕ → Fixed
fixed_with p sector bs =
    record {
      size = in_blocks p.size bs;
      agsize = in_blocks p.agsize bs;
      agcount = p.agcount;
      features = p.features;
      roomy = p.roomy;
      head = prealloc_of p.features sector bs;
      limits = limits_of bs;
      early = early_number p.agsize p.agcount bs;
      late = late_number p.imaxpct p.label.length bs;
    }

unfoldable pub fixed_of : Params → ℕ → ℕ → Fixed
fixed_of p logical physical = fixed_with p (sizes_of p logical physical).sector (sizes_of p logical physical).block

-- ---- what the size decides

-- blocks of a group where neither option is given
unfoldable pub default_group_size : Limits → ℕ → ℕ
default_group_size l d =
    when (leb l.large d) l.most
    (min l.most (ceil_div d (when (leb l.four d) 4 (when (leb l.two d) 2 1))))

-- the groups before a short last one is dropped, with the options in blocks
unfoldable pub groups_with : Limits → ℕ → Option ℕ → Option ℕ → Groups
groups_with l d (Some s) count = groups_of d s
groups_with l d None (Some n) = record { dblocks = d; agsize = ceil_div d n; agcount = n }
groups_with l d None None = groups_of d (default_group_size l d)

unfoldable pub groups_at : Fixed → ℕ → Groups
groups_at f d = groups_with f.limits d f.agsize f.agcount

unfoldable pub log_at : Fixed → Groups → ℕ
log_at f g =
    min (min (min (max (g.dblocks / log_ratio) f.limits.least_log)
    (log_limit f.roomy f.features g.dblocks g.agsize g.agcount f.head)) max_log_blocks) f.limits.most_log

-- groups that are asked for, those without a short last one, and their log
abbrev pub at_with : Fixed → Groups → At
at_with f a = record { asked = a; groups = trim a f.limits.least; log = log_at f (trim a f.limits.least) }

unfoldable pub at_of : Fixed → ℕ → At
at_of f n = at_with f (groups_at f (unwrap_or f.size n))

-- ---- the number

-- 9 and 10
unfoldable pub size_refusals : Fixed → ℕ → At → List Refusal
size_refusals f n c = size_above_device if ltb n c.asked.dblocks ∷ too_few_blocks if ltb c.asked.dblocks f.limits.least ∷ []

-- 14 to 18
unfoldable pub group_refusals : Fixed → At → List Refusal
group_refusals f c =
    last_group_short if (is_some f.agcount && is_short c.asked f.limits.least)
    ∷ group_too_small if ltb c.groups.agsize f.limits.least
    ∷ group_too_large if ltb f.limits.most c.groups.agsize
    ∷ group_above_disk if ltb c.groups.dblocks c.groups.agsize
    ∷ too_many_groups if ltb max_groups c.groups.agcount
    ∷ []

-- 21 to 24, and 25: what lies behind the log in its group is less than the free list
unfoldable pub disk_refusals : Fixed → Groups → ℕ → List Refusal
disk_refusals f g log =
    disk_too_small if ltb g.dblocks f.limits.least_disk
    ∷ log_too_small if ltb log f.limits.least_log
    ∷ too_few_groups if ltb g.agcount min_groups
    ∷ agcount_unlike if not (eqb g.agcount (ceil_div g.dblocks g.agsize))
    ∷ free_list_short if ltb (group_blocks g.dblocks g.agsize g.agcount (g.agcount / 2) - f.head - log) (freelist_of f.features)
    ∷ []

-- 9 to 25 of a device of n blocks
unfoldable pub number_with : Fixed → ℕ → At → ℕ
number_with f n c =
    first (size_refusals f n c) (or_next f.early
    (first (group_refusals f c) (or_next f.late (first (disk_refusals f c.groups c.log) 0))))

unfoldable pub number_at : Fixed → ℕ → ℕ
number_at f n = number_with f n (at_of f n)
