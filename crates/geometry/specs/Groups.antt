-- Block count and allocation groups, and refusals 9 to 18.
-- Assumes nothing.
use Rattle.std.specs.Prelude.{Bool, ◌&&◌, not, List, [], ◌∷◌, ℕ, ◌*◌, ◌-◌, ◌/◌, ◌%◌, min, ltb, leb, eqb, Option, Some, None, is_some}
use Rattle.refusals.specs.Numbers.{size_above_device, too_few_blocks, agsize_no_multiple, agsize_zero, agcount_zero, last_group_short, group_too_small, group_too_large, group_above_disk, too_many_groups}
use Rattle.arith.specs.Choice.{when}
use Rattle.arith.specs.Numbers.{ceil_div}
use Rattle.refusals.specs.Table.{Refusal, ◌if◌}
use Rattle.geometry.specs.Limits.{min_group, max_group, max_groups, large_bytes, four_group_bytes, two_group_bytes}
use Rattle.params.specs.Options.{zero64, partial64}
use Rattle.geometry.specs.declared.groups.Groups.{Groups}

-- the blocks that are asked for: the size option's, else the device's
unfoldable pub asked_blocks : Option ℕ → ℕ → ℕ → ℕ
asked_blocks (Some bytes) device bs = bytes / bs
asked_blocks None device bs = device / bs

-- blocks of a group where neither option is given: from 4 TiB on the largest; below, a quarter,
-- or a half below 64 MiB, or all below 32 MiB
unfoldable pub default_size : ℕ → ℕ → ℕ
default_size bs d =
    when (leb (large_bytes / bs) d) (max_group bs)
    (min (max_group bs)
    (ceil_div d (when (leb (four_group_bytes / bs) d) 4 (when (leb (two_group_bytes / bs) d) 2 1))))

-- groups of s blocks over d blocks
abbrev pub groups_of : ℕ → ℕ → Groups
groups_of d s = record { dblocks = d; agsize = s; agcount = ceil_div d s }

-- blocks of group k, of n groups of s blocks over d blocks: the last has what is left
unfoldable pub group_blocks : ℕ → ℕ → ℕ → ℕ → ℕ
group_blocks d s n k = when (eqb k (n - 1)) (d - k * s) s

-- agsize decides where both are given
unfoldable pub initial_groups : Option ℕ → Option ℕ → ℕ → ℕ → Groups
initial_groups (Some a) count bs d = groups_of d (a / bs)
initial_groups None (Some n) bs d = record { dblocks = d; agsize = ceil_div d n; agcount = n }
initial_groups None None bs d = groups_of d (default_size bs d)

-- the last group is partial and under the least size
unfoldable pub is_short : Groups → ℕ → Bool
is_short g least = not (eqb (g.dblocks % g.agsize) 0) && ltb (g.dblocks % g.agsize) least

-- without a short last group
unfoldable pub trim : Groups → ℕ → Groups
trim g least =
    record {
      dblocks = when (is_short g least) (g.dblocks / g.agsize * g.agsize) g.dblocks;
      agsize = g.agsize;
      agcount = when (is_short g least) (g.dblocks / g.agsize) g.agcount;
    }

-- refusals 9 to 14: d blocks are asked for, and the device has `device`; `short`: the last group is partial and under 16 MiB
unfoldable pub options_refusals : Option ℕ → Option ℕ → ℕ → ℕ → ℕ → Bool → List Refusal
options_refusals agsize agcount bs device d short =
    size_above_device if ltb device d
    ∷ too_few_blocks if ltb d (min_group bs)
    ∷ agsize_no_multiple if partial64 agsize bs
    ∷ agsize_zero if zero64 agsize
    ∷ agcount_zero if (not (is_some agsize) && zero64 agcount)
    ∷ last_group_short if (is_some agcount && short)
    ∷ []

-- refusals 15 to 18, of the groups without a short last one
unfoldable pub groups_refusals : ℕ → ℕ → ℕ → ℕ → List Refusal
groups_refusals bs dblocks agsize agcount =
    group_too_small if ltb agsize (min_group bs)
    ∷ group_too_large if ltb (max_group bs) agsize
    ∷ group_above_disk if ltb dblocks agsize
    ∷ too_many_groups if ltb max_groups agcount
    ∷ []
