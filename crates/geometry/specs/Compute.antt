-- The geometry step: what is chosen, every refusal, and the answer.
-- Assumes nothing.
use Rattle.std.specs.Prelude.{false, cond, ◌&&◌, not, List, ◌∷◌, ◌++◌, ℕ, ◌-◌, ◌/◌, min, ltb, eqb, take, replicate}
use Rattle.refusals.specs.Numbers.{inobtcount_alone}
use Rattle.arith.specs.Choice.{when}
use Rattle.arith.specs.Powers.{power_log, log2_up}
use Rattle.refusals.specs.Table.{Refusal, ◌if◌, first}
use Rattle.geometry.specs.Limits.{min_group, label_room, min_dir_block, min_dir_log}
use Rattle.geometry.specs.Sizes.{sizes_of, sizes_refusals}
use Rattle.geometry.specs.Groups.{asked_blocks, initial_groups, is_short, trim, options_refusals, groups_refusals}
use Rattle.geometry.specs.Log.{prealloc_of, log_limit, log_blocks, imaxpct_of, last_refusals}
use Rattle.params.specs.declared.Params.{Params}
use Rattle.geometry.specs.declared.sizes.Sizes.{Sizes}
use Rattle.geometry.specs.declared.groups.Groups.{Groups}
use Rattle.geometry.specs.declared.Chosen.{Chosen}
use Rattle.geometry.specs.declared.Geometry.{Geometry}
use Rattle.geometry.specs.declared.Computed.{Computed}

-- ---- what is chosen

-- groups, imaxpct and log for chosen sizes; a are the groups that were asked for, g those without a short last one
unfoldable pub with_groups : Params → Sizes → Groups → Groups → Chosen
with_groups p s a g =
    record {
      sizes = s;
      asked = a;
      groups = g;
      imaxpct = imaxpct_of p.imaxpct s.block g.dblocks;
      prealloc = prealloc_of p.features s.sector s.block;
      log = log_blocks g.dblocks (log_limit p.roomy p.features g.dblocks g.agsize g.agcount
          (prealloc_of p.features s.sector s.block)) s.block;
    }

-- the groups that the options ask for on a device, for chosen sizes
abbrev pub asked_groups : Params → ℕ → Sizes → Groups
asked_groups p device s = initial_groups p.agsize p.agcount s.block (asked_blocks p.size device s.block)

unfoldable pub with_sizes : Params → ℕ → Sizes → Chosen
with_sizes p device s =
    with_groups p s (asked_groups p device s) (trim (asked_groups p device s) (min_group s.block))

unfoldable pub chosen_of : Params → ℕ → ℕ → ℕ → Chosen
chosen_of p device logical physical = with_sizes p device (sizes_of p logical physical)

-- ---- the refusals

-- every refusal, in the order of the numbers: features, then sizes (2 to 8), options and device (9 to 14), groups (15 to 18), and
-- imaxpct, label, file system and log (19 to 24)
unfoldable pub refusals : Params → ℕ → Chosen → List Refusal
refusals p device c =
    inobtcount_alone if (p.features.inobtcount && not p.features.finobt)
    ∷ (sizes_refusals c.sizes.block c.sizes.sector c.sizes.inode c.sizes.logical
    ++ options_refusals p.agsize p.agcount c.sizes.block (device / c.sizes.block) c.asked.dblocks
    (is_short c.asked (min_group c.sizes.block))
    ++ groups_refusals c.sizes.block c.groups.dblocks c.groups.agsize c.groups.agcount
    ++ last_refusals c.imaxpct p.label.length c.sizes.block c.groups.dblocks c.groups.agsize
    c.groups.agcount c.log)

-- the smallest number that applies, 0 for none
unfoldable pub refusal_of : Params → ℕ → Chosen → ℕ
refusal_of p device c = first (refusals p device c) 0

-- ---- the answer

-- the label's bytes, filled up with zeros to 12
unfoldable pub label_of : ℕ → List ℕ → List ℕ
label_of length bytes = take (min length label_room) bytes ++ replicate (label_room - min length label_room) 0

unfoldable pub geometry_of : Params → Chosen → Geometry
geometry_of p c =
    record {
      blocksize = c.sizes.block;
      blocklog = power_log c.sizes.block;
      sectsize = c.sizes.sector;
      sectlog = power_log c.sizes.sector;
      lsectsize = c.sizes.sector;
      lsectlog = power_log c.sizes.sector;
      inodesize = c.sizes.inode;
      inodelog = power_log c.sizes.inode;
      inopblock = c.sizes.block / c.sizes.inode;
      inopblog = power_log c.sizes.block - power_log c.sizes.inode;
      dirblocklog = when (ltb c.sizes.block min_dir_block) min_dir_log (power_log c.sizes.block);
      dblocks = c.groups.dblocks;
      agsize = c.groups.agsize;
      agcount = c.groups.agcount;
      agblklog = log2_up c.groups.agsize;
      imaxpct = c.imaxpct;
      logblocks = c.log;
      logagno = c.groups.agcount / 2;
      log_agbno = c.prealloc;
      features = p.features;
      label = label_of p.label.length p.label.bytes;
      roomy = p.roomy;
    }

unfoldable pub zero_geometry : Geometry
zero_geometry =
    record {
      blocksize = 0;
      blocklog = 0;
      sectsize = 0;
      sectlog = 0;
      lsectsize = 0;
      lsectlog = 0;
      inodesize = 0;
      inodelog = 0;
      inopblock = 0;
      inopblog = 0;
      dirblocklog = 0;
      dblocks = 0;
      agsize = 0;
      agcount = 0;
      agblklog = 0;
      imaxpct = 0;
      logblocks = 0;
      logagno = 0;
      log_agbno = 0;
      features =
          record {
            finobt = false;
            rmapbt = false;
            reflink = false;
            inobtcount = false;
            bigtime = false;
            nrext64 = false;
            sparse = false;
          };
      label = replicate 12 0;
      roomy = false;
    }

-- a refusal: its number beside zeros
abbrev pub step_refused : ℕ → Computed
step_refused n = record { number = n; geometry = zero_geometry }

-- the geometry with the number 0, or the refusal
unfoldable pub step_answer : ℕ → Geometry → Computed
step_answer n g = cond (eqb n 0) (record { number = n; geometry = g }) (step_refused n)

unfoldable pub compute_def : Params → ℕ → ℕ → ℕ → Computed
compute_def p device logical physical =
    step_answer (refusal_of p device (chosen_of p device logical physical))
    (geometry_of p (chosen_of p device logical physical))
