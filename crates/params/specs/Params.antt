-- The options, set one by one: each sets its own and leaves the others.
-- Assumes nothing.
use Rattle.std.specs.Prelude.{Bool, true, false, List, ℕ, ℤ, replicate, Option, Some, None}
use Rattle.params.specs.declared.Timestamp.{Timestamp}
use Rattle.params.specs.declared.Label.{Label}
use Rattle.params.specs.declared.Features.{Features}
use Rattle.params.specs.declared.Params.{Params}

-- all seven features on
abbrev pub all_features : Features
all_features = record { finobt = true; rmapbt = true; reflink = true; inobtcount = true; bigtime = true; nrext64 = true; sparse = true }

-- the options in the order of the record
abbrev pub options : Option ℕ → Option ℕ → Option ℕ → Option ℕ → Option ℕ → Option ℕ → Option ℕ → Label → Option (List ℕ) → Option Timestamp → Option ℕ
    → Features → Bool → Params
options size block sector inode agcount agsize imaxpct label uuid time seed features roomy =
    record {
      size = size;
      block_size = block;
      sector_size = sector;
      inode_size = inode;
      agcount = agcount;
      agsize = agsize;
      imaxpct = imaxpct;
      label = label;
      uuid = uuid;
      time = time;
      gen_seed = seed;
      features = features;
      roomy = roomy;
    }

-- no label: the length 0 before 12 zeros
abbrev pub no_label : Label
no_label = record { length = 0; bytes = replicate 12 0 }

-- no option given, all features on
abbrev pub no_options : Params
no_options = options None None None None None None None no_label None None None all_features false

module _ (p : Params) where
  abbrev pub with_size : ℕ → Params
  with_size n = options (Some n) p.block_size p.sector_size p.inode_size p.agcount p.agsize p.imaxpct p.label
      p.uuid p.time p.gen_seed p.features p.roomy

  abbrev pub with_block_size : ℕ → Params
  with_block_size n = options p.size (Some n) p.sector_size p.inode_size p.agcount p.agsize p.imaxpct p.label
      p.uuid p.time p.gen_seed p.features p.roomy

  abbrev pub with_sector_size : ℕ → Params
  with_sector_size n = options p.size p.block_size (Some n) p.inode_size p.agcount p.agsize p.imaxpct p.label
      p.uuid p.time p.gen_seed p.features p.roomy

  abbrev pub with_inode_size : ℕ → Params
  with_inode_size n = options p.size p.block_size p.sector_size (Some n) p.agcount p.agsize p.imaxpct p.label
      p.uuid p.time p.gen_seed p.features p.roomy

  abbrev pub with_agcount : ℕ → Params
  with_agcount n = options p.size p.block_size p.sector_size p.inode_size (Some n) p.agsize p.imaxpct p.label
      p.uuid p.time p.gen_seed p.features p.roomy

  abbrev pub with_agsize : ℕ → Params
  with_agsize n = options p.size p.block_size p.sector_size p.inode_size p.agcount (Some n) p.imaxpct p.label
      p.uuid p.time p.gen_seed p.features p.roomy

  abbrev pub with_imaxpct : ℕ → Params
  with_imaxpct n = options p.size p.block_size p.sector_size p.inode_size p.agcount p.agsize (Some n) p.label
      p.uuid p.time p.gen_seed p.features p.roomy

  abbrev pub with_label : Label → Params
  with_label l = options p.size p.block_size p.sector_size p.inode_size p.agcount p.agsize p.imaxpct l p.uuid
      p.time p.gen_seed p.features p.roomy

  abbrev pub with_uuid : List ℕ → Params
  with_uuid u = options p.size p.block_size p.sector_size p.inode_size p.agcount p.agsize p.imaxpct p.label
      (Some u) p.time p.gen_seed p.features p.roomy

  abbrev pub with_time : ℤ → ℕ → Params
  with_time s n = options p.size p.block_size p.sector_size p.inode_size p.agcount p.agsize p.imaxpct p.label
      p.uuid (Some (record { secs = s; nsecs = n })) p.gen_seed p.features p.roomy

  abbrev pub with_gen_seed : ℕ → Params
  with_gen_seed n = options p.size p.block_size p.sector_size p.inode_size p.agcount p.agsize p.imaxpct p.label
      p.uuid p.time (Some n) p.features p.roomy

  abbrev pub with_features : Features → Params
  with_features f = options p.size p.block_size p.sector_size p.inode_size p.agcount p.agsize p.imaxpct p.label
      p.uuid p.time p.gen_seed f p.roomy

  abbrev pub with_roomy : Bool → Params
  with_roomy r = options p.size p.block_size p.sector_size p.inode_size p.agcount p.agsize p.imaxpct p.label
      p.uuid p.time p.gen_seed p.features r
