-- What a superblock names, and which geometries are answers of the geometry step.
-- Assumes nothing.
use Rattle.std.specs.Prelude.{Bool, ◌&&◌, cond, ℕ, ◌*◌, ◌^◌, ltb, eqb, Some, None}
use Rattle.refusals.specs.Numbers.{not_left}
use Rattle.geometry.specs.SizeLimits.{min_sector}
use Rattle.geometry.specs.Limits.{label_room}
use Rattle.params.specs.Params.{options}
use Rattle.geometry.specs.Compute.{compute_def, step_refused}
use Rattle.geometry_answers.specs.Same.{same_geometry}
use Rattle.params.specs.declared.Params.{Params}
use Rattle.geometry_answers.specs.declared.Named.{Named}
use Rattle.geometry.specs.declared.Geometry.{Geometry}
use Rattle.geometry.specs.declared.Computed.{Computed}

-- block, sector and inode size, agsize, imaxpct, label and features are given, size and agcount absent; a superblock doesn't name the
-- sizing
unfoldable pub named_options : Bool → Named → Params
named_options roomy n =
    options None (Some n.blocksize) (Some n.sectsize) (Some n.inodesize) None (Some (n.agsize * n.blocksize))
    (Some n.imaxpct)
    (record { length = label_room; bytes = n.label }) None None None n.features roomy

-- what the geometry step answers for them on a device of the block count's bytes, with logical sector 512
unfoldable pub named_on : Bool → Named → ℕ → Computed
named_on roomy n physical = compute_def (named_options roomy n) (n.dblocks * n.blocksize) min_sector physical

-- the bytes of all blocks, and of a group, fit 64 bits
unfoldable pub named_fits : Named → Bool
named_fits n = ltb (n.dblocks * n.blocksize) (2 ^ 64) && ltb (n.agsize * n.blocksize) (2 ^ 64)

-- the geometry that is named under a sizing, or a refusal: 30 where the bytes pass 64 bits
unfoldable pub named_answer : Bool → Named → Computed
named_answer roomy n = cond (named_fits n) (named_on roomy n min_sector) (step_refused not_left)

-- what the geometry's superblock names
unfoldable pub names_of : Geometry → Named
names_of g =
    record {
      dblocks = g.dblocks;
      agsize = g.agsize;
      blocksize = g.blocksize;
      sectsize = g.sectsize;
      inodesize = g.inodesize;
      imaxpct = g.imaxpct;
      features = g.features;
      label = g.label;
    }

-- the geometry is an answer: it comes again from what it names under its sizing
unfoldable pub is_answer : Geometry → Bool
is_answer g =
    eqb (named_answer g.roomy (names_of g)).number 0 && same_geometry (named_answer g.roomy (names_of g)).geometry g
