-- The answers of the geometry step.
-- Assumes nothing.
use Rattle.std.specs.Prelude.{◌≡◌, ℕ, ◌^◌, ◌<◌, length, get_or, unwrap_or}
use Rattle.params.specs.declared.Params.{Params}
use Rattle.geometry.specs.declared.Geometry.{Geometry}
use Rattle.geometry.specs.Compute.{compute_def}

-- some options and some device of at most 2 ^ 64 - 1 bytes have g as their accepted answer
pub record Answered (g : Geometry) : Type 0 where
  pub options : Params
  pub label : length options.label.bytes ≡ 12
  pub device : ℕ
  pub small : device < 2 ^ 64
  pub logical : ℕ
  pub physical : ℕ
  pub accepted : compute_def options device logical physical ≡ record { number = 0; geometry = g }

-- the options' numbers fit their types, and the label's bytes are 12 bytes
pub record TypedOptions (p : Params) : Type 0 where
  pub size : unwrap_or p.size 0 < 2 ^ 64
  pub block_size : unwrap_or p.block_size 0 < 2 ^ 32
  pub sector-size : unwrap_or p.sector_size 0 < 2 ^ 32
  pub inode-size : unwrap_or p.inode_size 0 < 2 ^ 32
  pub agcount : unwrap_or p.agcount 0 < 2 ^ 64
  pub agsize : unwrap_or p.agsize 0 < 2 ^ 64
  pub imaxpct : unwrap_or p.imaxpct 0 < 2 ^ 8
  pub label-length : p.label.length < 2 ^ 64
  pub label-size : length p.label.bytes ≡ 12
  pub label-bytes : (i : ℕ) → get_or p.label.bytes i 0 < 2 ^ 8

-- the numbers that a geometry names fit their types
pub record TypedGeometry (g : Geometry) : Type 0 where
  pub blocksize : g.blocksize < 2 ^ 32
  pub sectsize : g.sectsize < 2 ^ 32
  pub inodesize : g.inodesize < 2 ^ 32
  pub imaxpct : g.imaxpct < 2 ^ 8
  pub label-size : length g.label ≡ 12
  pub label-bytes : (i : ℕ) → get_or g.label i 0 < 2 ^ 8

-- the same with options and sectors of their types
pub record TypedAnswer (g : Geometry) : Type 0 where
  pub answered : Answered g
  pub options : TypedOptions answered.options
  pub logical : answered.logical < 2 ^ 32
  pub physical : answered.physical < 2 ^ 32
