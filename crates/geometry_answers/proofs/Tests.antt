-- The tests of an accepted answer: each part of the table is Clear, and what that says of the numbers.
-- Assumes nothing.
use mathlib.Core.Path.{◌≡◌}
use mathlib.Core.List.{List, ◌++◌}
use Prim.Native.Nat.{ℕ, ◌*◌, ◌/◌, ◌≤◌, ◌<◌}
use native.Mathlib.Omega.{arith}
use native.Mathlib.Nat.{le-div_iff_mul-le, mul-le-mul_right}
use borrow.Author.Tests.{ltb-false, eqb-true, eqb-false, not-false}
use Rattle.arith.specs.Numbers.{ceil_div}
use Rattle.arith.specs.Powers.{power_log}
use Rattle.refusals.specs.Table.{Refusal}
use Rattle.refusals.proofs.Clear.{Clear, passed, passes, left, right}
use Rattle.params.specs.declared.Params.{Params}
use Rattle.geometry.specs.declared.sizes.Sizes.{Sizes}
use Rattle.geometry.specs.declared.groups.Groups.{Groups}
use Rattle.geometry.specs.declared.Chosen.{Chosen}
use Rattle.geometry.specs.Limits.{min_group, max_group, min_bytes, realistic_log_bytes}
use Rattle.geometry.specs.Sizes.{sizes_refusals}
use Rattle.geometry.specs.Groups.{is_short, options_refusals, groups_refusals}
use Rattle.geometry.specs.Log.{last_refusals}
use Rattle.geometry.specs.Compute.{with_groups, refusals, refusal_of}

pub all-clear : (p : Params) (device : ℕ) (c : Chosen) → refusal_of p device c ≡ 0 → Clear (refusals p device c)
unfolding refusal_of refusals sizes_refusals options_refusals groups_refusals last_refusals
all-clear p device c e = passed (refusals p device c) tt e

pub none-again : (p : Params) (device : ℕ) (c : Chosen) → Clear (refusals p device c) → refusal_of p device c ≡ 0
unfolding refusal_of
none-again p device c h = passes (refusals p device c) h

-- ---- what each part says of its numbers

-- block, sector and inode size
pub record Sized (b s i : ℕ) : Type 0 where
  pub block-power : power_log b ≡ 0 → ⊥
  pub block-least : 1024 ≤ b
  pub block-most : b ≤ 16384
  pub sector-power : power_log s ≡ 0 → ⊥
  pub sector-most : s ≤ 32768
  pub sector-block : s ≤ b
  pub inode-power : power_log i ≡ 0 → ⊥
  pub inode-most : i ≤ 2048
  pub inode-half : i ≤ b / 2

pub sized : (b s i l : ℕ) → Clear (sizes_refusals b s i l) → Sized b s i
unfolding sizes_refusals
sized b s i l c = record {
  block-power = eqb-false (power_log b) 0 c.0;
  block-least = ltb-false b 1024 c.1.0;
  block-most = ltb-false 16384 b c.1.1.0;
  sector-power = eqb-false (power_log s) 0 c.1.1.1.0;
  sector-most = ltb-false 32768 s c.1.1.1.1.0;
  sector-block = ltb-false b s c.1.1.1.1.1.0;
  inode-power = eqb-false (power_log i) 0 c.1.1.1.1.1.1.1.0;
  inode-most = ltb-false 2048 i c.1.1.1.1.1.1.1.1.0;
  inode-half = ltb-false (b / 2) i c.1.1.1.1.1.1.1.1.1.0;
}

-- groups
pub record Grouped (bs d size n : ℕ) : Type 0 where
  pub least : min_group bs ≤ size
  pub most : size ≤ max_group bs
  pub within : size ≤ d
  pub count_most : n ≤ 4294967294

pub grouped : (bs d size n : ℕ) → Clear (groups_refusals bs d size n) → Grouped bs d size n
unfolding groups_refusals
grouped bs d size n c = record {
  least = ltb-false size (min_group bs) c.0;
  most = ltb-false (max_group bs) size c.1.0;
  within = ltb-false d size c.1.1.0;
  count_most = ltb-false 4294967294 n c.1.1.1.0;
}

-- imaxpct, log and the count of groups
pub record Ended (imaxpct bs d size n log : ℕ) : Type 0 where
  pub imaxpct-most : imaxpct ≤ 100
  pub bytes-least : min_bytes / bs ≤ d
  pub log-least : realistic_log_bytes / bs ≤ log
  pub count-least : 2 ≤ n
  pub count : n ≡ ceil_div d size

pub ended : (imaxpct label bs d size n log : ℕ) → Clear (last_refusals imaxpct label bs d size n log) → Ended imaxpct bs d size n log
unfolding last_refusals
ended imaxpct label bs d size n log c = record {
  imaxpct-most = ltb-false 100 imaxpct c.0;
  bytes-least = ltb-false d (min_bytes / bs) c.1.1.0;
  log-least = ltb-false log (realistic_log_bytes / bs) c.1.1.1.0;
  count-least = ltb-false n 2 c.1.1.1.1.0;
  count = eqb-true n (ceil_div d size) (not-false _ c.1.1.1.1.1.0);
}

-- ---- the parts of the table, for a choice

abbrev pub sizes-part : Sizes → List Refusal
sizes-part s = sizes_refusals s.block s.sector s.inode s.logical

abbrev pub options-part : Params → ℕ → Sizes → Groups → List Refusal
options-part p device s a = options_refusals p.agsize p.agcount s.block (device / s.block) a.dblocks (is_short a (min_group s.block))

abbrev pub groups-part : Sizes → Groups → List Refusal
groups-part s g = groups_refusals s.block g.dblocks g.agsize g.agcount

abbrev pub last-part : Params → Sizes → Groups → Groups → List Refusal
last-part p s a g = last_refusals (with_groups p s a g).imaxpct p.label.length s.block g.dblocks g.agsize g.agcount (with_groups p s a g).log

module _ (p : Params) (device : ℕ) (s : Sizes) (a g : Groups) (c : Clear (refusals p device (with_groups p s a g))) where
  pub sizes-clear : Clear (sizes-part s)
  unfolding refusals with_groups
  sizes-clear =
      left (sizes-part s) (options-part p device s a)
      (left (sizes-part s ++ options-part p device s a) (groups-part s g)
      (left (sizes-part s ++ options-part p device s a ++ groups-part s g) (last-part p s a g) c.1))

  pub options-clear : Clear (options-part p device s a)
  unfolding refusals with_groups
  options-clear =
      right (sizes-part s) (options-part p device s a)
      (left (sizes-part s ++ options-part p device s a) (groups-part s g)
      (left (sizes-part s ++ options-part p device s a ++ groups-part s g) (last-part p s a g) c.1))

  pub groups-clear : Clear (groups-part s g)
  unfolding refusals with_groups
  groups-clear =
      right (sizes-part s ++ options-part p device s a) (groups-part s g)
      (left (sizes-part s ++ options-part p device s a ++ groups-part s g) (last-part p s a g) c.1)

  pub last-clear : Clear (last-part p s a g)
  unfolding refusals with_groups
  last-clear = right (sizes-part s ++ options-part p device s a ++ groups-part s g) (last-part p s a g) c.1

  pub sizes-of : Sized s.block s.sector s.inode
  sizes-of = sized s.block s.sector s.inode s.logical sizes-clear

  pub groups_of : Grouped s.block g.dblocks g.agsize g.agcount
  groups_of = grouped s.block g.dblocks g.agsize g.agcount groups-clear

  pub rest_of : Ended (with_groups p s a g).imaxpct s.block g.dblocks g.agsize g.agcount (with_groups p s a g).log
  rest_of =
      ended (with_groups p s a g).imaxpct p.label.length s.block g.dblocks g.agsize g.agcount (with_groups p s a g).log last-clear

  pub block-pos : 0 < s.block
  block-pos = let r = sizes-of.block-least in omega arith

  -- the least group is some blocks
  pub some-group : 0 < min_group s.block
  some-group = (le-div_iff_mul-le block-pos).1 (let r = sizes-of.block-most in omega arith)

  pub group-pos : 0 < g.agsize
  group-pos = let m = some-group in let q = groups_of.least in omega arith

  -- the blocks lie on the device
  pub bytes_le : g.dblocks ≤ a.dblocks → g.dblocks * s.block ≤ device
  unfolding options_refusals
  bytes_le h =
      let k : g.dblocks ≤ device / s.block = let w = ltb-false (device / s.block) a.dblocks options-clear.0 in omega arith in
      (le-div_iff_mul-le block-pos).0 k

  pub group-le : g.agsize * s.block ≤ g.dblocks * s.block
  group-le = mul-le-mul_right s.block groups_of.within
