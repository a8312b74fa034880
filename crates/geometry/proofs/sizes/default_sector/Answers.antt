-- `geometry::sizes::default_sector` meets its contract.
-- Assumes nothing.
use Rattle.std.proofs.Common.{rules}
use Rattle.arith.specs.Choice.{when}
use Rattle.geometry.specs.Sizes.{default_sector}
use Rattle.geometry.proofs.sizes.default_sector.Goals as goal

pub returns-then-larger-gt-MAX_SECTORSIZE : goal.returns-then-larger-gt-MAX_SECTORSIZE
unfolding default_sector when
returns-then-larger-gt-MAX_SECTORSIZE c = search rules

pub returns-then-logical-block : goal.returns-then-logical-block
unfolding default_sector when
returns-then-logical-block c = search rules

pub returns : goal.returns
unfolding default_sector when
returns c = search rules
