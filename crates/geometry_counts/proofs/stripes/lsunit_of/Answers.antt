-- `geometry_counts::stripes::lsunit_of` meets its contract.
-- Assumes nothing.
use Rattle.std.proofs.Common.{rules}
use Rattle.arith.specs.Choice.{when}
use Rattle.geometry_layout.specs.Places.{lsunit_bytes}
use Rattle.geometry_counts.proofs.stripes.lsunit_of.Goals as goal

pub returns-then-lsector-gt-LOG_HEADER_SIZE : goal.returns-then-lsector-gt-LOG_HEADER_SIZE
unfolding lsunit_bytes when
returns-then-lsector-gt-LOG_HEADER_SIZE c = search rules

pub returns-else-lsector-gt-LOG_HEADER_SIZE : goal.returns-else-lsector-gt-LOG_HEADER_SIZE
unfolding lsunit_bytes when
returns-else-lsector-gt-LOG_HEADER_SIZE c = search rules
