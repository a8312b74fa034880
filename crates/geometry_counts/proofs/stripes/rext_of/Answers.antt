-- `geometry_counts::stripes::rext_of` meets its contract.
-- Assumes nothing.
use Rattle.std.proofs.Common.{rules}
use Rattle.arith.specs.Choice.{when}
use Rattle.geometry_layout.specs.Places.{rext_size}
use Rattle.geometry_counts.proofs.stripes.rext_of.Goals as goal

pub returns-then-block-lt-MIN_RTEXTSIZE : goal.returns-then-block-lt-MIN_RTEXTSIZE
unfolding rext_size when
returns-then-block-lt-MIN_RTEXTSIZE c = search rules

pub returns-else-block-lt-MIN_RTEXTSIZE : goal.returns-else-block-lt-MIN_RTEXTSIZE
unfolding rext_size when
returns-else-block-lt-MIN_RTEXTSIZE c = search rules
