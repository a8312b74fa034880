-- `crc_sums::same_sums` meets its contract.
-- Assumes nothing.
use Rattle.std.proofs.Common.{rules}
use Rattle.crc_sums.proofs.Laws.{same-by}
use Rattle.crc_sums.proofs.same_sums.Goals as goal

pub returns : goal.returns
returns c = same-by _ _ _ _ (search rules)
