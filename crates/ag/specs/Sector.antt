-- What the headers of a group share.
-- Assumes nothing.
use Rattle.std.specs.Prelude.{ℕ}
use Rattle.refusals.specs.Numbers.{wrong_length}
use Rattle.structs.specs.Sizes.{is_sector}
use Rattle.structs.specs.Written.{require}

-- the version of AGF and AGI
abbrev pub ag_version : ℕ
ag_version = 1

-- the number of a lent sector's length
abbrev pub sector_number : ℕ → ℕ
sector_number len = require wrong_length (is_sector len) 0
