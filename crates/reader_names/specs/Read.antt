-- What is read for the name of any bytes: 27 under 512, else what the superblock at their start names.
-- Assumes nothing.
use Rattle.std.specs.Prelude.{Bool, cond, List, ℕ, ltb, length, replicate}
use Rattle.refusals.specs.Numbers.{wrong_length}
use Rattle.geometry.specs.declared.Computed.{Computed}
use Rattle.geometry.specs.Compute.{step_refused}
use Rattle.reader_names.specs.Named.{named_by, uuid_at}

-- the least that a superblock needs
abbrev pub least_superblock : ℕ
least_superblock = 512

-- the geometry under a sizing of the log, or its refusal
unfoldable pub named_read : Bool → List ℕ → Computed
named_read roomy xs = cond (ltb (length xs) least_superblock) (step_refused wrong_length) (named_by roomy xs)

-- the UUID, or zeros
unfoldable pub uuid_read : List ℕ → List ℕ
uuid_read xs = cond (ltb (length xs) least_superblock) (replicate 16 0) (uuid_at xs)
