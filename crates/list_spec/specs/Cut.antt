-- How a whole list is told from one that ends between two of its records: by its flushes.
-- Assumes nothing.
use Rattle.std.specs.Prelude.{◌≡◌, List, ◌∷◌, ◌++◌, ℕ, ◌<◌}
use Rattle.run.specs.declared.Run.{Run}
use Rattle.list_records.specs.Records.{Record, flushes}
use Rattle.list_spec.specs.Listing.{list_of}

pub record FlushesTellWhole (run : Run) (device : ℕ) : Type 0 where
  -- the whole list has two
  pub whole-flushes : flushes (list_of run device) ≡ 2
  -- one that lacks a record and all behind it has fewer
  pub cut-noticed : (cut rest : List Record) (r : Record) → cut ++ (r ∷ rest) ≡ list_of run device → flushes cut < 2
