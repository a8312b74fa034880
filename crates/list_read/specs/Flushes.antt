-- Where a list of written records ends: with its second flush.
-- Assumes nothing.
use Rattle.std.specs.Prelude.{cond, ◌≡◌, List, [], ◌∷◌, ◌++◌, ℕ, ◌+◌, leb, eqb}
use Rattle.refusals.specs.Numbers.{malformed}
use Rattle.list_records.specs.Records.{Record, FL, flushes}
use Rattle.list_read.specs.declared.Passed.{Passed}
use Rattle.list_read.specs.Records.{flush, head_said}

-- ---- record by record

abbrev pub flushes_passed : ℕ → Passed
flushes_passed n = record { number = 0; flushes = n }

abbrev pub flush_missing : Passed
flush_missing = record { number = malformed; flushes = 0 }

-- A record of a list of which `n` flushes are past: a flush is one more; a record behind the second is malformed.
unfoldable pub next_def : ℕ → ℕ → Passed
next_def n kind = cond (leb 2 n) flush_missing (flushes_passed (cond (eqb kind flush) (n + 1) n))

-- The list ends, and is cut unless two flushes are past.
unfoldable pub ended_def : ℕ → ℕ
ended_def n = cond (eqb n 2) 0 malformed

-- What the rest of a list gets, `n` flushes being past: the number of the first record that is refused, or that of its end.
unfoldable pub ruled : ℕ → List Record → ℕ
ruled n [] = ended_def n
ruled n (w ∷ ws) =
    let p = next_def n (head_said w).kind in
    cond (eqb p.number 0) (ruled p.flushes ws) p.number

-- ---- of a whole list

-- A whole list has two flushes, and its last record is one.
pub record WholeList (ws : List Record) : Type 0 where
  pub two : flushes ws ≡ 2
  pub prefix : List Record
  pub last : ws ≡ prefix ++ (FL ∷ [])
