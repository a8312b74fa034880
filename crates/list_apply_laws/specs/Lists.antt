-- A list's bytes, fed as they are wanted through a buffer of `size` bytes, and what is done for them.
-- Assumes nothing.
use Rattle.std.specs.Prelude.{◌≡◌, true, cond, List, [], ◌∷◌, ◌++◌, ◌⊎◌, ℕ, ◌≤◌, eqb, length, take, drop}
use Rattle.seqs.specs.Lists.{turns}
use Rattle.list_records.specs.Records.{Record, WZ, Wb, FL, list_bytes, carried}
use Rattle.list_records.specs.Device.{Device, applied}
use Rattle.list_read.specs.Records.{flush, zeros_kind, bytes, head_said}
use Rattle.list_apply.specs.declared.Applying.{Applying as State}
use Rattle.list_apply.specs.declared.Step.{Step}
use Rattle.list_apply.specs.Applying.{goes_on, ended, too_far, first_done, applying_begun, in_limit, applying_wanted, applying_fed}

-- the state, the bytes that are still to come, and what was done so far
pub record Point : Type 0 where
  pub applying : State
  pub rest : List ℕ
  pub done : List Record

abbrev pub point : State → List ℕ → List Record → Point
point a rest done = record { applying = a; rest = rest; done = done }

-- what a step asks for, as records: the bytes are the first of those that were fed
unfoldable pub asked : Step → List ℕ → List Record
asked s xs =
    cond (eqb s.action first_done) (WZ s.at s.len ∷ FL ∷ [])
    (cond (eqb s.action flush) (FL ∷ [])
    (cond (eqb s.action zeros_kind) (WZ s.at s.len ∷ [])
    (cond (eqb s.action bytes) (Wb s.at (take s.len xs) ∷ []) [])))

-- A turn: the bytes that are wanted are fed. A mark stays where it is until all of its head is wanted.
unfoldable pub turn_on : ℕ → Point → Point
turn_on size p =
    let n = applying_wanted p.applying size in
    let s = applying_fed p.applying (take n p.rest) size in
    point s.applying (cond s.applying.marked p.rest (drop n p.rest)) (p.done ++ asked s (take n p.rest))

-- q is reached from p in some turns
abbrev pub Reach : ℕ → Point → Point → Type 0
Reach size p q = (n : ℕ) × (turns (turn_on size) n p ≡ q)

-- a record ends no later than the limit, and where a file can
abbrev pub Within : ℕ → Record → Type 0
Within limit w = in_limit limit (head_said w).at (head_said w).len ≡ true

-- The turns over a list's bytes end as a list does, with no byte left, and what was done leaves on every device what the records leave.
pub record Applies (size limit : ℕ) (ws : List Record) : Type 0 where
  pub last : Point
  pub reached : Reach size (point (applying_begun limit) (list_bytes ws) []) last
  pub whole : last.applying.stop ≡ ended
  pub read : last.rest ≡ []
  pub left : (d : Device) (x : ℕ) → applied last.done d x ≡ applied ws d x

-- The turns over a list's bytes stop at a record that doesn't fit, and nothing was done.
pub record Untouched (size limit : ℕ) (ws : List Record) : Type 0 where
  pub last : Point
  pub reached : Reach size (point (applying_begun limit) (list_bytes ws) []) last
  pub stopped : last.applying.stop ≡ too_far
  pub nothing : last.done ≡ []

-- ---- a list of which only the first bytes come

-- a block comes in one piece
abbrev pub InOne : ℕ → Record → Type 0
InOne size w = carried w ≤ size

-- Zeros at a list's start are done before anything else, and flushed.
abbrev pub FlushedFirst : List Record → List Record → Type 0
FlushedFirst [] done = Unit {0}
FlushedFirst (FL ∷ ws) done = Unit {0}
FlushedFirst (Wb at bs ∷ ws) done = Unit {0}
FlushedFirst (WZ at n ∷ ws) done = (done ≡ []) ⊎ ((more : List Record) × (done ≡ WZ at n ∷ FL ∷ more))

-- The turns over the first i bytes of a list stop, and what was done leaves on every device what the list's first records leave.
pub record AppliesFront (size limit : ℕ) (ws : List Record) (i : ℕ) : Type 0 where
  pub last : Point
  pub reached : Reach size (point (applying_begun limit) (take i (list_bytes ws)) []) last
  pub stops : last.applying.stop ≡ goes_on → ⊥
  -- so many of them, whole records alone
  pub records : ℕ
  pub left : (d : Device) → applied last.done d ≡ applied (take records ws) d
  -- none of which a byte is missing, and no fewer: but the first record alone waits for the next one's head
  pub here : length (list_bytes (take records ws)) ≤ i
  pub no-fewer : (m : ℕ) → 2 ≤ m → m ≤ length ws → length (list_bytes (take m ws)) ≤ i → m ≤ records
  pub flushed : FlushedFirst ws last.done
