-- The numbers of a run: what each says where it is 0, and which it is.
-- Assumes nothing.
use mathlib.Core.Path.{◌≡◌, refl, sym, ◌∙◌}
use mathlib.Core.Bool.{Bool, true, false}
use Prim.Native.Nat.{ℕ, ◌+◌, ◌-◌, ◌<◌, ◌≤◌, ◌^◌}
use native.Mathlib.Omega.{arith}
use borrow.Author.Tests.{eq-eqb, ne_eqb, eqb-true, leb-true, leb-false, le-leb, lt-leb}
use lib.Dec.{leb, eqb}
use Rattle.refusals.specs.Numbers.{no_place}
use Rattle.arith.specs.Choice.{when}
use Rattle.structs.specs.Written.{require}
use Rattle.structs.proofs.Written.{passed}
use Rattle.geometry.specs.declared.Geometry.{Geometry}
use Rattle.geometry_layout.specs.Bounds.{Bounds}
use Rattle.plan_totals.specs.Totals.{plans_number}
use Rattle.run.specs.declared.Run.{Run}
use Rattle.run.specs.Runs.{time_refusal}
use Rattle.list_spec.specs.Listing.{piece_count}
use Rattle.group_bytes.proofs.Accepted.{or-second, or-zero}
use Rattle.list_lengths.specs.declared.Counted.{Counted}
use Rattle.list_lengths.specs.Pieces.{listed_length, part_length, format_number, piece_number, write_number, counted_as}

-- ---- the numbers of a run

module _ (run : Run) where
  pub format-zero : format_number run ≡ 0 → (plans_number run.geometry ≡ 0) × (time_refusal run.geometry run.time ≡ 0)
  unfolding format_number
  format-zero z = or-zero _ _ z

  below_at : (n k : ℕ) (t : Bool) → leb n k ≡ t → when t no_place 0 ≡ 0 → k < n
  unfolding when
  below_at n k true e z = absurd (omega arith)
  below_at n k false e z = leb-false n k e

  pub place-zero : (k : ℕ) → piece_number run k ≡ 0 → (format_number run ≡ 0) × (k < run.geometry.agcount + 3)
  unfolding piece_number piece_count
  place-zero k z =
      let o = or-zero (format_number run) _ z in
      (o.0, below_at (run.geometry.agcount + 3) k (leb (run.geometry.agcount + 3) k) refl o.1)

  pub write-zero : (k len work : ℕ) → write_number run k len work ≡ 0 → (piece_number run k ≡ 0) × (len ≡ listed_length run.geometry k) × (part_length run.geometry k ≤ work)
  unfolding write_number
  write-zero k len work z =
      let o = or-zero (piece_number run k) _ z in
      let p = passed 27 (require 27 (leb (part_length run.geometry k) work) 0) (eqb len (listed_length run.geometry k)) (omega arith) o.1 in
      let q = passed 27 0 (leb (part_length run.geometry k) work) (omega arith) p.1 in
      (o.0, eqb-true len (listed_length run.geometry k) p.0, leb-true (part_length run.geometry k) work q.0)

  -- piece k is there, or not
  pub place-there : (k : ℕ) → format_number run ≡ 0 → k - 2 ≤ run.geometry.agcount → 0 ≡ piece_number run k
  unfolding piece_number piece_count when
  place-there k f h = or-second (format_number run) _ 0 f (rw (lt-leb (run.geometry.agcount + 3) k (omega arith)) refl)

  pub place_none : (k : ℕ) → format_number run ≡ 0 → run.geometry.agcount < k - 2 → 29 ≡ piece_number run k
  unfolding piece_number piece_count when
  place_none k f h = or-second (format_number run) _ 29 f (rw (le-leb (run.geometry.agcount + 3) k (omega arith)) refl)

  -- the buffer has the piece's length and the work buffer is long enough, or not
  pub write-fits : (k len work : ℕ) → piece_number run k ≡ 0 → len ≡ listed_length run.geometry k → part_length run.geometry k ≤ work → 0 ≡ write_number run k len work
  unfolding write_number
  write-fits k len work z e h = or-second (piece_number run k) _ 0 z (rw (eq-eqb len (listed_length run.geometry k) e, le-leb (part_length run.geometry k) work h) refl)

  pub write-other : (k len work : ℕ) → piece_number run k ≡ 0 → (len ≡ listed_length run.geometry k → ⊥) → 27 ≡ write_number run k len work
  unfolding write_number
  write-other k len work z h = or-second (piece_number run k) _ 27 z (rw (ne_eqb len (listed_length run.geometry k) h) refl)

  pub write-narrow : (k len work : ℕ) → piece_number run k ≡ 0 → len ≡ listed_length run.geometry k → work < part_length run.geometry k → 27 ≡ write_number run k len work
  unfolding write_number
  write-narrow k len work z e h = or-second (piece_number run k) _ 27 z (rw (eq-eqb len (listed_length run.geometry k) e, lt-leb (part_length run.geometry k) work h) refl)

-- what the lengths of a piece's buffer and of the work buffer say
pub record Filling (run : Run) (k len work : ℕ) : Type 0 where
  pub format : format_number run ≡ 0
  pub there : k < run.geometry.agcount + 3
  pub long : len ≡ listed_length run.geometry k
  pub sufficient : part_length run.geometry k ≤ work

pub filling : (run : Run) (k len work : ℕ) → write_number run k len work ≡ 0 → Filling run k len work
filling run k len work z =
    let w = write-zero run k len work z in
    let p = place-zero run k w.0 in
    record { format = p.0; there = p.1; long = w.1; sufficient = w.2 }

-- ---- counts

-- what `piece_count`, `piece_length` and `part_length` answer
pub count-refused : (n v : ℕ) (r : Counted) → (n ≡ 0 → ⊥) → r ≡ record { number = n; value = 0 } → r ≡ counted_as n v
count-refused n v r h e = e ∙ rw (ne_eqb n 0 h) refl

pub count-given : (a n v w : ℕ) → n ≡ a → n ≡ 0 → w ≡ v → counted_as 0 w ≡ counted_as a v
count-given a n v w e z d = rw (sym e ∙ z, d) refl

pub count_fits : (g : Geometry) → Bounds g → g.agcount + 3 < 2 ^ 64
count_fits g z = let c = z.groups.count_most in omega arith
