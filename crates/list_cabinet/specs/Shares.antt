-- What holds of disks that share an area.
-- Assumes nothing.
use Rattle.std.specs.Prelude.{cond, ◌≡◌, List, [], ◌∷◌, ◌++◌, ℕ, ◌+◌, ◌-◌, ◌<◌, ◌≤◌, eqb, length}
use Rattle.refusals.specs.Numbers.{area_too_small}
use Rattle.seqs.specs.Lists.{total}
use Rattle.list_size.specs.declared.ListSize.{ListSize}
use Rattle.list_size.specs.Sizes.{no_size}
use Rattle.list_cabinet.specs.Cabinet.{answer_with, answers, left_after}

-- of answers: the lengths of the admitted disks' lists, in order
unfoldable pub admitted_lengths : List ListSize → List ℕ
admitted_lengths [] = []
admitted_lengths (a ∷ rest) = cond (eqb a.number 0) (a.bytes ∷ admitted_lengths rest) (admitted_lengths rest)

-- and their bytes together
abbrev pub admitted_bytes : List ListSize → ℕ
admitted_bytes given = total (λ (n : ℕ). n) (admitted_lengths given)

-- what a disk is answered behind others
abbrev pub answer_behind : ℕ → List ListSize → ListSize → ListSize
answer_behind area before own = answer_with (left_after area before) own

-- ---- all disks
pub record Shares (area : ℕ) (disks : List ListSize) : Type 0 where
  -- the bytes of admitted lists never exceed the area
  pub within : admitted_bytes (answers area disks) ≤ area
  -- what is left at the end is the area less the admitted lists
  pub left : left_after area disks ≡ area - admitted_bytes (answers area disks)
  -- each has an answer
  pub each : length (answers area disks) ≡ length disks

-- ---- one of them, behind those before it
pub record Placed (area : ℕ) (before : List ListSize) (own : ListSize) (behind : List ListSize) : Type 0 where
  -- its answer stands in its place, and those before it have theirs, whatever comes behind
  pub place : answers area (before ++ (own ∷ behind))
      ≡ answers area before ++ (answer_behind area before own ∷ answers (left_after area (before ++ (own ∷ []))) behind)
  -- one whose own run is refused keeps its number
  pub refused : (own.number ≡ 0 → ⊥) → answer_behind area before own ≡ own
  -- one whose list fits what is left, to the last byte, is admitted with its own answer
  pub admitted : own.number ≡ 0 → admitted_bytes (answers area before) + own.bytes ≤ area → answer_behind area before own ≡ own
  -- one whose list is longer than what is left is refused by 40
  pub too_long : own.number ≡ 0 → area < admitted_bytes (answers area before) + own.bytes
      → answer_behind area before own ≡ no_size area_too_small
  -- one that isn't admitted takes nothing: those behind it are answered as if it weren't there
  pub takes-nothing : ((answer_behind area before own).number ≡ 0 → ⊥)
      → answers area (before ++ (own ∷ behind))
      ≡ answers area before ++ (answer_behind area before own ∷ answers (left_after area before) behind)

-- ---- two cabinets: whether it is 40 depends on the area, the admitted lists' lengths before it, and its own alone
abbrev pub ByLengths : Type 0
ByLengths = (area : ℕ) (before others : List ListSize) (own other : ListSize)
    → admitted_lengths (answers area before) ≡ admitted_lengths (answers area others)
    → own.number ≡ 0 → other.number ≡ 0 → own.bytes ≡ other.bytes
    → (answer_behind area before own).number ≡ (answer_behind area others other).number
