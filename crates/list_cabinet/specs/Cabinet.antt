-- One staging area for the lists of a cabinet's disks. A disk stands here for what `list_size` answers it alone.
-- Assumes nothing.
use Rattle.std.specs.Prelude.{cond, List, [], ◌∷◌, map, ℕ, ◌-◌, ltb, leb, eqb, length}
use Rattle.refusals.specs.Numbers.{area_too_small, too_many_disks}
use Rattle.list_size.specs.declared.ListSize.{ListSize}
use Rattle.list_size.specs.Sizes.{no_size, input_size}

-- ---- one disk, with so many bytes left

-- one whose own run is refused keeps its number; one whose list is longer than what is left is refused by 40; else its answer is its own
unfoldable pub answer_with : ℕ → ListSize → ListSize
answer_with left own = cond (eqb own.number 0) (cond (leb own.bytes left) own (no_size area_too_small)) own

-- an admitted disk takes its list's bytes, a refused one nothing
unfoldable pub taken_by : ListSize → ℕ
taken_by answer = cond (eqb answer.number 0) answer.bytes 0

-- ---- disks in order

-- what each is answered
unfoldable pub answers : ℕ → List ListSize → List ListSize
answers left [] = []
answers left (own ∷ rest) = answer_with left own ∷ answers (left - taken_by (answer_with left own)) rest

-- what is left behind the last
unfoldable pub left_after : ℕ → List ListSize → ℕ
left_after left [] = left
left_after left (own ∷ rest) = left_after (left - taken_by (answer_with left own)) rest

-- ---- the call

-- a cabinet holds so many disks
abbrev pub most_disks : ℕ
most_disks = 16

-- one number for the call; what each disk is answered; and what is left of the area
pub record Sharing : Type 0 where
  pub number : ℕ
  pub answered : List ListSize
  pub left : ℕ

-- too many disks: no answers, and the area as it was
abbrev pub not_shared : ℕ → Sharing
not_shared area = record { number = too_many_disks; answered = []; left = area }

-- not too many
abbrev pub shared_by : ℕ → List ListSize → Sharing
shared_by area disks = record { number = 0; answered = answers area disks; left = left_after area disks }

-- THE CALL: more than 16 disks are refused by 41, before everything
unfoldable pub shared : ℕ → List (List ℕ) → Sharing
shared area inputs = cond (ltb most_disks (length inputs)) (not_shared area) (shared_by area (map input_size inputs))
