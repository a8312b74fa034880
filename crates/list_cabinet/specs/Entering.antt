-- The state that disks are handed in to, one after the other, and that it answers as the call does.
-- Assumes nothing.
use Rattle.std.specs.Prelude.{cond, ◌≡◌, List, [], ◌∷◌, ℕ, ◌-◌, ◌<◌, ◌≤◌, ltb, eqb, length}
use Rattle.refusals.specs.Numbers.{too_many_disks}
use Rattle.arith.specs.Choice.{when}
use Rattle.list_size.specs.declared.ListSize.{ListSize}
use Rattle.list_size.specs.Sizes.{no_size, input_size}
use Rattle.list_cabinet.specs.declared.Cabinet.{Cabinet as State}
use Rattle.list_cabinet.specs.declared.Entered.{Entered as Answer}
use Rattle.list_cabinet.specs.Cabinet.{answer_with, taken_by, most_disks, shared}

-- before the first disk: 41 where more than 16 are announced
abbrev pub cabinet_opened : ℕ → ℕ → State
cabinet_opened disks area = record { number = when (ltb most_disks disks) too_many_disks 0; left = area; coming = disks }

-- why no disk is taken: 41 where no more were announced, and the cabinet's own number
abbrev pub cabinet_number : State → ℕ
cabinet_number c = when (eqb c.coming 0) too_many_disks c.number

-- what a disk is answered, and the cabinet behind it
abbrev pub answering : ListSize → State → Answer
answering size c = record { size = size; cabinet = c }

-- a disk that is looked at, with its own answer
abbrev pub entered_by : State → ListSize → Answer
entered_by c own =
    answering (answer_with c.left own)
    (record { number = c.number; left = c.left - taken_by (answer_with c.left own); coming = c.coming - 1 })

-- the next disk
unfoldable pub entered : State → List ℕ → Answer
entered c input = cond (eqb (cabinet_number c) 0) (entered_by c (input_size input)) (answering (no_size (cabinet_number c)) c)

-- ---- all disks, one after the other

-- what they are answered
unfoldable pub entered_all : State → List (List ℕ) → List ListSize
entered_all c [] = []
entered_all c (input ∷ inputs) = (entered c input).size ∷ entered_all (entered c input).cabinet inputs

-- the cabinet behind the last
unfoldable pub closed_at : State → List (List ℕ) → State
closed_at c [] = c
closed_at c (input ∷ inputs) = closed_at (entered c input).cabinet inputs

-- ---- that they are answered as the call says
pub record InOrder (area : ℕ) (inputs : List (List ℕ)) : Type 0 where
  pub number : (cabinet_opened (length inputs) area).number ≡ (shared area inputs).number
  pub answers : length inputs ≤ most_disks → entered_all (cabinet_opened (length inputs) area) inputs ≡ (shared area inputs).answered
  pub left : length inputs ≤ most_disks → (closed_at (cabinet_opened (length inputs) area) inputs).left ≡ (shared area inputs).left
  -- where they are too many, each is refused by 41, whatever its input, and nothing is taken
  pub too_many : most_disks < length inputs → (input : List ℕ)
      → entered (cabinet_opened (length inputs) area) input ≡ answering (no_size too_many_disks) (cabinet_opened (length inputs) area)
