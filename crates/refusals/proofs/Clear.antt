-- A table of refusals gives 0 exactly where every test is false.
-- Assumes nothing.
use mathlib.Core.Path.{◌≡◌, refl}
use mathlib.Core.Bool.{Bool, true, false, ◌&&◌}
use mathlib.Core.List.{List, [], ◌∷◌, ◌++◌}
use native.Mathlib.Omega.{arith}
use lib.Dec.{T, ltb, ltb→lt}
use Rattle.arith.specs.Choice.{when}
use Rattle.refusals.specs.Table.{Refusal, ◌if◌, first}

abbrev pub Clear : List Refusal → Type 0
Clear [] = Unit {0}
Clear ((n if b) ∷ ts) = (b ≡ false) × Clear ts

-- no number of the table is 0
abbrev pub positive : List Refusal → Bool
positive [] = true
positive ((n if b) ∷ ts) = ltb 0 n && positive ts

and_left : (a b : Bool) → T (a && b) → T a
and_left true b t = tt
and_left false b t = t

and_right : (a b : Bool) → T (a && b) → T b
and_right true b t = t
and_right false b t = absurd t

pub passed : (ts : List Refusal) → T (positive ts) → first ts 0 ≡ 0 → Clear ts
unfolding when
passed [] t e = tt
passed ((n if true) ∷ ts) t e = absurd (let h = ltb→lt 0 n (and_left (ltb 0 n) (positive ts) t) in omega arith)
passed ((n if false) ∷ ts) t e = (refl, passed ts (and_right (ltb 0 n) (positive ts) t) e)

pub passes : (ts : List Refusal) → Clear ts → first ts 0 ≡ 0
unfolding when
passes [] c = refl
passes ((n if b) ∷ ts) c = rw c.0 (passes ts c.1)

pub left : (a b : List Refusal) → Clear (a ++ b) → Clear a
left [] b c = tt
left ((n if t) ∷ a) b c = (c.0, left a b c.1)

pub right : (a b : List Refusal) → Clear (a ++ b) → Clear b
right [] b c = c
right ((n if t) ∷ a) b c = right a b c.1

pub joined : (a b : List Refusal) → Clear a → Clear b → Clear (a ++ b)
joined [] b c d = d
joined ((n if t) ∷ a) b c d = (c.0, joined a b c.1 d)
