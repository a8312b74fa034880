-- Tables of refusals: one behind another, and the range of what they give.
-- Assumes nothing.
use mathlib.Core.Path.{◌≡◌, refl}
use mathlib.Core.Bool.{Bool, true, false, ◌&&◌}
use mathlib.Core.List.{List, [], ◌∷◌, ◌++◌}
use mathlib.Core.Logic.{◌⊎◌, inl, inr}
use Prim.Native.Nat.{ℕ, ◌≤◌}
use native.Mathlib.Omega.{arith}
use borrow.Author.Tests.{ne_eqb, leb-true}
use lib.Dec.{T, leb, ltb, ltb→lt}
use Rattle.arith.specs.Choice.{when}
use Rattle.refusals.specs.Table.{Refusal, ◌if◌, first}
use Rattle.refusals.proofs.Clear.{Clear, positive}
use Rattle.run.specs.Runs.{or_next}

pub first-append : (a b : List Refusal) (rest : ℕ) → first (a ++ b) rest ≡ first a (first b rest)
unfolding when
first-append [] b rest = refl
first-append ((n if true) ∷ a) b rest = refl
first-append ((n if false) ∷ a) b rest = first-append a b rest

-- a table none of whose tests holds
pub first-clear : (ts : List Refusal) (rest : ℕ) → Clear ts → first ts rest ≡ rest
unfolding when
first-clear [] rest c = refl
first-clear ((n if b) ∷ ts) rest c = rw c.0 (first-clear ts rest c.1)

both_true : (a b : Bool) → T (a && b) → T a × T b
both_true true b t = (tt, t)
both_true false b t = absurd t

-- the number of a table, or the next: the table before the next
pub next-first : (ts : List Refusal) (rest : ℕ) → T (positive ts) → or_next (first ts 0) rest ≡ first ts rest
unfolding when
next-first [] rest t = refl
next-first ((n if true) ∷ ts) rest t =
    let h = ltb→lt 0 n (both_true (ltb 0 n) (positive ts) t).0 in
    rw (ne_eqb n 0 (λ e. omega arith))
next-first ((n if false) ∷ ts) rest t = next-first ts rest (both_true (ltb 0 n) (positive ts) t).1

-- ---- all numbers of a table lie between two

abbrev pub between : ℕ → ℕ → List Refusal → Bool
between least most [] = true
between least most ((n if b) ∷ ts) = leb least n && (leb n most && between least most ts)

T_true : (b : Bool) → T b → b ≡ true
T_true true t = refl
T_true false t = absurd t

-- a table gives the rest, or one of its numbers
pub first-between : (least most : ℕ) (ts : List Refusal) (rest : ℕ) → T (between least most ts)
    → (first ts rest ≡ rest) ⊎ ((least ≤ first ts rest) × (first ts rest ≤ most))
unfolding when
first-between least most [] rest t = inl refl
first-between least most ((n if true) ∷ ts) rest t =
    let a = both_true (leb least n) (leb n most && between least most ts) t in
    inr (leb-true least n (T_true (leb least n) a.0), leb-true n most (T_true (leb n most) (both_true (leb n most) (between least most ts) a.1).0))
first-between least most ((n if false) ∷ ts) rest t =
    let a = both_true (leb least n) (leb n most && between least most ts) t in
    first-between least most ts rest (both_true (leb n most) (between least most ts) a.1).1
