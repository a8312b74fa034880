-- What an answer of `free_totals` says, and what `freeblks` and `longest` make of it.
-- Assumes nothing.
use Rattle.std.specs.Prelude.{Result, Ok, Err}
use mathlib.Core.Path.{◌≡◌, refl, sym, ◌∙◌}
use mathlib.Core.Bool.{Bool, true, false, cond}
use Prim.Native.Nat.{ℕ}
use native.Mathlib.Omega.{arith}
use lib.Dec.{eqb}
use Rattle.refusals.specs.Numbers.{no_answer}
use Rattle.geometry.specs.declared.Geometry.{Geometry}
use Rattle.geometry_counts.specs.Known.{known}
use Rattle.plan.specs.declared.AgPlan.{AgPlan}
use Rattle.plan.specs.Plan.{planned}
use Rattle.plan_same.specs.Same.{is_plan}
use Rattle.plan_totals.specs.Totals.{freeblks_of, longest_of}
use Rattle.plan_summary.specs.declared.records.FreeTotals.{FreeTotals}
use Rattle.plan_summary.specs.Summaries.{free_totals, group_totals}

-- the totals of a plan of the planner, or those of a refusal
abbrev pub totals_at : Bool → ℕ → ℕ → FreeTotals
totals_at t a b = cond t (record { number = 0; blocks = a; longest = b }) (record { number = no_answer; blocks = 0; longest = 0 })

number-at : (t : Bool) (a b : ℕ) → (totals_at t a b).number ≡ cond t 0 no_answer
number-at true a b = refl
number-at false a b = refl

totals-number : (g : Geometry) (p : AgPlan) → (free_totals g p).number ≡ cond (is_plan g p) 0 no_answer
unfolding free_totals
totals-number g p = number-at (is_plan g p) (freeblks_of p.free) (longest_of p.free)

-- a number of 0 is a plan of the planner
plan-at : (t : Bool) → cond {A = ℕ} t 0 no_answer ≡ 0 → t ≡ true
plan-at true e = refl
plan-at false e = absurd (omega arith)

pub totals-plan : (g : Geometry) (p : AgPlan) → (free_totals g p).number ≡ 0 → is_plan g p ≡ true
totals-plan g p e = plan-at (is_plan g p) (sym (totals-number g p) ∙ e)

-- and any other number is none
none-at : (t : Bool) → (cond {A = ℕ} t 0 no_answer ≡ 0 → ⊥) → t ≡ false
none-at true n = absurd (n refl)
none-at false n = refl

pub totals-none : (g : Geometry) (p : AgPlan) → ((free_totals g p).number ≡ 0 → ⊥) → is_plan g p ≡ false
totals-none g p n = none-at (is_plan g p) (λ e. n (totals-number g p ∙ e))

pub totals-are : (g : Geometry) (p : AgPlan) → is_plan g p ≡ true → ((free_totals g p).blocks ≡ freeblks_of p.free) × ((free_totals g p).longest ≡ longest_of p.free)
unfolding free_totals
totals-are g p h = rw h (refl, refl)

-- ---- a group by its number

pub group-number : (g : Geometry) (k : ℕ) → (group_totals g k).number ≡ (planned g k).number
unfolding group_totals
group-number g k = refl

pub group-plan : (g : Geometry) (k : ℕ) → (group_totals g k).plan ≡ (planned g k).plan
unfolding group_totals
group-plan g k = refl

pub group-are : (g : Geometry) (k : ℕ) → (planned g k).number ≡ 0
    → ((group_totals g k).blocks ≡ freeblks_of (planned g k).plan.free) × ((group_totals g k).longest ≡ longest_of (planned g k).plan.free)
unfolding group_totals
group-are g k e = rw e (refl, refl)

-- ---- one of the two by itself

value-at : (f : FreeTotals → ℕ) (t : Bool) (a b : ℕ)
    → cond {A = Result ℕ ℕ} (eqb (totals_at t a b).number 0) (Ok (f (totals_at t a b))) (Err (totals_at t a b).number) ≡ known t (f (totals_at true a b))
unfolding known
value-at f true a b = refl
value-at f false a b = refl

pub value-told : (f : FreeTotals → ℕ) (g : Geometry) (p : AgPlan)
    → cond {A = Result ℕ ℕ} (eqb (free_totals g p).number 0) (Ok (f (free_totals g p))) (Err (free_totals g p).number)
    ≡ known (is_plan g p) (f (totals_at true (freeblks_of p.free) (longest_of p.free)))
unfolding free_totals
value-told f g p = value-at f (is_plan g p) (freeblks_of p.free) (longest_of p.free)
