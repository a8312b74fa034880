-- Laws of the plan's definitions.
-- Assumes nothing.
use mathlib.Core.Path.{◌≡◌, refl, ◌∙◌}
use mathlib.Core.Bool.{Bool, true, false, cond}
use mathlib.Core.List.{List, [], ◌∷◌, ◌++◌}
use Prim.Native.Nat.{ℕ, ◌+◌, ◌-◌, ◌≤◌, ◌<◌, min}
use native.Mathlib.Omega.{arith}
use borrow.Author.Tests.{leb-true, leb-false}
use lib.Dec.{leb, ltb}
use lib.ListN.{length, length-append}
use Rattle.seqs.specs.Lists.{Store, packed, pushed, appended, up_from}
use Rattle.seqs.proofs.Laws.{appended-append, appended-packed, up_from-step}
use Rattle.btree.specs.declared.records.AllocRec.{AllocRec}
use Rattle.plan_rmap.specs.Rmap.{zero_rmap_rec}
use Rattle.plan_site.specs.declared.Site.{Site}
use Rattle.plan.specs.Plan.{smaller_of, gap, head_map, refc_map, log_map, map_rec, own_refc, own_log}

length-if : {A : Type 0} (b : Bool) (x : A) → length (cond b (x ∷ []) []) ≤ 1
length-if true x = omega arith
length-if false x = omega arith

-- two lists put behind each other into an empty array
pub appended-from : {A : Type 0} (z : A) (xs ys : List A) → length xs + length ys ≤ 64
    → appended (appended (packed z []) xs) ys ≡ packed z (xs ++ ys)
appended-from z xs ys h =
    let n : length (xs ++ ys) ≡ length xs + length ys = length-append xs ys in
    appended-append z (packed z []) xs ys ∙ appended-packed z [] (xs ++ ys) (omega arith)

-- blocks in a row, the first put before the others
pub appended-up : (o : Store ℕ) (a n : ℕ) → 0 < n → appended o (up_from a n) ≡ appended (pushed o a) (up_from (a + 1) (n - 1))
unfolding appended
appended-up o a n h = rw (up_from-step a n h)

pub appended-none : (o : Store ℕ) (a n : ℕ) → n ≡ 0 → appended o (up_from a n) ≡ o
unfolding appended up_from
appended-none o a n e = rw e

least-le-at : (b : Bool) (x y : ℕ) → leb x y ≡ b → cond b x y ≤ x
least-le-at true x y e = omega arith
least-le-at false x y e = omega (arith, leb-false x y e)

min-is-at : (b : Bool) (x y : ℕ) → leb x y ≡ b → min x y ≡ cond b x y
min-is-at true x y e = omega (arith, leb-true x y e)
min-is-at false x y e = omega (arith, leb-false x y e)

pub min-is : (x y : ℕ) → min x y ≡ smaller_of x y
min-is x y = min-is-at (leb x y) x y refl

pub least-le : (x y : ℕ) → smaller_of x y ≤ x
least-le x y = least-le-at (leb x y) x y refl

-- two gaps fit
abbrev free_rec : ℕ → ℕ → AllocRec
free_rec a n = record { start = a; count = n }

pub two-gaps : (a b c d : ℕ) → length (gap a b) + length (gap c d) ≤ 64
two-gaps a b c d =
    let g = length-if (ltb a b) (free_rec a (b - a)) in
    let h = length-if (ltb c d) (free_rec c (d - c)) in
    omega arith

-- the reverse mappings of head and log fit
pub maps-packed : (s : Site)
    → appended (appended (appended (packed zero_rmap_rec []) (head_map s)) (refc_map s)) (log_map s) ≡ packed zero_rmap_rec (head_map s ++ (refc_map s ++ log_map s))
maps-packed s =
    let a = length-if s.reflink (map_rec s.refc_at 1 own_refc) in
    let b = length-if s.has_log (map_rec s.log_at s.log_blocks own_log) in
    let n : length (refc_map s ++ log_map s) ≡ length (refc_map s) + length (log_map s) = length-append (refc_map s) (log_map s) in
    appended-append zero_rmap_rec (appended (packed zero_rmap_rec []) (head_map s)) (refc_map s) (log_map s)
    ∙ appended-from zero_rmap_rec (head_map s) (refc_map s ++ log_map s) (omega arith)
