-- The table of the geometry step's refusals rises, so that the first number that applies is the smallest.
-- Assumes nothing.
use mathlib.Core.Path.{◌≡◌}
use mathlib.Core.Bool.{Bool, true, false, ◌&&◌}
use mathlib.Core.List.{List, [], ◌∷◌}
use mathlib.Core.Logic.{◌⊎◌, inl, inr}
use Prim.Native.Nat.{ℕ, ◌<◌, ◌≤◌}
use native.Mathlib.Omega.{arith}
use lib.Dec.{T, leb, leb→le}
use Rattle.arith.specs.Choice.{when}
use Rattle.endian.proofs.Fields.{and_left, and_right}
use Rattle.seqs.proofs.Laws.{never}
use Rattle.refusals.specs.Table.{Refusal, ◌if◌, first}
use Rattle.params.specs.declared.Params.{Params}
use Rattle.geometry.specs.Sizes.{sizes_refusals}
use Rattle.geometry.specs.declared.Chosen.{Chosen}
use Rattle.geometry.specs.Groups.{options_refusals, groups_refusals}
use Rattle.geometry.specs.Log.{last_refusals}
use Rattle.geometry.specs.Compute.{refusals}
use Rattle.mission.specs.Mission.Words.{Listed}

-- no number of the table is below n, nor below one before it
abbrev rising : ℕ → List Refusal → Bool
rising n [] = true
rising n ((m if test) ∷ table) = leb n m && rising m table

-- what applies is no smaller than where the table begins
at_least : (table : List Refusal) (n m : ℕ) → T (rising n table) → Listed m table → n ≤ m
at_least [] n m t a = absurd a
at_least ((k if test) ∷ table) n m t (inl e) =
    let h = leb→le n k (and_left (leb n k) (rising k table) t) in
    let q : m ≡ k = e.0 in
    omega (arith, h, q)
at_least ((k if test) ∷ table) n m t (inr a) =
    let h = leb→le n k (and_left (leb n k) (rising k table) t) in
    let q = at_least table k m (and_right (leb n k) (rising k table) t) a in
    omega (arith, h, q)

pub first-least : (table : List Refusal) (n m : ℕ) → 0 < n → T (rising n table) → Listed m table → (0 < first table 0) × (first table 0 ≤ m)
unfolding when
first-least [] n m p t a = absurd a
first-least ((k if true) ∷ table) n m p t (inl e) =
    let h = leb→le n k (and_left (leb n k) (rising k table) t) in
    let q : m ≡ k = e.0 in
    (omega (arith, h, p), omega (arith, q))
first-least ((k if true) ∷ table) n m p t (inr a) =
    let h = leb→le n k (and_left (leb n k) (rising k table) t) in
    (omega (arith, h, p), at_least table k m (and_right (leb n k) (rising k table) t) a)
first-least ((k if false) ∷ table) n m p t (inl e) = never e.1
first-least ((k if false) ∷ table) n m p t (inr a) =
    let h = leb→le n k (and_left (leb n k) (rising k table) t) in
    first-least table k m (omega (arith, h, p)) (and_right (leb n k) (rising k table) t) a

-- the geometry step's table
pub steps-rise : (p : Params) (device : ℕ) (c : Chosen) → T (rising 1 (refusals p device c))
unfolding refusals sizes_refusals options_refusals groups_refusals last_refusals
steps-rise p device c = tt
