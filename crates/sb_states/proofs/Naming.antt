-- Which superblocks name the root inode, and what the secondaries count as free.
-- Assumes nothing.
use mathlib.Core.Path.{◌≡◌, refl, ◌∙◌}
use mathlib.Core.Bool.{Bool, true, false, ◌&&◌, ◌||◌}
use mathlib.Core.List.{List}
use mathlib.Core.Logic.{◌⊎◌, inl, inr}
use Prim.Native.Nat.{ℕ, ◌+◌, ◌-◌, ◌/◌, ◌<◌, ◌≤◌}
use native.Mathlib.Omega.{arith}
use borrow.Author.Tests.{eq-eqb, ne_eqb, eqb-true, lt-ltb, le-ltb, ltb-true}
use lib.Dec.{ltb, eqb}
use lib.ListN.{length}
use Rattle.arith.specs.Choice.{when}
use Rattle.structs.specs.Written.{null64}
use Rattle.geometry.specs.declared.Geometry.{Geometry}
use Rattle.geometry_layout.specs.Places.{chunk_of}
use Rattle.geometry_places.specs.Answers.{root_ino}
use Rattle.plan_totals.specs.Totals.{plans_number}
use Rattle.plan_totals.proofs.Whole.{all-planned, initial-count}
use Rattle.sb_states.specs.States.{names_root, secondary_state, unfinished_state, finished_state, state_of}

-- ---- which groups

-- the last group
pub last-names : (n k : ℕ) → k ≡ n - 1 → names_root n k ≡ true
unfolding names_root
last-names n k e = rw (eq-eqb k (n - 1) e)

pick : (a b c : Bool) → a ≡ false → b ≡ true → (a || (b && c)) ≡ c
pick a b c e f = rw (e, f)

none : (a b c : Bool) → a ≡ false → b ≡ false → (a || (b && c)) ≡ false
none a b c e f = rw (e, f)

-- of the others, above 2 groups group (n − 1) / 2, and else none
pub middle-is : (n k : ℕ) → (k ≡ n - 1 → ⊥) → 2 < n → names_root n k ≡ eqb k ((n - 1) / 2)
unfolding names_root
middle-is n k l h = pick (eqb k (n - 1)) (ltb 2 n) (eqb k ((n - 1) / 2)) (ne_eqb k (n - 1) l) (lt-ltb 2 n h)

pub none_of_two : (n k : ℕ) → (k ≡ n - 1 → ⊥) → n ≤ 2 → names_root n k ≡ false
unfolding names_root
none_of_two n k l h = none (eqb k (n - 1)) (ltb 2 n) (eqb k ((n - 1) / 2)) (ne_eqb k (n - 1) l) (le-ltb 2 n h)

pub middle-names : (n : ℕ) → 2 < n → names_root n ((n - 1) / 2) ≡ true
middle-names n h = middle-is n ((n - 1) / 2) (λ e. omega arith) h ∙ eq-eqb ((n - 1) / 2) ((n - 1) / 2) refl

only_at : (n k : ℕ) (a b c : Bool) → eqb k (n - 1) ≡ a → ltb 2 n ≡ b → eqb k ((n - 1) / 2) ≡ c → (a || (b && c)) ≡ true
    → (k ≡ n - 1) ⊎ ((2 < n) × (k ≡ (n - 1) / 2))
only_at n k true b c e f h t = inl (eqb-true k (n - 1) e)
only_at n k false true true e f h t = inr (ltb-true 2 n f, eqb-true k ((n - 1) / 2) h)
only_at n k false true false e f h t = inl (eqb-true k (n - 1) (e ∙ t))
only_at n k false false c e f h t = inl (eqb-true k (n - 1) (e ∙ t))

-- and no other
pub only-these : (n k : ℕ) → names_root n k ≡ true → (k ≡ n - 1) ⊎ ((2 < n) × (k ≡ (n - 1) / 2))
unfolding names_root
only-these n k h = only_at n k (eqb k (n - 1)) (ltb 2 n) (eqb k ((n - 1) / 2)) refl refl refl h

module _ (g : Geometry) (uuid : List ℕ) where
  -- group 0 names the root inode from the start
  pub first-root : (state_of g uuid 0).rootino ≡ root_ino g
  unfolding state_of unfinished_state
  first-root = refl

  -- a secondary names it where `names_root` says so, and else none
  pub secondary-root : (k : ℕ) → 0 < k → (state_of g uuid k).rootino ≡ when (names_root g.agcount k) (root_ino g) null64
  unfolding state_of secondary_state
  secondary-root k h = rw (ne_eqb k 0 (λ e. omega arith))

  -- at the end group 0's superblock differs in nothing but the mark of an unfinished run
  pub finished-is : finished_state g uuid
      ≡ (let s = unfinished_state g uuid in
      record {
        uuid = s.uuid;
        rootino = s.rootino;
        rbmino = s.rbmino;
        rsumino = s.rsumino;
        icount = s.icount;
        ifree = s.ifree;
        fdblocks = s.fdblocks;
        inprogress = false;
      })
  unfolding finished_state unfinished_state
  finished-is = refl

  -- a secondary's free count includes the root chunk
  pub secondary-free : length g.label ≡ 12 → plans_number g ≡ 0 → (k : ℕ) → 0 < k
      → (state_of g uuid k).fdblocks ≡ (finished_state g uuid).fdblocks + chunk_of g.inodesize g.blocksize
  unfolding state_of secondary_state finished_state
  secondary-free l p k h = let a = all-planned g l p in rw (ne_eqb k 0 (λ e. omega arith)) (initial-count g l a.0 a.1)
