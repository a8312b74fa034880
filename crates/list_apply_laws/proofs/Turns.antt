-- Pieces fed one after the other.
-- Assumes nothing.
use mathlib.Core.Path.{◌≡◌, refl, sym, ap, ap₂, ◌∙◌}
use mathlib.Core.List.{List, [], ◌∷◌, ◌++◌}
use Prim.Native.Nat.{ℕ}
use Rattle.seqs.specs.Lists.{fold}
use Rattle.list_apply.specs.declared.Applying.{Applying as State}
use Rattle.list_apply.specs.Applying.{applying_fed}
use Rattle.list_apply_laws.specs.Turns.{fed_all, Fed}

-- no piece, and one
pub none-fed : (size : ℕ) (a b : State) → b ≡ a → Fed size a b
unfolding fold
none-fed size a b e = record { pieces = []; reached = e }

pub one-fed : (size : ℕ) (a b : State) (xs : List ℕ) → b ≡ (applying_fed a xs size).applying → Fed size a b
unfolding fold
one-fed size a b xs e = record { pieces = xs ∷ []; reached = e }

-- some, and some more
fold-append : (size : ℕ) (a : State) (xs ys : List (List ℕ)) → fed_all size a (xs ++ ys) ≡ fed_all size (fed_all size a xs) ys
unfolding fold
fold-append size a [] ys = refl
fold-append size a (x ∷ xs) ys = fold-append size (applying_fed a x size).applying xs ys

pub more-fed : (size : ℕ) (a b c : State) → Fed size a b → Fed size b c → Fed size a c
more-fed size a b c f g =
    record {
      pieces = f.pieces ++ g.pieces;
      reached = g.reached ∙ ap (λ (s : State). fed_all size s g.pieces) f.reached ∙ sym (fold-append size a f.pieces g.pieces);
    }

-- the same buffer size, and the same start
pub same-fed : (m n : ℕ) (a b c : State) → m ≡ n → a ≡ c → Fed m a b → Fed n c b
same-fed m n a b c e f g = record { pieces = g.pieces; reached = g.reached ∙ ap₂ (λ (k : ℕ) (s : State). fed_all k s g.pieces) e f }
