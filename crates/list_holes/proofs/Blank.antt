-- Bytes that are zeros alone: what the library's `all` says of them.
-- Assumes nothing.
use mathlib.Core.Path.{◌≡◌, refl, sym}
use mathlib.Core.Bool.{Bool, true, false}
use mathlib.Core.List.{List, [], ◌∷◌}
use Prim.Native.Nat.{ℕ, zero, suc}
use native.Mathlib.Omega.{arith}
use lib.ListN.{get_or}
use lib.Dec.{eqb}
use borrow.Author.Tests.{eq-eqb, eqb-true}
use Rattle.arith.proofs.Both.{left-true, right-true}
use Rattle.std.proofs.Common.{◌↔◌}
use Rattle.std.specs.List.{EachIndex}
use Rattle.list_holes.specs.Holes.{is_blank}

each : (xs : List ℕ) → EachIndex xs (λ k. get_or xs k 0 ≡ 0) → is_blank xs ≡ true
unfolding is_blank
each [] h = refl
each (b ∷ bs) h = rw (eq-eqb b 0 (h 0 (omega arith)), each bs (λ k l. h (suc k) (omega arith))) refl

of_each : (xs : List ℕ) → is_blank xs ≡ true → EachIndex xs (λ k. get_or xs k 0 ≡ 0)
unfolding is_blank
of_each [] e k l = refl
of_each (b ∷ bs) e zero l = eqb-true b 0 (left-true (eqb b 0) (is_blank bs) e)
of_each (b ∷ bs) e (suc k) l = of_each bs (right-true (eqb b 0) (is_blank bs) e) k (omega arith)

pub blank-by : (t : Bool) (xs : List ℕ) → (t ≡ true ↔ EachIndex xs (λ k. get_or xs k 0 ≡ 0)) → t ≡ is_blank xs
blank-by true xs h = sym (each xs (h.0 refl))
blank-by false xs h = by (is_blank xs) refl
  where
    by : (s : Bool) → is_blank xs ≡ s → false ≡ s
    by true e = h.1 (of_each xs e)
    by false e = refl
