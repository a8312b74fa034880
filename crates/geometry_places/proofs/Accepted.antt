-- What an answer of `accepted` says of the number that it was given.
-- Assumes nothing.
use Rattle.std.proofs.Common.{◌≡◌, ℕ, Bool, true, false, cond, eqb, refl, Result, Ok, Err}
use borrow.Author.Tests.{eqb-true, eqb-false}

abbrev pub answered : Bool → ℕ → Result (Unit {0}) ℕ
answered b n = cond b (Ok tt) (Err n)

zero-case : (n : ℕ) (x : Unit {0}) (b : Bool) → eqb n 0 ≡ b → answered b n ≡ Ok x → n ≡ 0
zero-case n x true e h = eqb-true n 0 e
zero-case n x false e h = cc

pub ok-zero : (n : ℕ) (r : Result (Unit {0}) ℕ) (x : Unit {0}) → r ≡ answered (eqb n 0) n → r ≡ Ok x → n ≡ 0
ok-zero n r x e h = zero-case n x (eqb n 0) refl (rw e at h)

err-case : (n m : ℕ) (b : Bool) → eqb n 0 ≡ b → answered b n ≡ Err m → (n ≡ 0 → ⊥) × (m ≡ n)
err-case n m true e h = cc
err-case n m false e h = (eqb-false n 0 e, cc)

pub err-number : (n m : ℕ) (r : Result (Unit {0}) ℕ) → r ≡ answered (eqb n 0) n → r ≡ Err m → (n ≡ 0 → ⊥) × (m ≡ n)
err-number n m r e h = err-case n m (eqb n 0) refl (rw e at h)
