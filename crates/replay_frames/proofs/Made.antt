-- What a closure that changes nothing gives at each index.
-- Assumes nothing.
use mathlib.Core.Path.{◌≡◌, sym, subst}
use mathlib.Core.List.{List}
use Prim.Native.Nat.{ℕ, zero, suc, ◌+◌, ◌<◌}
use native.Mathlib.Omega.{arith}
use denote.Param.Members.{Mut}
use Rattle.std.specs.Prelude.{slice_index_or}
use Rattle.std.specs.Fn.{Called}
use Rattle.std.specs.Array.{IsFromFnResult, IsFromFnResultFrom}

module _ {F B : Type 0} (g : Mut F (ℕ × Unit {0}) B) (f : F) (P : ℕ → B → Type 0) (step : (i : ℕ) (y : B) (q : F) → Called g f (i, tt) y q → (q ≡ f) × P i y) where
  at-each : (ys : List B) (i n : ℕ) → IsFromFnResultFrom g f ys i n → (k : ℕ) (d : B) → k < n → P (i + k) (slice_index_or ys (i + k) d)
  at-each ys i zero e k d l = absurd (omega arith)
  at-each ys i (suc n) (q, y, here, c, rest) zero d l =
      let z : i + 0 ≡ i = omega arith in
      rw z (subst (P i) (sym (here.1 d)) (step i y q c).1)
  at-each ys i (suc n) (q, y, here, c, rest) (suc k) d l =
      let m : i + suc k ≡ i + 1 + k = omega arith in
      rw m (at-each ys (i + 1) n (subst (λ (p : F). IsFromFnResultFrom g p ys (i + 1) n) (step i y q c).0 rest) k d (omega arith))

  pub made-each : (ys : List B) (n : ℕ) → IsFromFnResult g f ys n → (k : ℕ) (d : B) → k < n → P k (slice_index_or ys k d)
  made-each ys n r k d l =
      let z : 0 + k ≡ k = omega arith in
      rw z at (at-each ys 0 n r.each k d l)
