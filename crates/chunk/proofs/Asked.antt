-- The places of a chunk's checksums, the same step from one to the next.
-- Assumes nothing.
use mathlib.Core.Path.{◌≡◌, refl, ap, ap₂, ◌∙◌, subst}
use mathlib.Core.List.{List, [], ◌∷◌}
use Prim.Native.Nat.{ℕ, zero, suc, ◌+◌, ◌*◌, ◌≤◌, ◌<◌}
use native.Mathlib.Omega.{arith}
use lib.ListN.{length, get_or}
use denote.Param.Members.{Mut}
use Rattle.std.specs.Fn.{Called}
use Rattle.std.specs.Array.{IsFromFnResult, IsFromFnResultFrom}
use Rattle.crc.specs.Right.{spaced}
use Rattle.chunk.specs.Chunk.{chunk_places}

length-spaced : (at step n : ℕ) → length (spaced at step n) ≡ n
unfolding spaced
length-spaced at step zero = refl
length-spaced at step (suc n) = ap suc (length-spaced (at + step) step n)

-- places with the same step from one to the next
pub each-spaced : (n at step : ℕ) (places : List ℕ) → length places ≡ n → ((k : ℕ) → k < n → get_or places k 0 ≡ at + k * step) → places ≡ spaced at step n
unfolding spaced
each-spaced zero at step [] l h = refl
each-spaced zero at step (p ∷ places) l h = absurd (omega arith)
each-spaced (suc n) at step [] l h = absurd (omega arith)
each-spaced (suc n) at step (p ∷ places) l h =
    let e : p ≡ at = omega (arith, h 0 (omega arith)) in
    ap₂ (λ (x : ℕ) (xs : List ℕ). x ∷ xs) e
    (each-spaced n (at + step) step places (omega arith) (λ k b. h (suc k) (omega arith) ∙ (let m : at + suc k * step ≡ at + step + k * step = omega arith in m)))

-- what a closure that changes nothing gives at each index
module _ {F : Type 0} (g : Mut F (ℕ × Unit {0}) ℕ) (f : F) (h : ℕ → ℕ) (step : (i y : ℕ) (q : F) → Called g f (i, tt) y q → (q ≡ f) × (y ≡ h i)) where
  at-each : (ys : List ℕ) (i n : ℕ) → IsFromFnResultFrom g f ys i n → (k : ℕ) → k < n → get_or ys (i + k) 0 ≡ h (i + k)
  at-each ys i zero e k l = absurd (omega arith)
  at-each ys i (suc n) (q, y, here, c, rest) zero l =
      let z : i + 0 ≡ i = omega arith in
      rw z (here.1 0 ∙ (step i y q c).1)
  at-each ys i (suc n) (q, y, here, c, rest) (suc k) l =
      let m : i + suc k ≡ i + 1 + k = omega arith in
      rw m (at-each ys (i + 1) n (subst (λ (p : F). IsFromFnResultFrom g p ys (i + 1) n) (step i y q c).0 rest) k (omega arith))

  pub made-each : (ys : List ℕ) (n : ℕ) → IsFromFnResult g f ys n → (k : ℕ) → k < n → get_or ys k 0 ≡ h k
  made-each ys n r k l =
      let z : 0 + k ≡ k = omega arith in
      rw z at (at-each ys 0 n r.each k l)

pub length-places : (size : ℕ) → length (chunk_places size) ≡ 64
unfolding chunk_places
length-places size = length-spaced 100 size 64

pub few-places : (size : ℕ) → length (chunk_places size) ≤ 64
few-places size = omega (arith, length-places size)
