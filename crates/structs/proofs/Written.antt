-- The laws of `Written`, for an encoder's own proof and for its callers'.
-- Assumes nothing.
use mathlib.Core.Path.{◌≡◌, refl, sym, ◌∙◌}
use mathlib.Core.List.{List}
use mathlib.Core.Bool.{Bool, true, false}
use Prim.Native.Nat.{ℕ, ◌<◌}
use native.Mathlib.Omega.{arith}
use lib.Dec.{eqb}
use Rattle.structs.specs.Written.{Written, require}

-- the number `r` applies, and the bytes are as they were
pub refused : {n r : ℕ} {new old : List ℕ} → n ≡ r → eqb r 0 ≡ false → Written n new old r old
refused e z = record { number = sym e; bytes = rw (e, z) refl }

-- no number applies, and the new bytes stand
pub done : {n : ℕ} {new old left : List ℕ} → n ≡ 0 → left ≡ new → Written n new old 0 left
done e d = record { number = sym e; bytes = rw e d }

-- for callers: no number applied, so the new bytes stand
pub written_in : {n r : ℕ} {new old left : List ℕ} → Written n new old r left → n ≡ 0 → left ≡ new
written_in w e = w.bytes ∙ rw e refl

-- what an accepted call says of a test
pub passed : (n rest : ℕ) (b : Bool) → 0 < n → require n b rest ≡ 0 → (b ≡ true) × (rest ≡ 0)
passed n rest true p e = (refl, e)
passed n rest false p e = absurd (omega arith)
