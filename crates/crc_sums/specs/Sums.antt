-- The checksums at several places of a buffer.
-- Assumes nothing.
use Rattle.std.specs.Prelude.{Bool, true, ◌&&◌, List, [], ◌∷◌, ℕ, zero, suc, eqb}
use Rattle.crc.specs.Right.{stored_at}

-- those at the first `n` places, and zeros where there are fewer
unfoldable pub sums_in : ℕ → List ℕ → List ℕ → List ℕ
sums_in zero places xs = []
sums_in (suc n) [] xs = 0 ∷ sums_in n [] xs
sums_in (suc n) (o ∷ os) xs = stored_at o xs ∷ sums_in n os xs

-- these sums stand at the places; a place without a sum isn't looked at
unfoldable pub same_sums : List ℕ → List ℕ → List ℕ → Bool
same_sums [] sums xs = true
same_sums (o ∷ os) [] xs = true
same_sums (o ∷ os) (s ∷ ss) xs = eqb s (stored_at o xs) && same_sums os ss xs
