-- Bytes Below a bound, as a list and by their places; the label's and the UUID's.
-- Assumes nothing.
use mathlib.Core.Path.{◌≡◌}
use mathlib.Core.List.{List, [], ◌∷◌}
use Prim.Native.Nat.{ℕ, zero, suc, ◌-◌, ◌<◌, min}
use lib.ListN.{get_or, take, replicate}
use Rattle.endian.specs.Bytes.{Below}
use Rattle.geometry.specs.Limits.{label_room}
use Rattle.geometry.specs.Compute.{label_of}
use Rattle.head_bytes.proofs.Below.{below-append, below-zeros}

-- every byte is Below the bound where each place's is
pub below_all : (m : ℕ) (xs : List ℕ) → ((i : ℕ) → get_or xs i 0 < m) → Below m xs
below_all m [] h = tt
below_all m (x ∷ xs) h = (h 0, below_all m xs (λ i. h (suc i)))

-- and back; behind the end is 0
pub below_at : (m : ℕ) (xs : List ℕ) → 0 < m → Below m xs → (i : ℕ) → get_or xs i 0 < m
below_at m [] p b i = p
below_at m (x ∷ xs) p b zero = b.0
below_at m (x ∷ xs) p b (suc i) = below_at m xs p b.1 i

pub below-take : (m n : ℕ) (xs : List ℕ) → Below m xs → Below m (take n xs)
below-take m zero xs b = tt
below-take m (suc n) [] b = tt
below-take m (suc n) (x ∷ xs) b = (b.0, below-take m n xs b.1)

-- a label that is filled up with zeros
pub label-below : (n : ℕ) (bytes : List ℕ) → Below 256 bytes → Below 256 (label_of n bytes)
unfolding label_of
label-below n bytes b = below-append 256 (take (min n label_room) bytes) (replicate (label_room - min n label_room) 0) (below-take 256 (min n label_room) bytes b) (below-zeros (label_room - min n label_room))
