-- The bytes of a number, and a buffer after some bytes were written into it. The width is a variable throughout.
-- Assumes nothing.
use Rattle.std.specs.Prelude.{List, [], ◌∷◌, ◌++◌, ℕ, zero, suc, ◌+◌, ◌*◌, ◌/◌, ◌%◌, ◌^◌, ◌<◌, get_or, set, replicate}

-- every number is a byte, as in a lent buffer
abbrev pub Octets : List ℕ → Type 0
Octets xs = (i : ℕ) → get_or xs i 0 < 256

-- `n` bytes of zero
abbrev pub zeros : ℕ → List ℕ
zeros n = replicate n 0

-- `v` in `n` bytes, the highest first
unfoldable pub be_bytes : ℕ → ℕ → List ℕ
be_bytes zero v = []
be_bytes (suc n) v = v / 256 ^ n % 256 ∷ be_bytes n v

-- the numbers `vs` one after the other, each in `n` bytes, the highest first
unfoldable pub numbers_bytes : ℕ → List ℕ → List ℕ
numbers_bytes n [] = []
numbers_bytes n (v ∷ vs) = be_bytes n v ++ numbers_bytes n vs

-- the number that the `n` bytes at `off` are, the highest first
unfoldable pub be_at : ℕ → ℕ → List ℕ → ℕ
be_at zero off xs = 0
be_at (suc n) off xs = get_or xs off 0 * 256 ^ n + be_at n (suc off) xs

-- the `c` numbers that stand one after the other from `off` on, each in `n` bytes
unfoldable pub numbers_at : ℕ → ℕ → ℕ → List ℕ → List ℕ
numbers_at n zero off xs = []
numbers_at n (suc c) off xs = be_at n off xs ∷ numbers_at n c (off + n) xs

-- every number is Below `m`
abbrev pub Below : ℕ → List ℕ → Type 0
Below m [] = Unit {0}
Below m (v ∷ vs) = (v < m) × Below m vs

-- `xs` with the bytes `bs` from `off` on
unfoldable pub patch : ℕ → List ℕ → List ℕ → List ℕ
patch off [] xs = xs
patch off (b ∷ bs) xs = set (patch (suc off) bs xs) off b
