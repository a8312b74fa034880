-- Runs of blocks, each from a start and of a count: which lists of them are valid, and what they weigh.
-- Assumes nothing.
use Rattle.std.specs.Prelude.{Bool, true, cond, ◌&&◌, List, [], ◌∷◌, ℕ, zero, suc, ◌+◌, ◌-◌, ◌^◌, leb, ltb, get_or}

-- a run that may follow what ends at lo: not before it, not empty, its end at most 2^32 − 1
abbrev pub follows : ℕ → ℕ → ℕ → Bool
follows lo start count = leb lo start && (ltb 0 count && ltb (start + count) (2 ^ 32))

module _ {A : Type 0} (start count : A → ℕ) where
  -- sorted by start, apart, none empty, no end above 2^32 − 1, after what ends at lo
  unfoldable pub valid : ℕ → List A → Bool
  valid lo [] = true
  valid lo (r ∷ rs) = follows lo (start r) (count r) && valid (start r + count r) rs

  -- where the run before index p ends, or lo
  abbrev pub end_at : A → ℕ → List A → ℕ → ℕ
  end_at z lo xs zero = lo
  end_at z lo xs (suc q) = start (get_or xs q z) + count (get_or xs q z)

  -- the first of what is left, if there is one, starts at e or later
  abbrev pub next_ok : ℕ → List A → Bool
  next_ok e [] = true
  next_ok e (x ∷ xs) = leb e (start x)

-- 1 if block b is one of those from a up to, not including, c, else 0
unfoldable pub inside_run : ℕ → ℕ → ℕ → ℕ
inside_run a c b = cond (ltb b a) 0 (cond (ltb b c) 1 0)

-- the sum of f over the runs' ends
module _ {A : Type 0} (start count : A → ℕ) (f : ℕ → ℕ → ℕ) where
  unfoldable pub weigh : List A → ℕ
  weigh [] = 0
  weigh (r ∷ rs) = f (start r) (start r + count r) + weigh rs

-- the blocks of a run
unfoldable pub run_length : ℕ → ℕ → ℕ
run_length a c = c - a

-- whether a run has block b
abbrev pub has : ℕ → ℕ → ℕ → ℕ
has b a c = inside_run a c b
