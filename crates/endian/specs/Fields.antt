-- A structure on disk as a list of fields, each an offset and the bytes that stand there.
-- Assumes nothing.
use Rattle.std.specs.Prelude.{◌≡◌, List, [], ◌∷◌, Bool, true, ◌&&◌, ◌||◌, cond, ℕ, zero, suc, ◌+◌, ◌*◌, leb, eqb, length, take, drop}
use Rattle.endian.specs.Answer.{answer}
use Rattle.endian.specs.Bytes.{patch, be_bytes}

-- a field: where it stands, and its bytes
pub record Field : Type 0 where
  pub at : ℕ
  pub bytes : List ℕ

-- the number `v` at `off` in `n` bytes, the highest first
abbrev pub field : ℕ → ℕ → ℕ → Field
field off n v = record { at = off; bytes = be_bytes n v }

-- the bytes `bs` at `off`
abbrev pub byte_run : ℕ → List ℕ → Field
byte_run off bs = record { at = off; bytes = bs }

-- `xs` with the fields written, the first first
abbrev pub write_fields : List Field → List ℕ → List ℕ
write_fields [] xs = xs
write_fields (f ∷ fs) xs = write_fields fs (patch f.at f.bytes xs)

-- the `n` bytes at `off`
abbrev pub part : ℕ → ℕ → List ℕ → List ℕ
part off n xs = take n (drop off xs)

-- the field with the number `k`
abbrev pub nth : List Field → ℕ → Field
nth [] k = record { at = 0; bytes = [] }
nth (f ∷ fs) zero = f
nth (f ∷ fs) (suc k) = nth fs k

-- where a field stands
pub record Span : Type 0 where
  pub from : ℕ
  pub size : ℕ

abbrev pub spans : List Field → List Span
spans [] = []
spans (f ∷ fs) = record { from = f.at; size = length f.bytes } ∷ spans fs

-- the `n` bytes at `off` lie in none of the spans
abbrev pub clear : ℕ → ℕ → List Span → Bool
clear off n [] = true
clear off n (s ∷ ss) = (leb (off + n) s.from || leb (s.from + s.size) off) && clear off n ss

-- no two spans meet, and all end by `m`
abbrev pub tidy : ℕ → List Span → Bool
tidy m [] = true
tidy m (s ∷ ss) = (leb (s.from + s.size) m && clear s.from s.size ss) && tidy m ss

abbrev pub insert : Field → List Field → List Field
insert f [] = f ∷ []
insert f (g ∷ gs) = cond (leb f.at g.at) (f ∷ (g ∷ gs)) (g ∷ insert f gs)

abbrev pub sorted : List Field → List Field
sorted [] = []
sorted (f ∷ fs) = insert f (sorted fs)

-- The fields of a table, which has an offset and a width for each, with the numbers `vs`.
abbrev pub table : List ℕ → List ℕ → List Field
table [] vs = []
table (o ∷ []) vs = []
table (o ∷ (n ∷ os)) [] = []
table (o ∷ (n ∷ os)) (v ∷ vs) = field o n v ∷ table os vs

-- each field of a table ends by `m`
abbrev pub table_inside : ℕ → List ℕ → Bool
table_inside m [] = true
table_inside m (o ∷ []) = true
table_inside m (o ∷ (n ∷ os)) = leb (o + n) m && table_inside m os

-- a table has an offset and a width for each of `n` numbers, and each ends by `m`
abbrev pub table_fits : ℕ → List ℕ → ℕ → Bool
table_fits m os n = eqb (length os) (2 * n) && table_inside m os

-- What `put_all` answers and leaves.
pub record PutAll (at vs old : List ℕ) (r : ℕ) (left : List ℕ) : Type 0 where
  pub number : r ≡ answer (table_fits (length old) at (length vs))
  pub bytes : left ≡ cond (table_fits (length old) at (length vs)) (write_fields (table at vs) old) old
