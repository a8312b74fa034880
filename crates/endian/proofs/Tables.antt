-- A turn of the loops over a table of offsets and widths: what is left of the table and of the numbers.
-- Assumes nothing.
use mathlib.Core.Path.{◌≡◌, refl, ap, ap₂, sym, ◌∙◌, subst}
use mathlib.Core.List.{List, [], ◌∷◌}
use Prim.Native.Nat.{ℕ, zero, suc, ◌+◌, ◌*◌, ◌≤◌, ◌<◌}
use native.Mathlib.Omega.{arith}
use native.Mathlib.Numerals.{add-one}
use mathlib.Core.Bool.{Bool, true, false, ◌&&◌}
use lib.Dec.{T, leb, leb→le, eqb, eqb→eq}
use borrow.Author.Tests.{le-leb, eq-eqb, ne_eqb}
use lib.ListN.{length, get_or, drop, drop_of_length-le}
use lib.Seq.{drop-cons}
use Rattle.std.proofs.Common.{◌↔◌}
use Rattle.std.specs.Simd.{first_chunks}
use Rattle.endian.specs.Bytes.{be_bytes, patch}
use Rattle.endian.specs.Fields.{write_fields, table, table_inside, table_fits, PutAll}
use Rattle.endian.proofs.Fields.{and_left, and_right}

-- the table's next offset and width
next-pair : (i n : ℕ) (at : List ℕ) → i < n → length at ≡ 2 * n → drop (2 * i) at ≡ get_or at (2 * i) 0 ∷ (get_or at (2 * i + 1) 0 ∷ drop (2 * (i + 1)) at)
next-pair i n at lt even =
    let e : suc (2 * i) ≡ 2 * i + 1 = omega arith in
    let d : suc (2 * i + 1) ≡ 2 * (i + 1) = omega arith in
    drop-cons at (2 * i) 0 (omega arith)
    ∙ ap (λ (l : List ℕ). get_or at (2 * i) 0 ∷ l) (ap (λ (k : ℕ). drop k at) e ∙ drop-cons at (2 * i + 1) 0 (omega arith) ∙ ap (λ (k : ℕ). get_or at (2 * i + 1) 0 ∷ drop k at) d)

-- ---- the test of a table
pub no_table : (m n : ℕ) (at : List ℕ) → (length at ≡ 2 * n → ⊥) → false ≡ table_fits m at n
no_table m n at h = rw (ne_eqb (length at) (2 * n) h) refl

-- the pairs of a table, as the library's `as_chunks` gives them
abbrev pair-inside : ℕ → List (List ℕ) → ℕ → Bool
pair-inside m ps k = leb (get_or (get_or ps k []) 0 0 + get_or (get_or ps k []) 1 0) m

both-true : (a b : Bool) → (a && b) ≡ true → (a ≡ true) × (b ≡ true)
both-true true b e = (refl, e)
both-true false b e = absurd (subst T (sym e) tt)

each-inside : (m k : ℕ) (at : List ℕ) → length at ≡ 2 * k → ((j : ℕ) → j < k → pair-inside m (first_chunks 2 k at) j ≡ true) → table_inside m at ≡ true
each-inside m zero [] e h = refl
each-inside m zero (o ∷ os) e h = absurd (omega arith)
each-inside m (suc k) [] e h = absurd (omega arith)
each-inside m (suc k) (o ∷ []) e h = absurd (omega arith)
each-inside m (suc k) (o ∷ (n ∷ os)) e h =
    let f : leb (o + n) m ≡ true = h 0 (omega arith) in
    rw f (each-inside m k os (omega arith) (λ j l. h (suc j) (omega arith)))

inside-each : (m k : ℕ) (at : List ℕ) → length at ≡ 2 * k → table_inside m at ≡ true → (j : ℕ) → j < k → pair-inside m (first_chunks 2 k at) j ≡ true
inside-each m zero at e t j h = absurd (omega arith)
inside-each m (suc k) [] e t j h = absurd (omega arith)
inside-each m (suc k) (o ∷ []) e t j h = absurd (omega arith)
inside-each m (suc k) (o ∷ (n ∷ os)) e t zero h = (both-true (leb (o + n) m) (table_inside m os) t).0
inside-each m (suc k) (o ∷ (n ∷ os)) e t (suc j) h = inside-each m k os (omega arith) (both-true (leb (o + n) m) (table_inside m os) t).1 j (omega arith)

-- what `all` says of them
pub fits-by : (m n : ℕ) (at : List ℕ) (ps : List (List ℕ)) (t : Bool) → length at ≡ 2 * n → ps ≡ first_chunks 2 n at → length ps ≡ n
    → (t ≡ true ↔ ((k : ℕ) → k < length ps → leb (get_or (get_or ps k []) 0 0 + get_or (get_or ps k []) 1 0) m ≡ true)) → t ≡ table_fits m at n
fits-by m n at ps t even e l h = by t h ∙ rw (eq-eqb (length at) (2 * n) even) refl
  where
    by : (t : Bool) → (t ≡ true ↔ ((k : ℕ) → k < length ps → pair-inside m ps k ≡ true)) → t ≡ table_inside m at
    by true h = sym (each-inside m n at even (λ j k. ap (λ (qs : List (List ℕ)). pair-inside m qs j) (sym e) ∙ h.0 refl j (omega arith)))
    by false h = none (table_inside m at) refl
      where
        none : (u : Bool) → table_inside m at ≡ u → false ≡ u
        none true f = h.1 (λ j k. ap (λ (qs : List (List ℕ)). pair-inside m qs j) e ∙ inside-each m n at even f j (omega arith))
        none false f = refl

-- what the test says
pub is-fitting : (m n : ℕ) (at : List ℕ) → table_fits m at n ≡ true → T (table_inside m at)
is-fitting m n at e = and_right (eqb (length at) (2 * n)) (table_inside m at) (subst T (sym e) tt)

pub is-even : (m n : ℕ) (at : List ℕ) → table_fits m at n ≡ true → length at ≡ 2 * n
is-even m n at e = eqb→eq (length at) (2 * n) (and_left (eqb (length at) (2 * n)) (table_inside m at) (subst T (sym e) tt))

-- ---- the same for `put_all`, whose table has the widths too
module _ (end i : ℕ) (at vs : List ℕ) (lt : i < length vs) (even : length at ≡ 2 * length vs) where
  next-at : drop (2 * i) at ≡ get_or at (2 * i) 0 ∷ (get_or at (2 * i + 1) 0 ∷ drop (2 * (i + 1)) at)
  next-at = next-pair i (length vs) at lt even

  next-v : drop i vs ≡ get_or vs i 0 ∷ drop (i + 1) vs
  next-v = rw add-one (drop-cons vs i 0 lt)

  module _ (t : T (table_inside end (drop (2 * i) at))) where
    here-all : T (table_inside end (get_or at (2 * i) 0 ∷ (get_or at (2 * i + 1) 0 ∷ drop (2 * (i + 1)) at)))
    here-all = subst (λ (l : List ℕ). T (table_inside end l)) next-at t

    pub all-fits : get_or at (2 * i) 0 + get_or at (2 * i + 1) 0 ≤ end
    all-fits = leb→le (get_or at (2 * i) 0 + get_or at (2 * i + 1) 0) end (and_left (leb (get_or at (2 * i) 0 + get_or at (2 * i + 1) 0) end) (table_inside end (drop (2 * (i + 1)) at)) here-all)

    pub all-within : T (table_inside end (drop (2 * (i + 1)) at))
    all-within = and_right (leb (get_or at (2 * i) 0 + get_or at (2 * i + 1) 0) end) (table_inside end (drop (2 * (i + 1)) at)) here-all

  pub all-write : (b b' w : List ℕ) → write_fields (table (drop (2 * i) at) (drop i vs)) b ≡ w
      → b' ≡ patch (get_or at (2 * i) 0) (be_bytes (get_or at (2 * i + 1) 0) (get_or vs i 0)) b
      → write_fields (table (drop (2 * (i + 1)) at) (drop (i + 1) vs)) b' ≡ w
  all-write b b' w e p =
      ap (write_fields (table (drop (2 * (i + 1)) at) (drop (i + 1) vs))) p
      ∙ sym (ap₂ (λ (l m : List ℕ). write_fields (table l m) b) next-at next-v) ∙ e

pub all-ends : (i : ℕ) (at vs b w : List ℕ) → length vs ≤ i → length at ≡ 2 * length vs → write_fields (table (drop (2 * i) at) (drop i vs)) b ≡ w → b ≡ w
all-ends i at vs b w l even e = sym (ap₂ (λ (l m : List ℕ). write_fields (table l m) b) (drop_of_length-le at (let h : length at ≤ 2 * i = omega arith in h)) (drop_of_length-le vs l)) ∙ e

-- ---- for callers: a table that fits by a computed test fits every longer buffer
pub fitting-more : (m k : ℕ) (at : List ℕ) → m ≤ k → T (table_inside m at) → table_inside k at ≡ true
fitting-more m k [] l t = refl
fitting-more m k (o ∷ []) l t = refl
fitting-more m k (o ∷ (n ∷ os)) l t =
    let h = leb→le (o + n) m (and_left (leb (o + n) m) (table_inside m os) t) in
    rw (le-leb (o + n) k (omega arith)) (fitting-more m k os l (and_right (leb (o + n) m) (table_inside m os) t))

pub put-table : (m : ℕ) {r : ℕ} {at vs xs zs : List ℕ} → PutAll at vs xs r zs → m ≤ length xs → T (table_fits m at (length vs)) → zs ≡ write_fields (table at vs) xs
put-table m {r} {at} {vs} {xs} w l t =
    w.bytes
    ∙ rw (
      fitting-more m (length xs) at l (and_right (eqb (length at) (2 * length vs)) (table_inside m at) t),
      eq-eqb (length at) (2 * length vs) (eqb→eq (length at) (2 * length vs) (and_left (eqb (length at) (2 * length vs)) (table_inside m at) t)),
    ) refl
