-- What the loops that write digits and numbers leave: the bytes still to be written, over what is written already, are the whole.
-- Assumes nothing.
use mathlib.Core.Path.{◌≡◌, refl, sym, ap, ◌∙◌}
use mathlib.Core.List.{List, [], ◌∷◌, ◌++◌}
use Prim.Native.Nat.{ℕ, zero, suc, ◌+◌, ◌-◌, ◌*◌, ◌/◌, ◌%◌, ◌^◌, ◌≤◌, ◌<◌}
use native.Mathlib.Omega.{arith}
use lib.ListN.{length, get_or, set, drop, length-append}
use lib.Seq.{append_snoc, drop-length}
use Rattle.std.proofs.lemmas.List.Recursion.{is_sum_by}
use Rattle.std.specs.List.{sum_by}
use Rattle.endian.specs.Bytes.{patch}
use Rattle.endian.proofs.Laws.{patch-append, drop-turn}
use Rattle.table_lines.specs.Decimal.{digit, decimal}
use Rattle.table_lines.specs.Lines.{separator_before, line}
use Rattle.table_lines.proofs.Digits.{decimal-small, decimal-more, length_more, length-64}

patch-one : (at b : ℕ) (xs : List ℕ) → patch at (b ∷ []) xs ≡ set xs at b
unfolding patch
patch-one at b xs = refl

-- the last byte is written before the others
pub patch-snoc : (at i b : ℕ) (bs xs : List ℕ) → at + length bs ≡ i → patch at (bs ++ (b ∷ [])) xs ≡ patch at bs (set xs i b)
patch-snoc at i b bs xs e =
    patch-append at bs (b ∷ []) xs ∙ ap (patch at bs) (patch-one (at + length bs) b xs ∙ ap (λ (k : ℕ). set xs k b) e)

module _ (i x : ℕ) (buf : List ℕ) where
  pub digit-turn : 10 ≤ x → length (decimal x) ≤ i
      → patch (i - length (decimal x)) (decimal x) buf ≡ patch (i - 1 - length (decimal (x / 10))) (decimal (x / 10)) (set buf (i - 1) (digit (x % 10)))
  digit-turn h l =
      let e = length_more x h in
      let k : i - length (decimal x) ≡ i - 1 - length (decimal (x / 10)) = omega arith in
      ap (λ (at : ℕ). patch at (decimal x) buf) k
      ∙ ap (λ (bs : List ℕ). patch (i - 1 - length (decimal (x / 10))) bs buf) (decimal-more x h)
      ∙ patch-snoc (i - 1 - length (decimal (x / 10))) (i - 1) (digit (x % 10)) (decimal (x / 10)) buf (omega arith)

  pub digit-last : x < 10 → patch (i - length (decimal x)) (decimal x) buf ≡ set buf (i - 1) (digit x)
  digit-last h = rw (decimal-small x h) (patch-one (i - 1) (digit x) buf)

-- ---- a line, from its last number to its first
pub length-line : (n : ℕ) (ns : List ℕ) → length (line (n ∷ ns)) ≡ length (decimal n) + 1 + length (line ns)
unfolding line
length-line n ns =
    length-append (decimal n) (separator_before ns ∷ line ns) ∙ (let e : length (decimal n) + suc (length (line ns)) ≡ length (decimal n) + 1 + length (line ns) = omega arith in e)

pub line-sum : (ns : List ℕ) → sum_by (λ (n : ℕ). length (decimal n) + 1) ns ≡ length (line ns)
unfolding line
line-sum ns = sym (is_sum_by (λ (ms : List ℕ). length (line ms)) (λ (n : ℕ). length (decimal n) + 1) refl length-line ns)

pub line-most : (ns : List ℕ) → ((i : ℕ) → get_or ns i 0 < 2 ^ 64) → length (line ns) ≤ 21 * length ns
unfolding line
line-most [] h = omega arith
line-most (n ∷ ns) h = omega (arith, length-line n ns, length-64 n (h 0), line-most ns (λ i. h (suc i)))

pub rest-length : (k : ℕ) (ns : List ℕ) → length (line (drop k ns)) ≤ length (line ns)
rest-length zero ns = omega arith
rest-length (suc k) [] = omega arith
rest-length (suc k) (n ∷ ns) = let h = rest-length k ns in omega (arith, length-line n ns)

module _ (i : ℕ) (ns : List ℕ) (pos : 0 < i) (le : i ≤ length ns) where
  last-first : drop (i - 1) ns ≡ get_or ns (i - 1) 0 ∷ drop i ns
  last-first = sym (drop-turn 0 i pos ns le)

  pub length-turn : length (line (drop (i - 1) ns)) ≡ length (decimal (get_or ns (i - 1) 0)) + 1 + length (line (drop i ns))
  length-turn = rw last-first (length-line (get_or ns (i - 1) 0) (drop i ns))

  pub behind-turn : 32 ≡ separator_before (drop (i - 1) ns)
  behind-turn = rw last-first refl

  pub number-turn : (b at to : ℕ) (xs ys zs : List ℕ) → b ≡ separator_before (drop i ns) → ys ≡ patch to (line (drop i ns)) xs → at + (length (decimal (get_or ns (i - 1) 0)) + 1) ≡ to
      → zs ≡ patch at (decimal (get_or ns (i - 1) 0) ++ (b ∷ [])) ys → zs ≡ patch at (line (drop (i - 1) ns)) xs
  unfolding line
  number-turn b at to xs ys zs eb ey ea ez =
      let d = decimal (get_or ns (i - 1) 0) in
      let l = line (drop i ns) in
      let k : to ≡ at + length (d ++ (b ∷ [])) = rw length-append (sym ea) in
      ez ∙ ap (patch at (d ++ (b ∷ []))) (ey ∙ ap (λ (o : ℕ). patch o l xs) k)
      ∙ sym (patch-append at (d ++ (b ∷ [])) l xs)
      ∙ ap (λ (bs : List ℕ). patch at bs xs) (append_snoc d b l)
      ∙ rw (eb, last-first) refl

pub line-none : (ns : List ℕ) → (length (line (drop (length ns) ns)) ≡ 0) × (separator_before (drop (length ns) ns) ≡ 10) × (line (drop (length ns) ns) ≡ [])
unfolding line
line-none ns = rw (drop-length ns) (refl, refl, refl)

pub patch-none : (at : ℕ) (bs xs : List ℕ) → bs ≡ [] → xs ≡ patch at bs xs
unfolding patch
patch-none at bs xs e = rw e refl
