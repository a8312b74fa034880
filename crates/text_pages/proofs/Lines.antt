-- Laws of lines: where the next begins, which bytes a line has, and that a page's lines are its texts.
-- Assumes nothing.
use mathlib.Core.Path.{◌≡◌, refl, sym, ap, ◌∙◌}
use mathlib.Core.Bool.{Bool, true, false, not, cond, ◌&&◌}
use mathlib.Core.List.{List, [], ◌∷◌, ◌++◌}
use mathlib.Core.Logic.{◌⊎◌, inl, inr}
use Prim.Native.Nat.{ℕ, zero, suc, ◌+◌, ◌-◌, ◌≤◌, ◌<◌, min}
use Prim.Native.String.{String}
use native.Mathlib.Omega.{arith}
use lib.ListN.{length, take, drop, length-append}
use lib.Seq.{drop-drop, drop-append-add, take_at}
use Rattle.endian.specs.Fields.{part}
use Rattle.seqs.specs.Lists.{first_index}
use Rattle.seqs.proofs.Laws.{never, both_left, both_right, lt-or-le}
use Rattle.table_lines.specs.Lines.{PutLine, newline}
use Rattle.text_pages.specs.Pages.{ascii_bytes, is_newline, page, in_one_line, lines_each, place_of_byte, first_line, behind_lines, line_at, text_at}
use Rattle.text_pages.proofs.Places.{rest-nil}

-- ---- the next line
module _ (xs : List ℕ) (at end : ℕ) (e : end ≡ place_of_byte newline at xs) where
  pub next-found : end < length xs → behind_lines 1 (drop at xs) ≡ drop (end + 1) xs
  unfolding behind_lines place_of_byte
  next-found h =
      let n = first_index is_newline (drop at xs) in
      let k : at + suc n ≡ end + 1 = omega (arith, e) in
      drop-drop (suc n) at xs ∙ ap (λ (m : ℕ). drop m xs) k

  pub next-none : length xs ≤ end → behind_lines 1 (drop at xs) ≡ drop (length xs) xs
  unfolding behind_lines place_of_byte
  next-none h =
      let n = first_index is_newline (drop at xs) in
      drop-drop (suc n) at xs ∙ rest-nil xs (at + suc n) (omega (arith, e)) ∙ sym (rest-nil xs (length xs) (omega arith))

-- ---- n lines
-- a turn of a loop over n of them
pub one-line : (n i : ℕ) (ys zs : List ℕ) → i < n → behind_lines 1 ys ≡ zs → behind_lines (n - i) ys ≡ behind_lines (n - (i + 1)) zs
unfolding behind_lines
one-line n i ys zs h e =
    let k : n - i ≡ suc (n - (i + 1)) = omega arith in
    ap (λ (m : ℕ). behind_lines m ys) k ∙ ap (behind_lines (n - (i + 1))) e

pub lines-done : (n : ℕ) (ys : List ℕ) → n ≡ 0 → behind_lines n ys ≡ ys
unfolding behind_lines
lines-done n ys e = ap (λ (m : ℕ). behind_lines m ys) e

behind-nothing : (n : ℕ) → behind_lines n [] ≡ []
unfolding behind_lines first_index
behind-nothing zero = refl
behind-nothing (suc n) = behind-nothing n

pub lines-past : (n : ℕ) (xs : List ℕ) (at : ℕ) → length xs ≤ at → behind_lines n (drop at xs) ≡ drop at xs
lines-past n xs at h = rw (rest-nil xs at h) (behind-nothing n)

-- what is put for some bytes is put for their equals
pub same_bytes : {at : ℕ} {xs ys old left : List ℕ} {number end : ℕ} → xs ≡ ys → PutLine at ys old number end left → PutLine at xs old number end left
same_bytes e p = rw e p

-- the bytes of a line
pub line-part : (n from end : ℕ) (xs : List ℕ) → drop from xs ≡ behind_lines n xs → end ≡ place_of_byte newline from xs → part from (end - from) xs ≡ line_at n xs
unfolding first_line place_of_byte
line-part n from end xs b e =
    let k : end - from ≡ first_index is_newline (drop from xs) = omega (arith, e) in
    ap (λ (m : ℕ). take m (drop from xs)) k ∙ ap first_line b

-- ---- a page
ends_at : (t : Bool) (n m : ℕ) (bs : List ℕ) → (not t && in_one_line bs) ≡ true → (in_one_line bs ≡ true → n ≡ m) → cond t 0 (suc n) ≡ suc m
ends_at true n m bs h e = never h
ends_at false n m bs h e = ap suc (e h)

line-end : (bs rest : List ℕ) → in_one_line bs ≡ true → first_index is_newline (bs ++ (newline ∷ rest)) ≡ length bs
unfolding first_index in_one_line
line-end [] rest h = refl
line-end (b ∷ bs) rest h = ends_at (is_newline b) (first_index is_newline (bs ++ (newline ∷ rest))) (length bs) bs h (line-end bs rest)

first_of : (bs rest : List ℕ) → in_one_line bs ≡ true → first_line (bs ++ (newline ∷ rest)) ≡ bs
unfolding first_line
first_of bs rest h = ap (λ (k : ℕ). take k (bs ++ (newline ∷ rest))) (line-end bs rest h) ∙ take_at bs (newline ∷ rest) (length bs) refl

rest_of : (bs rest : List ℕ) → in_one_line bs ≡ true → drop (suc (first_index is_newline (bs ++ (newline ∷ rest)))) (bs ++ (newline ∷ rest)) ≡ rest
rest_of bs rest h =
    let e = line-end bs rest h in
    let k : suc (first_index is_newline (bs ++ (newline ∷ rest))) ≡ length bs + 1 = omega (arith, e) in
    ap (λ (m : ℕ). drop m (bs ++ (newline ∷ rest))) k ∙ drop-append-add bs (newline ∷ rest) 1

-- LINE n OF A PAGE IS ITS TEXT n
pub page-line : (other : String) (ss : List String) (n : ℕ) → lines_each ss ≡ true → n < length ss → line_at n (page ss) ≡ ascii_bytes (text_at other n ss)
unfolding page lines_each behind_lines text_at
page-line other [] n h l = absurd (omega arith)
page-line other (s ∷ ss) zero h l = first_of (ascii_bytes s) (page ss) (both_left (in_one_line (ascii_bytes s)) (lines_each ss) h)
page-line other (s ∷ ss) (suc n) h l =
    ap (λ (ys : List ℕ). first_line (behind_lines n ys)) (rest_of (ascii_bytes s) (page ss) (both_left (in_one_line (ascii_bytes s)) (lines_each ss) h))
    ∙ page-line other ss n (both_right (in_one_line (ascii_bytes s)) (lines_each ss) h) (omega arith)

pub text-past : (other : String) (ss : List String) (n : ℕ) → length ss ≤ n → text_at other n ss ≡ other
unfolding text_at
text-past other [] n h = refl
text-past other (s ∷ ss) zero h = absurd (omega arith)
text-past other (s ∷ ss) (suc n) h = text-past other ss n (omega arith)

-- ---- a page whose last line is that of every number behind
text-before : (other : String) (ss ts : List String) (n : ℕ) → n < length ss → text_at other n (ss ++ ts) ≡ text_at other n ss
unfolding text_at
text-before other [] ts n h = absurd (omega arith)
text-before other (s ∷ ss) ts zero h = refl
text-before other (s ∷ ss) ts (suc n) h = text-before other ss ts n (omega arith)

text-behind : (other : String) (ss : List String) → text_at other (length ss) (ss ++ (other ∷ [])) ≡ other
unfolding text_at
text-behind other [] = refl
text-behind other (s ∷ ss) = text-behind other ss

pub last_line : (other : String) (ss : List String) (n k : ℕ) → length ss ≡ k → lines_each (ss ++ (other ∷ [])) ≡ true
    → line_at (min n k) (page (ss ++ (other ∷ []))) ≡ ascii_bytes (text_at other n ss)
last_line other ss n k e h = by (lt-or-le n (length ss))
  where
    m : length (ss ++ (other ∷ [])) ≡ length ss + 1
    m = length-append ss (other ∷ [])

    line : min n k < length (ss ++ (other ∷ [])) → line_at (min n k) (page (ss ++ (other ∷ []))) ≡ ascii_bytes (text_at other (min n k) (ss ++ (other ∷ [])))
    line l = page-line other (ss ++ (other ∷ [])) (min n k) h l

    by : (n < length ss) ⊎ (length ss ≤ n) → line_at (min n k) (page (ss ++ (other ∷ []))) ≡ ascii_bytes (text_at other n ss)
    by (inl l) =
        let d : min n k ≡ n = omega (arith, e) in
        line (omega (arith, e, m)) ∙ ap (λ (i : ℕ). ascii_bytes (text_at other i (ss ++ (other ∷ [])))) d ∙ ap ascii_bytes (text-before other ss (other ∷ []) n l)
    by (inr l) =
        let d : min n k ≡ length ss = omega (arith, e) in
        line (omega (arith, e, m)) ∙ ap (λ (i : ℕ). ascii_bytes (text_at other i (ss ++ (other ∷ [])))) d
        ∙ ap ascii_bytes (text-behind other ss ∙ sym (text-past other ss n l))
