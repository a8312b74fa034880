-- What the count says, and how it is tied to the reader's number: a place with all its bytes in common is accepted, and one that is refused by
-- 30 though there is something to compare it with has a byte that differs, at that very index.
-- Assumes nothing.
use mathlib.Core.Path.{◌≡◌, refl, sym, ap, ap₂, ◌∙◌}
use mathlib.Core.Bool.{Bool, true, false, not, ◌&&◌, cond}
use mathlib.Core.List.{List, [], ◌∷◌}
use mathlib.Core.Logic.{◌⊎◌, inl, inr}
use Prim.Native.Nat.{ℕ, zero, suc, ◌+◌, ◌≤◌, ◌<◌}
use native.Mathlib.Nat.{le_of_suc-le-suc, not-suc-le-zero}
use native.Mathlib.Omega.{arith}
use lib.Dec.{eqb, leb}
use lib.ListN.{length, get_or, take}
use borrow.Author.Tests.{eqb-true, eqb-false, le-leb, eq-eqb}
use Rattle.seqs.proofs.Laws.{lt-or-le}
use Rattle.geometry.specs.declared.Geometry.{Geometry}
use Rattle.plan.specs.declared.Planned.{Planned}
use Rattle.head_bytes.specs.Head.{head_length}
use Rattle.list_spec.specs.Listing.{head_left, log_block}
use Rattle.group_bytes.specs.Answers.{head_refusal, log_refusal}
use Rattle.group_bytes.proofs.Accepted.{size-most, head-most}
use Rattle.group_bytes.proofs.Made.{head-fits}
use Rattle.group_bytes.proofs.Logging.{block-fits}
use Rattle.list_accepted.specs.Accepted.{Source}
use Rattle.list_accepted.proofs.Runs.{source-plans}
use Rattle.reader_exact.specs.Read.{read_group, read_log}
use Rattle.reader_exact.proofs.Heads.{source-bounds, source-handed, left-length, log-length}
use Rattle.reader_exact.proofs.Others.{complete-group, exact-log}
use Rattle.reader_agreement.specs.declared.Agreement.{Agreement}
use Rattle.reader_agreement.specs.Agreed.{common, agreeing, most_head_bytes, agreed_in, head_agreed, log_agreed}

-- ---- two lists

-- what they have in common is the same
pub common-same : (xs ys : List ℕ) → take (common xs ys) xs ≡ take (common xs ys) ys
unfolding common
common-same [] ys = refl
common-same (x ∷ xs) [] = refl
common-same (x ∷ xs) (y ∷ ys) = by (common-same xs ys) (eqb x y) refl
  where
    by : take (common xs ys) xs ≡ take (common xs ys) ys → (t : Bool) → eqb x y ≡ t → take (cond t (suc (common xs ys)) 0) (x ∷ xs) ≡ take (cond t (suc (common xs ys)) 0) (y ∷ ys)
    by rest true e = ap₂ (λ (h : ℕ) (l : List ℕ). h ∷ l) (eqb-true x y e) rest
    by rest false e = refl

-- the byte behind it differs
pub common-differs : (xs ys : List ℕ) → common xs ys < length xs → common xs ys < length ys → get_or xs (common xs ys) 0 ≡ get_or ys (common xs ys) 0 → ⊥
unfolding common
common-differs [] ys h k e = absurd (not-suc-le-zero h)
common-differs (x ∷ xs) [] h k e = absurd (not-suc-le-zero k)
common-differs (x ∷ xs) (y ∷ ys) h k e = by (common-differs xs ys) (eqb x y) refl h k e
  where
    by : (common xs ys < length xs → common xs ys < length ys → get_or xs (common xs ys) 0 ≡ get_or ys (common xs ys) 0 → ⊥)
        → (t : Bool) → eqb x y ≡ t → cond t (suc (common xs ys)) 0 < suc (length xs) → cond t (suc (common xs ys)) 0 < suc (length ys)
        → get_or (x ∷ xs) (cond t (suc (common xs ys)) 0) 0 ≡ get_or (y ∷ ys) (cond t (suc (common xs ys)) 0) 0 → ⊥
    by rest true d h k e = rest (le_of_suc-le-suc h) (le_of_suc-le-suc k) e
    by rest false d h k e = eqb-false x y d e

-- all of two lists of one length
pub common-all : (xs ys : List ℕ) → length xs ≡ length ys → length ys ≤ common xs ys → xs ≡ ys
unfolding common
common-all [] [] l h = refl
common-all [] (y ∷ ys) l h = absurd (omega arith)
common-all (x ∷ xs) [] l h = absurd (omega arith)
common-all (x ∷ xs) (y ∷ ys) l h = by (λ k. common-all xs ys (let m : suc (length xs) ≡ suc (length ys) = l in omega arith) k) (eqb x y) refl h
  where
    by : (length ys ≤ common xs ys → xs ≡ ys) → (t : Bool) → eqb x y ≡ t → suc (length ys) ≤ cond t (suc (common xs ys)) 0 → x ∷ xs ≡ y ∷ ys
    by rest true e k = ap₂ (λ (a : ℕ) (b : List ℕ). a ∷ b) (eqb-true x y e) (rest (le_of_suc-le-suc k))
    by rest false e k = absurd (not-suc-le-zero k)

-- ---- a head, with the geometry and the UUID of an accepted run

module _ (g : Geometry) (u : List ℕ) (s : Source g u) (k : ℕ) (h : k < g.agcount) (xs : List ℕ) (l : length xs ≡ head_length g) where
  -- there is something to compare it with
  pub head-known : head_agreed g u k xs ≡ agreeing (head_left g u k) xs
  unfolding head_agreed agreed_in head_length
  head-known =
      let m = head-most g (source-bounds g u s) in
      rw (le-leb (length xs) most_head_bytes (omega arith), eq-eqb (head_refusal g k (length xs)) 0 (sym (head-fits g k (length xs) (source-plans g u s) l h))) refl

  head-same : length (head_left g u k) ≡ length xs
  head-same = left-length g u s k h ∙ sym l

  -- ACCEPTED WHERE ALL BYTES AGREE
  pub head-agrees : length xs ≤ (head_agreed g u k xs).count → (read_group g u k xs).number ≡ 0
  head-agrees c =
      let d : length xs ≤ common (head_left g u k) xs = rw (ap (λ (a : Agreement). a.count) head-known) at c in
      ap (λ (p : Planned). p.number) (complete-group g u k xs (record { source = s; group = h; bytes = sym (common-all (head_left g u k) xs head-same d) }))

  -- REFUSED: THE BYTE AT THE COUNT DIFFERS
  pub head-differs : ((read_group g u k xs).number ≡ 0 → ⊥) → ((head_agreed g u k xs).count < length xs)
      × (get_or (head_left g u k) (head_agreed g u k xs).count 0 ≡ get_or xs (head_agreed g u k xs).count 0 → ⊥)
  head-differs n = by (lt-or-le (head_agreed g u k xs).count (length xs))
    where
      counted : (head_agreed g u k xs).count ≡ common (head_left g u k) xs
      counted = ap (λ (a : Agreement). a.count) head-known

      by : ((head_agreed g u k xs).count < length xs) ⊎ (length xs ≤ (head_agreed g u k xs).count) → ((head_agreed g u k xs).count < length xs)
          × (get_or (head_left g u k) (head_agreed g u k xs).count 0 ≡ get_or xs (head_agreed g u k xs).count 0 → ⊥)
      by (inl c) =
          let d : common (head_left g u k) xs < length xs = rw counted at c in
          let e = head-same in
          (c, rw counted (common-differs (head_left g u k) xs (omega arith) d))
      by (inr c) = absurd (n (head-agrees c))

-- ---- the log's first block, likewise

module _ (g : Geometry) (u : List ℕ) (s : Source g u) (xs : List ℕ) (l : length xs ≡ g.blocksize) where
  pub log-known : log_agreed g u xs ≡ agreeing (log_block g u) xs
  unfolding log_agreed agreed_in
  log-known =
      let m = size-most g (source-bounds g u s) in
      rw (le-leb (length xs) most_head_bytes (omega arith), eq-eqb (log_refusal g (length xs)) 0 (sym (block-fits g (length xs) (source-plans g u s) l))) refl

  pub log-agrees : length xs ≤ (log_agreed g u xs).count → read_log g u xs ≡ 0
  log-agrees c =
      let d : length xs ≤ common (log_block g u) xs = rw (ap (λ (a : Agreement). a.count) log-known) at c in
      (exact-log g u xs (source-handed g u s)).1 (record { source = s; bytes = sym (common-all (log_block g u) xs (log-length g u s ∙ sym l) d) })

  pub log-differs : (read_log g u xs ≡ 0 → ⊥) → (log_agreed g u xs).count < length xs
  log-differs n = by (lt-or-le (log_agreed g u xs).count (length xs))
    where
      by : ((log_agreed g u xs).count < length xs) ⊎ (length xs ≤ (log_agreed g u xs).count) → (log_agreed g u xs).count < length xs
      by (inl c) = c
      by (inr c) = absurd (n (log-agrees c))
