-- The bytes that are made for a place are the ones that an accepted run leaves there, or the place is refused whatever they are.
-- Assumes nothing.
use mathlib.Core.Path.{◌≡◌, refl, ap, sym, ◌∙◌}
use mathlib.Core.Bool.{Bool, true, false}
use mathlib.Core.List.{List}
use Prim.Native.Nat.{ℕ, ◌≤◌, ◌<◌}
use native.Mathlib.Omega.{arith}
use borrow.Author.Tests.{eqb-true, leb-false}
use lib.Dec.{eqb, leb}
use lib.ListN.{length, take}
use lib.Seq.{length-take-le}
use Rattle.arith.specs.Choice.{when}
use Rattle.refusals.specs.Table.{first}
use Rattle.structs.specs.Written.{Written}
use Rattle.structs.proofs.Written.{written_in}
use Rattle.geometry.specs.declared.Geometry.{Geometry}
use Rattle.geometry_answers.specs.Named.{is_answer}
use Rattle.plan_totals.specs.Totals.{plans_number}
use Rattle.head_bytes.specs.Head.{head_length}
use Rattle.list_spec.specs.Listing.{head_left, log_block}
use Rattle.group_bytes.specs.Answers.{head_refusal, log_refusal}
use Rattle.group_bytes.proofs.Accepted.{bounded, size-most, head-most}
use Rattle.group_bytes.proofs.Made.{head-fits}
use Rattle.group_bytes.proofs.Logging.{block-fits}
use Rattle.reader_exact.specs.Read.{place_tests, group_number, read_log}
use Rattle.reader_compare.specs.Places.{compared_number}
use Rattle.reader_compare.specs.Places.{made_in}

-- as much of a buffer as there are bytes to compare
pub buffer-for : {m : ℕ} (xs work : List ℕ) → length xs ≤ m → m ≡ length work → length (take (length xs) work) ≡ length xs
buffer-for xs work h e = length-take-le (length xs) work (omega arith)

-- ---- what is left counts only where a place is there, and long enough, and planned

module _ (g : Geometry) (past : Bool) (size : ℕ) (left other xs : List ℕ) where
  same_at : (a b c d : Bool) → is_answer g ≡ a → past ≡ b → eqb (length xs) size ≡ c → eqb (plans_number g) 0 ≡ d
      → (past ≡ false → length xs ≡ size → plans_number g ≡ 0 → left ≡ other) → first (place_tests g past size left xs) 0 ≡ first (place_tests g past size other xs) 0
  unfolding place_tests when
  same_at false b c d e f i j h = rw e refl
  same_at true true c d e f i j h = rw (e, f) refl
  same_at true false false d e f i j h = rw (e, f, i) refl
  same_at true false true false e f i j h = rw (e, f, i, j) refl
  same_at true false true true e f i j h = rw (h f (eqb-true (length xs) size i) (eqb-true (plans_number g) 0 j)) refl

  pub same_left : (past ≡ false → length xs ≡ size → plans_number g ≡ 0 → left ≡ other) → first (place_tests g past size left xs) 0 ≡ first (place_tests g past size other xs) 0
  same_left h = same_at (is_answer g) past (eqb (length xs) size) (eqb (plans_number g) 0) refl refl refl refl h

module _ (g : Geometry) (u xs : List ℕ) where
  -- ---- a head

  -- compared with what is left
  pub compared-group : (k : ℕ) → compared_number g k (head_left g u k) xs ≡ group_number g u k xs
  unfolding compared_number group_number
  compared-group k = refl

  pub head-compared : {r : ℕ} (k : ℕ) (ws ys : List ℕ) → length ws ≡ length xs → Written (head_refusal g k (length ws)) (head_left g u k) ws r ys → compared_number g k ys xs ≡ group_number g u k xs
  unfolding compared_number group_number
  head-compared k ws ys e w =
      same_left g (leb g.agcount k) (head_length g) ys (head_left g u k) xs
      (λ b n p. written_in w (sym (head-fits g k (length ws) p (e ∙ n) (leb-false g.agcount k b))))

  -- in a lent buffer
  pub compared-in : {n r : ℕ} {old left : List ℕ} (k : ℕ) → Written n (head_left g u k) old r left → r ≡ 0 → compared_number g k left xs ≡ group_number g u k xs
  compared-in k w z = ap (λ (ys : List ℕ). compared_number g k ys xs) (written_in w (sym w.number ∙ z)) ∙ compared-group k

  pub head-too-long : (k : ℕ) (any : List ℕ) → length g.label ≡ 12 → 163840 < length xs → compared_number g k any xs ≡ group_number g u k xs
  unfolding compared_number group_number head_length
  head-too-long k any l h =
      same_left g (leb g.agcount k) (head_length g) any (head_left g u k) xs
      (λ b n p. absurd (let m = head-most g (bounded g l p) in omega arith))

  -- ---- the log's first block

  pub log-compared : {r : ℕ} (ws ys : List ℕ) → length ws ≡ length xs → Written (log_refusal g (length ws)) (log_block g u) ws r ys → first (place_tests g false g.blocksize ys xs) 0 ≡ read_log g u xs
  unfolding read_log
  log-compared ws ys e w = same_left g false g.blocksize ys (log_block g u) xs (λ b n p. written_in w (sym (block-fits g (length ws) p (e ∙ n))))

  pub log-too-long : (any : List ℕ) → length g.label ≡ 12 → 16384 < length xs → first (place_tests g false g.blocksize any xs) 0 ≡ read_log g u xs
  unfolding read_log
  log-too-long any l h = same_left g false g.blocksize any (log_block g u) xs (λ b n p. absurd (let m = size-most g (bounded g l p) in omega arith))

-- what stands in a lent buffer afterwards
pub made_in_lem : {r : ℕ} {old left : List ℕ} (g : Geometry) (u : List ℕ) (k : ℕ) → Written (head_refusal g k (length old)) (head_left g u k) old r left → left ≡ made_in g u k old
unfolding made_in
made_in_lem g u k w = w.bytes
