-- Laws of the common start of two lists, and of what is answered for a place.
-- Assumes nothing.
use mathlib.Core.Path.{◌≡◌, refl, sym, ap, ◌∙◌}
use mathlib.Core.Bool.{Bool, true, false, not, ◌&&◌}
use mathlib.Core.List.{List, [], ◌∷◌}
use mathlib.Core.Logic.{◌⊎◌, inl, inr}
use Prim.Native.Nat.{ℕ, suc, ◌+◌, ◌≤◌, ◌<◌, min}
use native.Mathlib.Nat.{add-zero}
use native.Mathlib.Numerals.{add-one}
use native.Mathlib.Omega.{arith}
use lib.Dec.{eqb, leb, ltb}
use lib.ListN.{length, get_or, drop, take, drop_of_length-le}
use lib.Seq.{drop-cons, length-take-le}
use borrow.Author.Tests.{eq-eqb, ne_eqb, le-leb, lt-leb, lt-ltb, le-ltb}
use Rattle.seqs.proofs.Laws.{lt-or-le}
use Rattle.structs.specs.Written.{Written}
use Rattle.structs.proofs.Written.{written_in}
use Rattle.geometry.specs.declared.Geometry.{Geometry}
use Rattle.geometry.specs.declared.Computed.{Computed}
use Rattle.list_spec.specs.Listing.{head_left, log_block}
use Rattle.group_bytes.specs.Answers.{head_refusal, log_refusal}
use Rattle.reader_names.specs.Read.{named_read, uuid_read}
use Rattle.reader_pass.specs.declared.Verdict.{Verdict}
use Rattle.reader_agreement.specs.declared.Agreement.{Agreement}
use Rattle.reader_agreement.specs.Agreed.{common, nothing_left, agreeing, most_head_bytes, agreed_in, head_agreed, log_agreed, first_as, farther, first_agreed, agreed_at}

-- ---- a turn of the loop that compares
common-none : (l : List ℕ) → common l [] ≡ 0
unfolding common
common-none [] = refl
common-none (x ∷ xs) = refl

module _ (a b : List ℕ) (i : ℕ) where
  module _ (h : i < length a) (k : i < length b) where
    pub common-later : get_or a i 0 ≡ get_or b i 0 → i + common (drop i a) (drop i b) ≡ i + 1 + common (drop (i + 1) a) (drop (i + 1) b)
    unfolding common
    common-later e = rw (add-one, drop-cons a i 0 h, drop-cons b i 0 k, eq-eqb (get_or a i 0) (get_or b i 0) e) (omega arith)

    pub common-here : (get_or a i 0 ≡ get_or b i 0 → ⊥) → i + common (drop i a) (drop i b) ≡ i
    unfolding common
    common-here e = rw (drop-cons a i 0 h, drop-cons b i 0 k, ne_eqb (get_or a i 0) (get_or b i 0) e) (add-zero i)

  common-first : length a ≤ i → i + common (drop i a) (drop i b) ≡ i
  unfolding common
  common-first h = rw (drop_of_length-le a h) (add-zero i)

  common-second : length b ≤ i → i + common (drop i a) (drop i b) ≡ i
  common-second h = ap (λ (l : List ℕ). i + common (drop i a) l) (drop_of_length-le b h) ∙ ap (λ (k : ℕ). i + k) (common-none (drop i a)) ∙ add-zero i

  pub common-end : min (length a) (length b) ≤ i → i + common (drop i a) (drop i b) ≡ i
  common-end h = by (lt-or-le i (length a))
    where
      by : (i < length a) ⊎ (length a ≤ i) → i + common (drop i a) (drop i b) ≡ i
      by (inl k) = common-second (omega arith)
      by (inr k) = common-first k

-- ---- what is made in a buffer of the bytes' length, and compared
module _ (n : ℕ) (left xs : List ℕ) where
  pub too_long : most_head_bytes < length xs → nothing_left ≡ agreed_in n left xs
  unfolding agreed_in
  too_long h = rw (lt-leb (length xs) most_head_bytes h) refl

  module _ (l : length xs ≤ most_head_bytes) where
    pub not_made : (n ≡ 0 → ⊥) → nothing_left ≡ agreed_in n left xs
    unfolding agreed_in
    not_made h = rw (le-leb (length xs) most_head_bytes l, ne_eqb n 0 h) refl

    pub made : {r c : ℕ} {old ys : List ℕ} → Written n left old r ys → r ≡ 0 → c ≡ common ys xs → record { known = true; count = c } ≡ agreed_in n left xs
    unfolding agreed_in
    made {r} {c} w z e =
        let m : n ≡ 0 = sym w.number ∙ z in
        rw (le-leb (length xs) most_head_bytes l, eq-eqb n 0 m)
        (ap (λ (k : ℕ). record { known = true; count = k }) (e ∙ ap (λ (zs : List ℕ). common zs xs) (written_in w m)))

-- as much of a buffer as there are bytes
pub buffer-for : (xs work : List ℕ) → length xs ≤ 163840 → 163840 ≡ length work → length (take (length xs) work) ≡ length xs
buffer-for xs work h e = length-take-le (length xs) work (omega arith)

-- ---- the one that goes farther
module _ (a b : Agreement) where
  pub second-only : a.known ≡ false → b ≡ farther a b
  unfolding farther
  second-only h = rw h refl

  module _ (h : a.known ≡ true) where
    pub first-farther : b.count ≤ a.count → a ≡ farther a b
    unfolding farther
    first-farther k = rw (h, le-leb b.count a.count k) refl

    pub second-farther : a.count < b.count → b ≡ farther a b
    unfolding farther
    second-farther k = rw (h, lt-leb b.count a.count k) refl

-- ---- the place of a verdict
module _ (g : Geometry) (u xs ws : List ℕ) (e : length ws ≡ length xs) (l : length xs ≤ most_head_bytes) where
  module _ (k r : ℕ) (ys : List ℕ) (w : Written (head_refusal g k (length ws)) (head_left g u k) ws r ys) where
    pub head-unmade : (r ≡ 0 → ⊥) → nothing_left ≡ head_agreed g u k xs
    unfolding head_agreed
    head-unmade n = not_made (head_refusal g k (length xs)) (head_left g u k) xs l (λ z. n (w.number ∙ ap (head_refusal g k) e ∙ z))

    pub head-made : (c : ℕ) → r ≡ 0 → c ≡ common ys xs → record { known = true; count = c } ≡ head_agreed g u k xs
    unfolding head_agreed
    head-made c z d =
        let v : Written (head_refusal g k (length xs)) (head_left g u k) ws r ys = rw e at w in
        made (head_refusal g k (length xs)) (head_left g u k) xs l v z d

  module _ (r : ℕ) (ys : List ℕ) (w : Written (log_refusal g (length ws)) (log_block g u) ws r ys) where
    pub log-unmade : (r ≡ 0 → ⊥) → nothing_left ≡ log_agreed g u xs
    unfolding log_agreed
    log-unmade n = not_made (log_refusal g (length xs)) (log_block g u) xs l (λ z. n (w.number ∙ ap (log_refusal g) e ∙ z))

    pub log-made : (c : ℕ) → r ≡ 0 → c ≡ common ys xs → record { known = true; count = c } ≡ log_agreed g u xs
    unfolding log_agreed
    log-made c z d =
        let v : Written (log_refusal g (length xs)) (log_block g u) ws r ys = rw e at w in
        made (log_refusal g (length xs)) (log_block g u) xs l v z d

module _ (g : Geometry) (u xs : List ℕ) (h : most_head_bytes < length xs) where
  pub head-long : (k : ℕ) → nothing_left ≡ head_agreed g u k xs
  unfolding head_agreed
  head-long k = too_long (head_refusal g k (length xs)) (head_left g u k) xs h

  pub log-long : nothing_left ≡ log_agreed g u xs
  unfolding log_agreed
  log-long = too_long (log_refusal g (length xs)) (log_block g u) xs h

module _ (roomy : Bool) (xs : List ℕ) (c : Computed) (e : c ≡ named_read roomy xs) where
  pub first-unnamed : (c.number ≡ 0 → ⊥) → nothing_left ≡ first_as roomy xs
  unfolding first_as
  first-unnamed n = rw (← e, ne_eqb c.number 0 n) refl

  pub first-named : (u : List ℕ) (a : Agreement) → c.number ≡ 0 → u ≡ uuid_read xs → a ≡ head_agreed c.geometry u 0 xs → a ≡ first_as roomy xs
  unfolding first_as
  first-named u a z f m = rw (← e, ← f, eq-eqb c.number 0 z) m

pub both-sizings : (xs : List ℕ) (a b r : Agreement) → a ≡ first_as false xs → b ≡ first_as true xs → r ≡ farther a b → r ≡ first_agreed xs
unfolding first_agreed
both-sizings xs a b r e f m = rw (← e, ← f) m

module _ (v : Verdict) (xs : List ℕ) (a : Agreement) where
  pub place-first : v.place ≡ 0 → a ≡ first_agreed xs → a ≡ agreed_at v xs
  unfolding agreed_at
  place-first e m = rw (eq-eqb v.place 0 e) m

  module _ (n : v.place ≡ 0 → ⊥) where
    pub place-head : v.place < v.geometry.agcount → a ≡ head_agreed v.geometry v.uuid v.place xs → a ≡ agreed_at v xs
    unfolding agreed_at
    place-head h m = rw (ne_eqb v.place 0 n, lt-ltb v.place v.geometry.agcount h) m

    pub place-log : v.geometry.agcount ≤ v.place → a ≡ log_agreed v.geometry v.uuid xs → a ≡ agreed_at v xs
    unfolding agreed_at
    place-log h m = rw (ne_eqb v.place 0 n, le-ltb v.place v.geometry.agcount h) m
