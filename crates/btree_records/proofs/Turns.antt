-- Records written one after the other, the first first: one law over the record's type, for the loop that writes them.
-- Assumes nothing.
use Rattle.std.proofs.Common.{◌≡◌, refl, sym, ◌∙◌, ap, List, [], ◌∷◌, ◌++◌, append_assoc, ℕ, suc, ◌+◌, ◌*◌, ◌≤◌, ◌<◌, length, get_or, take, drop, arith, add-one, length-append}
use Rattle.std.proofs.lemmas.Slice.{drop-append-drop}
use native.Mathlib.Nat.{mul-zero, mul-suc, mul-le-mul_left}
use mathlib.Core.List.{append-nil}
use lib.ListN.{drop_of_length-le, length-drop}
use lib.Seq.{take-suc, take-length, take-append_seam, length-take-le}
use Rattle.endian.specs.Bytes.{patch}
use Rattle.endian.proofs.Laws.{patch-split}
use Rattle.btree.specs.Records.{records_bytes}
use Rattle.btree.proofs.Laws.{length-listed}

-- there is room for each record
pub room : (n i count len : ℕ) → i < count → len ≡ n * count → n * i + n ≤ len
room n i count len h e =
    let m = mul-le-mul_left n (let q : suc i ≤ count = omega arith in q) in
    omega (arith, m, mul-suc n i, e)

-- the first `i` records stand, and behind them all is as it was
abbrev pub written : {A : Type 0} → (A → List ℕ) → ℕ → List A → ℕ → List ℕ → List ℕ
written f n rs i xs = records_bytes f (take i rs) ++ drop (n * i) xs

module _ {A : Type 0} (f : A → List ℕ) where
  append-listed : (ps qs : List A) → records_bytes f (ps ++ qs) ≡ records_bytes f ps ++ records_bytes f qs
  append-listed [] qs = refl
  append-listed (p ∷ ps) qs = ap (λ (l : List ℕ). f p ++ l) (append-listed ps qs) ∙ sym (append_assoc (f p) (records_bytes f ps) (records_bytes f qs))

  one-listed : (rs : List A) (i : ℕ) (d : A) → i < length rs → records_bytes f (take (suc i) rs) ≡ records_bytes f (take i rs) ++ f (get_or rs i d)
  one-listed rs i d h =
      ap (records_bytes f) (take-suc rs i d h) ∙ append-listed (take i rs) (get_or rs i d ∷ [])
      ∙ ap (λ (l : List ℕ). records_bytes f (take i rs) ++ l) (append-nil (f (get_or rs i d)))

  pub written-none : (n : ℕ) (rs : List A) (xs : List ℕ) → xs ≡ written f n rs 0 xs
  written-none n rs xs = ap (λ (k : ℕ). drop k xs) (sym (mul-zero n))

  module _ (n : ℕ) (size : (a : A) → length (f a) ≡ n) where
    pub written-more : (rs : List A) (d : A) (i : ℕ) (xs ys zs : List ℕ) → i < length rs → n * i + n ≤ length xs
        → ys ≡ written f n rs i xs → zs ≡ patch (n * i) (f (get_or rs i d)) ys → zs ≡ written f n rs (i + 1) xs
    written-more rs d i xs ys zs h room e c =
        let p = records_bytes f (take i rs) in
        let b = f (get_or rs i d) in
        let l : length p ≡ n * i = length-listed f n size (take i rs) ∙ ap (λ (k : ℕ). n * k) (length-take-le i rs (let w : i ≤ length rs = omega arith in w)) in
        let fits : n * i + length b ≤ length (p ++ drop (n * i) xs) = rw (size (get_or rs i d), length-append p (drop (n * i) xs), length-drop (n * i) xs, l) (omega (arith, room)) in
        let t : take (n * i) (p ++ drop (n * i) xs) ≡ p = ap (λ (k : ℕ). take k (p ++ drop (n * i) xs)) (sym l) ∙ take-append_seam p (drop (n * i) xs) in
        let m : n * i + length b ≡ n * suc i = ap (λ (k : ℕ). n * i + k) (size (get_or rs i d)) ∙ sym (mul-suc n i) in
        let s : drop (n * i + length b) (p ++ drop (n * i) xs) ≡ drop (n * suc i) xs =
        drop-append-drop (n * i) xs p (n * i + length b) (omega arith) l ∙ ap (λ (k : ℕ). drop k xs) m in
        rw add-one
        (c ∙ ap (patch (n * i) b) e ∙ patch-split (n * i) b (p ++ drop (n * i) xs) fits
        ∙ ap (λ (k : List ℕ). k ++ (b ++ drop (n * i + length b) (p ++ drop (n * i) xs))) t
        ∙ ap (λ (k : List ℕ). p ++ (b ++ k)) s
        ∙ sym (append_assoc p b (drop (n * suc i) xs))
        ∙ ap (λ (k : List ℕ). k ++ drop (n * suc i) xs) (sym (one-listed rs i d h)))

  pub written-all : (n : ℕ) (rs : List A) (i : ℕ) (xs ys : List ℕ) → i ≡ length rs → length xs ≡ n * length rs → ys ≡ written f n rs i xs → ys ≡ records_bytes f rs
  written-all n rs i xs ys j l e =
      e ∙ ap (λ (k : ℕ). written f n rs k xs) j
      ∙ ap (λ (k : List ℕ). records_bytes f (take (length rs) rs) ++ k) (drop_of_length-le xs (let w : length xs ≤ n * length rs = omega (arith, l) in w))
      ∙ append-nil (records_bytes f (take (length rs) rs))
      ∙ ap (records_bytes f) (take-length rs)
