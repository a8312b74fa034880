-- No well-formed input is longer than the longest: each key stands once, and its record has a greatest length.
-- Assumes nothing.
use Rattle.std.specs.Prelude.{is_some}
use mathlib.Core.Path.{◌≡◌, refl, sym, ap, ◌∙◌}
use mathlib.Core.Bool.{Bool, true, false, not, ◌&&◌}
use mathlib.Core.List.{List, [], ◌∷◌, map}
use Prim.Native.Nat.{ℕ, zero, suc, ◌+◌, ◌-◌, ◌≤◌, ◌<◌}
use native.Mathlib.Omega.{arith}
use lib.Dec.{ltb, eqb}
use lib.ListN.{length, get_or, set, get_or-map}
use lib.Seq.{get_or-set_other}
use borrow.Author.Tests.{eqb-false, ltb-true, ltb-false, le-ltb, not-true}
use Rattle.request_input.specs.declared.Record.{Record}
use Rattle.request_input.specs.Records.{option, option_bits, option_fits, record_known, record_then, record_at, split_records, records, value_if_found, value_with, sound, starts_with_device, well_formed}
use Rattle.request_input.proofs.Marks.{record-all, record-ends}
use Rattle.request.specs.Parse.{longest_input}
use Rattle.request.proofs.Values.{first, other, never}

-- ---- weights of keys, each counted once
abbrev sum : List ℕ → ℕ
sum [] = 0
sum (w ∷ ws) = w + sum ws

abbrev total : List ℕ → List Record → ℕ
total ws [] = 0
total ws (r ∷ rs) = get_or ws r.key 0 + total ws rs

sum-set : (ws : List ℕ) (k : ℕ) → sum ws ≡ get_or ws k 0 + sum (set ws k 0)
sum-set [] k = refl
sum-set (w ∷ ws) zero = omega arith
sum-set (w ∷ ws) (suc k) = let e = sum-set ws k in omega arith

-- a key that no record has counts for nothing
total-set : (ws : List ℕ) (k : ℕ) (rs : List Record) → is_some (value_with k rs) ≡ false → total ws rs ≡ total (set ws k 0) rs
unfolding value_with
total-set ws k [] e = refl
total-set ws k (r ∷ rs) e = go (eqb k r.key) refl e (total-set ws k rs)
  where
    go : (t : Bool) → eqb k r.key ≡ t → is_some (value_if_found t r.value (value_with k rs)) ≡ false → (is_some (value_with k rs) ≡ false → total ws rs ≡ total (set ws k 0) rs) → get_or ws r.key 0 + total ws rs ≡ get_or (set ws k 0) r.key 0 + total (set ws k 0) rs
    go true d e f = absurd (never (sym e))
    go false d e f =
        let s = get_or-set_other ws k r.key 0 0 (λ x. eqb-false k r.key d (sym x)) in
        rw (s, f e) refl

total-most : (ws : List ℕ) (rs : List Record) → sound rs ≡ true → total ws rs ≤ sum ws
unfolding sound
total-most ws [] e = omega arith
total-most ws (r ∷ rs) e =
    let k = r.key in
    let l = other (record_known k r.value) (not (is_some (value_with k rs)) && sound rs) e in
    let n = not-true (is_some (value_with k rs)) (first (not (is_some (value_with k rs))) (sound rs) l) in
    let h = total-most (set ws k 0) rs (other (not (is_some (value_with k rs))) (sound rs) l) in
    omega (arith, sum-set ws k, total-set ws k rs n)

-- ---- the greatest length of each key's record
abbrev option_bytes : ℕ → ℕ
option_bytes zero = 0
option_bytes (suc b) = 11

abbrev most : List ℕ
most = 18 ∷ 258 ∷ 18 ∷ map option_bytes option_bits

abbrev Bounded : ℕ → Record → Type 0
Bounded at r = record_known r.key r.value ≡ true → r.next ≤ at + get_or most r.key 0

some_bytes : (b : ℕ) → 0 < b → option_bytes b ≡ 11
some_bytes zero h = omega arith
some_bytes (suc b) h = refl

option-most : (at c v : ℕ) → record_known (option c) v ≡ true → at + 11 ≤ at + get_or most (option c) 0
unfolding option_fits
option-most at c v e =
    let s : 3 + c - 3 ≡ c = omega arith in
    let p = ltb-true 0 (get_or option_bits c 0) (first (ltb 0 (get_or option_bits c 0)) _ (rw (le-ltb (3 + c) 3 (let g : 3 ≤ 3 + c = omega arith in g), s) at e)) in
    let q : 3 + c ≡ suc (suc (suc c)) = omega arith in
    let m = ap (λ (k : ℕ). get_or most k 0) q ∙ get_or-map option_bytes option_bits c 0 ∙ some_bytes (get_or option_bits c 0) p in
    omega (arith, m)

-- a record of a well-formed input is no longer
bounded : (at : ℕ) (xs : List ℕ) → ((i : ℕ) → get_or xs i 0 < 256) → Bounded at (record_at at xs)
unfolding option_fits option_bits
bounded at xs bytes =
    record-all (Bounded at) at xs (λ e. absurd (never e))
    (λ l e. omega arith) (λ l e. option-most at (get_or xs (at + 2) 0) _ e) (λ l e. let b = bytes (at + 2) in omega arith) (λ l e. omega arith)

split-length : (xs : List ℕ) → ((i : ℕ) → get_or xs i 0 < 256) → (n at : ℕ) → length xs - at ≤ n → sound (split_records n at xs) ≡ true → length xs ≤ at + total most (split_records n at xs)
unfolding split_records sound
split-length xs bytes zero at h e = omega arith
split-length xs bytes (suc n) at h e = go (ltb at (length xs)) refl e (split-length xs bytes n (record_at at xs).next)
  where
    go : (t : Bool) → ltb at (length xs) ≡ t → sound (record_then t (record_at at xs) (split_records n (record_at at xs).next xs)) ≡ true
        → (length xs - (record_at at xs).next ≤ n → sound (split_records n (record_at at xs).next xs) ≡ true → length xs ≤ (record_at at xs).next + total most (split_records n (record_at at xs).next xs))
        → length xs ≤ at + total most (record_then t (record_at at xs) (split_records n (record_at at xs).next xs))
    go true d e f =
        let r = record_at at xs in
        let l = other (record_known r.key r.value) (not (is_some (value_with r.key (split_records n r.next xs))) && sound (split_records n r.next xs)) e in
        let g = record-ends at xs (ltb-true at (length xs) d) in
        let b = bounded at xs bytes (first (record_known r.key r.value) _ e) in
        let t = f (omega arith) (other (not (is_some (value_with r.key (split_records n r.next xs)))) (sound (split_records n r.next xs)) l) in
        omega arith
    go false d e f = let g = ltb-false at (length xs) d in omega arith

pub longest : (xs : List ℕ) → ((i : ℕ) → get_or xs i 0 < 256) → well_formed xs ≡ true → length xs ≤ longest_input
unfolding well_formed records option_bits
longest xs bytes e =
    let s = other (starts_with_device (split_records (length xs - 0) 0 xs)) _ e in
    let a = split-length xs bytes (length xs - 0) 0 (omega arith) s in
    let b = total-most most (split_records (length xs - 0) 0 xs) s in
    omega (arith, a, b)
