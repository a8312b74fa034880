-- A list ends with its second flush: the rule record by record, and what it says of a whole list.
-- Assumes nothing.
use mathlib.Core.Path.{◌≡◌, refl, ap, sym, ◌∙◌}
use mathlib.Core.Logic.{◌↔◌}
use mathlib.Core.Bool.{Bool, true, false}
use mathlib.Core.List.{List, [], ◌∷◌, ◌++◌}
use Prim.Native.Nat.{ℕ, ◌+◌, ◌≤◌, ◌<◌}
use native.Mathlib.Omega.{arith}
use native.Mathlib.Nat.{add-zero}
use lib.Dec.{leb, eqb}
use borrow.Author.Tests.{leb-true, leb-false, eqb-true, eqb-false, le-leb, lt-leb, eq-eqb, ne_eqb}
use Rattle.refusals.specs.Numbers.{malformed}
use Rattle.seqs.specs.Lists.{total}
use Rattle.seqs.proofs.Laws.{total-append}
use Rattle.list_records.specs.Records.{Record, WZ, Wb, FL, by_kind, flushes}
use Rattle.list_read.specs.Records.{flush, zeros_kind, bytes, head_said}
use Rattle.list_read.specs.Flushes.{flushes_passed, flush_missing, next_def, ended_def, ruled, WholeList}

-- ---- record by record
module _ (n kind : ℕ) where
  pub none-behind : 2 ≤ n → flush_missing ≡ next_def n kind
  unfolding next_def
  none-behind h = rw (le-leb 2 n h) refl

  pub one_more : n < 2 → kind ≡ flush → flushes_passed (n + 1) ≡ next_def n kind
  unfolding next_def
  one_more h e = rw (lt-leb 2 n h, eq-eqb kind flush e) refl

  pub as_many : n < 2 → (kind ≡ flush → ⊥) → flushes_passed n ≡ next_def n kind
  unfolding next_def
  as_many h e = rw (lt-leb 2 n h, ne_eqb kind flush e) refl

module _ (n : ℕ) where
  pub whole-end : n ≡ 2 → 0 ≡ ended_def n
  unfolding ended_def
  whole-end e = rw (eq-eqb n 2 e) refl

  pub cut-end : (n ≡ 2 → ⊥) → malformed ≡ ended_def n
  unfolding ended_def
  cut-end e = rw (ne_eqb n 2 e) refl

-- ---- of a whole list
-- A record behind the second flush is refused; before it, the rest of the list decides.
more-refused : (n : ℕ) (w : Record) (ws : List Record) → 2 ≤ n → malformed ≡ ruled n (w ∷ ws)
unfolding ruled
more-refused n w ws h = rw (← none-behind n (head_said w).kind h) refl

-- before it every record may stand, and a flush is counted
pub let_by : (n : ℕ) (w : Record) → n < 2 → flushes_passed (n + by_kind 0 0 1 w) ≡ next_def n (head_said w).kind
let_by n FL h = one_more n flush h refl
let_by n (WZ at len) h = rw add-zero (as_many n zeros_kind h (λ e. omega arith))
let_by n (Wb at bs) h = rw add-zero (as_many n bytes h (λ e. omega arith))

goes_on : (n : ℕ) (w : Record) (ws : List Record) → n < 2 → ruled (n + by_kind 0 0 1 w) ws ≡ ruled n (w ∷ ws)
unfolding ruled
goes_on n w ws h = rw (← let_by n w h) refl

pub went_on : (n : ℕ) (w : Record) (ws : List Record) (b : Bool) → leb 2 n ≡ b → ruled n (w ∷ ws) ≡ 0 → (n < 2) × (ruled (n + by_kind 0 0 1 w) ws ≡ 0)
went_on n w ws true e z = let h = more-refused n w ws (leb-true 2 n e) in absurd (omega arith)
went_on n w ws false e z = let h = leb-false 2 n e in (h, goes_on n w ws h ∙ z)

end-two : (n : ℕ) (b : Bool) → eqb n 2 ≡ b → ended_def n ≡ 0 → n + 0 ≡ 2
end-two n true e z = let h = eqb-true n 2 e in omega arith
end-two n false e z = let h = cut-end n (eqb-false n 2 e) in absurd (omega arith)

-- what is accepted: both flushes, the second last
has-two : (n : ℕ) (ws : List Record) → ruled n ws ≡ 0 → n + flushes ws ≡ 2
unfolding ruled total
has-two n [] z = end-two n (eqb n 2) refl z
has-two n (w ∷ ws) z = let h = has-two (n + by_kind 0 0 1 w) ws (went_on n w ws (leb 2 n) refl z).1 in omega arith

is_last : (n : ℕ) (w : Record) (ws : List Record) → n < 2 → ruled (n + by_kind 0 0 1 w) ws ≡ 0 → (prefix : List Record) × (w ∷ ws ≡ prefix ++ (FL ∷ []))
unfolding total
is_last n FL [] h z = ([], refl)
is_last n (WZ at len) [] h z = let e = has-two (n + 0) [] z in absurd (omega arith)
is_last n (Wb at bs) [] h z = let e = has-two (n + 0) [] z in absurd (omega arith)
is_last n w (v ∷ vs) h z =
    let k = n + by_kind 0 0 1 w in
    let on = went_on k v vs (leb 2 k) refl z in
    let rest = is_last k v vs on.0 on.1 in
    (w ∷ rest.0, ap (λ (xs : List Record). w ∷ xs) rest.1)

-- both flushes, the second last: accepted
accepts : (n : ℕ) (prefix : List Record) → n + flushes (prefix ++ (FL ∷ [])) ≡ 2 → ruled n (prefix ++ (FL ∷ [])) ≡ 0
unfolding ruled total
accepts n [] e = sym (whole-end (n + 1) (omega arith) ∙ goes_on n FL [] (omega arith))
accepts n (w ∷ prefix) e =
    let ws = prefix ++ (FL ∷ []) in
    let l = total-append (by_kind 0 0 1) prefix (FL ∷ []) in
    sym (goes_on n w ws (omega arith)) ∙ accepts (n + by_kind 0 0 1 w) prefix (omega arith)

whole_from : (ws : List Record) → ruled 0 ws ≡ 0 → WholeList ws
unfolding total
whole_from [] z = let h = has-two 0 [] z in absurd (omega arith)
whole_from (w ∷ ws) z =
    let last = is_last 0 w ws (omega arith) (went_on 0 w ws false refl z).1 in
    let two = has-two 0 (w ∷ ws) z in
    record { two = omega arith; prefix = last.0; last = last.1 }

-- The rule accepts exactly the lists with two flushes whose last record is a flush.
pub whole-list : (ws : List Record) → (ruled 0 ws ≡ 0) ↔ WholeList ws
whole-list ws = (whole_from ws, λ h. ap (ruled 0) h.last ∙ accepts 0 h.prefix (omega (arith, h.two, ap flushes h.last)))

-- A list with fewer is cut, whatever its last record.
fewer : (n : ℕ) (ws : List Record) → n + flushes ws < 2 → malformed ≡ ruled n ws
unfolding ruled total
fewer n [] h = cut-end n (λ e. omega arith)
fewer n (w ∷ ws) h = fewer (n + by_kind 0 0 1 w) ws (omega arith) ∙ goes_on n w ws (omega arith)

pub cut_list : (ws : List Record) → flushes ws < 2 → malformed ≡ ruled 0 ws
cut_list ws h = fewer 0 ws (omega arith)
