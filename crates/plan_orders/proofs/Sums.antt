-- A sum is the same in any order, and that of the first few is no larger.
-- Assumes nothing.
use mathlib.Core.Path.{◌≡◌, refl, ap, ◌∙◌}
use mathlib.Core.Logic.{∥∥₁_elim}
use mathlib.Core.List.{List, [], ◌∷◌, Perm, Permᴰ}
use Prim.Native.Nat.{ℕ, zero, suc, ◌+◌, ◌-◌, ◌≤◌, ◌<◌}
use native.Mathlib.Nat.{ℕ_set, not-suc-le-zero}
use native.Mathlib.Omega.{arith}
use lib.ListN.{take, drop, take-append-drop}
use Rattle.seqs.specs.Lists.{fold, total, up_from}
use Rattle.seqs.proofs.Laws.{total-append}
use Rattle.plan_totals.specs.Totals.{sum_to}
use Rattle.plan_orders.specs.Orders.{rising_groups, falling_groups, Order, added_by}

module _ (f : ℕ → ℕ) where
  -- what is added from the front on, to what was there before
  added-from : (s : ℕ) (ks : List ℕ) → fold (λ (s k : ℕ). s + f k) s ks ≡ s + total f ks
  unfolding fold total
  added-from s [] = omega arith
  added-from s (k ∷ ks) = let i = added-from (s + f k) ks in omega arith

  pub added-total : (ks : List ℕ) → added_by f ks ≡ total f ks
  unfolding added_by
  added-total ks = let i = added-from 0 ks in omega arith

  moved : {ks ls : List ℕ} → Permᴰ ks ls → total f ks ≡ total f ls
  unfolding total
  moved Permᴰ.nil = refl
  moved (Permᴰ.cons e d) = let i = moved d in let j = ap f e in omega arith
  moved (Permᴰ.swap e g) = let i = ap f e in let j = ap f g in omega arith
  moved (Permᴰ.trans d e) = moved d ∙ moved e

  same_total : (ks ls : List ℕ) → Perm ks ls → total f ks ≡ total f ls
  same_total ks ls p = ∥∥₁_elim p (ℕ_set (total f ks) (total f ls)) moved

  sum_more : (n : ℕ) → sum_to (n + 1) f ≡ sum_to n f + f n
  unfolding sum_to
  sum_more n = let e : n + 1 ≡ suc n = omega arith in rw e refl

  -- n groups from a on, and those before them
  total-up : (a n : ℕ) → total f (up_from a n) + sum_to a f ≡ sum_to (a + n) f
  unfolding total up_from
  total-up a zero = let e : a + zero ≡ a = omega arith in rw e (omega arith)
  total-up a (suc n) =
      let i = total-up (a + 1) n in
      let e : a + 1 + n ≡ a + suc n = omega arith in
      let s = sum_more a in
      let j = ap (λ (m : ℕ). sum_to m f) e in
      omega arith

  total-rising : (n : ℕ) → total f (rising_groups n) ≡ sum_to n f
  unfolding sum_to
  total-rising n =
      let t = total-up 0 n in
      let e : 0 + n ≡ n = omega arith in
      let j = ap (λ (m : ℕ). sum_to m f) e in
      omega arith

  -- EACH GROUP TAKEN ONCE, IN ANY ORDER, ADDS UP TO THE SUM OF ALL
  pub in_order : (n : ℕ) (ks : List ℕ) → Order n ks → added_by f ks ≡ sum_to n f
  in_order n ks p = added-total ks ∙ same_total ks (rising_groups n) p ∙ total-rising n

  -- THE SUM OF THE FIRST j IS AT MOST THAT OF ALL
  pub first-fewer : (j : ℕ) (ks : List ℕ) → added_by f (take j ks) ≤ added_by f ks
  first-fewer j ks =
      let a = added-total (take j ks) in
      let b = added-total ks in
      let c = total-append f (take j ks) (drop j ks) in
      let d = ap (total f) (take-append-drop j ks) in
      omega arith

  -- ---- falling

  total-falling : (j n : ℕ) → j < n → total f (take (suc j) (falling_groups n)) ≡ total f (take j (falling_groups n)) + f (n - 1 - j)
  unfolding total falling_groups
  total-falling j zero h = absurd (not-suc-le-zero h)
  total-falling zero (suc n) h = let e : suc n - 1 - 0 ≡ n = omega arith in let i = ap f e in omega arith
  total-falling (suc j) (suc n) h =
      let i = total-falling j n (omega arith) in
      let e : suc n - 1 - suc j ≡ n - 1 - j = omega arith in
      let k = ap f e in
      omega arith

  -- the first j groups and the one behind them, counted from the last
  pub falling-more : (j n : ℕ) → j < n → added_by f (take (suc j) (falling_groups n)) ≡ added_by f (take j (falling_groups n)) + f (n - 1 - j)
  falling-more j n h =
      let a = added-total (take (suc j) (falling_groups n)) in
      let b = added-total (take j (falling_groups n)) in
      let c = total-falling j n h in
      omega arith

  pub none-added : (ks : List ℕ) → added_by f (take 0 ks) ≡ 0
  unfolding added_by fold
  none-added ks = refl
