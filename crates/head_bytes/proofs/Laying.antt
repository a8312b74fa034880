-- A head is laid from its start on: what stands there already, and what is put next.
-- Assumes nothing.
use mathlib.Core.Path.{◌≡◌, refl, ap, sym, ◌∙◌}
use mathlib.Core.Bool.{Bool, true, false, cond}
use mathlib.Core.List.{List, [], ◌∷◌, ◌++◌, append_assoc, append-nil}
use Prim.Native.Nat.{ℕ, ◌+◌, ◌*◌, ◌-◌, ◌≤◌}
use native.Mathlib.Omega.{arith}
use lib.ListN.{length, take, drop, length-append, length-replicate, replicate-append-replicate}
use lib.Seq.{take_at, drop_at}
use Rattle.endian.specs.Bytes.{patch, zeros}
use Rattle.endian.specs.Fields.{part}
use Rattle.endian.proofs.Laws.{patch-split}
use Rattle.head_bytes.specs.Parts.{sector_on}

-- `pre` stands at the start of xs, with `rest` behind it
pub record Starts (pre xs : List ℕ) : Type 0 where
  pub rest : List ℕ
  pub is : xs ≡ pre ++ rest

-- a block put behind what stands
pub next : (a : ℕ) (pre new xs ys : List ℕ) → Starts pre xs → length pre ≡ a → a + length new ≤ length xs → ys ≡ patch a new xs → Starts (pre ++ new) ys
next a pre new xs ys s e h p =
    let t : take a xs ≡ pre = ap (λ (l : List ℕ). take a l) s.is ∙ take_at pre s.rest a e in
    record {
      rest = drop (a + length new) xs;
      is = p ∙ patch-split a new xs h ∙ ap (λ (l : List ℕ). l ++ (new ++ drop (a + length new) xs)) t ∙ sym (append_assoc pre new (drop (a + length new) xs));
    }

-- or left out
pub next-if : (on : Bool) (a : ℕ) (pre new xs ys : List ℕ) → Starts pre xs → (on ≡ true → length pre ≡ a) → (on ≡ true → a + length new ≤ length xs)
    → ys ≡ cond on (patch a new xs) xs → Starts (pre ++ cond on new []) ys
next-if true a pre new xs ys s e h p = next a pre new xs ys s (e refl) (h refl) p
next-if false a pre new xs ys s e h p = record { rest = s.rest; is = p ∙ s.is ∙ ap (λ (l : List ℕ). l ++ s.rest) (sym (append-nil pre)) }

-- a sector put over the first of the zeros behind what stands
pub next-sector : (a n m : ℕ) (f : List ℕ → List ℕ) (pre xs ys : List ℕ) → Starts (pre ++ zeros m) xs → length pre ≡ a → n ≤ m → length (f (zeros n)) ≡ n
    → ys ≡ sector_on a n f xs → Starts ((pre ++ f (zeros n)) ++ zeros (m - n)) ys
unfolding sector_on
next-sector a n m f pre xs ys s e h l p =
    let k : n + (m - n) ≡ m = omega arith in
    let z : zeros m ≡ zeros n ++ zeros (m - n) = sym (replicate-append-replicate n (m - n) 0 ∙ ap zeros k) in
    let i : xs ≡ pre ++ (zeros n ++ (zeros (m - n) ++ s.rest)) =
    s.is ∙ append_assoc pre (zeros m) s.rest ∙ ap (λ (w : List ℕ). pre ++ (w ++ s.rest)) z ∙ ap (λ (w : List ℕ). pre ++ w) (append_assoc (zeros n) (zeros (m - n)) s.rest) in
    let d : drop a xs ≡ zeros n ++ (zeros (m - n) ++ s.rest) = ap (λ (w : List ℕ). drop a w) i ∙ drop_at pre (zeros n ++ (zeros (m - n) ++ s.rest)) a e in
    let q : part a n xs ≡ zeros n = ap (λ (w : List ℕ). take n w) d ∙ take_at (zeros n) (zeros (m - n) ++ s.rest) n (length-replicate {A = ℕ} n 0) in
    let lx : length xs ≡ a + (n + length (zeros (m - n) ++ s.rest)) =
    ap (λ (w : List ℕ). length w) i ∙ length-append pre (zeros n ++ (zeros (m - n) ++ s.rest)) ∙ rw (e, length-append (zeros n) (zeros (m - n) ++ s.rest), length-replicate {A = ℕ} n 0) refl in
    let t : take a xs ≡ pre = ap (λ (w : List ℕ). take a w) i ∙ take_at pre (zeros n ++ (zeros (m - n) ++ s.rest)) a e in
    let new = f (zeros n) in
    let u : pre ++ (zeros n ++ (zeros (m - n) ++ s.rest)) ≡ (pre ++ zeros n) ++ (zeros (m - n) ++ s.rest) = sym (append_assoc pre (zeros n) (zeros (m - n) ++ s.rest)) in
    let v : drop (a + n) xs ≡ zeros (m - n) ++ s.rest =
    ap (λ (w : List ℕ). drop (a + n) w) (i ∙ u) ∙ drop_at (pre ++ zeros n) (zeros (m - n) ++ s.rest) (a + n) (length-append pre (zeros n) ∙ rw (e, length-replicate {A = ℕ} n 0) refl) in
    record {
      rest = s.rest;
      is = p ∙ ap (λ (w : List ℕ). patch a (f w) xs) q ∙ patch-split a new xs (rw (l, lx) (omega arith))
          ∙ rw (t, l, v) (sym (append_assoc pre new (zeros (m - n) ++ s.rest)) ∙ sym (append_assoc (pre ++ new) (zeros (m - n)) s.rest));
    }

-- where nothing is behind it, what stands is all
nothing-behind : (xs : List ℕ) (n : ℕ) → n + length xs ≡ n → xs ≡ []
nothing-behind [] n e = refl
nothing-behind (x ∷ xs) n e = absurd (omega arith)

pub all_laid : (pre xs : List ℕ) → Starts pre xs → length pre ≡ length xs → xs ≡ pre
all_laid pre xs s e =
    let r : s.rest ≡ [] = nothing-behind s.rest (length pre) (sym (ap (λ (w : List ℕ). length w) s.is ∙ length-append pre s.rest) ∙ sym e) in
    s.is ∙ ap (λ (w : List ℕ). pre ++ w) r ∙ append-nil pre
