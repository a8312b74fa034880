-- What `pick` picks: the smallest record that has all that is wanted, where one has; else the largest; the lowest start on a tie; nothing
-- exactly where there is no record.
-- Assumes nothing.
use mathlib.Core.Path.{◌≡◌, refl, sym, ap, ◌∙◌}
use mathlib.Core.Bool.{Bool, true, false, cond, ◌&&◌}
use mathlib.Core.List.Memᴰ
use mathlib.Core.List.{List, [], ◌∷◌, Memᴰ}
use mathlib.Core.Logic.{◌↔◌, ◌⊎◌, inl, inr, ⊎_elim}
use Prim.Native.Nat.{ℕ, ◌≤◌, ◌<◌}
use native.Mathlib.Omega.{arith}
use borrow.Author.Tests.{leb-true, leb-false, ltb-true, ltb-false, eqb-true, eqb-false, le-leb, le-ltb}
use lib.Dec.{leb, ltb, eqb}
use Rattle.seqs.specs.Lists.{fold}
use Rattle.seqs.proofs.Laws.{never}
use Rattle.btree.specs.declared.records.AllocRec.{AllocRec}
use Rattle.plan_free.specs.declared.FreeList.{FreeList}
use Rattle.plan_free.specs.declared.Choice.{Choice}
use Rattle.plan_free.specs.Free.{free_of, no_choice, choice_of, ahead, smaller, larger_record, next, fitter, bigger, picked_from, pick_answer}
use Rattle.plan_extents.specs.Picks.{Ahead, NoLarger, NoSmaller, SmallestFit, Largest, Picks, fits, largest, none}

-- ---- a loop that keeps the better of what it has and the next that passes a test
abbrev better-of : (AllocRec → Bool) → (AllocRec → AllocRec → Bool) → Choice → AllocRec → Choice
better-of ok better c r = next (ok r) (better r c.rec) c r

-- a comparison of records, and what its answers say
record Order (better : AllocRec → AllocRec → Bool) (Le : AllocRec → AllocRec → Type 0) : Type 0 where
  same : (a : AllocRec) → Le a a
  chain : (a b c : AllocRec) → Le a b → Le b c → Le a c
  yes : (a b : AllocRec) → better a b ≡ true → Le a b
  no : (a b : AllocRec) → better a b ≡ false → Le b a

module _ (ok : AllocRec → Bool) (Le : AllocRec → AllocRec → Type 0) where
  -- d is what is kept of c and xs
  record Kept (c : Choice) (xs : List AllocRec) (d : Choice) : Type 0 where
    stays : c.found ≡ true → (d.found ≡ true) × Le d.rec c.rec
    from : d.found ≡ true → ((c.found ≡ true) × (d ≡ c)) ⊎ (Memᴰ d.rec xs × (ok d.rec ≡ true))
    beats : (x : AllocRec) → Memᴰ x xs → ok x ≡ true → (d.found ≡ true) × Le d.rec x

module _ (ok : AllocRec → Bool) (better : AllocRec → AllocRec → Bool) (Le : AllocRec → AllocRec → Type 0) (o : Order better Le) where
  -- the next is kept
  replaced : (c : Choice) (r : AllocRec) (xs : List AllocRec) (d : Choice) → ok r ≡ true → (c.found ≡ true → Le r c.rec) → Kept ok Le (choice_of r) xs d → Kept ok Le c (r ∷ xs) d
  replaced c r xs d p q k =
      let s : (d.found ≡ true) × Le d.rec r = k.stays refl in
      record {
        stays = λ e. (s.0, o.chain d.rec r c.rec s.1 (q e));
        from = λ e. ⊎_elim (λ f. inr (Memᴰ.head (ap (λ (x : Choice). x.rec) f.1), ap (λ (x : Choice). ok x.rec) f.1 ∙ p)) (λ m. inr (Memᴰ.tail m.0, m.1)) (k.from e);
        beats = λ x m e. ⊎_elim (λ f. (s.0, rw f s.1)) (λ n. k.beats x n e) (Memᴰ.cases_cons m);
      }

  -- the next is left
  skipped : (c : Choice) (r : AllocRec) (xs : List AllocRec) (d : Choice) → (ok r ≡ true → (c.found ≡ true) × Le c.rec r) → Kept ok Le c xs d → Kept ok Le c (r ∷ xs) d
  skipped c r xs d q k =
      record {
        stays = k.stays;
        from = λ e. ⊎_elim (λ f. inl f) (λ m. inr (Memᴰ.tail m.0, m.1)) (k.from e);
        beats = λ x m e. ⊎_elim (λ f. let p = q (ap ok (sym f) ∙ e) in let s = k.stays p.0 in (s.0, rw f (o.chain d.rec c.rec r s.1 p.1))) (λ n. k.beats x n e) (Memᴰ.cases_cons m);
      }

  step : (c : Choice) (r : AllocRec) (xs : List AllocRec) (d : Choice) (p f b : Bool) → ok r ≡ p → c.found ≡ f → better r c.rec ≡ b
      → Kept ok Le (cond (p && cond f b true) (choice_of r) c) xs d → Kept ok Le c (r ∷ xs) d
  step c r xs d false f b x y z k = skipped c r xs d (λ e. never (sym x ∙ e)) k
  step c r xs d true false b x y z k = replaced c r xs d x (λ e. never (sym y ∙ e)) k
  step c r xs d true true true x y z k = replaced c r xs d x (λ e. o.yes r c.rec z) k
  step c r xs d true true false x y z k = skipped c r xs d (λ e. (y, o.no r c.rec z)) k

  kept : (xs : List AllocRec) (c : Choice) → Kept ok Le c xs (fold (better-of ok better) c xs)
  unfolding fold
  kept [] c = record { stays = λ e. (e, o.same c.rec); from = λ e. inl (e, refl); beats = λ x m. absurd (Memᴰ.not-nil m) }
  kept (r ∷ xs) c = step c r xs (fold (better-of ok better) (better-of ok better c r) xs) (ok r) c.found (better r c.rec) refl refl refl (kept xs (better-of ok better c r))

-- ---- the two comparisons
ahead-by : (p q s t : ℕ) (e : Bool) → eqb p q ≡ e → (cond e (ltb s t) (ltb p q) ≡ true → Ahead p q s t) × (cond e (ltb s t) (ltb p q) ≡ false → Ahead q p t s)
ahead-by p q s t true e =
    let c : p ≡ q = eqb-true _ _ e in
    (λ h. let l : s < t = ltb-true _ _ h in record { size = omega arith; tie = λ x. omega arith }, λ h. let l : t ≤ s = ltb-false _ _ h in record { size = omega arith; tie = λ x. l })
ahead-by p q s t false e =
    (λ h. let l : p < q = ltb-true _ _ h in record { size = omega arith; tie = λ x. omega arith }, λ h. let l : q ≤ p = ltb-false _ _ h in record { size = l; tie = λ x. absurd (eqb-false _ _ e (sym x)) })

ahead-yes : (p q s t : ℕ) → ahead p q s t ≡ true → Ahead p q s t
ahead-yes p q s t = (ahead-by p q s t (eqb p q) refl).0

ahead-no : (p q s t : ℕ) → ahead p q s t ≡ false → Ahead q p t s
ahead-no p q s t = (ahead-by p q s t (eqb p q) refl).1

ahead-same : (p s : ℕ) → Ahead p p s s
ahead-same p s = record { size = omega arith; tie = λ e. omega arith }

no-larger : Order smaller NoLarger
no-larger =
    record {
      same = λ a. ahead-same a.count a.start;
      chain = λ a b c p q. record { size = omega arith; tie = λ e. let u = p.tie (omega arith) in let v = q.tie (omega arith) in omega arith };
      yes = λ a b. ahead-yes a.count b.count a.start b.start;
      no = λ a b. ahead-no a.count b.count a.start b.start;
    }

no-smaller : Order larger_record NoSmaller
no-smaller =
    record {
      same = λ a. ahead-same a.count a.start;
      chain = λ a b c p q. record { size = omega arith; tie = λ e. let u = p.tie (omega arith) in let v = q.tie (omega arith) in omega arith };
      yes = λ a b. ahead-yes b.count a.count a.start b.start;
      no = λ a b. ahead-no b.count a.count a.start b.start;
    }

-- ---- the two loops of `pick`
abbrev has_all : ℕ → AllocRec → Bool
has_all want r = leb want r.count

abbrev any : AllocRec → Bool
any r = true

fit-kept : (want : ℕ) (xs : List AllocRec) → Kept (has_all want) NoLarger no_choice xs (fold (fitter want) no_choice xs)
unfolding fitter
fit-kept want xs = kept (has_all want) smaller NoLarger no-larger xs no_choice

size-kept : (xs : List AllocRec) → Kept any NoSmaller no_choice xs (fold bigger no_choice xs)
unfolding bigger
size-kept xs = kept any larger_record NoSmaller no-smaller xs no_choice

fit_found : (want : ℕ) (xs : List AllocRec) → (fold (fitter want) no_choice xs).found ≡ true → SmallestFit want xs (fold (fitter want) no_choice xs).rec
fit_found want xs e =
    let k = fit-kept want xs in
    let m = ⊎_elim (λ f. never f.0) (λ n. n) (k.from e) in
    record { there = m.0; enough = leb-true _ _ m.1; smallest = λ x n h. (k.beats x n (le-leb _ _ h)).1 }

size-found : (xs : List AllocRec) → (fold bigger no_choice xs).found ≡ true → Largest xs (fold bigger no_choice xs).rec
size-found xs e =
    let k = size-kept xs in
    let m = ⊎_elim (λ f. never f.0) (λ n. n) (k.from e) in
    record { there = m.0; greatest = λ x n. (k.beats x n refl).1 }

-- no record has all that is wanted where none is found
short : (want : ℕ) (xs : List AllocRec) → (fold (fitter want) no_choice xs).found ≡ false → (x : AllocRec) → Memᴰ x xs → (t : Bool) → leb want x.count ≡ t → x.count < want
short want xs e x m true q = never (sym e ∙ ((fit-kept want xs).beats x m q).0)
short want xs e x m false q = leb-false _ _ q

largest-of : (want : ℕ) (xs : List AllocRec) → ((x : AllocRec) → Memᴰ x xs → x.count < want) → Picks want xs (fold bigger no_choice xs)
unfolding fold
largest-of want [] h = none refl refl
largest-of want (r ∷ xs) h =
    let f = ((size-kept (r ∷ xs)).beats r (Memᴰ.head refl) refl).0 in
    largest f h (size-found (r ∷ xs) f)

picks_by : (want : ℕ) (xs : List AllocRec) (t : Bool) → (fold (fitter want) no_choice xs).found ≡ t
    → Picks want xs (cond t (fold (fitter want) no_choice xs) (fold bigger no_choice xs))
picks_by want xs true e = fits e (fit_found want xs e)
picks_by want xs false e = largest-of want xs (λ x m. short want xs e x m (leb want x.count) refl)

-- ---- `pick` by its meaning
pub pick-means : (l : FreeList) (want : ℕ) → l.len ≤ 64 → Picks want (free_of l) (pick_answer l want)
unfolding pick_answer picked_from
pick-means l want h = rw (le-ltb 64 l.len h) (picks_by want (free_of l) (fold (fitter want) no_choice (free_of l)).found refl)

fits-if : (want : ℕ) (xs : List AllocRec) (c : Choice) (x : AllocRec) → Memᴰ x xs → want ≤ x.count → Picks want xs c → (c.found ≡ true) × SmallestFit want xs c.rec
fits-if want xs c x m h (fits f p) = (f, p)
fits-if want xs c x m h (largest f s p) = let k = s x m in absurd (omega arith)
fits-if want xs c x m h (none n e) = absurd (Memᴰ.not-nil (rw e at m))

-- where some record has all that is wanted, the smallest such with the lowest start
pub pick-fits : (l : FreeList) (want : ℕ) → l.len ≤ 64 → (x : AllocRec) → Memᴰ x (free_of l) → want ≤ x.count → ((pick_answer l want).found ≡ true) × SmallestFit want (free_of l) (pick_answer l want).rec
pick-fits l want h x m k = fits-if want (free_of l) (pick_answer l want) x m k (pick-means l want h)

largest-if : (want : ℕ) (xs : List AllocRec) (c : Choice) (x : AllocRec) → Memᴰ x xs → ((y : AllocRec) → Memᴰ y xs → y.count < want) → Picks want xs c → (c.found ≡ true) × Largest xs c.rec
largest-if want xs c x m h (fits f p) = let k = h c.rec p.there in let e = p.enough in absurd (omega arith)
largest-if want xs c x m h (largest f s p) = (f, p)
largest-if want xs c x m h (none n e) = absurd (Memᴰ.not-nil (rw e at m))

-- where there are records and none has all that is wanted, the largest with the lowest start
pub pick-largest : (l : FreeList) (want : ℕ) → l.len ≤ 64 → (x : AllocRec) → Memᴰ x (free_of l) → ((y : AllocRec) → Memᴰ y (free_of l) → y.count < want)
    → ((pick_answer l want).found ≡ true) × Largest (free_of l) (pick_answer l want).rec
pick-largest l want h x m k = largest-if want (free_of l) (pick_answer l want) x m k (pick-means l want h)

none-if : (want : ℕ) (xs : List AllocRec) (c : Choice) → Picks want xs c → (c.found ≡ false) ↔ (xs ≡ [])
none-if want xs c (fits f p) = (λ e. never (sym e ∙ f), λ e. absurd (Memᴰ.not-nil (rw e at p.there)))
none-if want xs c (largest f s p) = (λ e. never (sym e ∙ f), λ e. absurd (Memᴰ.not-nil (rw e at p.there)))
none-if want xs c (none n e) = (λ x. e, λ x. ap (λ (y : Choice). y.found) n)

-- nothing exactly where there is no record
pub pick-none : (l : FreeList) (want : ℕ) → l.len ≤ 64 → ((pick_answer l want).found ≡ false) ↔ (free_of l ≡ [])
pick-none l want h = none-if want (free_of l) (pick_answer l want) (pick-means l want h)
