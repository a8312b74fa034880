-- Fields that do not meet may be written in any order: one law, so that a specification lists them as they stand on disk, and code writes them as it likes.
-- Assumes nothing.
use mathlib.Core.Path.{◌≡◌, refl, ap, sym, ◌∙◌, subst}
use mathlib.Core.List.{List, [], ◌∷◌}
use mathlib.Core.Bool.{Bool, true, false, ◌&&◌, ◌||◌, cond}
use Prim.Native.Nat.{ℕ, suc, ◌+◌, ◌*◌, ◌≤◌, ◌<◌}
use native.Mathlib.Omega.{arith}
use lib.Dec.{T, leb, leb→le}
use lib.ListN.{length, get_or, set, drop, drop_of_length-le}
use lib.Seq.{set_comm, set-set, drop-cons}
use native.Mathlib.Nat.{mul-suc}
use native.Mathlib.Numerals.{add-one}
use Rattle.endian.specs.Bytes.{patch, be_bytes, numbers_bytes}
use Rattle.endian.specs.Fields.{Field, Span, write_fields, spans, clear, tidy, insert, sorted}
use Rattle.endian.proofs.Laws.{length-be, patch-append}
use Rattle.endian.proofs.Fields.{and_left, and_right, either}

ne-lt : (i j : ℕ) → i < j → i ≡ j → ⊥
ne-lt i j h e = omega arith

ne-gt : (i j : ℕ) → j < i → i ≡ j → ⊥
ne-gt i j h e = omega arith

-- a store before, or after, a run of stores
pub store-before : (i a p : ℕ) (cs xs : List ℕ) → i < p → set (patch p cs xs) i a ≡ patch p cs (set xs i a)
unfolding patch
store-before i a p [] xs h = refl
store-before i a p (c ∷ cs) xs h =
    set_comm (patch (suc p) cs xs) p i c a (ne-gt p i h) ∙ ap (λ (l : List ℕ). set l p c) (store-before i a (suc p) cs xs (omega arith))

store-after : (i a p : ℕ) (cs xs : List ℕ) → p + length cs ≤ i → set (patch p cs xs) i a ≡ patch p cs (set xs i a)
unfolding patch
store-after i a p [] xs h = refl
store-after i a p (c ∷ cs) xs h =
    set_comm (patch (suc p) cs xs) p i c a (ne-lt p i (omega arith)) ∙ ap (λ (l : List ℕ). set l p c) (store-after i a (suc p) cs xs (omega arith))

-- two runs that do not meet
before : (o p : ℕ) (bs cs xs : List ℕ) → o + length bs ≤ p → patch o bs (patch p cs xs) ≡ patch p cs (patch o bs xs)
unfolding patch
before o p [] cs xs h = refl
before o p (b ∷ bs) cs xs h =
    ap (λ (l : List ℕ). set l o b) (before (suc o) p bs cs xs (omega arith)) ∙ store-before o b p cs (patch (suc o) bs xs) (omega arith)

pub trade : (f g : Field) (xs : List ℕ) → T (leb (f.at + length f.bytes) g.at || leb (g.at + length g.bytes) f.at)
    → patch f.at f.bytes (patch g.at g.bytes xs) ≡ patch g.at g.bytes (patch f.at f.bytes xs)
trade f g xs t =
    let m = leb (f.at + length f.bytes) g.at in
    let n = leb (g.at + length g.bytes) f.at in
    either (patch f.at f.bytes (patch g.at g.bytes xs) ≡ patch g.at g.bytes (patch f.at f.bytes xs)) m n t
    (λ a. before f.at g.at f.bytes g.bytes xs (leb→le (f.at + length f.bytes) g.at a))
    (λ b. sym (before g.at f.at g.bytes f.bytes xs (leb→le (g.at + length g.bytes) f.at b)))

-- a turn of a loop that writes numbers of `n` bytes one after the other: what is left to write, over what stands there now
module _ (n o i : ℕ) (vs ys : List ℕ) where
  pub run-next : (zs w : List ℕ) → i < length vs → patch (o + n * i) (numbers_bytes n (drop i vs)) ys ≡ w → zs ≡ patch (o + n * i) (be_bytes n (get_or vs i 0)) ys
      → patch (o + n * (i + 1)) (numbers_bytes n (drop (i + 1) vs)) zs ≡ w
  unfolding numbers_bytes
  run-next zs w h e d =
      let bs = be_bytes n (get_or vs i 0) in
      let cs = numbers_bytes n (drop (i + 1) vs) in
      let s : get_or vs i 0 ∷ drop (i + 1) vs ≡ drop i vs = rw add-one (sym (drop-cons vs i 0 h)) in
      let m : n * (i + 1) ≡ n * i + n = rw add-one (mul-suc n i) in
      let k : o + n * i + length bs ≡ o + n * (i + 1) = omega (arith, m, length-be n (get_or vs i 0)) in
      ap (patch (o + n * (i + 1)) cs) d ∙ sym (before (o + n * i) (o + n * (i + 1)) bs cs ys (omega (arith, k)))
      ∙ ap (λ (p : ℕ). patch (o + n * i) bs (patch p cs ys)) (sym k) ∙ sym (patch-append (o + n * i) bs cs ys)
      ∙ ap (λ (l : List ℕ). patch (o + n * i) (numbers_bytes n l) ys) s ∙ e

  pub run-done : (w : List ℕ) → length vs ≤ i → patch (o + n * i) (numbers_bytes n (drop i vs)) ys ≡ w → ys ≡ w
  unfolding patch numbers_bytes
  run-done w h e = rw (drop_of_length-le vs h) at e

both : (a b : Bool) → T a → T b → T (a && b)
both true b s t = t
both false b s t = absurd s

by-pick : (P : List Field → Type 0) (b : Bool) (x y : List Field) → P x → P y → P (cond b x y)
by-pick P true x y p q = p
by-pick P false x y p q = q

-- a field is put in its place
clear-insert : (off n : ℕ) (f : Field) (gs : List Field) → T (clear off n (spans (f ∷ gs))) → T (clear off n (spans (insert f gs)))
clear-insert off n f [] t = t
clear-insert off n f (g ∷ gs) t =
    let cf = leb (off + n) f.at || leb (f.at + length f.bytes) off in
    let cg = leb (off + n) g.at || leb (g.at + length g.bytes) off in
    let rest = clear off n (spans gs) in
    let u = and_right cf (cg && rest) t in
    by-pick (λ (l : List Field). T (clear off n (spans l))) (leb f.at g.at) (f ∷ (g ∷ gs)) (g ∷ insert f gs) t
    (both cg (clear off n (spans (insert f gs))) (and_left cg rest u) (clear-insert off n f gs (both cf rest (and_left cf (cg && rest) t) (and_right cg rest u))))

write-insert : (f : Field) (gs : List Field) (xs : List ℕ) → T (clear f.at (length f.bytes) (spans gs)) → write_fields (insert f gs) xs ≡ write_fields (f ∷ gs) xs
write-insert f [] xs t = refl
write-insert f (g ∷ gs) xs t =
    let meet = leb (f.at + length f.bytes) g.at || leb (g.at + length g.bytes) f.at in
    let rest = clear f.at (length f.bytes) (spans gs) in
    by-pick (λ (l : List Field). write_fields l xs ≡ write_fields (f ∷ (g ∷ gs)) xs) (leb f.at g.at) (f ∷ (g ∷ gs)) (g ∷ insert f gs) refl
    (write-insert f gs (patch g.at g.bytes xs) (and_right meet rest t) ∙ ap (write_fields gs) (trade f g xs (and_left meet rest t)))

clear-sorted : (off n : ℕ) (fs : List Field) → T (clear off n (spans fs)) → T (clear off n (spans (sorted fs)))
clear-sorted off n [] t = t
clear-sorted off n (f ∷ fs) t =
    let cf = leb (off + n) f.at || leb (f.at + length f.bytes) off in
    clear-insert off n f (sorted fs) (both cf (clear off n (spans (sorted fs))) (and_left cf (clear off n (spans fs)) t)
    (clear-sorted off n fs (and_right cf (clear off n (spans fs)) t)))

sort-tidy : (fs : List Field) (m : ℕ) (xs : List ℕ) → T (tidy m (spans fs)) → write_fields (sorted fs) xs ≡ write_fields fs xs
sort-tidy [] m xs t = refl
sort-tidy (f ∷ fs) m xs t =
    let o = f.at in
    let n = length f.bytes in
    let u = leb (o + n) m && clear o n (spans fs) in
    write-insert f (sorted fs) xs (clear-sorted o n fs (and_right (leb (o + n) m) (clear o n (spans fs)) (and_left u (tidy m (spans fs)) t)))
    ∙ sort-tidy fs m (patch o f.bytes xs) (and_right u (tidy m (spans fs)) t)

-- the fields `fs` stand as `ss` says, and a test that antt computes says that `ss` is tidy
pub any_order : (ss : List Span) (m : ℕ) → T (tidy m ss) → (fs : List Field) → spans fs ≡ ss → (xs : List ℕ) → write_fields (sorted fs) xs ≡ write_fields fs xs
any_order ss m t fs e xs = sort-tidy fs m xs (subst (λ (s : List Span). T (tidy m s)) (sym e) t)

-- bytes that are written over
pub patch-over : (off : ℕ) (bs cs xs : List ℕ) → length bs ≡ length cs → patch off bs (patch off cs xs) ≡ patch off bs xs
unfolding patch
patch-over off [] [] xs e = refl
patch-over off [] (c ∷ cs) xs e = absurd (omega arith)
patch-over off (b ∷ bs) [] xs e = absurd (omega arith)
patch-over off (b ∷ bs) (c ∷ cs) xs e =
    ap (λ (l : List ℕ). set l off b) (sym (store-before off c (suc off) bs (patch (suc off) cs xs) (omega arith)) ∙ ap (λ (l : List ℕ). set l off c) (patch-over (suc off) bs cs xs (omega arith)))
    ∙ set-set (patch (suc off) bs xs) off c b
