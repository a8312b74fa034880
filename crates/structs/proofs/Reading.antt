-- What a buffer says that holds the fields of a structure: each number is read back, and no other fields at the same places stand there.
-- Assumes nothing.
use mathlib.Core.Bool.{Bool, true, false, ◌||◌}
use mathlib.Core.Path.{◌≡◌, refl, ap, ap₂, sym, ◌∙◌, subst}
use mathlib.Core.List.{List, [], ◌∷◌, ◌++◌, append-nil}
use Prim.Native.Nat.{ℕ, suc, ◌+◌, ◌≤◌, ◌<◌, ◌^◌}
use native.Mathlib.Omega.{arith}
use lib.Dec.{T, leb}
use borrow.Author.Tests.{le-leb}
use lib.ListN.{length, drop_of_length-le}
use Rattle.endian.specs.Bytes.{be_bytes, be_at, patch, numbers_bytes}
use Rattle.endian.specs.Fields.{Field, Span, field, byte_run, write_fields, part, nth, spans, tidy}
use Rattle.endian.proofs.Laws.{length-be, patch-split, patch-append}
use Rattle.endian.proofs.Order.{trade}
use Rattle.endian.proofs.Fields.{read-field, at-written}
use Rattle.structs.specs.Holds.{Holds, numbered}

-- fields that were written and do not meet are held
pub held : (ss : List Span) (m : ℕ) → T (tidy m ss) → (fs : List Field) → spans fs ≡ ss → (xs : List ℕ) → m ≤ length xs → Holds fs (write_fields fs xs)
held ss m t fs e xs l k h = read-field ss m t fs e xs l k h

-- every number that is a field is read back
pub read_number : (fs : List Field) (zs : List ℕ) → Holds fs zs → (k off n v : ℕ) → k < length fs → nth fs k ≡ field off n v → v < 256 ^ n → be_at n off zs ≡ v
read_number fs zs h k off n v l e b =
    let p : part off (length (be_bytes n v)) zs ≡ be_bytes n v = subst (λ (f : Field). part f.at (length f.bytes) zs ≡ f.bytes) e (h k l) in
    at-written n v off zs b (ap (λ (j : ℕ). part off j zs) (sym (length-be n v)) ∙ p)

head : List Span → Span
head [] = record { from = 0; size = 0 }
head (s ∷ ss) = s

tail : List Span → List Span
tail [] = []
tail (s ∷ ss) = ss

same-field : (f g : Field) → f.at ≡ g.at → f.bytes ≡ g.bytes → f ≡ g
same-field f g e d = ap₂ (λ (a : ℕ) (b : List ℕ). record { at = a; bytes = b }) e d

-- Fields at the same places that one buffer holds are the same: two structures of equal bytes have equal fields.
pub one-reading : (fs gs : List Field) (zs : List ℕ) → spans fs ≡ spans gs → Holds fs zs → Holds gs zs → fs ≡ gs
unfolding head tail
one-reading [] [] zs e h j = refl
one-reading [] (g ∷ gs) zs e h j = absurd (let z : ◌≡◌ {A = ℕ} 0 1 = cc in omega arith)
one-reading (f ∷ fs) [] zs e h j = absurd (let z : ◌≡◌ {A = ℕ} 0 1 = cc in omega arith)
one-reading (f ∷ fs) (g ∷ gs) zs e h j =
    let s = ap head e in
    let a : f.at ≡ g.at = ap (λ (x : Span). x.from) s in
    let n : length f.bytes ≡ length g.bytes = ap (λ (x : Span). x.size) s in
    let b : f.bytes ≡ g.bytes = sym (h 0 (omega arith)) ∙ ap₂ (λ (o m : ℕ). part o m zs) a n ∙ j 0 (omega arith) in
    ap₂ (λ (x : Field) (l : List Field). x ∷ l) (same-field f g a b)
    (one-reading fs gs zs (ap tail e) (λ k l. h (suc k) (omega arith)) (λ k l. j (suc k) (omega arith)))

-- some fields, and then others
pub write-append : (fs gs : List Field) (xs : List ℕ) → write_fields (fs ++ gs) xs ≡ write_fields gs (write_fields fs xs)
write-append [] gs xs = refl
write-append (f ∷ fs) gs xs = write-append fs gs (patch f.at f.bytes xs)

-- bytes over a whole buffer
pub patch-whole : (bs xs : List ℕ) → length bs ≡ length xs → patch 0 bs xs ≡ bs
patch-whole bs xs e =
    patch-split 0 bs xs (omega arith)
    ∙ ap (λ (l : List ℕ). bs ++ l) (drop_of_length-le xs (let h : length xs ≤ 0 + length bs = omega arith in h))
    ∙ append-nil bs

-- two runs that do not meet
left_or : (a b : Bool) → T a → T (a || b)
left_or true b t = tt
left_or false b t = absurd t

pub patch-apart : (o p : ℕ) (bs cs xs : List ℕ) → o + length bs ≤ p → patch o bs (patch p cs xs) ≡ patch p cs (patch o bs xs)
patch-apart o p bs cs xs h =
    trade (byte_run o bs) (byte_run p cs) xs (left_or (leb (o + length bs) p) (leb (p + length cs) o) (subst T (sym (le-leb (o + length bs) p h)) tt))

-- consecutive numbers are fields one behind the other
pub run-fields : (n off : ℕ) (vs xs : List ℕ) → patch off (numbers_bytes n vs) xs ≡ write_fields (numbered n off vs) xs
unfolding numbers_bytes patch
run-fields n off [] xs = refl
run-fields n off (v ∷ vs) xs =
    let b = length-be n v in
    let h : off + length (be_bytes n v) ≤ off + n = omega arith in
    patch-append off (be_bytes n v) (numbers_bytes n vs) xs
    ∙ ap (λ (k : ℕ). patch off (be_bytes n v) (patch (off + k) (numbers_bytes n vs) xs)) b
    ∙ patch-apart off (off + n) (be_bytes n v) (numbers_bytes n vs) xs h
    ∙ run-fields n (off + n) vs (patch off (be_bytes n v) xs)
