-- Two buffers of one length that agree at a place: they still agree there after the same bytes are written into both, and after any that miss it.
-- Assumes nothing.
use mathlib.Core.Path.{◌≡◌, refl, sym, ◌∙◌}
use mathlib.Core.List.{List, [], ◌∷◌, ◌++◌}
use mathlib.Core.Logic.{◌⊎◌, inl, inr}
use Prim.Native.Nat.{ℕ, zero, suc, ◌+◌, ◌≤◌, ◌<◌}
use native.Mathlib.Omega.{arith}
use lib.ListN.{length, get_or, set}
use lib.Seq.{get_or-set_other}
use Rattle.endian.specs.Bytes.{patch}
use Rattle.endian.specs.Fields.{Field, write_fields}
use Rattle.endian.proofs.Laws.{length-patch}

-- ---- the same bytes

set-alike : (xs ys : List ℕ) (o b i : ℕ) → length xs ≡ length ys → get_or xs i 0 ≡ get_or ys i 0 → get_or (set xs o b) i 0 ≡ get_or (set ys o b) i 0
set-alike [] [] o b i l e = refl
set-alike [] (y ∷ ys) o b i l e = absurd (omega arith)
set-alike (x ∷ xs) [] o b i l e = absurd (omega arith)
set-alike (x ∷ xs) (y ∷ ys) zero b zero l e = refl
set-alike (x ∷ xs) (y ∷ ys) zero b (suc i) l e = e
set-alike (x ∷ xs) (y ∷ ys) (suc o) b zero l e = e
set-alike (x ∷ xs) (y ∷ ys) (suc o) b (suc i) l e = set-alike xs ys o b i (omega arith) e

patch-alike : (off : ℕ) (bs xs ys : List ℕ) (i : ℕ) → length xs ≡ length ys → get_or xs i 0 ≡ get_or ys i 0 → get_or (patch off bs xs) i 0 ≡ get_or (patch off bs ys) i 0
unfolding patch
patch-alike off [] xs ys i l e = e
patch-alike off (b ∷ bs) xs ys i l e =
    set-alike (patch (suc off) bs xs) (patch (suc off) bs ys) off b i (length-patch (suc off) bs xs ∙ l ∙ sym (length-patch (suc off) bs ys)) (patch-alike (suc off) bs xs ys i l e)

write-alike : (fs : List Field) (xs ys : List ℕ) (i : ℕ) → length xs ≡ length ys → get_or xs i 0 ≡ get_or ys i 0 → get_or (write_fields fs xs) i 0 ≡ get_or (write_fields fs ys) i 0
write-alike [] xs ys i l e = e
write-alike (f ∷ fs) xs ys i l e =
    write-alike fs (patch f.at f.bytes xs) (patch f.at f.bytes ys) i (length-patch f.at f.bytes xs ∙ l ∙ sym (length-patch f.at f.bytes ys))
    (patch-alike f.at f.bytes xs ys i l e)

-- the same bytes behind both
pub append-alike : (xs ys zs : List ℕ) (i : ℕ) → length xs ≡ length ys → get_or xs i 0 ≡ get_or ys i 0 → get_or (xs ++ zs) i 0 ≡ get_or (ys ++ zs) i 0
append-alike [] [] zs i l e = refl
append-alike [] (y ∷ ys) zs i l e = absurd (omega arith)
append-alike (x ∷ xs) [] zs i l e = absurd (omega arith)
append-alike (x ∷ xs) (y ∷ ys) zs zero l e = e
append-alike (x ∷ xs) (y ∷ ys) zs (suc i) l e = append-alike xs ys zs i (omega arith) e

-- ---- bytes elsewhere

-- a place before, or behind, n bytes at off
abbrev pub Away : ℕ → ℕ → ℕ → Type 0
Away i off n = (i < off) ⊎ (off + n ≤ i)

before : (off : ℕ) (bs xs : List ℕ) (i : ℕ) → i < off → get_or (patch off bs xs) i 0 ≡ get_or xs i 0
unfolding patch
before off [] xs i h = refl
before off (b ∷ bs) xs i h = get_or-set_other (patch (suc off) bs xs) off i b 0 (λ e. omega arith) ∙ before (suc off) bs xs i (omega arith)

behind : (off : ℕ) (bs xs : List ℕ) (i : ℕ) → off + length bs ≤ i → get_or (patch off bs xs) i 0 ≡ get_or xs i 0
unfolding patch
behind off [] xs i h = refl
behind off (b ∷ bs) xs i h = get_or-set_other (patch (suc off) bs xs) off i b 0 (λ e. omega arith) ∙ behind (suc off) bs xs i (omega arith)

pub patch-away : (off : ℕ) (bs xs : List ℕ) (i : ℕ) → Away i off (length bs) → get_or (patch off bs xs) i 0 ≡ get_or xs i 0
patch-away off bs xs i (inl h) = before off bs xs i h
patch-away off bs xs i (inr h) = behind off bs xs i h

-- ---- fields

-- fields that are the same but for one: they leave the same away from it
pub one-differs : (es : List Field) (f h : Field) (bs : List Field) (xs : List ℕ) (i : ℕ) → Away i f.at (length f.bytes) → Away i h.at (length h.bytes)
    → get_or (write_fields (es ++ (f ∷ bs)) xs) i 0 ≡ get_or (write_fields (es ++ (h ∷ bs)) xs) i 0
one-differs [] f h bs xs i a b =
    write-alike bs (patch f.at f.bytes xs) (patch h.at h.bytes xs) i (length-patch f.at f.bytes xs ∙ sym (length-patch h.at h.bytes xs))
    (patch-away f.at f.bytes xs i a ∙ sym (patch-away h.at h.bytes xs i b))
one-differs (c ∷ es) f h bs xs i a b = one-differs es f h bs (patch c.at c.bytes xs) i a b
