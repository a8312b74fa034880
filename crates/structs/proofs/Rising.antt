-- Fields in rising order do not meet: one test for structures of fixed and of variable length.
-- Assumes nothing.
use mathlib.Core.Path.{sym, subst}
use mathlib.Core.List.{List, [], ◌∷◌}
use mathlib.Core.Bool.{Bool, true, false, ◌&&◌, ◌||◌}
use Prim.Native.Nat.{ℕ, ◌+◌, ◌≤◌}
use native.Mathlib.Omega.{arith}
use lib.Dec.{T, leb, leb→le}
use borrow.Author.Tests.{le-leb}
use Rattle.endian.specs.Fields.{Span, clear, tidy}
use Rattle.endian.proofs.Fields.{and_left, and_right}

-- each span starts at the end of the one before or behind it, the first at `o` or behind it
abbrev pub rises : ℕ → List Span → Bool
rises o [] = true
rises o (s ∷ ss) = leb o s.from && rises (s.from + s.size) ss

-- the end of the last
abbrev pub end : ℕ → List Span → ℕ
end o [] = o
end o (s ∷ ss) = end (s.from + s.size) ss

pub both : (a b : Bool) → T a → T b → T (a && b)
both true b s t = t
both false b s t = absurd s

pub le_test : (m n : ℕ) → m ≤ n → T (leb m n)
le_test m n h = subst T (sym (le-leb m n h)) tt

left_or : (a b : Bool) → T a → T (a || b)
left_or true b t = tt
left_or false b t = absurd t

rises-least : (o : ℕ) (ss : List Span) → T (rises o ss) → o ≤ end o ss
rises-least o [] t = omega arith
rises-least o (s ∷ ss) t =
    let a = leb→le o s.from (and_left (leb o s.from) (rises (s.from + s.size) ss) t) in
    let b = rises-least (s.from + s.size) ss (and_right (leb o s.from) (rises (s.from + s.size) ss) t) in
    omega arith

rises-clear : (off n o : ℕ) (ss : List Span) → off + n ≤ o → T (rises o ss) → T (clear off n ss)
rises-clear off n o [] h t = tt
rises-clear off n o (s ∷ ss) h t =
    let a = leb→le o s.from (and_left (leb o s.from) (rises (s.from + s.size) ss) t) in
    both (leb (off + n) s.from || leb (s.from + s.size) off) (clear off n ss)
    (left_or (leb (off + n) s.from) (leb (s.from + s.size) off) (le_test (off + n) s.from (omega arith)))
    (rises-clear off n (s.from + s.size) ss (omega arith) (and_right (leb o s.from) (rises (s.from + s.size) ss) t))

pub rises-tidy : (o m : ℕ) (ss : List Span) → T (rises o ss) → end o ss ≤ m → T (tidy m ss)
rises-tidy o m [] t h = tt
rises-tidy o m (s ∷ ss) t h =
    let u = and_right (leb o s.from) (rises (s.from + s.size) ss) t in
    let b = rises-least (s.from + s.size) ss u in
    both (leb (s.from + s.size) m && clear s.from s.size ss) (tidy m ss)
    (both (leb (s.from + s.size) m) (clear s.from s.size ss) (le_test (s.from + s.size) m (omega arith)) (rises-clear s.from s.size (s.from + s.size) ss (omega arith) u))
    (rises-tidy (s.from + s.size) m ss u h)
