-- The laws of `already_right`: for `stamp` and for encoders, and what a yes means in bytes.
-- Assumes nothing.
use mathlib.Core.Path.{◌≡◌, refl, ap, ap₂, sym, ◌∙◌, subst}
use mathlib.Core.List.{List, [], ◌∷◌}
use mathlib.Core.Bool.{Bool, true, false, ◌&&◌}
use Prim.Native.Nat.{ℕ, zero, suc, ◌+◌, ◌*◌, ◌≤◌, ◌<◌}
use native.Mathlib.Nat.{add-zero, add-mul}
use native.Mathlib.Numerals.{add-one}
use native.Mathlib.Omega.{arith}
use lib.Dec.{T, eqb}
use lib.ListN.{length, get_or, drop, length-drop}
use lib.Seq.{length-take-le, ext_get_or, get_or-take, get_or-drop}
use borrow.Author.Tests.{le-leb, eq-eqb, eqb-true, leb-true}
use Rattle.endian.specs.Answer.{room, valued, Put}
use Rattle.endian.specs.Bytes.{patch, Octets}
use Rattle.endian.specs.Fields.{Field, write_fields, part, spans, clear}
use Rattle.endian.proofs.Fields.{write-clear, write-length}
use Rattle.endian.proofs.Laws.{refused-by, done-by, put_in}
use Rattle.endian_little.specs.Bytes.{le_bytes, le_at}
use Rattle.endian_little.proofs.Laws.{le-part}
use Rattle.crc.specs.Crc.{cksum_of, stamped, verified}
use Rattle.crc.specs.Right.{stored_at, already_right, spaced}
use Rattle.crc.specs.Means.{SameSums, Inside}
use Rattle.crc.proofs.Laws.{length-stamped, sum-stands}

pub and-true : (b : Bool) → b && true ≡ b
and-true true = refl
and-true false = refl

-- ---- a checksum that stands inside

pub stored-in : (off : ℕ) (xs : List ℕ) → off + 4 ≤ length xs → stored_at off xs ≡ le_at 4 off xs
unfolding stored_at
stored-in off xs h = rw (le-leb (off + 4) (length xs) h) refl

pub stored-stamped : (off : ℕ) (xs : List ℕ) → off + 4 ≤ length xs → stored_at off (stamped off xs) ≡ cksum_of off xs
stored-stamped off xs h = stored-in off (stamped off xs) (rw (length-stamped off xs) h) ∙ sum-stands off xs h

-- fields that leave the checksum's place alone
pub stored-kept : (fs : List Field) (off : ℕ) (xs : List ℕ) → T (clear off 4 (spans fs)) → stored_at off (write_fields fs xs) ≡ stored_at off xs
unfolding stored_at
stored-kept fs off xs t =
    rw (write-length fs xs)
    (ap (valued (room (off + 4) xs)) (le-part 4 off (write_fields fs xs) ∙ ap (le_at 4 0) (write-clear fs off 4 xs t) ∙ sym (le-part 4 off xs)))

-- ---- one place

pub right-one : (off : ℕ) (xs ys : List ℕ) {b : Bool} → b ≡ eqb (stored_at off xs) (stored_at off ys) → b ≡ already_right (off ∷ []) xs ys
unfolding already_right
right-one off xs ys e = e ∙ sym (and-true (eqb (stored_at off xs) (stored_at off ys)))

-- what stood there counts, and nothing else of the old bytes
pub right_kept : (off : ℕ) (xs ys zs : List ℕ) → stored_at off xs ≡ stored_at off ys → already_right (off ∷ []) xs zs ≡ already_right (off ∷ []) ys zs
unfolding already_right
right_kept off xs ys zs e = ap (λ (k : ℕ). eqb k (stored_at off zs) && true) e

-- ---- `stamp`: `w` is the checksum, `v` what stood there, `left` what the write left

pub stamp-done : (off v w q : ℕ) (old left : List ℕ) → room (off + 4) old ≡ true → w ≡ cksum_of off old → v ≡ stored_at off old → Put (off + 4) (patch off (le_bytes 4 w) old) old q left
    → (Put (off + 4) (stamped off old) old 0 left) × (eqb v w ≡ (room (off + 4) old && already_right (off ∷ []) old (stamped off old)))
unfolding stamped
stamp-done off v w q old left t e s p =
    let h = leb-true (off + 4) (length old) t in
    (done-by t (put_in p h ∙ ap (λ (k : ℕ). patch off (le_bytes 4 k) old) e), right-one off old (stamped off old) (ap₂ eqb s (e ∙ sym (stored-stamped off old h))) ∙ rw t refl)

pub stamp-refused : (off : ℕ) (old : List ℕ) → room (off + 4) old ≡ false
    → (Put (off + 4) (stamped off old) old 27 old) × (false ≡ (room (off + 4) old && already_right (off ∷ []) old (stamped off old)))
stamp-refused off old t = (refused-by t, rw t refl)

-- For `stamp` alone a yes is that the old buffer verified.
verified-by : (off : ℕ) (xs : List ℕ) (t : Bool) → room (off + 4) xs ≡ t → (room (off + 4) xs && already_right (off ∷ []) xs (stamped off xs)) ≡ verified off xs
unfolding verified
verified-by off xs true t =
    let h = leb-true (off + 4) (length xs) t in
    rw t (sym (right-one off xs (stamped off xs) refl) ∙ ap₂ eqb (stored-in off xs h) (stored-stamped off xs h))
verified-by off xs false t = rw t refl

pub stamp-verified : (off : ℕ) (xs : List ℕ) → (room (off + 4) xs && already_right (off ∷ []) xs (stamped off xs)) ≡ verified off xs
stamp-verified off xs = verified-by off xs (room (off + 4) xs) refl

-- ---- what a yes means

-- four bytes are told from others by their number
digits : (a b x y : ℕ) → a < 256 → b < 256 → a + 256 * x ≡ b + 256 * y → (a ≡ b) × (x ≡ y)
digits a b x y h k e = (omega arith, omega arith)

same_digits : (n off : ℕ) (xs ys : List ℕ) → ((i : ℕ) → get_or xs i 0 < 256) → ((i : ℕ) → get_or ys i 0 < 256) → le_at n off xs ≡ le_at n off ys
    → (i : ℕ) → i < n → get_or xs (off + i) 0 ≡ get_or ys (off + i) 0
unfolding le_at
same_digits zero off xs ys h k e i l = absurd (omega arith)
same_digits (suc n) off xs ys h k e zero l =
    rw add-zero (digits (get_or xs off 0) (get_or ys off 0) (le_at n (suc off) xs) (le_at n (suc off) ys) (h off) (k off) e).0
same_digits (suc n) off xs ys h k e (suc i) l =
    let s : off + suc i ≡ suc off + i = omega arith in
    rw s (same_digits n (suc off) xs ys h k (digits (get_or xs off 0) (get_or ys off 0) (le_at n (suc off) xs) (le_at n (suc off) ys) (h off) (k off) e).1 i (omega arith))

part-size : (off : ℕ) (xs : List ℕ) → off + 4 ≤ length xs → length (part off 4 xs) ≡ 4
part-size off xs h = length-take-le 4 (drop off xs) (omega (arith, length-drop off xs))

same-part : (off : ℕ) (xs ys : List ℕ) → Octets xs → Octets ys → off + 4 ≤ length xs → off + 4 ≤ length ys → stored_at off xs ≡ stored_at off ys → part off 4 xs ≡ part off 4 ys
same-part off xs ys bx by lx ly e =
    let d = same_digits 4 off xs ys bx by (sym (stored-in off xs lx) ∙ e ∙ stored-in off ys ly) in
    let sx = part-size off xs lx in
    let sy = part-size off ys ly in
    ext_get_or 0 (part off 4 xs) (part off 4 ys) (sx ∙ sym sy)
    (λ i h. let l : i < 4 = omega arith in get_or-take 4 (drop off xs) i 0 l ∙ get_or-drop off xs i 0 ∙ d i l ∙ sym (get_or-take 4 (drop off ys) i 0 l ∙ get_or-drop off ys i 0))

and_both : (a b : Bool) → a && b ≡ true → (a ≡ true) × (b ≡ true)
and_both true b e = (refl, e)
and_both false b e = absurd (let z : ◌≡◌ {A = ℕ} 0 1 = cc in omega arith)

-- Yes exactly where the checksum bytes before are those after, at every place.
pub right-bytes : (places before after : List ℕ) → Octets before → Octets after → length after ≡ length before → Inside places (length before)
    → already_right places before after ≡ true → SameSums places before after
unfolding already_right
right-bytes [] before after b c l i e = tt
right-bytes (o ∷ os) before after b c l i e =
    let p = and_both (eqb (stored_at o before) (stored_at o after)) (already_right os before after) e in
    (same-part o before after b c i.0 (rw l i.0) (eqb-true (stored_at o before) (stored_at o after) p.0), right-bytes os before after b c l i.1 p.1)

same-stored : (off : ℕ) (xs ys : List ℕ) → length ys ≡ length xs → part off 4 xs ≡ part off 4 ys → stored_at off xs ≡ stored_at off ys
unfolding stored_at
same-stored off xs ys l e = rw l (ap (valued (room (off + 4) xs)) (le-part 4 off xs ∙ ap (le_at 4 0) e ∙ sym (le-part 4 off ys)))

pub bytes-right : (places before after : List ℕ) → length after ≡ length before → SameSums places before after → already_right places before after ≡ true
unfolding already_right
bytes-right [] before after l s = refl
bytes-right (o ∷ os) before after l s =
    rw (eq-eqb (stored_at o before) (stored_at o after) (same-stored o before after l s.0), bytes-right os before after l s.1) refl

-- IDEMPOTENCE: bytes that stay as they are have their checksums already.
pub right-again : (places xs : List ℕ) → already_right places xs xs ≡ true
unfolding already_right
right-again [] xs = refl
right-again (o ∷ os) xs = rw (eq-eqb (stored_at o xs) (stored_at o xs) refl, right-again os xs) refl

-- ---- places of parts that lie one behind the other: `n` parts of `step` bytes from `base` on, each with its checksum at `off`
pub spaced-inside : (off base step n len : ℕ) → off + 4 ≤ step → base + n * step ≤ len → Inside (spaced (base + off) step n) len
unfolding spaced
spaced-inside off base step zero len h k = tt
spaced-inside off base step (suc n) len h k =
    let e : suc n * step ≡ n * step + step = rw (← add-one n) (let g : (n + 1) * step ≡ n * step + step = omega (arith, add-mul n 1 step) in g) in
    let d : base + step + off ≡ base + off + step = omega arith in
    (omega arith, subst (λ (o : ℕ). Inside (spaced o step n) len) d (spaced-inside off (base + step) step n len h (omega arith)))
