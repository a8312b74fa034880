-- What callers of the checksum use: a stamped structure keeps its length and every other byte, verifies, and stamping it again changes nothing.
-- Assumes nothing.
use mathlib.Core.Path.{◌≡◌, refl, ap, sym, ◌∙◌, subst}
use mathlib.Core.List.{List, [], ◌∷◌}
use mathlib.Core.Bool.{true, false}
use Prim.Native.Nat.{ℕ, ◌+◌, ◌^◌, ◌<◌, ◌≤◌}
use native.Mathlib.Omega.{arith}
use lib.Dec.{T, eqb}
use lib.ListN.{length}
use borrow.Author.Tests.{le-leb, eq-eqb}
use Rattle.endian.specs.Answer.{room, Put}
use Rattle.endian.specs.Bytes.{patch}
use Rattle.endian_little.specs.Bytes.{le_bytes, le_at}
use Rattle.endian.specs.Fields.{Field, Span, write_fields, part, nth, spans, clear, tidy}
use Rattle.endian.proofs.Fields.{patch-before, patch-after, patch-clear, patch-same, read-field}
use Rattle.endian.proofs.Laws.{length-patch}
use Rattle.endian_little.proofs.Laws.{length-le, le-written}
use Rattle.endian.proofs.Order.{patch-over}
use Rattle.crc_register.specs.Register.{zeroed}
use Rattle.crc.specs.Crc.{crc32c_of, cksum_of, stamped, verified}

-- ---- bounds
pub crc-fits : (xs : List ℕ) → crc32c_of xs < 2 ^ 32
unfolding crc32c_of
crc-fits xs = omega arith

pub cksum-fits : (off : ℕ) (xs : List ℕ) → cksum_of off xs < 2 ^ 32
unfolding cksum_of
cksum-fits off xs = crc-fits (zeroed off xs)

-- ---- a stamped structure
pub length-stamped : (off : ℕ) (xs : List ℕ) → length (stamped off xs) ≡ length xs
unfolding stamped
length-stamped off xs = length-patch off (le_bytes 4 (cksum_of off xs)) xs

-- every other byte is kept: a part that ends before the four bytes, and one that starts after them
pub stamped-before : (at n off : ℕ) (xs : List ℕ) → at + n ≤ off → part at n (stamped off xs) ≡ part at n xs
unfolding stamped
stamped-before at n off xs h = patch-after at n off (le_bytes 4 (cksum_of off xs)) xs h

pub stamped-after : (at n off : ℕ) (xs : List ℕ) → off + 4 ≤ at → part at n (stamped off xs) ≡ part at n xs
unfolding stamped
stamped-after at n off xs h =
    patch-before at n off (le_bytes 4 (cksum_of off xs)) xs (rw (length-le 4 (cksum_of off xs)) h)

-- the checksum does not hang on what stands in its place
pub cksum-over : (off : ℕ) (bs xs : List ℕ) → length bs ≡ 4 → cksum_of off (patch off bs xs) ≡ cksum_of off xs
unfolding cksum_of
cksum-over off bs xs e = ap crc32c_of (patch-over off (0 ∷ 0 ∷ 0 ∷ 0 ∷ []) bs xs (sym e))

pub stamped-twice : (off : ℕ) (xs : List ℕ) → stamped off (stamped off xs) ≡ stamped off xs
unfolding stamped
stamped-twice off xs =
    let bs = le_bytes 4 (cksum_of off xs) in
    ap (λ (k : ℕ). patch off (le_bytes 4 k) (patch off bs xs)) (cksum-over off bs xs (length-le 4 (cksum_of off xs)))
    ∙ patch-over off bs bs xs refl

-- ---- `verify`
pub not-verified : (off : ℕ) (xs : List ℕ) → room (off + 4) xs ≡ false → false ≡ verified off xs
unfolding verified
not-verified off xs h = rw h

pub is-verified : (off v w : ℕ) (xs : List ℕ) → room (off + 4) xs ≡ true → v ≡ le_at 4 off xs → w ≡ cksum_of off xs → eqb v w ≡ verified off xs
unfolding verified
is-verified off v w xs h e d = rw (h, e, d)

pub stamped-verifies : (off : ℕ) (xs : List ℕ) → off + 4 ≤ length xs → verified off (stamped off xs) ≡ true
unfolding stamped
stamped-verifies off xs h =
    let v = cksum_of off xs in
    let b = length-le 4 v in
    let k = length-patch off (le_bytes 4 v) xs in
    let p : part off 4 (patch off (le_bytes 4 v) xs) ≡ le_bytes 4 v = rw b at (patch-same off (le_bytes 4 v) xs (rw b h)) in
    sym (is-verified off v v (patch off (le_bytes 4 v) xs) (le-leb (off + 4) (length (patch off (le_bytes 4 v) xs)) (rw k h))
    (sym (le-written 4 v off (patch off (le_bytes 4 v) xs) (cksum-fits off xs) p))
    (sym (cksum-over off (le_bytes 4 v) xs b)))
    ∙ eq-eqb v v refl

-- ---- encoders
-- A field of a structure that was encoded and stamped is read back. The two tests on the spans `ss` are computed.
pub read-stamped : (ss : List Span) (m off : ℕ) → T (tidy m ss) → T (clear off 4 ss) → (fs : List Field) → spans fs ≡ ss → (xs : List ℕ) → m ≤ length xs
    → (k : ℕ) → k < length fs → part (nth fs k).at (length (nth fs k).bytes) (stamped off (write_fields fs xs)) ≡ (nth fs k).bytes
unfolding stamped
read-stamped ss m off t u fs e xs l k h =
    patch-clear fs off 4 _ (write_fields fs xs) (subst (λ (s : List Span). T (clear off 4 s)) (sym e) u) (length-le 4 _) k h
    ∙ read-field ss m t fs e xs l k h

-- the checksum that a stamped structure has
pub sum-stands : (off : ℕ) (xs : List ℕ) → off + 4 ≤ length xs → le_at 4 off (stamped off xs) ≡ cksum_of off xs
unfolding stamped
sum-stands off xs h =
    let v = cksum_of off xs in
    let b = length-le 4 v in
    le-written 4 v off (patch off (le_bytes 4 v) xs) (cksum-fits off xs) (rw b at (patch-same off (le_bytes 4 v) xs (rw b h)))

-- `r` and `zs` are what `stamp` answered and left of `ys`
pub stamp-in : (off : ℕ) {r : ℕ} {ys zs : List ℕ} → Put (off + 4) (stamped off ys) ys r zs → off + 4 ≤ length ys → zs ≡ stamped off ys
stamp-in off {r} {ys} {zs} p h = p.bytes ∙ rw (le-leb (off + 4) (length ys) h) refl
