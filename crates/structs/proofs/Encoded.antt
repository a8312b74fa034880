-- The laws of `Encoded`: for an encoder's own proof, what its answer means, and that encoding twice is encoding once.
-- Assumes nothing.
use mathlib.Core.Path.{◌≡◌, refl, ap, sym, ◌∙◌, subst}
use mathlib.Core.List.{List, [], ◌∷◌}
use mathlib.Core.Bool.{Bool, true, false, ◌&&◌, ◌||◌}
use Prim.Native.Nat.{ℕ, ◌+◌, ◌≤◌}
use lib.Dec.{T, eqb, leb}
use lib.ListN.{length}
use borrow.Author.Tests.{le-leb, ne_eqb, eqb-true}
use native.Mathlib.Omega.{arith}
use Rattle.endian.specs.Answer.{room, Put}
use Rattle.endian.specs.Bytes.{patch, Octets}
use Rattle.endian.specs.Fields.{Field, Span, byte_run, write_fields, spans, clear, tidy}
use Rattle.endian.proofs.Fields.{write-length, and_left, and_right}
use Rattle.endian.proofs.Order.{trade, patch-over}
use Rattle.endian_little.specs.Bytes.{le_bytes}
use Rattle.endian_little.proofs.Laws.{length-le}
use Rattle.crc.specs.Crc.{cksum_of, stamped}
use Rattle.crc.specs.Right.{already_right}
use Rattle.crc.specs.Means.{Inside, SameSums}
use Rattle.crc.proofs.Laws.{stamped-twice}
use Rattle.crc.proofs.Right.{stored-kept, right_kept, right-bytes, bytes-right, right-again}
use Rattle.structs.specs.Encoded.{Encoded}
use Rattle.structs.proofs.Written.{refused, done, written_in}

-- the number `r` applies, and the bytes are as they were
pub not-encoded : {n r : ℕ} {sums new old : List ℕ} → n ≡ r → eqb r 0 ≡ false → Encoded n sums new old r false old
not-encoded e z = record { written = refused e z; right_is = rw (e, z) refl }

-- no number applies, the new bytes stand, and it was looked whether the checksums did
pub encoded : {n : ℕ} {right : Bool} {sums new old left : List ℕ} → n ≡ 0 → left ≡ new → right ≡ already_right sums old new → Encoded n sums new old 0 right left
encoded e d s = record { written = done e d; right_is = s ∙ rw e refl }

-- An encoder that writes fields clear of its checksum over `old`, which leaves `ys`, and stamps them: `r`, `right` and `left` are what `stamp`
-- answered and left, and are the encoder's. The test on the spans `ss` is computed.
pub stamps : (ss : List Span) (off : ℕ) → T (clear off 4 ss) → (fs : List Field) → spans fs ≡ ss → {n r : ℕ} {right : Bool} {old ys left : List ℕ}
    → n ≡ 0 → off + 4 ≤ length old → ys ≡ write_fields fs old
    → (Put (off + 4) (stamped off ys) ys r left) × (right ≡ (room (off + 4) ys && already_right (off ∷ []) ys (stamped off ys)))
    → Encoded n (off ∷ []) (stamped off (write_fields fs old)) old r right left
stamps ss off t fs e {n} {r} {right} {old} {ys} {left} z h w p =
    let l : off + 4 ≤ length ys = rw (w, write-length fs old) h in
    let a = le-leb (off + 4) (length ys) l in
    let d : left ≡ stamped off (write_fields fs old) = p.0.bytes ∙ rw a (ap (stamped off) w) in
    let k = stored-kept fs off old (subst (λ (s : List Span). T (clear off 4 s)) (sym e) t) in
    let q : (room (off + 4) ys && already_right (off ∷ []) ys (stamped off ys)) ≡ already_right (off ∷ []) old (stamped off (write_fields fs old)) =
    rw a (ap (λ (l : List ℕ). already_right (off ∷ []) l (stamped off l)) w ∙ right_kept off (write_fields fs old) old (stamped off (write_fields fs old)) k) in
    record {
      written = record { number = p.0.number ∙ rw a (sym z); bytes = d ∙ rw z refl };
      right_is = p.1 ∙ q ∙ rw z refl;
    }

-- ---- what an answer says, of any encoder

said : (n : ℕ) (t b : Bool) → eqb n 0 ≡ t → (t && b) ≡ true → (n ≡ 0) × (b ≡ true)
said n true b e w = (eqb-true n 0 e, w)
said n false b e w = absurd (let z : ◌≡◌ {A = ℕ} 0 1 = cc in omega arith)

-- A YES MEANS that the call wasn't refused, and that the lent buffer had the same checksum bytes before as after.
pub right-means : {n r : ℕ} {right : Bool} {sums new old left : List ℕ} → Encoded n sums new old r right left → right ≡ true → Octets old → Octets left → length left ≡ length old
    → Inside sums (length old) → (r ≡ 0) × SameSums sums old left
right-means {n} {r} {right} {sums} {new} {old} {left} w y b c l i =
    let s = said n (eqb n 0) (already_right sums old new) refl (sym w.right_is ∙ y) in
    let d : left ≡ new = written_in w.written s.0 in
    (w.written.number ∙ s.0, right-bytes sums old left b c l i (ap (already_right sums old) d ∙ s.1))

-- And where a call that isn't refused leaves the checksum bytes that stood there, it says yes.
pub means-right : {n r : ℕ} {right : Bool} {sums new old left : List ℕ} → Encoded n sums new old r right left → r ≡ 0 → length left ≡ length old → SameSums sums old left → right ≡ true
means-right {n} {r} {right} {sums} {new} {old} {left} w z l s =
    let e : n ≡ 0 = sym w.written.number ∙ z in
    w.right_is ∙ rw e (ap (already_right sums old) (sym (written_in w.written e)) ∙ bytes-right sums old left l s)

-- a refusal says no
pub refused-no : {n r : ℕ} {right : Bool} {sums new old left : List ℕ} → Encoded n sums new old r right left → (r ≡ 0 → ⊥) → right ≡ false
refused-no {n} w h = w.right_is ∙ rw (ne_eqb n 0 (λ e. h (w.written.number ∙ e))) refl

-- IDEMPOTENCE: a call that finds what it leaves says yes.
pub twice-right : {n r : ℕ} {right : Bool} {sums new old left : List ℕ} → Encoded n sums new old r right left → r ≡ 0 → new ≡ old → right ≡ true
twice-right {sums = sums} {old = old} w z e =
    w.right_is ∙ rw (sym w.written.number ∙ z) (ap (already_right sums old) e ∙ right-again sums old)

-- ---- encoding again what was encoded changes nothing

-- bytes that lie clear of the fields may be written before them
pub clear_first : (off : ℕ) (bs : List ℕ) (fs : List Field) (xs : List ℕ) → T (clear off (length bs) (spans fs)) → write_fields fs (patch off bs xs) ≡ patch off bs (write_fields fs xs)
clear_first off bs [] xs t = refl
clear_first off bs (f ∷ fs) xs t =
    let m = leb (off + length bs) f.at || leb (f.at + length f.bytes) off in
    ap (write_fields fs) (sym (trade (byte_run off bs) f xs (and_left m (clear off (length bs) (spans fs)) t)))
    ∙ clear_first off bs fs (patch f.at f.bytes xs) (and_right m (clear off (length bs) (spans fs)) t)

write-twice : (fs : List Field) (m : ℕ) (xs : List ℕ) → T (tidy m (spans fs)) → write_fields fs (write_fields fs xs) ≡ write_fields fs xs
write-twice [] m xs t = refl
write-twice (f ∷ fs) m xs t =
    let o = f.at in
    let n = length f.bytes in
    let u = and_left (leb (o + n) m && clear o n (spans fs)) (tidy m (spans fs)) t in
    let k = and_right (leb (o + n) m) (clear o n (spans fs)) u in
    ap (write_fields fs) (sym (clear_first o f.bytes fs (patch o f.bytes xs) k) ∙ ap (write_fields fs) (patch-over o f.bytes f.bytes xs refl))
    ∙ write-twice fs m (patch o f.bytes xs) (and_right (leb (o + n) m && clear o n (spans fs)) (tidy m (spans fs)) t)

module _ (ss : List Span) (m off : ℕ) (t : T (tidy m ss)) (u : T (clear off 4 ss)) (fs : List Field) (e : spans fs ≡ ss) (xs : List ℕ) where
  written-again : write_fields fs (stamped off (write_fields fs xs)) ≡ stamped off (write_fields fs xs)
  unfolding stamped
  written-again =
      let ys = write_fields fs xs in
      let c = subst (λ (s : List Span). T (clear off 4 s)) (sym e) u in
      let d = subst (λ (s : List Span). T (tidy m s)) (sym e) t in
      clear_first off (le_bytes 4 (cksum_of off ys)) fs ys (rw (length-le 4 (cksum_of off ys)) c) ∙ ap (patch off (le_bytes 4 (cksum_of off ys))) (write-twice fs m xs d)

  -- The two tests on the spans `ss` are computed.
  pub encoded-again : stamped off (write_fields fs (stamped off (write_fields fs xs))) ≡ stamped off (write_fields fs xs)
  encoded-again = ap (stamped off) written-again ∙ stamped-twice off (write_fields fs xs)
