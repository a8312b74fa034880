-- A record of a unit that isn't refused has one header sector (`one-header`).
-- Assumes nothing.
use mathlib.Core.Path.{◌≡◌, refl, ap, ap₂, sym, ◌∙◌}
use mathlib.Core.List.{List, [], ◌∷◌, ◌++◌}
use mathlib.Core.Bool.{Bool, true, ◌&&◌}
use Prim.Native.Nat.{ℕ, zero, suc, ◌+◌, ◌*◌, ◌-◌, ◌≤◌, max}
use native.Mathlib.Omega.{arith}
use borrow.Author.Tests.{leb-true}
use lib.Dec.{T, leb, leb→le, eqb}
use lib.ListN.{length, replicate, set, length-replicate, replicate-append-replicate, take-append-drop}
use lib.Seq.{take_at, drop_at}
use Rattle.refusals.specs.Numbers.{wrong_length, sunit_too_large}
use Rattle.endian.specs.Bytes.{be_bytes, be_at, patch}
use Rattle.endian_little.specs.Bytes.{le_bytes}
use Rattle.endian.specs.Fields.{Field, Span, write_fields, spans}
use Rattle.endian.proofs.Laws.{length-patch, take-patch, drop-patch}
use Rattle.endian.proofs.Fields.{and_left, and_right, write-length}
use Rattle.structs.proofs.Reading.{write-append, read_number}
use Rattle.structs.proofs.Written.{passed}
use Rattle.structs.specs.Written.{require}
use Rattle.log_record.specs.Record.{cycle_of, rounded_up, basic_blocks_of, record_number, header_fields, unmount_fields, stamps, record_fields, log_record_bytes}
use Rattle.log_record.specs.Headers.{headers_of, sector, repeated, OneHeader}
use Rattle.log_record.proofs.Laws.{blocks-least}
use Rattle.log_record.proofs.Held.{record-holds}

-- ---- fields in the first of two lists

ends : ℕ → List Span → Bool
ends m [] = true
ends m (s ∷ ss) = leb (s.from + s.size) m && ends m ss

patch-prefix : (m o : ℕ) (bs xs ys : List ℕ) → length xs ≡ m → o + length bs ≤ m → patch o bs (xs ++ ys) ≡ patch o bs xs ++ ys
patch-prefix m o bs xs ys e h =
    sym (take-append-drop m (patch o bs (xs ++ ys)))
    ∙ ap₂ (λ (a b : List ℕ). a ++ b) (take-patch m o bs (xs ++ ys) h ∙ ap (patch o bs) (take_at xs ys m e)) (drop-patch m o bs (xs ++ ys) h ∙ drop_at xs ys m e)

write-prefix : (m : ℕ) (fs : List Field) (xs ys : List ℕ) → length xs ≡ m → T (ends m (spans fs)) → write_fields fs (xs ++ ys) ≡ write_fields fs xs ++ ys
unfolding ends
write-prefix m [] xs ys e t = refl
write-prefix m (f ∷ fs) xs ys e t =
    let o = f.at in
    let bs = f.bytes in
    let h = leb→le (o + length bs) m (and_left (leb (o + length bs) m) (ends m (spans fs)) t) in
    ap (write_fields fs) (patch-prefix m o bs xs ys e h)
    ∙ write-prefix m fs (patch o bs xs) ys (length-patch o bs xs ∙ e) (and_right (leb (o + length bs) m) (ends m (spans fs)) t)

-- ---- fields in the second, counted from its start

moved : ℕ → List Field → List Field
moved n [] = []
moved n (f ∷ fs) = record { at = n + f.at; bytes = f.bytes } ∷ moved n fs

patch-next : (x o : ℕ) (bs xs : List ℕ) → patch (suc o) bs (x ∷ xs) ≡ x ∷ patch o bs xs
unfolding patch
patch-next x o [] xs = refl
patch-next x o (b ∷ bs) xs = ap (λ (l : List ℕ). set l (suc o) b) (patch-next x (suc o) bs xs)

patch-behind : (xs : List ℕ) (n o : ℕ) (bs ys : List ℕ) → length xs ≡ n → patch (n + o) bs (xs ++ ys) ≡ xs ++ patch o bs ys
patch-behind [] n o bs ys e = let k : n + o ≡ o = omega arith in ap (λ (i : ℕ). patch i bs ys) k
patch-behind (x ∷ xs) n o bs ys e =
    let k : n + o ≡ suc (length xs + o) = omega arith in
    ap (λ (i : ℕ). patch i bs (x ∷ (xs ++ ys))) k ∙ patch-next x (length xs + o) bs (xs ++ ys) ∙ ap (λ (l : List ℕ). x ∷ l) (patch-behind xs (length xs) o bs ys refl)

write-behind : (n : ℕ) (fs : List Field) (xs ys : List ℕ) → length xs ≡ n → write_fields (moved n fs) (xs ++ ys) ≡ xs ++ write_fields fs ys
unfolding moved
write-behind n [] xs ys e = refl
write-behind n (f ∷ fs) xs ys e = ap (write_fields (moved n fs)) (patch-behind xs n f.at f.bytes ys e) ∙ write-behind n fs xs (patch f.at f.bytes ys) e

-- ---- the sectors

sector-length : (fs : List Field) → length (sector fs) ≡ 512
sector-length fs = write-length fs (replicate 512 0) ∙ length-replicate {A = ℕ} 512 0

-- a sector with the fields, from zeros
sector-of : (fs : List Field) (ys : List ℕ) → T (ends 512 (spans fs)) → write_fields fs (replicate 512 0 ++ ys) ≡ sector fs ++ ys
sector-of fs ys t = write-prefix 512 fs (replicate 512 0) ys (length-replicate {A = ℕ} 512 0) t

zeros-sector : (n m : ℕ) → m ≡ 512 + n → replicate {A = ℕ} m 0 ≡ replicate 512 0 ++ replicate n 0
zeros-sector n m e = ap (λ (k : ℕ). replicate k 0) e ∙ sym (replicate-append-replicate 512 n 0)

stamps-moved : (cycle j n : ℕ) → stamps cycle (suc j) n ≡ moved 512 (stamps cycle j n)
unfolding stamps moved
stamps-moved cycle j zero = refl
stamps-moved cycle j (suc n) =
    let e : 512 * suc j ≡ 512 + 512 * j = omega arith in
    ap₂ (λ (o : ℕ) (l : List Field). record { at = o; bytes = be_bytes 4 cycle } ∷ l) e (stamps-moved cycle (suc j) n)

stamps-behind : (cycle j n : ℕ) (xs ys : List ℕ) → length xs ≡ 512 → write_fields (stamps cycle (suc j) n) (xs ++ ys) ≡ xs ++ write_fields (stamps cycle j n) ys
stamps-behind cycle j n xs ys e = ap (λ (fs : List Field). write_fields fs (xs ++ ys)) (stamps-moved cycle j n) ∙ write-behind 512 (stamps cycle j n) xs ys e

stamped-ends : (cycle : ℕ) → T (ends 512 (spans (stamps cycle 0 1)))
unfolding stamps be_bytes ends
stamped-ends cycle = tt

stamp-first : (cycle n : ℕ) (xs : List ℕ) → write_fields (stamps cycle 0 (suc n)) xs ≡ write_fields (stamps cycle 1 n) (write_fields (stamps cycle 0 1) xs)
unfolding stamps
stamp-first cycle n xs = refl

-- stamps alone leave the same sector each time
stamped : (cycle n : ℕ) → write_fields (stamps cycle 0 n) (replicate (512 * n) 0) ≡ repeated n (sector (stamps cycle 0 1))
unfolding stamps repeated
stamped cycle zero = refl
stamped cycle (suc n) =
    let s = sector (stamps cycle 0 1) in
    stamp-first cycle n (replicate (512 * suc n) 0)
    ∙ ap (λ (l : List ℕ). write_fields (stamps cycle 1 n) (write_fields (stamps cycle 0 1) l)) (zeros-sector (512 * n) (512 * suc n) (omega arith))
    ∙ ap (write_fields (stamps cycle 1 n)) (sector-of (stamps cycle 0 1) (replicate (512 * n) 0) (stamped-ends cycle))
    ∙ stamps-behind cycle 0 n s (replicate (512 * n) 0) (sector-length (stamps cycle 0 1))
    ∙ ap (λ (l : List ℕ). s ++ l) (stamped cycle n)

header-ends : (uuid : List ℕ) (sunit lsn tail_lsn : ℕ) → length uuid ≡ 16 → T (ends 512 (spans (header_fields uuid sunit lsn tail_lsn)))
unfolding header_fields be_bytes ends
header-ends uuid sunit lsn tail_lsn u = rw u tt

unmount-ends : (cycle : ℕ) → T (ends 512 (spans (unmount_fields 0 cycle)))
unfolding unmount_fields be_bytes le_bytes ends
unmount-ends cycle = tt

unmount-moved : (cycle : ℕ) → unmount_fields 512 cycle ≡ moved 512 (unmount_fields 0 cycle)
unfolding unmount_fields moved
unmount-moved cycle = refl

-- header, unmount record and stamps over zeros
laid : (uuid : List ℕ) (sunit lsn tail_lsn cycle n : ℕ) → length uuid ≡ 16
    → write_fields (header_fields uuid sunit lsn tail_lsn ++ (unmount_fields 512 cycle ++ stamps cycle 2 n)) (replicate (1024 + 512 * n) 0)
    ≡ sector (header_fields uuid sunit lsn tail_lsn) ++ (sector (unmount_fields 0 cycle) ++ repeated n (sector (stamps cycle 0 1)))
laid uuid sunit lsn tail_lsn cycle n u =
    let hs = header_fields uuid sunit lsn tail_lsn in
    let us = unmount_fields 512 cycle in
    let ss = stamps cycle 2 n in
    let h = sector hs in
    let m = sector (unmount_fields 0 cycle) in
    let z = replicate {A = ℕ} (512 * n) 0 in
    write-append hs (us ++ ss) (replicate (1024 + 512 * n) 0)
    ∙ write-append us ss (write_fields hs (replicate (1024 + 512 * n) 0))
    ∙ ap (λ (l : List ℕ). write_fields ss (write_fields us (write_fields hs l))) (zeros-sector (512 + 512 * n) (1024 + 512 * n) (omega arith))
    ∙ ap (λ (l : List ℕ). write_fields ss (write_fields us l)) (sector-of hs (replicate (512 + 512 * n) 0) (header-ends uuid sunit lsn tail_lsn u))
    ∙ ap₂ (λ (fs : List Field) (l : List ℕ). write_fields ss (write_fields fs (h ++ l))) (unmount-moved cycle) (zeros-sector (512 * n) (512 + 512 * n) refl)
    ∙ ap (write_fields ss) (write-behind 512 (unmount_fields 0 cycle) h (replicate 512 0 ++ z) (sector-length hs))
    ∙ ap (λ (l : List ℕ). write_fields ss (h ++ l)) (sector-of (unmount_fields 0 cycle) z (unmount-ends cycle))
    ∙ stamps-behind cycle 1 n h (m ++ z) (sector-length hs)
    ∙ ap (λ (l : List ℕ). h ++ l) (stamps-behind cycle 0 n m z (sector-length (unmount_fields 0 cycle)))
    ∙ ap (λ (l : List ℕ). h ++ (m ++ l)) (stamped cycle n)

-- ---- what isn't refused

within : (sunit len : ℕ) → record_number sunit len ≡ 0 → sunit ≤ 16384
unfolding record_number
within sunit len z =
    let p = passed wrong_length (require sunit_too_large (leb sunit 16384) 0) (eqb len (512 * basic_blocks_of sunit)) (omega arith) z in
    leb-true sunit 16384 (passed 35 0 (leb sunit 16384) (omega arith) p.1).0

one : (sunit : ℕ) → sunit ≤ 16384 → headers_of sunit ≡ 1
unfolding headers_of rounded_up
one sunit h = omega arith

module _ (uuid : List ℕ) (sunit lsn tail_lsn : ℕ) (u : length uuid ≡ 16) where
  by-sectors : log_record_bytes uuid sunit lsn tail_lsn
      ≡ sector (header_fields uuid sunit lsn tail_lsn) ++ (sector (unmount_fields 0 (cycle_of lsn)) ++ repeated (basic_blocks_of sunit - 2) (sector (stamps (cycle_of lsn) 0 1)))
  unfolding log_record_bytes record_fields
  by-sectors =
      let b = blocks-least sunit in
      let n : 512 * basic_blocks_of sunit ≡ 1024 + 512 * (basic_blocks_of sunit - 2) = omega arith in
      ap (λ (k : ℕ). write_fields (record_fields uuid sunit lsn tail_lsn) (replicate k 0)) n ∙ laid uuid sunit lsn tail_lsn (cycle_of lsn) (basic_blocks_of sunit - 2) u

  long : sunit ≤ 16384 → be_at 4 12 (log_record_bytes uuid sunit lsn tail_lsn) ≡ max 1024 sunit - 512
  unfolding record_fields header_fields
  long h = read_number (record_fields uuid sunit lsn tail_lsn) (log_record_bytes uuid sunit lsn tail_lsn) (record-holds uuid sunit lsn tail_lsn u) 3 12 4 (max 1024 sunit - 512) (omega arith) refl (omega arith)

  large : be_at 4 320 (log_record_bytes uuid sunit lsn tail_lsn) ≡ 32768
  unfolding record_fields header_fields
  large = read_number (record_fields uuid sunit lsn tail_lsn) (log_record_bytes uuid sunit lsn tail_lsn) (record-holds uuid sunit lsn tail_lsn u) 12 320 4 32768 (omega arith) refl (omega arith)

  pub one-header : (len : ℕ) → record_number sunit len ≡ 0 → OneHeader uuid sunit lsn tail_lsn
  one-header len z =
      let h = within sunit len z in
      let o = one sunit h in
      let m : 32768 ≡ max sunit 32768 = omega arith in
      record {
        headers = o;
        sectors = by-sectors;
        each = sector-length;
        len = long h ∙ ap (λ (k : ℕ). max 1024 sunit - 512 * k) (sym o);
        size = large ∙ m;
      }
