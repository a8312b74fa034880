-- The sizes of a record, and the order in which its parts are written.
-- Assumes nothing.
use mathlib.Core.Path.{◌≡◌, refl, ap, sym, ◌∙◌}
use mathlib.Core.List.{List, [], ◌∷◌, ◌++◌}
use Prim.Native.Nat.{ℕ, suc, ◌+◌, ◌*◌, ◌-◌, ◌/◌, ◌≤◌, ◌<◌, ◌^◌, max}
use native.Mathlib.Nat.{le-max_left}
use native.Mathlib.Omega.{arith}
use lib.ListN.{length, replicate, length-replicate}
use Rattle.endian.specs.Bytes.{be_bytes, patch}
use Rattle.endian.specs.Fields.{Field, Span, field, byte_run, write_fields, spans}
use Rattle.endian.proofs.Order.{any_order}
use Rattle.structs.proofs.Reading.{write-append, patch-whole}
use Rattle.structs.specs.Written.{null32}
use Rattle.log_record.specs.Record.{header_magic, linux_le, unmount_tid, cycle_of, big_record, rounded_up, basic_blocks_of, header_fields, stamps, unmount_fields, record_fields, log_record_bytes}

-- ---- sizes
pub blocks-least : (s : ℕ) → 2 ≤ basic_blocks_of s
unfolding basic_blocks_of
blocks-least s = le-max_left 2 (rounded_up s 512)

pub blocks-fit : (s : ℕ) → s < 2 ^ 32 → basic_blocks_of s ≤ 8388608
unfolding basic_blocks_of rounded_up
blocks-fit s h = omega arith

-- ---- the header: the code writes the numbers first, and then the UUID
at : ℕ → ℕ → Span
at o n = record { from = o; size = n }

places : List Span
places = at 0 4 ∷ at 4 4 ∷ at 8 4 ∷ at 12 4 ∷ at 16 8 ∷ at 24 8 ∷ at 32 4 ∷ at 36 4 ∷ at 40 4 ∷ at 44 4 ∷ at 300 4 ∷ at 320 4 ∷ at 304 16 ∷ []

abbrev pub coded : List ℕ → ℕ → ℕ → ℕ → List Field
coded uuid lsn tail_lsn len =
    field 0 4 header_magic
    ∷ field 4 4 (lsn / 2 ^ 32)
    ∷ field 8 4 2
    ∷ field 12 4 len
    ∷ field 16 8 lsn
    ∷ field 24 8 tail_lsn
    ∷ field 32 4 0
    ∷ field 36 4 null32
    ∷ field 40 4 1
    ∷ field 44 4 unmount_tid
    ∷ field 300 4 linux_le
    ∷ field 320 4 big_record
    ∷ byte_run 304 uuid
    ∷ []

stand : (uuid : List ℕ) (lsn tail_lsn len : ℕ) → length uuid ≡ 16 → spans (coded uuid lsn tail_lsn len) ≡ places
unfolding places at be_bytes
stand uuid lsn tail_lsn len u = rw u refl

pub header-written : (uuid xs : List ℕ) (sunit lsn tail_lsn len : ℕ) → length uuid ≡ 16 → len ≡ max 1024 sunit - 512
    → write_fields (coded uuid lsn tail_lsn len) xs ≡ write_fields (header_fields uuid sunit lsn tail_lsn) xs
unfolding header_fields cycle_of places at
header-written uuid xs sunit lsn tail_lsn len u e = sym (any_order places 324 tt (coded uuid lsn tail_lsn len) (stand uuid lsn tail_lsn len u) xs) ∙ rw e refl

-- ---- a turn of the loop that stamps the blocks: what is left to stamp
pub stamp-turn : (cycle i to : ℕ) (b b' w : List ℕ) → i < to → write_fields (stamps cycle i (to - i)) b ≡ w → b' ≡ patch (512 * i) (be_bytes 4 cycle) b
    → write_fields (stamps cycle (i + 1) (to - (i + 1))) b' ≡ w
unfolding stamps
stamp-turn cycle i to b b' w h e d =
    let m : to - i ≡ suc (to - (i + 1)) = omega arith in
    let s : i + 1 ≡ suc i = omega arith in
    ap (write_fields (stamps cycle (i + 1) (to - (i + 1)))) d ∙ ap (λ (k : ℕ). write_fields (stamps cycle k (to - (i + 1))) (patch (512 * i) (be_bytes 4 cycle) b)) s ∙ (rw m at e)

pub stamp-ends : (cycle i to : ℕ) (b w : List ℕ) → to ≤ i → write_fields (stamps cycle i (to - i)) b ≡ w → b ≡ w
unfolding stamps
stamp-ends cycle i to b w h e =
    let m : to - i ≡ 0 = omega arith in
    rw m at e

-- ---- the parts one after the other
pub record-written : (uuid : List ℕ) (sunit lsn tail_lsn : ℕ) (xs ys zs us ws : List ℕ) → length xs ≡ 512 * basic_blocks_of sunit
    → ys ≡ patch 0 (replicate (length xs) 0) xs → zs ≡ write_fields (header_fields uuid sunit lsn tail_lsn) ys
    → us ≡ write_fields (unmount_fields 512 (lsn / 2 ^ 32)) zs → ws ≡ write_fields (stamps (lsn / 2 ^ 32) 2 (basic_blocks_of sunit - 2)) us
    → ws ≡ log_record_bytes uuid sunit lsn tail_lsn
unfolding log_record_bytes record_fields cycle_of
record-written uuid sunit lsn tail_lsn xs ys zs us ws l a b c d =
    let first = header_fields uuid sunit lsn tail_lsn in
    let second = unmount_fields 512 (lsn / 2 ^ 32) in
    let rest = stamps (lsn / 2 ^ 32) 2 (basic_blocks_of sunit - 2) in
    let z : ys ≡ replicate (512 * basic_blocks_of sunit) 0 = a ∙ patch-whole (replicate (length xs) 0) xs (length-replicate (length xs) 0) ∙ ap (λ (k : ℕ). replicate k 0) l in
    d ∙ ap (write_fields rest) (c ∙ ap (write_fields second) (b ∙ ap (write_fields first) z))
    ∙ sym (write-append first (second ++ rest) (replicate (512 * basic_blocks_of sunit) 0) ∙ write-append second rest (write_fields first (replicate (512 * basic_blocks_of sunit) 0)))
