-- Every field of a group's headers is read back from the sector, two headers of equal bytes are equal, and one encoded twice is one encoded once.
-- Assumes nothing.
use mathlib.Core.Path.{◌≡◌, refl, ap, sym, ◌∙◌}
use mathlib.Core.List.{List}
use Prim.Native.Nat.{ℕ, ◌≤◌, ◌<◌, ◌^◌}
use lib.Dec.{T, ltb→lt, ltb}
use lib.ListN.{length, replicate}
use Rattle.endian.specs.Bytes.{be_bytes, be_at, numbers_bytes}
use Rattle.endian.specs.Fields.{field, nth, part, spans, clear}
use Rattle.crc.proofs.Laws.{read-stamped}
use Rattle.structs.specs.Holds.{Holds}
use Rattle.structs.proofs.Reading.{read_number, one-reading}
use Rattle.structs.proofs.Encoded.{encoded-again}
use Rattle.ag.specs.declared.agf.Agf.{Agf}
use Rattle.ag.specs.declared.agi.Agi.{Agi}
use Rattle.ag.specs.Agf.{agf_crc_at, agf_fields, agf_bytes}
use Rattle.ag.specs.Agi.{agi_crc_at, agi_fields, agi_bytes}
use Rattle.ag.specs.Decode.{agf_of, AgfFits, agi_of, AgiFits}

-- every number is zero
abbrev pub empty_agf : Agf
empty_agf = record { seqno = 0; length = 0; bno_root = 0; bno_level = 0; cnt_root = 0; cnt_level = 0; rmap_root = 0; rmap_level = 0; rmap_blocks = 0; refcount_root = 0; refcount_level = 0; refcount_blocks = 0; flfirst = 0; fllast = 0; flcount = 0; freeblks = 0; longest = 0; btreeblks = 0 }

abbrev pub empty_agi : Agi
empty_agi = record { seqno = 0; length = 0; count = 0; root = 0; level = 0; freecount = 0; newino = 0; free_root = 0; free_level = 0; iblocks = 0; fblocks = 0 }

-- the fields of an AGF stand in its sector
pub agf-stands : (a : Agf) (uuid : List ℕ) → length uuid ≡ 16 → spans (agf_fields a uuid) ≡ spans (agf_fields empty_agf (replicate 16 0))
unfolding agf_fields be_bytes
agf-stands a uuid u = rw u refl

-- clear of its checksum
pub agf-clear : T (clear agf_crc_at 4 (spans (agf_fields empty_agf (replicate 16 0))))
unfolding agf_fields be_bytes
agf-clear = tt

pub agf-holds : (a : Agf) (uuid xs : List ℕ) → length uuid ≡ 16 → 216 ≤ length xs → Holds (agf_fields a uuid) (agf_bytes a uuid xs)
unfolding agf_bytes agf_fields be_bytes
agf-holds a uuid xs u l k h = read-stamped (spans (agf_fields empty_agf (replicate 16 0))) 216 216 tt tt (agf_fields a uuid) (agf-stands a uuid u) xs l k h

-- and is read back
pub agf-back : (a : Agf) (uuid xs : List ℕ) → length uuid ≡ 16 → 216 ≤ length xs → AgfFits a → agf_of (agf_bytes a uuid xs) ≡ a
unfolding agf_of agf_fields
agf-back a uuid xs u l b =
    let n : (k off v : ℕ) → nth (agf_fields a uuid) k ≡ field off 4 v → T (ltb k 22) → v < 2 ^ 32 → be_at 4 off (agf_bytes a uuid xs) ≡ v =
    λ k off v e t. read_number (agf_fields a uuid) (agf_bytes a uuid xs) (agf-holds a uuid xs u l) k off 4 v (ltb→lt k 22 t) e in
    rw (n 2 8 a.seqno refl tt b.0, n 3 12 a.length refl tt b.1.0, n 4 16 a.bno_root refl tt b.1.1.0, n 7 28 a.bno_level refl tt b.1.1.1.0, n 5 20 a.cnt_root refl tt b.1.1.1.1.0, n 8 32 a.cnt_level refl tt b.1.1.1.1.1.0, n 6 24 a.rmap_root refl tt b.1.1.1.1.1.1.0, n 9 36 a.rmap_level refl tt b.1.1.1.1.1.1.1.0, n 17 80 a.rmap_blocks refl tt b.1.1.1.1.1.1.1.1.0, n 19 88 a.refcount_root refl tt b.1.1.1.1.1.1.1.1.1.0, n 20 92 a.refcount_level refl tt b.1.1.1.1.1.1.1.1.1.1.0, n 18 84 a.refcount_blocks refl tt b.1.1.1.1.1.1.1.1.1.1.1.0, n 10 40 a.flfirst refl tt b.1.1.1.1.1.1.1.1.1.1.1.1.0, n 11 44 a.fllast refl tt b.1.1.1.1.1.1.1.1.1.1.1.1.1.0, n 12 48 a.flcount refl tt b.1.1.1.1.1.1.1.1.1.1.1.1.1.1.0, n 13 52 a.freeblks refl tt b.1.1.1.1.1.1.1.1.1.1.1.1.1.1.1.0, n 14 56 a.longest refl tt b.1.1.1.1.1.1.1.1.1.1.1.1.1.1.1.1.0, n 15 60 a.btreeblks refl tt b.1.1.1.1.1.1.1.1.1.1.1.1.1.1.1.1.1.0) refl

pub agi-stands : (a : Agi) (uuid : List ℕ) → length uuid ≡ 16 → spans (agi_fields a uuid) ≡ spans (agi_fields empty_agi (replicate 16 0))
unfolding agi_fields be_bytes
agi-stands a uuid u = rw u refl

pub agi-clear : T (clear agi_crc_at 4 (spans (agi_fields empty_agi (replicate 16 0))))
unfolding agi_fields be_bytes numbers_bytes
agi-clear = tt

pub agi-holds : (a : Agi) (uuid xs : List ℕ) → length uuid ≡ 16 → 344 ≤ length xs → Holds (agi_fields a uuid) (agi_bytes a uuid xs)
unfolding agi_bytes agi_fields be_bytes numbers_bytes
agi-holds a uuid xs u l k h = read-stamped (spans (agi_fields empty_agi (replicate 16 0))) 344 312 tt tt (agi_fields a uuid) (agi-stands a uuid u) xs l k h

pub agi-back : (a : Agi) (uuid xs : List ℕ) → length uuid ≡ 16 → 344 ≤ length xs → AgiFits a → agi_of (agi_bytes a uuid xs) ≡ a
unfolding agi_of agi_fields
agi-back a uuid xs u l b =
    let n : (k off v : ℕ) → nth (agi_fields a uuid) k ≡ field off 4 v → T (ltb k 17) → v < 2 ^ 32 → be_at 4 off (agi_bytes a uuid xs) ≡ v =
    λ k off v e t. read_number (agi_fields a uuid) (agi_bytes a uuid xs) (agi-holds a uuid xs u l) k off 4 v (ltb→lt k 17 t) e in
    rw (n 2 8 a.seqno refl tt b.0, n 3 12 a.length refl tt b.1.0, n 4 16 a.count refl tt b.1.1.0, n 5 20 a.root refl tt b.1.1.1.0, n 6 24 a.level refl tt b.1.1.1.1.0, n 7 28 a.freecount refl tt b.1.1.1.1.1.0, n 8 32 a.newino refl tt b.1.1.1.1.1.1.0, n 13 328 a.free_root refl tt b.1.1.1.1.1.1.1.0, n 14 332 a.free_level refl tt b.1.1.1.1.1.1.1.1.0, n 15 336 a.iblocks refl tt b.1.1.1.1.1.1.1.1.1.0, n 16 340 a.fblocks refl tt b.1.1.1.1.1.1.1.1.1.1.0) refl

-- Sectors of equal bytes have equal fields: one law over field lists, here for the AGF.
pub agf-injective : (a b : Agf) (u v xs ys : List ℕ) → length u ≡ 16 → length v ≡ 16 → 216 ≤ length xs → 216 ≤ length ys
    → agf_bytes a u xs ≡ agf_bytes b v ys → agf_fields a u ≡ agf_fields b v
agf-injective a b u v xs ys eu ev lx ly e =
    one-reading (agf_fields a u) (agf_fields b v) (agf_bytes a u xs) (agf-stands a u eu ∙ sym (agf-stands b v ev)) (agf-holds a u xs eu lx)
    (λ k h. ap (λ (l : List ℕ). part (nth (agf_fields b v) k).at (length (nth (agf_fields b v) k).bytes) l) e ∙ agf-holds b v ys ev ly k h)

-- Encoding again what was encoded changes nothing.
pub agf-again : (a : Agf) (uuid xs : List ℕ) → length uuid ≡ 16 → agf_bytes a uuid (agf_bytes a uuid xs) ≡ agf_bytes a uuid xs
unfolding agf_bytes agf_fields be_bytes
agf-again a uuid xs u = encoded-again (spans (agf_fields empty_agf (replicate 16 0))) 216 agf_crc_at tt tt (agf_fields a uuid) (agf-stands a uuid u) xs

pub agi-again : (a : Agi) (uuid xs : List ℕ) → length uuid ≡ 16 → agi_bytes a uuid (agi_bytes a uuid xs) ≡ agi_bytes a uuid xs
unfolding agi_bytes agi_fields be_bytes numbers_bytes
agi-again a uuid xs u = encoded-again (spans (agi_fields empty_agi (replicate 16 0))) 344 agi_crc_at tt tt (agi_fields a uuid) (agi-stands a uuid u) xs
