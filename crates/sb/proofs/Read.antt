-- Every field of a superblock is read back from its sector: the fields don't meet each other or the checksum, by two computed tests on where they stand.
-- Assumes nothing.
use mathlib.Core.Path.{◌≡◌, refl, ap, sym, ◌∙◌, subst}
use mathlib.Core.List.{List, [], ◌∷◌, ◌++◌}
use mathlib.Core.Bool.{Bool, true, false}
use Prim.Native.Nat.{ℕ, ◌+◌, ◌^◌, ◌≤◌, ◌<◌}
use lib.Dec.{T, lit<}
use lib.ListN.{length}
use Rattle.endian.specs.Bytes.{be_bytes, be_at}
use Rattle.endian.specs.Fields.{Span, field, write_fields, part, nth, spans, tidy, clear}
use Rattle.crc.specs.Crc.{stamped}
use Rattle.crc.proofs.Laws.{read-stamped}
use Rattle.structs.specs.Holds.{Holds}
use Rattle.structs.proofs.Reading.{one-reading, read_number}
use Rattle.structs.proofs.Encoded.{encoded-again}
use Rattle.arith.specs.Choice.{bit}
use Rattle.geometry.specs.declared.Geometry.{Geometry}
use Rattle.sb.specs.declared.SbState.{SbState}
use Rattle.sb.specs.Superblock.{crc_at, large_sector, ro_compat, in_compat, logstart_of, fields_with, sb_fields, sb_bytes}
use Rattle.sb.proofs.Order.{standing}

log_places : Bool → List ℕ
log_places true = 193 ∷ 1 ∷ 194 ∷ 2 ∷ []
log_places false = []

-- where the fields stand, in disk order
pub disk_places : Bool → List Span
disk_places large =
    standing (0 ∷ 4 ∷ 4 ∷ 4 ∷ 8 ∷ 8 ∷ 16 ∷ 8 ∷ 24 ∷ 8 ∷ 32 ∷ 16 ∷ 48 ∷ 8 ∷ 56 ∷ 8 ∷ 64 ∷ 8 ∷ 72 ∷ 8 ∷ 80 ∷ 4 ∷ 84 ∷ 4 ∷ 88 ∷ 4 ∷ 92 ∷ 4 ∷ 96 ∷ 4 ∷ 100 ∷ 2 ∷ 102 ∷ 2 ∷ 104 ∷ 2 ∷ 106 ∷ 2 ∷ 108 ∷ 12 ∷ 120 ∷ 1 ∷ 121 ∷ 1 ∷ 122 ∷ 1 ∷ 123 ∷ 1 ∷ 124 ∷ 1 ∷ 125 ∷ 1 ∷ 126 ∷ 1 ∷ 127 ∷ 1 ∷ 128 ∷ 8 ∷ 136 ∷ 8 ∷ 144 ∷ 8 ∷ 152 ∷ 8 ∷ 160 ∷ 8 ∷ 168 ∷ 8 ∷ 180 ∷ 4 ∷ 184 ∷ 4 ∷ 188 ∷ 4 ∷ 192 ∷ 1 ∷ [])
    ++ (standing (log_places large) ++ standing (196 ∷ 4 ∷ 200 ∷ 4 ∷ 204 ∷ 4 ∷ 208 ∷ 4 ∷ 212 ∷ 4 ∷ 216 ∷ 4 ∷ 220 ∷ 4 ∷ 228 ∷ 4 ∷ 232 ∷ 8 ∷ 240 ∷ 8 ∷ []))

tidied : (large : Bool) → T (tidy 264 (disk_places large))
unfolding disk_places log_places
tidied true = tt
tidied false = tt

pub apart : (large : Bool) → T (clear crc_at 4 (disk_places large))
unfolding disk_places log_places
apart true = tt
apart false = tt

both_ways : (P : Bool → Type 0) → P true → P false → (large : Bool) → P large
both_ways P t f true = t
both_ways P t f false = f

module _ (g : Geometry) (s : SbState) (u : length s.uuid ≡ 16) (l : length g.label ≡ 12) where
  stand : (large : Bool) → spans (fields_with large g s) ≡ disk_places large
  unfolding fields_with disk_places log_places be_bytes
  stand true = rw (u, l) refl
  stand false = rw (u, l) refl

  pub sb-stands : spans (sb_fields g s) ≡ disk_places (large_sector g)
  unfolding sb_fields
  sb-stands = stand (large_sector g)

  -- encoded twice it is encoded once
  pub sb-again : (xs : List ℕ) → sb_bytes g s (sb_bytes g s xs) ≡ sb_bytes g s xs
  unfolding sb_bytes
  sb-again xs = encoded-again (disk_places (large_sector g)) 264 crc_at (tidied (large_sector g)) (apart (large_sector g)) (sb_fields g s) sb-stands xs

  -- every field stands in the sector after encoding, with the log's sector or without
  module _ (xs : List ℕ) (h : 264 ≤ length xs) where
    held_with : (large : Bool) → Holds (fields_with large g s) (stamped crc_at (write_fields (fields_with large g s) xs))
    held_with large k i = read-stamped (disk_places large) 264 crc_at (tidied large) (apart large) (fields_with large g s) (stand large) xs h k i

    pub sb-holds : Holds (sb_fields g s) (sb_bytes g s xs)
    unfolding sb_bytes sb_fields
    sb-holds = held_with (large_sector g)

    -- a number before the log's sector, and one after it, which stands two fields further on where that is named
    before : (k off n v : ℕ) → ((large : Bool) → (k < length (fields_with large g s)) × (nth (fields_with large g s) k ≡ field off n v)) → v < 256 ^ n → be_at n off (sb_bytes g s xs) ≡ v
    unfolding sb_bytes sb_fields
    before k off n v e b =
        let large = large_sector g in
        read_number (fields_with large g s) (stamped crc_at (write_fields (fields_with large g s) xs)) (held_with large) k off n v (e large).0 (e large).1 b

    after : (k off n v : ℕ) → (k + 2 < length (fields_with true g s)) × (nth (fields_with true g s) (k + 2) ≡ field off n v) → (k < length (fields_with false g s)) × (nth (fields_with false g s) k ≡ field off n v)
        → (large : Bool) → v < 256 ^ n → be_at n off (stamped crc_at (write_fields (fields_with large g s) xs)) ≡ v
    after k off n v e f true b = read_number (fields_with true g s) (stamped crc_at (write_fields (fields_with true g s) xs)) (held_with true) (k + 2) off n v e.0 e.1 b
    after k off n v e f false b = read_number (fields_with false g s) (stamped crc_at (write_fields (fields_with false g s) xs)) (held_with false) k off n v f.0 f.1 b

    pub blocksize-back : g.blocksize < 256 ^ 4 → be_at 4 4 (sb_bytes g s xs) ≡ g.blocksize
    unfolding fields_with
    blocksize-back = before 1 4 4 g.blocksize (both_ways (λ large. (1 < length (fields_with large g s)) × (nth (fields_with large g s) 1 ≡ field 4 4 g.blocksize)) (lit< tt, refl) (lit< tt, refl))

    pub dblocks-back : g.dblocks < 256 ^ 8 → be_at 8 8 (sb_bytes g s xs) ≡ g.dblocks
    unfolding fields_with
    dblocks-back = before 2 8 8 g.dblocks (both_ways (λ large. (2 < length (fields_with large g s)) × (nth (fields_with large g s) 2 ≡ field 8 8 g.dblocks)) (lit< tt, refl) (lit< tt, refl))

    pub logstart-back : logstart_of g < 256 ^ 8 → be_at 8 48 (sb_bytes g s xs) ≡ logstart_of g
    unfolding fields_with
    logstart-back = before 6 48 8 (logstart_of g) (both_ways (λ large. (6 < length (fields_with large g s)) × (nth (fields_with large g s) 6 ≡ field 48 8 (logstart_of g))) (lit< tt, refl) (lit< tt, refl))

    pub rootino-back : s.rootino < 256 ^ 8 → be_at 8 56 (sb_bytes g s xs) ≡ s.rootino
    unfolding fields_with
    rootino-back = before 7 56 8 s.rootino (both_ways (λ large. (7 < length (fields_with large g s)) × (nth (fields_with large g s) 7 ≡ field 56 8 s.rootino)) (lit< tt, refl) (lit< tt, refl))

    pub agblocks-back : g.agsize < 256 ^ 4 → be_at 4 84 (sb_bytes g s xs) ≡ g.agsize
    unfolding fields_with
    agblocks-back = before 11 84 4 g.agsize (both_ways (λ large. (11 < length (fields_with large g s)) × (nth (fields_with large g s) 11 ≡ field 84 4 g.agsize)) (lit< tt, refl) (lit< tt, refl))

    pub agcount-back : g.agcount < 256 ^ 4 → be_at 4 88 (sb_bytes g s xs) ≡ g.agcount
    unfolding fields_with
    agcount-back = before 12 88 4 g.agcount (both_ways (λ large. (12 < length (fields_with large g s)) × (nth (fields_with large g s) 12 ≡ field 88 4 g.agcount)) (lit< tt, refl) (lit< tt, refl))

    pub logblocks-back : g.logblocks < 256 ^ 4 → be_at 4 96 (sb_bytes g s xs) ≡ g.logblocks
    unfolding fields_with
    logblocks-back = before 14 96 4 g.logblocks (both_ways (λ large. (14 < length (fields_with large g s)) × (nth (fields_with large g s) 14 ≡ field 96 4 g.logblocks)) (lit< tt, refl) (lit< tt, refl))

    pub sectsize-back : g.sectsize < 256 ^ 2 → be_at 2 102 (sb_bytes g s xs) ≡ g.sectsize
    unfolding fields_with
    sectsize-back = before 16 102 2 g.sectsize (both_ways (λ large. (16 < length (fields_with large g s)) × (nth (fields_with large g s) 16 ≡ field 102 2 g.sectsize)) (lit< tt, refl) (lit< tt, refl))

    pub inodesize-back : g.inodesize < 256 ^ 2 → be_at 2 104 (sb_bytes g s xs) ≡ g.inodesize
    unfolding fields_with
    inodesize-back = before 17 104 2 g.inodesize (both_ways (λ large. (17 < length (fields_with large g s)) × (nth (fields_with large g s) 17 ≡ field 104 2 g.inodesize)) (lit< tt, refl) (lit< tt, refl))

    pub inprogress-back : bit s.inprogress < 256 ^ 1 → be_at 1 126 (sb_bytes g s xs) ≡ bit s.inprogress
    unfolding fields_with
    inprogress-back = before 26 126 1 (bit s.inprogress) (both_ways (λ large. (26 < length (fields_with large g s)) × (nth (fields_with large g s) 26 ≡ field 126 1 (bit s.inprogress))) (lit< tt, refl) (lit< tt, refl))

    pub imaxpct-back : g.imaxpct < 256 ^ 1 → be_at 1 127 (sb_bytes g s xs) ≡ g.imaxpct
    unfolding fields_with
    imaxpct-back = before 27 127 1 g.imaxpct (both_ways (λ large. (27 < length (fields_with large g s)) × (nth (fields_with large g s) 27 ≡ field 127 1 g.imaxpct)) (lit< tt, refl) (lit< tt, refl))

    pub icount-back : s.icount < 256 ^ 8 → be_at 8 128 (sb_bytes g s xs) ≡ s.icount
    unfolding fields_with
    icount-back = before 28 128 8 s.icount (both_ways (λ large. (28 < length (fields_with large g s)) × (nth (fields_with large g s) 28 ≡ field 128 8 s.icount)) (lit< tt, refl) (lit< tt, refl))

    pub ifree-back : s.ifree < 256 ^ 8 → be_at 8 136 (sb_bytes g s xs) ≡ s.ifree
    unfolding fields_with
    ifree-back = before 29 136 8 s.ifree (both_ways (λ large. (29 < length (fields_with large g s)) × (nth (fields_with large g s) 29 ≡ field 136 8 s.ifree)) (lit< tt, refl) (lit< tt, refl))

    pub fdblocks-back : s.fdblocks < 256 ^ 8 → be_at 8 144 (sb_bytes g s xs) ≡ s.fdblocks
    unfolding fields_with
    fdblocks-back = before 30 144 8 s.fdblocks (both_ways (λ large. (30 < length (fields_with large g s)) × (nth (fields_with large g s) 30 ≡ field 144 8 s.fdblocks)) (lit< tt, refl) (lit< tt, refl))

    pub ro-compat-back : ro_compat g.features < 256 ^ 4 → be_at 4 212 (sb_bytes g s xs) ≡ ro_compat g.features
    unfolding sb_bytes sb_fields fields_with
    ro-compat-back = after 42 212 4 (ro_compat g.features) (lit< tt, refl) (lit< tt, refl) (large_sector g)

    pub incompat-back : in_compat g.features < 256 ^ 4 → be_at 4 216 (sb_bytes g s xs) ≡ in_compat g.features
    unfolding sb_bytes sb_fields fields_with
    incompat-back = after 43 216 4 (in_compat g.features) (lit< tt, refl) (lit< tt, refl) (large_sector g)

    uuid-with : (large : Bool) → part 32 16 (stamped crc_at (write_fields (fields_with large g s) xs)) ≡ s.uuid
    unfolding fields_with
    uuid-with true = rw u at (held_with true 5 (lit< tt))
    uuid-with false = rw u at (held_with false 5 (lit< tt))

    pub uuid-back : part 32 16 (sb_bytes g s xs) ≡ s.uuid
    unfolding sb_bytes sb_fields
    uuid-back = uuid-with (large_sector g)

    label-with : (large : Bool) → part 108 12 (stamped crc_at (write_fields (fields_with large g s) xs)) ≡ g.label
    unfolding fields_with
    label-with true = rw l at (held_with true 19 (lit< tt))
    label-with false = rw l at (held_with false 19 (lit< tt))

    pub label-back : part 108 12 (sb_bytes g s xs) ≡ g.label
    unfolding sb_bytes sb_fields
    label-back = label-with (large_sector g)

-- two superblocks of equal bytes, both with the log's sector or both without, have equal fields
pub sb-injective : (g h : Geometry) (s t : SbState) (xs ys : List ℕ) → length s.uuid ≡ 16 → length t.uuid ≡ 16 → length g.label ≡ 12 → length h.label ≡ 12
    → 264 ≤ length xs → 264 ≤ length ys → large_sector g ≡ large_sector h → sb_bytes g s xs ≡ sb_bytes h t ys → sb_fields g s ≡ sb_fields h t
unfolding sb_fields
sb-injective g h s t xs ys us ut lg lh xl yl e b =
    one-reading (fields_with (large_sector g) g s) (fields_with (large_sector h) h t) (sb_bytes g s xs)
    (stand g s us lg (large_sector g) ∙ ap disk_places e ∙ sym (stand h t ut lh (large_sector h)))
    (sb-holds g s us lg xs xl)
    (subst (Holds (fields_with (large_sector h) h t)) (sym b) (sb-holds h t ut lh ys yl))
