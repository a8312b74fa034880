-- The order in which the code writes the headers: the numbers first, and then the runs of bytes.
-- Assumes nothing.
use mathlib.Core.Path.{◌≡◌, refl, ap, sym, ◌∙◌}
use mathlib.Core.List.{List, [], ◌∷◌}
use Prim.Native.Nat.{ℕ}
use lib.ListN.{length, replicate}
use Rattle.endian.specs.Bytes.{be_bytes, numbers_bytes, patch}
use Rattle.endian.specs.Fields.{Field, field, byte_run, write_fields, spans}
use Rattle.endian.proofs.Order.{any_order}
use Rattle.structs.specs.Holds.{numbered}
use Rattle.structs.specs.Written.{null32}
use Rattle.structs.proofs.Reading.{run-fields, write-append}
use Rattle.ag.specs.declared.agf.Agf.{Agf}
use Rattle.ag.specs.declared.agi.Agi.{Agi}
use Rattle.ag.specs.Sector.{ag_version}
use Rattle.ag.specs.Agf.{agf_magic, agf_fields}
use Rattle.ag.specs.Agi.{agi_magic, agi_prefix, agi_fields}
use Rattle.ag.specs.Agfl.{agfl_magic, agfl_header}
use Rattle.ag.proofs.Slots.{nulls}

-- the numbers of an AGF, the UUID, more numbers, the log sequence number
pub agf-written : (a : Agf) (uuid xs : List ℕ)
    → patch 208 (be_bytes 8 0) (patch 80 (numbers_bytes 4 (a.rmap_blocks ∷ a.refcount_blocks ∷ a.refcount_root ∷ a.refcount_level ∷ []))
    (patch 64 uuid (patch 0 (numbers_bytes 4 (agf_magic ∷ ag_version ∷ a.seqno ∷ a.length ∷ a.bno_root ∷ a.cnt_root ∷ a.rmap_root ∷ a.bno_level ∷ a.cnt_level
    ∷ a.rmap_level ∷ a.flfirst ∷ a.fllast ∷ a.flcount ∷ a.freeblks ∷ a.longest ∷ a.btreeblks ∷ [])) xs)))
    ≡ write_fields (agf_fields a uuid) xs
unfolding agf_fields
agf-written a uuid xs = rw (run-fields 4 0, run-fields 4 80) refl

-- the prefix of an AGI's fields, before the checksum, and all of them
pub prefix-written : (prefix uuid xs : List ℕ) → patch 296 uuid (patch 40 (replicate 256 255) (patch 0 (numbers_bytes 4 prefix) xs)) ≡ write_fields (agi_prefix prefix uuid) xs
prefix-written prefix uuid xs =
    ap (λ (l : List ℕ). patch 296 uuid (patch 40 l (patch 0 (numbers_bytes 4 prefix) xs))) (sym (nulls 64))
    ∙ ap (λ (l : List ℕ). patch 296 uuid (patch 40 (numbers_bytes 4 (replicate 64 null32)) l)) (run-fields 4 0 prefix xs)
    ∙ sym (write-append (numbered 4 0 prefix) (byte_run 40 (numbers_bytes 4 (replicate 64 null32)) ∷ byte_run 296 uuid ∷ []) xs)

pub agi-written : (a : Agi) (uuid xs ys : List ℕ)
    → ys ≡ write_fields (agi_prefix (agi_magic ∷ ag_version ∷ a.seqno ∷ a.length ∷ a.count ∷ a.root ∷ a.level ∷ a.freecount ∷ a.newino ∷ null32 ∷ []) uuid) xs
    → patch 328 (numbers_bytes 4 (a.free_root ∷ a.free_level ∷ a.iblocks ∷ a.fblocks ∷ [])) (patch 320 (be_bytes 8 0) ys) ≡ write_fields (agi_fields a uuid) xs
unfolding agi_fields
agi-written a uuid xs ys e = rw (run-fields 4 328, e) refl

abbrev agfl : ℕ → List ℕ → List Field
agfl seqno uuid = field 0 4 agfl_magic ∷ field 4 4 seqno ∷ field 24 8 0 ∷ byte_run 8 uuid ∷ []

pub agfl-order : (seqno : ℕ) (uuid xs : List ℕ) → length uuid ≡ 16 → write_fields (agfl seqno uuid) xs ≡ write_fields (agfl_header seqno uuid) xs
unfolding agfl_header be_bytes
agfl-order seqno uuid xs u = sym (any_order (spans (agfl 0 (replicate 16 0))) 32 tt (agfl seqno uuid) (rw u refl) xs)
