-- The order in which a leaf block is written, and the fields that it then holds.
-- Assumes nothing.
use mathlib.Core.Path.{◌≡◌, refl, ap, sym, ◌∙◌}
use mathlib.Core.List.{List, [], ◌∷◌}
use Prim.Native.Nat.{ℕ}
use lib.ListN.{length, replicate, length-replicate}
use Rattle.endian.specs.Bytes.{be_bytes, patch}
use Rattle.endian.specs.Fields.{Field, field, byte_run, write_fields, spans}
use Rattle.endian.proofs.Order.{any_order}
use Rattle.crc.specs.Crc.{stamped}
use Rattle.structs.specs.Written.{null32}
use Rattle.structs.proofs.Reading.{write-append, patch-whole}
use Rattle.btree.specs.Leaf.{leaf_header, leaf_fields, leaf_bytes}

-- the code writes the numbers first, and then the UUID
abbrev coded : ℕ → ℕ → ℕ → List ℕ → ℕ → List Field
coded magic daddr agno uuid numrecs =
    field 0 4 magic
    ∷ field 4 2 0
    ∷ field 6 2 numrecs
    ∷ field 8 4 null32
    ∷ field 12 4 null32
    ∷ field 16 8 daddr
    ∷ field 24 8 0
    ∷ field 48 4 agno
    ∷ byte_run 32 uuid
    ∷ []

pub header-written : (magic daddr agno : ℕ) (uuid : List ℕ) (numrecs : ℕ) (xs : List ℕ) → length uuid ≡ 16
    → write_fields (coded magic daddr agno uuid numrecs) xs ≡ write_fields (leaf_header magic daddr agno uuid numrecs) xs
unfolding leaf_header be_bytes
header-written magic daddr agno uuid numrecs xs u =
    sym (any_order (spans (coded 0 0 0 (replicate 16 0) 0)) 52 tt (coded magic daddr agno uuid numrecs) (rw u refl) xs)

-- zeros, header, records, checksum
pub leaf-written : (magic daddr agno : ℕ) (uuid recs : List ℕ) (numrecs : ℕ) (xs ys zs ws vs : List ℕ) → ys ≡ patch 0 (replicate (length xs) 0) xs
    → zs ≡ write_fields (leaf_header magic daddr agno uuid numrecs) ys → ws ≡ patch 56 recs zs → vs ≡ stamped 52 ws → vs ≡ leaf_bytes magic daddr agno uuid recs numrecs (length xs)
unfolding leaf_bytes leaf_fields
leaf-written magic daddr agno uuid recs numrecs xs ys zs ws vs a b c d =
    let h = leaf_header magic daddr agno uuid numrecs in
    let z : ys ≡ replicate (length xs) 0 = a ∙ patch-whole (replicate (length xs) 0) xs (length-replicate (length xs) 0) in
    d ∙ ap (stamped 52) (c ∙ ap (patch 56 recs) (b ∙ ap (write_fields h) z) ∙ sym (write-append h (byte_run 56 recs ∷ []) (replicate (length xs) 0)))
