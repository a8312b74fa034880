-- The order in which the code writes the superblock: its numbers, UUID and label, and then the log's sector. It is the disk's order but for places that don't meet.
-- Assumes nothing.
use mathlib.Core.Path.{◌≡◌, refl, ap, sym, ◌∙◌}
use mathlib.Core.List.{List, [], ◌∷◌, ◌++◌}
use mathlib.Core.Bool.{Bool, true, false, ◌||◌}
use Prim.Native.Nat.{ℕ}
use lib.Dec.{ltb}
use lib.ListN.{length}
use Rattle.endian.specs.Bytes.{be_bytes}
use Rattle.endian.specs.Fields.{Field, Span, byte_run, write_fields, table, spans}
use Rattle.endian.proofs.Order.{any_order}
use Rattle.geometry.specs.declared.Geometry.{Geometry}
use Rattle.sb.specs.declared.SbState.{SbState}
use Rattle.sb.specs.Superblock.{large_sector, log_sector, fields_with, sb_fields}
use Rattle.sb.specs.Numbers.{places, numbers}

-- where the numbers of a table stand
abbrev pub standing : List ℕ → List Span
standing [] = []
standing (o ∷ []) = []
standing (o ∷ (n ∷ os)) = record { from = o; size = n } ∷ standing os

abbrev log_places : Bool → List Span
log_places true = standing (193 ∷ 1 ∷ 194 ∷ 2 ∷ [])
log_places false = []

-- where the fields stand, as the code writes them
abbrev pub code_places : Bool → List Span
code_places large = standing places ++ (standing (32 ∷ 16 ∷ 108 ∷ 12 ∷ []) ++ log_places large)

abbrev code_fields : Bool → Geometry → SbState → List Field
code_fields large g s = table places (numbers g s) ++ ((byte_run 32 s.uuid ∷ byte_run 108 g.label ∷ []) ++ log_sector large g.lsectlog g.lsectsize)

module _ (g : Geometry) (s : SbState) (xs : List ℕ) (u : length s.uuid ≡ 16) (l : length g.label ≡ 12) where
  stand : (large : Bool) → spans (code_fields large g s) ≡ code_places large
  unfolding be_bytes
  stand true = rw (u, l) refl
  stand false = rw (u, l) refl

  pub ordered : (large : Bool)
      → write_fields (log_sector large g.lsectlog g.lsectsize) (write_fields (byte_run 32 s.uuid ∷ byte_run 108 g.label ∷ []) (write_fields (table places (numbers g s)) xs)) ≡ write_fields (fields_with large g s) xs
  unfolding fields_with
  ordered true = sym (any_order (code_places true) 264 tt (code_fields true g s) (stand true) xs)
  ordered false = sym (any_order (code_places false) 264 tt (code_fields false g s) (stand false) xs)

-- the writes one after the other
pub all-written : (g : Geometry) (s : SbState) (xs ws ys zs v : List ℕ) (large : Bool) → length s.uuid ≡ 16 → length g.label ≡ 12
    → v ≡ numbers g s → large ≡ (ltb 512 g.sectsize || ltb 512 g.lsectsize)
    → ws ≡ write_fields (table places v) xs → ys ≡ write_fields (byte_run 32 s.uuid ∷ byte_run 108 g.label ∷ []) ws → zs ≡ write_fields (log_sector large g.lsectlog g.lsectsize) ys
    → zs ≡ write_fields (sb_fields g s) xs
unfolding sb_fields large_sector
all-written g s xs ws ys zs v large u l ev el ew ey ez =
    ez ∙ ap (write_fields (log_sector large g.lsectlog g.lsectsize))
    (ey ∙ ap (write_fields (byte_run 32 s.uuid ∷ byte_run 108 g.label ∷ [])) (ew ∙ ap (λ (w : List ℕ). write_fields (table places w) xs) ev))
    ∙ ordered g s xs u l large ∙ ap (λ (b : Bool). write_fields (fields_with b g s) xs) el
