-- The entries of a ring of slots are the blocks that were put into it.
-- Assumes nothing.
use mathlib.Core.Path.{◌≡◌, ap, ap₂, sym, ◌∙◌}
use mathlib.Core.List.{List, ◌∷◌}
use Prim.Native.Nat.{ℕ, zero, suc, ◌+◌, ◌%◌, ◌≤◌, ◌<◌}
use native.Mathlib.Nat.{add-zero}
use native.Mathlib.Omega.{arith}
use lib.ListN.{length, drop, get_or}
use lib.Seq.{drop-cons, drop-length}
use Rattle.ag.specs.Agfl.{placed}
use Rattle.ag.proofs.Slots.{length-placed}
use Rattle.ag.proofs.Ring.{in-slot}
use Rattle.reader_decoded.specs.Decoded.{entries}

module _ (n first : ℕ) (bs slots : List ℕ) (p : 0 < n) (w : length slots ≡ n) (l : length bs ≤ n) where
  abbrev ring : List ℕ
  ring = placed n first bs slots

  ring-length : length ring ≡ n
  ring-length = length-placed n first bs slots ∙ w

  -- those from entry i on
  entries_from : (i m : ℕ) → i + m ≡ length bs → entries ring (first + i) m ≡ drop i bs
  unfolding entries
  entries_from i zero e = let z : i ≡ length bs = omega arith in rw z (sym (drop-length bs))
  entries_from i (suc m) e =
      let s : suc (first + i) ≡ first + suc i = omega arith in
      let a : get_or ring ((first + i) % length ring) 0 ≡ get_or bs i 0 =
      ap (λ (k : ℕ). get_or ring ((first + i) % k) 0) ring-length ∙ in-slot n first bs slots p w l i (omega arith) in
      ap₂ (λ (x : ℕ) (xs : List ℕ). x ∷ xs) a (ap (λ (k : ℕ). entries ring k m) s ∙ entries_from (suc i) m (omega arith))
      ∙ sym (drop-cons bs i 0 (omega arith))

  -- all
  pub entries-back : entries ring first (length bs) ≡ bs
  entries-back = ap (λ (k : ℕ). entries ring k (length bs)) (sym (add-zero first)) ∙ entries_from 0 (length bs) (omega arith)
