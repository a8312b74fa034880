-- A list that is cut lacks its last flush.
-- Assumes nothing.
use mathlib.Core.Path.{◌≡◌, sym, ap, ◌∙◌}
use mathlib.Core.List.{List, [], ◌∷◌, ◌++◌}
use Prim.Native.Nat.{ℕ, ◌<◌}
use native.Mathlib.Omega.{arith}
use lib.ListN.{length, drop, length-append}
use Rattle.seqs.specs.Lists.{total}
use Rattle.seqs.proofs.Laws.{total-append}
use Rattle.run.specs.declared.Run.{Run}
use Rattle.list_records.specs.Records.{Record, FL, by_kind, flushes}
use Rattle.list_spec.specs.Listing.{list_of}
use Rattle.list_spec.specs.Cut.{FlushesTellWhole}
use Rattle.list_spec.proofs.Counts.{list-flushes}
use Rattle.list_spec.proofs.Parts.{cut-behind, but_last, list-last}

module _ (run : Run) (device : ℕ) where
  before_last : flushes (but_last run device) ≡ 1
  unfolding total
  before_last = omega (arith, list-flushes run device, ap flushes (list-last run device), total-append (by_kind 0 0 1) (but_last run device) (FL ∷ []))

  noticed : (cut rest : List Record) (r : Record) → cut ++ (r ∷ rest) ≡ list_of run device → flushes cut < 2
  noticed cut rest r e =
      let whole = but_last run device in
      let both : whole ++ (FL ∷ []) ≡ cut ++ (r ∷ rest) = sym (e ∙ list-last run device) in
      let c = cut-behind cut (r ∷ rest) whole (FL ∷ []) both (omega (arith, ap length both, length-append whole (FL ∷ []), length-append cut (r ∷ rest))) in
      omega (arith, before_last, ap flushes c.0, total-append (by_kind 0 0 1) cut (drop (length cut) whole))

  -- A CUT LIST IS NOTICED
  pub told : FlushesTellWhole run device
  told = record { whole-flushes = list-flushes run device; cut-noticed = noticed }
