-- Uses and totals of a disk that is accepted whole, with the geometry that group 0's head gave.
-- Assumes nothing.
use mathlib.Core.Path.{◌≡◌, subst}
use mathlib.Core.List.{List}
use Prim.Native.Nat.{ℕ, ◌+◌, ◌*◌, ◌<◌}
use native.Mathlib.Omega.{arith}
use Rattle.endian.specs.Bytes.{Octets}
use Rattle.geometry.specs.declared.Geometry.{Geometry}
use Rattle.geometry_layout.specs.Places.{group_blocks}
use Rattle.list_spec.specs.Listing.{head_blocks}
use Rattle.list_accepted.proofs.Runs.{source-plans, source-label, source-uuid}
use Rattle.reader_exact.specs.Read.{read_group0}
use Rattle.reader_exact.specs.Left.{ReadWhole}
use Rattle.reader_exact.proofs.Whole.{whole-source, whole-heads}
use Rattle.reader_decoded.specs.Decoded.{log_run_in, count_in}
use Rattle.reader_uses.specs.ByUse.{uses_in, Once, free_total, list_total, chunk_total, LeftHeads}
use Rattle.reader_uses.proofs.Totals.{free-total, disk-total}
use Rattle.reader_uses.proofs.OneUse.{one-use}

module _ (heads : ℕ → List ℕ) (log : List ℕ) (o : Octets (heads 0)) (r : ReadWhole heads log) (g : Geometry) (e : (read_group0 (heads 0)).geometry ≡ g) where
  abbrev its : Geometry
  its = (read_group0 (heads 0)).geometry

  abbrev u : List ℕ
  u = (read_group0 (heads 0)).uuid

  left-heads : LeftHeads its u heads
  left-heads =
      let s = whole-source heads log o r in
      record { label = source-label its u s; uuid = source-uuid its u s; plans = source-plans its u s; bytes = whole-heads heads log o r }

  pub used-once : (k b : ℕ) → k < g.agcount → b < group_blocks g.dblocks g.agsize g.agcount k → Once (uses_in g (heads 0) (heads k) k b)
  used-once =
      subst (λ (x : Geometry). (k b : ℕ) → k < x.agcount → b < group_blocks x.dblocks x.agsize x.agcount k → Once (uses_in x (heads 0) (heads k) k b)) e
      (λ k b i j. one-use its u heads left-heads k i b j)

  its-totals : (free_total its heads + list_total its heads ≡ count_in (heads 0))
      × (count_in (heads 0) + its.agcount * head_blocks its + (log_run_in its (heads 0)).blocks + chunk_total its heads ≡ its.dblocks)
  its-totals =
      let a = free-total its u heads left-heads in
      let b = disk-total its u heads left-heads in
      (a, omega arith)

  pub all-totals : (free_total g heads + list_total g heads ≡ count_in (heads 0))
      × (count_in (heads 0) + g.agcount * head_blocks g + (log_run_in g (heads 0)).blocks + chunk_total g heads ≡ g.dblocks)
  all-totals =
      subst (λ (x : Geometry). (free_total x heads + list_total x heads ≡ count_in (heads 0)) × (count_in (heads 0) + x.agcount * head_blocks x + (log_run_in x (heads 0)).blocks + chunk_total x heads ≡ x.dblocks))
      e its-totals
