-- What is accepted in one place is what the written records of an accepted run leave there.
-- Assumes nothing.
use mathlib.Core.Path.{◌≡◌, ap, sym, subst, ◌∙◌}
use mathlib.Core.Bool.{true}
use mathlib.Core.List.{List}
use mathlib.Core.Logic.{◌↔◌}
use Prim.Native.Nat.{ℕ, ◌<◌}
use borrow.Author.Tests.{eqb-true, eq-eqb}
use lib.Dec.{eqb}
use Rattle.endian.specs.Bytes.{Octets}
use Rattle.geometry.specs.declared.Geometry.{Geometry}
use Rattle.plan.specs.declared.Planned.{Planned}
use Rattle.list_records.specs.Device.{Device}
use Rattle.list_spec.specs.Listing.{log_block, head_left}
use Rattle.list_accepted.specs.Accepted.{Source}
use Rattle.reader_exact.specs.declared.Found.{Found}
use Rattle.reader_exact.specs.Read.{read_group0, read_group, read_log}
use Rattle.reader_exact.specs.Left.{Handed, HeadLeftBy, LeftLog}
use Rattle.reader_exact.specs.Disk.{head_on, log_on, formatted}
use Rattle.reader_exact.proofs.Disk.{head-formatted, log-formatted}
use Rattle.reader_exact.proofs.First.{accepts-first}
use Rattle.reader_exact.proofs.Others.{group-sound, complete-group, exact-log}
use Rattle.reader_vouch.specs.Leaving.{Leaves, LeavesLog, SomeLeaves}

module _ (g : Geometry) (u xs : List ℕ) where
  on-head : (s : Source g u) (k : ℕ) → k < g.agcount → (old : Device) → head_on g (formatted s.request old) k ≡ head_left g u k
  on-head s k h old =
      rw (← s.geometry, ← s.uuid) (head-formatted s.request s.accepted old k (subst (λ (x : Geometry). k < x.agcount) (sym s.geometry) h))

  on-log : (s : Source g u) (old : Device) → log_on g (formatted s.request old) ≡ log_block g u
  on-log s old = rw (← s.geometry, ← s.uuid) (log-formatted s.request s.accepted old)

  -- ---- a head

  leaves : (k : ℕ) → HeadLeftBy g u k xs → Leaves g u k xs
  leaves k l = record { run = l.source; group = l.group; bytes = λ old. l.bytes ∙ sym (on-head l.source k l.group old) }

  left_by : (k : ℕ) → Leaves g u k xs → HeadLeftBy g u k xs
  left_by k w = let old : Device = λ x. 0 in record { source = w.run; group = w.group; bytes = w.bytes old ∙ on-head w.run k w.group old }

  pub other-head : (k : ℕ) → Handed g u → ((read_group g u k xs).number ≡ 0) ↔ Leaves g u k xs
  other-head k h = ((λ e. leaves k (group-sound g u k xs h e)), (λ w. ap (λ (p : Planned). p.number) (complete-group g u k xs (left_by k w))))

  -- ---- the log block

  leaves-log : LeftLog g u xs → LeavesLog g u xs
  leaves-log l = record { run = l.source; bytes = λ old. l.bytes ∙ sym (on-log l.source old) }

  left-log-by : LeavesLog g u xs → LeftLog g u xs
  left-log-by w = let old : Device = λ x. 0 in record { source = w.run; bytes = w.bytes old ∙ on-log w.run old }

  pub log-block : Handed g u → (read_log g u xs ≡ 0) ↔ LeavesLog g u xs
  log-block h = let t = exact-log g u xs h in ((λ e. leaves-log (t.0 e)), (λ w. t.1 (left-log-by w)))

-- ---- group 0's head

module _ (xs : List ℕ) (o : Octets xs) where
  pub first_head : ((read_group0 xs).number ≡ 0) ↔ SomeLeaves xs
  first_head =
      let t = accepts-first xs o in (
        (λ n. let l = t.0 n in record { geometry = l.geometry; uuid = l.uuid; leaves = leaves l.geometry l.uuid xs 0 l.left }),
        (λ w. t.1 (record { geometry = w.geometry; uuid = w.uuid; left = left_by w.geometry w.uuid xs 0 w.leaves })),
      )

-- as the code tests it
pub tested : (xs : List ℕ) (f : Found) → f ≡ read_group0 xs → Octets xs → (eqb f.number 0 ≡ true) ↔ SomeLeaves xs
tested xs f e o =
    let n = ap (λ (x : Found). x.number) e in
    let t = first_head xs o in
    ((λ b. t.0 (sym n ∙ eqb-true f.number 0 b)), (λ w. eq-eqb f.number 0 (n ∙ t.1 w)))
