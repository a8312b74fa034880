-- Finishing a run changes five bytes of the device: the rewrite of group 0's header blocks leaves every other as it was.
-- Assumes nothing.
use mathlib.Core.Path.{◌≡◌, sym, ap, ◌∙◌}
use mathlib.Core.Bool.{false}
use mathlib.Core.List.{List}
use mathlib.Core.Logic.{⊎_elim}
use Prim.Native.Nat.{ℕ, ◌+◌, ◌≤◌, ◌<◌}
use native.Mathlib.Omega.{arith}
use lib.Dec.{lit<}
use lib.ListN.{get_or}
use Rattle.list_records.specs.Device.{Device, applied, read}
use Rattle.list_records.proofs.Reading.{get_d_read}
use Rattle.list_records.proofs.Applying.{missed-after}
use Rattle.seqs.proofs.Laws.{lt-or-le}
use Rattle.request.specs.declared.Request.{Request}
use Rattle.run.specs.declared.Run.{Run}
use Rattle.run.specs.Runs.{run_of}
use Rattle.list_spec.specs.Listing.{head_left, closing, list_of}
use Rattle.list_spec.specs.Left.{head_at, head_bytes_of, unfinished}
use Rattle.list_spec.specs.Sound.{SoundRun}
use Rattle.list_spec.proofs.Spans.{spans}
use Rattle.list_spec.proofs.Parts.{list-parts}
use Rattle.list_spec.proofs.Alone.{closing-miss}
use Rattle.list_spec.proofs.Left.{unfinished-head, left}
use Rattle.list_accepted.specs.Accepted.{AcceptedRun}
use Rattle.list_accepted.specs.Superblocks.{changed_byte}
use Rattle.list_accepted.proofs.Finished.{finished-same}
use Rattle.list_accepted.proofs.Sound.{sound}

module _ (run : Run) (device : ℕ) (s : SoundRun run device) (d : Device) where
  abbrev before : Device
  before = applied (unfinished run device) d

  abbrev after : Device
  after = applied (list_of run device) d

  -- a byte of group 0's head, in either
  at_head : (e : Device) (xs : List ℕ) (x : ℕ) → x < head_bytes_of run → read e (head_at run 0) (head_bytes_of run) ≡ xs → e x ≡ get_or xs x 0
  at_head e xs x h q =
      let p = (spans run device s).first in
      let o : head_at run 0 + x ≡ x = omega arith in
      ap e (sym o) ∙ sym (get_d_read e (head_at run 0) (head_bytes_of run) x h) ∙ ap (λ (ys : List ℕ). get_or ys x 0) q

  in_head : (x : ℕ) → changed_byte x ≡ false → x < head_bytes_of run → after x ≡ before x
  unfolding head_left
  in_head x c h =
      let z : 0 < run.geometry.agcount = omega (arith, s.two) in
      at_head after (head_left run.geometry run.uuid 0) x h ((left run device s d).head 0 z)
      ∙ finished-same run.geometry run.uuid x c
      ∙ sym (at_head before _ x h (unfinished-head run device s 0 z d))

  behind-head : (x : ℕ) → head_bytes_of run ≤ x → after x ≡ before x
  behind-head x h =
      let p = spans run device s in
      let m : read after x 1 ≡ read before x 1 = rw (list-parts run device) (missed-after x 1 (unfinished run device) (closing run) d (closing-miss run x 1 (omega (arith, p.header-head)))) in
      let o : x + 0 ≡ x = omega arith in
      ap after (sym o) ∙ sym (get_d_read after x 1 0 (lit< tt)) ∙ ap (λ (ys : List ℕ). get_or ys 0 0) m ∙ get_d_read before x 1 0 (lit< tt) ∙ ap before o

  -- EVERY OTHER BYTE OF THE DEVICE STAYS
  pub rewrite-same : (x : ℕ) → changed_byte x ≡ false → after x ≡ before x
  rewrite-same x c = ⊎_elim (in_head x c) (behind-head x) (lt-or-le x (head_bytes_of run))

-- of every accepted run, on a device of any old contents
pub finished-on-disk : (r : Request) → AcceptedRun r → (d : Device) (x : ℕ) → changed_byte x ≡ false
    → applied (list_of (run_of r) r.device) d x ≡ applied (unfinished (run_of r) r.device) d x
finished-on-disk r a d x c = rewrite-same (run_of r) r.device (sound r a) d x c
