-- The list of an accepted run is applied whole, through a buffer of any size, where its device lies within the limit and is no longer than a
-- file can be; and of the first bytes of the list whole records alone are, where the buffer holds a block.
-- Assumes nothing.
use mathlib.Core.Path.{◌≡◌, sym}
use mathlib.Core.Bool.{true}
use Prim.Native.Nat.{ℕ, ◌<◌, ◌≤◌}
use native.Mathlib.Omega.{arith}
use Rattle.geometry.specs.SizeLimits.{max_supported_block}
use Rattle.list_records.specs.Records.{Record, WZ, Wb, FL, OneBlock}
use Rattle.list_records.proofs.Blocks.{all_map}
use Rattle.list_records.specs.Device.{InsideDevice}
use Rattle.list_read.specs.Records.{largest_offset}
use Rattle.list_read.proofs.Heads.{ends-within}
use Rattle.list_apply.proofs.Steps.{limit-kept}
use Rattle.list_apply_laws.specs.Lists.{Within, Applies, InOne, AppliesFront}
use Rattle.list_apply_laws.proofs.Applied.{list-applied}
use Rattle.list_apply_laws.proofs.Fronts.{list-front}
use Rattle.request.specs.declared.Request.{Request}
use Rattle.run.specs.Runs.{run_of}
use Rattle.list_spec.specs.Listing.{list_of}
use Rattle.list_accepted.specs.Accepted.{AcceptedRun}
use Rattle.list_accepted.proofs.Sound.{sound}
use Rattle.list_accepted.proofs.Heads.{run-ordered}
use Rattle.list_laws.proofs.Whole.{list-ends, list-fits}

record-within : (bs device limit : ℕ) → device ≤ largest_offset → device ≤ limit → (w : Record) → InsideDevice bs device w → Within limit w
record-within bs device limit h k (WZ offset n) f = sym (limit-kept limit _ _ true (omega (arith, f.1)) (ends-within _ _ (omega (arith, f.1))))
record-within bs device limit h k (Wb offset bytes) f = sym (limit-kept limit _ _ true (omega (arith, f.1)) (ends-within _ _ (omega (arith, f.1))))
record-within bs device limit h k FL f = sym (limit-kept limit _ _ true (omega arith) (ends-within _ _ (omega arith)))

-- a block comes in one piece
record-in-one : (bs size : ℕ) → bs ≤ size → (w : Record) → OneBlock bs w → InOne size w
record-in-one bs size h (WZ offset n) o = omega arith
record-in-one bs size h (Wb offset bytes) o = omega arith
record-in-one bs size h FL o = omega arith

-- WHAT IS SENT FOR AN ACCEPTED RUN IS APPLIED TO ITS END
pub run-applied : (r : Request) → AcceptedRun r → r.device ≤ largest_offset → (size limit : ℕ) → 0 < size → r.device ≤ limit → Applies size limit (list_of (run_of r) r.device)
run-applied r a h size limit some k =
    let run = run_of r in
    list-applied size limit some (list_of run r.device) (list-ends run r.device) (list-fits r a)
    (all_map (InsideDevice run.geometry.blocksize r.device) (Within limit) (list_of run r.device)
    (record-within run.geometry.blocksize r.device limit h k) (run-ordered r a).fits)

-- AND OF ITS FIRST BYTES, HOWEVER MANY CAME, WHOLE RECORDS ALONE
pub run-front : (r : Request) → AcceptedRun r → r.device ≤ largest_offset → (size limit : ℕ) → max_supported_block ≤ size → r.device ≤ limit → (i : ℕ)
    → AppliesFront size limit (list_of (run_of r) r.device) i
run-front r a h size limit hold k i =
    let run = run_of r in
    let bs = run.geometry.blocksize in
    let rs = list_of run r.device in
    let m = (sound r a).block-most in
    list-front size limit (omega arith) rs (list-ends run r.device) (list-fits r a)
    (all_map (InsideDevice bs r.device) (Within limit) rs (record-within bs r.device limit h k) (run-ordered r a).fits)
    (all_map (OneBlock bs) (InOne size) rs (record-in-one bs size (omega arith)) (run-ordered r a).one_block) i
