-- A DISK WHOSE LABEL FIELD IS AB AND ZEROS IS ADMITTED, and the run that leaves it is given; one without a label gets 37.
-- Assumes nothing.
use mathlib.Core.Path.{◌≡◌, refl, sym, ap, ◌∙◌}
use mathlib.Core.Bool.{true}
use mathlib.Core.List.{List, ◌∷◌}
use Prim.Native.Nat.{ℕ}
use lib.ListN.{replicate}
use Rattle.refusals.specs.Numbers.{not_in_profile}
use Rattle.geometry.specs.declared.Geometry.{Geometry}
use Rattle.profile.specs.Rules.{in_profile, label_on}
use Rattle.run.specs.Runs.{run_of}
use Rattle.list_records.specs.Device.{Device}
use Rattle.list_spec.specs.Listing.{head_left}
use Rattle.list_accepted.specs.Accepted.{Source}
use Rattle.list_accepted.proofs.Runs.{source_of}
use Rattle.reader_exact.specs.declared.Found.{Found}
use Rattle.reader_exact.specs.Read.{read_group0}
use Rattle.reader_exact.specs.Disk.{head_on, formatted}
use Rattle.reader_exact.proofs.Disk.{head-formatted}
use Rattle.reader_exact.proofs.Example.{disk, disk-accepted, disk-outside, named, named-accepted, named-label, named-under}
use Rattle.reader_exact.proofs.First.{complete-first}
use Rattle.reader_exact.proofs.Heads.{some-group}
use Rattle.reader_admit.specs.Admit.{admitted}
use Rattle.reader_admit.specs.Profile.{ProfileFirst}
use Rattle.reader_admit.proofs.Within.{reported-within}
use Rattle.reader_admit.proofs.Admitted.{first-admitted, outside-37}

-- ---- AB

abbrev g : Geometry
g = (run_of named).geometry

abbrev u : List ℕ
u = (run_of named).uuid

-- the head of group 0 that its records leave on a device
abbrev left : Device → List ℕ
left old = head_on g (formatted named old) 0

on-any : (old new : Device) → left old ≡ left new
on-any old new =
    let h = some-group g u (source_of named named-accepted) in
    head-formatted named named-accepted old 0 h ∙ sym (head-formatted named named-accepted new 0 h)

pub named-left : (old : Device) → ProfileFirst (head_on (run_of named).geometry (formatted named old) 0)
named-left old =
    let s : Source g u = record { request = named; accepted = named-accepted; geometry = refl; uuid = refl } in
    record { geometry = g; uuid = u; leaves = record { leaves = record { run = s; group = some-group g u s; bytes = on-any old }; profile = named-under } }

pub record Admitted : Type 0 where
  -- sb_fname
  pub field : (run_of named).geometry.label ≡ 65 ∷ 66 ∷ replicate 10 0
  pub admits : (old : Device) → let xs = head_on (run_of named).geometry (formatted named old) 0 in admitted true (read_group0 xs).geometry (read_group0 xs).number ≡ 0
  -- the disk without a label
  pub refuses : let xs = head_left (run_of disk).geometry (run_of disk).uuid 0 in admitted true (read_group0 xs).geometry (read_group0 xs).number ≡ not_in_profile

disk-37 : let xs = head_left (run_of disk).geometry (run_of disk).uuid 0 in admitted true (read_group0 xs).geometry (read_group0 xs).number ≡ not_in_profile
disk-37 =
    let xs = head_left (run_of disk).geometry (run_of disk).uuid 0 in
    let e = complete-first (run_of disk).geometry (run_of disk).uuid (source_of disk disk-accepted) in
    outside-37 (read_group0 xs).geometry (read_group0 xs).number (ap (λ (x : Found). x.number) e)
    (ap (λ (x : Found). in_profile x.geometry (label_on x.geometry)) e ∙ reported-within (run_of disk).geometry ∙ disk-outside)

pub example : Admitted
example = record { field = named-label; admits = λ old. first-admitted (left old) (named-left old); refuses = disk-37 }
