-- ADMITTED EXACTLY WHERE SOME ACCEPTED RUN UNDER THE PROFILE LEAVES THE BYTES: group 0's head, a group's head and the log block. 37 where
-- an accepted run leaves them and none under the profile does.
-- Assumes nothing.
use mathlib.Core.Path.{◌≡◌, refl, sym, ap, subst, ◌∙◌}
use mathlib.Core.Bool.{Bool, true, false, not, ◌&&◌, cond}
use mathlib.Core.List.{List}
use mathlib.Core.Logic.{◌↔◌}
use Prim.Native.Nat.{ℕ, ◌<◌}
use borrow.Author.Tests.{eqb-true, ne_eqb}
use lib.Dec.{eqb}
use Rattle.endian.specs.Bytes.{Octets}
use Rattle.refusals.specs.Numbers.{not_in_profile}
use Rattle.arith.specs.Choice.{when}
use Rattle.geometry.specs.declared.Geometry.{Geometry}
use Rattle.plan.specs.declared.Planned.{Planned}
use Rattle.profile.specs.Rules.{in_profile, profile_number, label_on}
use Rattle.profile.proofs.Labels.{not-under, number-allowed, allowed-number, refused-number}
use Rattle.run.specs.Runs.{or_next}
use Rattle.run.proofs.Accepted.{none}
use Rattle.list_records.specs.Device.{Device}
use Rattle.list_spec.specs.Listing.{log_block, head_left}
use Rattle.list_accepted.specs.Accepted.{Source}
use Rattle.reader_exact.specs.declared.Found.{Found}
use Rattle.reader_exact.specs.Read.{found, read_group0, read_group, read_log}
use Rattle.reader_exact.specs.Left.{Handed, HeadLeftBy, LeftLog}
use Rattle.reader_exact.specs.Disk.{head_on, log_on, formatted}
use Rattle.reader_exact.proofs.Disk.{head-formatted, log-formatted}
use Rattle.reader_exact.proofs.First.{complete-first, exact-first}
use Rattle.reader_exact.proofs.Others.{group-sound, complete-group, exact-log}
use Rattle.reader_admit.specs.Admit.{admitted}
use Rattle.reader_admit.specs.Profile.{ProfileLeaves, ProfileLeavesLog, ProfileFirst}
use Rattle.reader_admit.proofs.Within.{source-within, within-source, reported-within}

-- ---- the number

-- a reader that isn't told so answers as ever
pub untold : (g : Geometry) (n : ℕ) → admitted false g n ≡ n
unfolding admitted
untold g n = ap (or_next n) (not-under g (label_on g)) ∙ go (eqb n 0) refl
  where
    go : (t : Bool) → eqb n 0 ≡ t → cond t 0 n ≡ n
    go true e = sym (eqb-true n 0 e)
    go false e = refl

-- what is refused keeps its number: 37 comes last
pub refused-kept : (told : Bool) (g : Geometry) (n : ℕ) → (n ≡ 0 → ⊥) → admitted told g n ≡ n
unfolding admitted
refused-kept told g n h = rw (ne_eqb n 0 h) refl

pub admitted-zero : (g : Geometry) (n : ℕ) → admitted true g n ≡ 0 → (n ≡ 0) × (in_profile g (label_on g) ≡ true)
unfolding admitted
admitted-zero g n e = let p = none n (profile_number true g (label_on g)) e in (p.0, number-allowed g (label_on g) p.1)

pub zero-admitted : (g : Geometry) (n : ℕ) → n ≡ 0 → in_profile g (label_on g) ≡ true → admitted true g n ≡ 0
unfolding admitted
zero-admitted g n z e = rw z (allowed-number true g (label_on g) e)

-- 37 where the reader's own number is none
pub outside-37 : (g : Geometry) (n : ℕ) → n ≡ 0 → in_profile g (label_on g) ≡ false → admitted true g n ≡ not_in_profile
unfolding admitted
outside-37 g n z e = rw z (refused-number g (label_on g) e)

-- ---- one place

module _ (g : Geometry) (u : List ℕ) where
  on-head : (s : Source g u) (k : ℕ) → k < g.agcount → (old : Device) → head_on g (formatted s.request old) k ≡ head_left g u k
  on-head s k h old =
      rw (← s.geometry, ← s.uuid) (head-formatted s.request s.accepted old k (subst (λ (x : Geometry). k < x.agcount) (sym s.geometry) h))

  on-log : (s : Source g u) (old : Device) → log_on g (formatted s.request old) ≡ log_block g u
  on-log s old = rw (← s.geometry, ← s.uuid) (log-formatted s.request s.accepted old)

  -- bytes that a run leaves, on a disk within the profile
  head-leaves : (k : ℕ) (xs : List ℕ) → HeadLeftBy g u k xs → in_profile g (label_on g) ≡ true → ProfileLeaves g u k xs
  head-leaves k xs l e =
      let p = within-source g u l.source e in
      record {
        leaves = record { run = p.run; group = l.group; bytes = λ old. l.bytes ∙ sym (on-head p.run k l.group old) };
        profile = p.profile;
      }

  log-leaves : (xs : List ℕ) → LeftLog g u xs → in_profile g (label_on g) ≡ true → ProfileLeavesLog g u xs
  log-leaves xs l e =
      let p = within-source g u l.source e in
      record { leaves = record { run = p.run; bytes = λ old. l.bytes ∙ sym (on-log p.run old) }; profile = p.profile }

  left_by : (k : ℕ) (xs : List ℕ) → ProfileLeaves g u k xs → HeadLeftBy g u k xs
  left_by k xs w =
      let l = w.leaves in
      let old : Device = λ x. 0 in
      record { source = l.run; group = l.group; bytes = l.bytes old ∙ on-head l.run k l.group old }

  left-log-by : (xs : List ℕ) → ProfileLeavesLog g u xs → LeftLog g u xs
  left-log-by xs w = let l = w.leaves in let old : Device = λ x. 0 in record { source = l.run; bytes = l.bytes old ∙ on-log l.run old }

  -- A GROUP'S HEAD, with the geometry and the UUID that group 0 gave
  pub admit-group : (k : ℕ) (xs : List ℕ) → Handed g u → (admitted true g (read_group g u k xs).number ≡ 0) ↔ ProfileLeaves g u k xs
  admit-group k xs h = (
    (λ e. let p = admitted-zero g (read_group g u k xs).number e in head-leaves k xs (group-sound g u k xs h p.0) p.1),
    (λ w.
        zero-admitted g (read_group g u k xs).number (ap (λ (p : Planned). p.number) (complete-group g u k xs (left_by k xs w)))
        (source-within g u (record { run = w.leaves.run; profile = w.profile }))),
  )

  -- THE LOG BLOCK, with the same
  pub admit-log : (xs : List ℕ) → Handed g u → (admitted true g (read_log g u xs) ≡ 0) ↔ ProfileLeavesLog g u xs
  admit-log xs h =
      let t = exact-log g u xs h in (
        (λ e. let p = admitted-zero g (read_log g u xs) e in log-leaves xs (t.0 p.0) p.1),
        (λ w. zero-admitted g (read_log g u xs) (t.1 (left-log-by xs w)) (source-within g u (record { run = w.leaves.run; profile = w.profile }))),
      )

-- ---- group 0's head

-- what is said of the head that a run leaves there: nothing but the profile's own number
pub left-number : (told : Bool) (g : Geometry) (u : List ℕ) → Source g u
    → admitted told (read_group0 (head_left g u 0)).geometry (read_group0 (head_left g u 0)).number ≡ profile_number told g (label_on g)
unfolding admitted
left-number told g u s =
    ap (λ (x : Found). or_next x.number (profile_number told x.geometry (label_on x.geometry))) (complete-first g u s)
    ∙ ap (λ (t : Bool). when (told && not t) not_in_profile 0) (reported-within g)

-- what a run under the profile leaves there is admitted
pub first-admitted : (xs : List ℕ) → ProfileFirst xs → admitted true (read_group0 xs).geometry (read_group0 xs).number ≡ 0
first-admitted xs w =
    let g = w.geometry in
    let u = w.uuid in
    let l = left_by g u 0 xs w.leaves in
    let e = ap read_group0 l.bytes ∙ complete-first g u l.source in
    let i = source-within g u (record { run = w.leaves.leaves.run; profile = w.leaves.profile }) in
    zero-admitted (read_group0 xs).geometry (read_group0 xs).number (ap (λ (x : Found). x.number) e)
    (ap (λ (x : Found). in_profile x.geometry (label_on x.geometry)) e ∙ reported-within g ∙ i)

module _ (xs : List ℕ) (o : Octets xs) where
  abbrev f : Found
  f = read_group0 xs

  its-left : (read_group0 xs).number ≡ 0 → HeadLeftBy (read_group0 xs).geometry (read_group0 xs).uuid 0 xs
  its-left n =
      let g = f.geometry in
      let u = f.uuid in
      let p = f.plan in
      let e : read_group0 xs ≡ found g u p = λ i. record { number = n i; geometry = g; uuid = u; plan = p } in
      ((exact-first xs g u p o).0 e).0

  -- GROUP 0'S HEAD
  pub admit-first : (admitted true (read_group0 xs).geometry (read_group0 xs).number ≡ 0) ↔ ProfileFirst xs
  admit-first = (
    (λ e.
        let p = admitted-zero f.geometry f.number e in
        record { geometry = f.geometry; uuid = f.uuid; leaves = head-leaves f.geometry f.uuid 0 xs (its-left p.0) p.1 }),
    first-admitted xs,
  )

-- ---- 37

true-or-false : (t : Bool) → (t ≡ true → ⊥) → t ≡ false
true-or-false true h = absurd (h refl)
true-or-false false h = refl

-- where a run leaves the bytes, and none under the profile does
module _ (g : Geometry) (u : List ℕ) (k : ℕ) (xs : List ℕ) where
  pub group-37 : HeadLeftBy g u k xs → (ProfileLeaves g u k xs → ⊥) → admitted true g (read_group g u k xs).number ≡ not_in_profile
  group-37 l h =
      outside-37 g (read_group g u k xs).number (ap (λ (p : Planned). p.number) (complete-group g u k xs l))
      (true-or-false (in_profile g (label_on g)) (λ e. h (head-leaves g u k xs l e)))

pub log-37 : (g : Geometry) (u xs : List ℕ) → Handed g u → LeftLog g u xs → (ProfileLeavesLog g u xs → ⊥) → admitted true g (read_log g u xs) ≡ not_in_profile
log-37 g u xs h l n =
    outside-37 g (read_log g u xs) ((exact-log g u xs h).1 l) (true-or-false (in_profile g (label_on g)) (λ e. n (log-leaves g u xs l e)))

pub first-37 : (xs : List ℕ) → Octets xs → (read_group0 xs).number ≡ 0 → (ProfileFirst xs → ⊥) → admitted true (read_group0 xs).geometry (read_group0 xs).number ≡ not_in_profile
first-37 xs o z n =
    outside-37 (read_group0 xs).geometry (read_group0 xs).number z
    (true-or-false (in_profile (read_group0 xs).geometry (label_on (read_group0 xs).geometry))
    (λ e. n ((admit-first xs o).0 (zero-admitted (read_group0 xs).geometry (read_group0 xs).number z e))))
