-- 37 EXACTLY WHERE AN ACCEPTED RUN LEAVES THE BYTES AND NONE UNDER THE PROFILE DOES: group 0's head, a group's head, the log block and a whole disk. No other number of
-- the reader is taken for it, or it for one of theirs.
-- Assumes nothing.
use Rattle.refusals.specs.Numbers.{not_in_profile, not_left, wrong_length}
use Rattle.endian.specs.Bytes.{Octets}
use mathlib.Core.Path.{◌≡◌, refl, subst, ◌∙◌}
use mathlib.Core.Bool.{Bool, true, false, cond}
use mathlib.Core.List.{List}
use mathlib.Core.Logic.{◌↔◌}
use Prim.Native.Nat.{ℕ, zero, suc, ◌≤◌}
use native.Mathlib.Omega.{arith}
use borrow.Author.Tests.{eqb-true}
use lib.Dec.{T, eqb}
use lib.ListN.{length}
use Rattle.seqs.proofs.Laws.{choose-elim}
use Rattle.geometry.specs.declared.Geometry.{Geometry}
use Rattle.profile.specs.Rules.{profile_number, label_on}
use Rattle.list_records.specs.Device.{Device}
use Rattle.reader_names.specs.Read.{named_read}
use Rattle.reader_exact.specs.Read.{read_group0, group_number, read_group, read_log}
use Rattle.reader_exact.specs.Left.{Handed, HeadLeftBy, LeftLog}
use Rattle.reader_exact.proofs.Others.{group-sound, exact-log, number_read}
use Rattle.reader_exact.proofs.Numbers.{one_of, first_numbers, group_numbers, log_numbers, first-numbers, group-numbers, log-numbers}
use Rattle.reader_pass.specs.declared.Stage.{Stage}
use Rattle.reader_pass.specs.declared.Stage.TheVariants.{Naming, First, Heads, Log, Ended}
use Rattle.reader_pass.specs.declared.Pass.{Pass}
use Rattle.reader_pass.specs.declared.Verdict.{Verdict}
use Rattle.reader_pass.specs.Passing.{pass_begun, stage_length, pass_ended_by, is_ended, stage_at, went_on, named_so, fed_named, fed_first, pass_fed_head, fed_log, fed_whole, fed_short, pass_fed, saying, pass_verdict}
use Rattle.reader_pass.specs.Device.{ByteDevice, pass_turn, pass_turns, passed_turns, turns_needed, LeftByRun}
use Rattle.reader_pass.proofs.Left.{accepted-left}
use Rattle.reader_admit.specs.Admit.{admitted}
use Rattle.reader_admit.specs.Profile.{ProfileLeaves, ProfileLeavesLog, ProfileFirst, ProfileDisk}
use Rattle.reader_admit.proofs.Admitted.{first-admitted, admit-group, admit-log, first-37, group-37, log-37}
use Rattle.reader_admit.proofs.Whole.{admit-disk, disk-37}

-- the reader's own number was none
only_zero : (g : Geometry) (n : ℕ) → (n ≡ not_in_profile → ⊥) → admitted true g n ≡ not_in_profile → n ≡ 0
unfolding admitted
only_zero g n h e = go (eqb n 0) refl e
  where
    go : (t : Bool) → eqb n 0 ≡ t → cond t (profile_number true g (label_on g)) n ≡ not_in_profile → n ≡ 0
    go true d f = eqb-true n 0 d
    go false d f = absurd (h f)

not-both : (n : ℕ) → n ≡ not_in_profile → n ≡ 0 → ⊥
not-both n e f = omega (arith, e, f)

-- the reader's numbers of a place: none is 37
first-own : (xs : List ℕ) → (read_group0 xs).number ≡ not_in_profile → ⊥
first-own xs q = subst (λ (k : ℕ). T (one_of first_numbers k)) q (first-numbers xs)

group-own : (g : Geometry) (u : List ℕ) (k : ℕ) (xs : List ℕ) → (read_group g u k xs).number ≡ not_in_profile → ⊥
group-own g u k xs q = subst (λ (j : ℕ). T (one_of group_numbers j)) q (group-numbers g u k xs)

log-own : (g : Geometry) (u xs : List ℕ) → read_log g u xs ≡ not_in_profile → ⊥
log-own g u xs q = subst (λ (j : ℕ). T (one_of log_numbers j)) q (log-numbers g u xs)

-- GROUP 0'S HEAD
pub first-exactly : (xs : List ℕ) → Octets xs
    → (admitted true (read_group0 xs).geometry (read_group0 xs).number ≡ not_in_profile) ↔ (((read_group0 xs).number ≡ 0) × (ProfileFirst xs → ⊥))
first-exactly xs o = (
  (λ e. (
    only_zero (read_group0 xs).geometry (read_group0 xs).number (first-own xs) e,
    (λ w. not-both _ e (first-admitted xs w)),
  )),
  (λ p. first-37 xs o p.0 p.1),
)

-- A GROUP'S HEAD
pub group-exactly : (g : Geometry) (u : List ℕ) (k : ℕ) (xs : List ℕ) → Handed g u
    → (admitted true g (read_group g u k xs).number ≡ not_in_profile) ↔ (HeadLeftBy g u k xs × (ProfileLeaves g u k xs → ⊥))
group-exactly g u k xs h = (
  (λ e. (
    group-sound g u k xs h (only_zero g (read_group g u k xs).number (group-own g u k xs) e),
    (λ w. not-both _ e ((admit-group g u k xs h).1 w)),
  )),
  (λ p. group-37 g u k xs p.0 p.1),
)

-- THE LOG BLOCK
pub log-exactly : (g : Geometry) (u xs : List ℕ) → Handed g u → (admitted true g (read_log g u xs) ≡ not_in_profile) ↔ (LeftLog g u xs × (ProfileLeavesLog g u xs → ⊥))
log-exactly g u xs h = (
  (λ e. (
    (exact-log g u xs h).0 (only_zero g (read_log g u xs) (log-own g u xs) e),
    (λ w. not-both _ e ((admit-log g u xs h).1 w)),
  )),
  (λ p. log-37 g u xs h p.0 p.1),
)

-- ---- a pass: it ends with a number of the reader's, so never with 37

abbrev NotProfile : Pass → Type 0
NotProfile p = p.number ≡ not_in_profile → ⊥

went-own : (p : Pass) (n : ℕ) (g : Geometry) (u : List ℕ) (k : ℕ) → (n ≡ not_in_profile → ⊥) → NotProfile (went_on p n g u k)
unfolding went_on
went-own p n g u k h =
    choose-elim NotProfile (eqb n 0) (record { stage = stage_at g k; number = 0; place = k; geometry = g; uuid = u }) (pass_ended_by p n)
    (λ t e. omega (arith, e)) (λ t. h)

named-own : (p : Pass) (xs : List ℕ) → NotProfile (fed_named p xs)
unfolding fed_named named_so
named-own p xs =
    let c = named_read false xs in
    choose-elim NotProfile (eqb c.number 0) (record { stage = First; number = 0; place = 0; geometry = c.geometry; uuid = p.uuid }) (pass_ended_by p not_left)
    (λ t e. omega (arith, e)) (λ t e. omega (arith, e))

whole-own : (s : Stage) (p : Pass) (xs : List ℕ) → NotProfile p → NotProfile (fed_whole s p xs)
unfolding fed_first pass_fed_head fed_log
whole-own Naming p xs h = named-own p xs
whole-own First p xs h = went-own p (read_group0 xs).number (read_group0 xs).geometry (read_group0 xs).uuid 1 (first-own xs)
whole-own Heads p xs h =
    went-own p (group_number p.geometry p.uuid p.place xs) p.geometry p.uuid _
    (λ q. group-own p.geometry p.uuid p.place xs (number_read p.geometry p.uuid p.place xs ∙ q))
whole-own Log p xs h = log-own p.geometry p.uuid xs
whole-own Ended p xs h = h

fed-own : (p : Pass) (xs : List ℕ) → NotProfile p → NotProfile (pass_fed p xs)
unfolding pass_fed fed_short
fed-own p xs h =
    choose-elim NotProfile (eqb (length xs) (stage_length p.stage p.geometry)) (fed_whole p.stage p xs) (fed_short p.stage p)
    (λ t. whole-own p.stage p xs h)
    (λ t. choose-elim NotProfile (is_ended p.stage) p (pass_ended_by p wrong_length) (λ e. h) (λ e f. omega (arith, f)))

turns-own : (d : Device) (n : ℕ) (p : Pass) → NotProfile p → NotProfile (pass_turns d n p)
unfolding pass_turns pass_turn
turns-own d zero p h = h
turns-own d (suc n) p h = turns-own d n (pass_turn d p) (fed-own p _ h)

pass-own : (d : Device) (n : ℕ) → (pass_verdict (passed_turns d n)).number ≡ not_in_profile → ⊥
unfolding pass_verdict
pass-own d n =
    let p = passed_turns d n in
    choose-elim (λ (v : Verdict). v.number ≡ not_in_profile → ⊥) (is_ended p.stage) (saying p p.number) (saying p wrong_length)
    (λ t. turns-own d n pass_begun (λ e. omega (arith, e))) (λ t e. omega (arith, e))

-- A WHOLE DISK, once all was read
pub disk-exactly : (d : Device) (n : ℕ) → ByteDevice d → turns_needed d ≤ n
    → (admitted true (pass_verdict (passed_turns d n)).geometry (pass_verdict (passed_turns d n)).number ≡ not_in_profile) ↔ (LeftByRun d × (ProfileDisk d → ⊥))
disk-exactly d n b h = (
  (λ e. (
    accepted-left d b n (only_zero (pass_verdict (passed_turns d n)).geometry (pass_verdict (passed_turns d n)).number (pass-own d n) e),
    (λ w. not-both _ e ((admit-disk d n b h).1 w)),
  )),
  (λ p. disk-37 d n b h p.0 p.1),
)
