-- Group 0's answer from what is read for its name.
-- Assumes nothing.
use mathlib.Core.Path.{◌≡◌, sym, ap, ap₂, ◌∙◌}
use mathlib.Core.Bool.{Bool, true, false, cond}
use mathlib.Core.List.{List}
use Prim.Native.Nat.{ℕ, ◌<◌, ◌≤◌}
use native.Mathlib.Omega.{arith}
use borrow.Author.Tests.{lt-ltb, le-ltb}
use lib.ListN.{length}
use Rattle.refusals.specs.Numbers.{not_left}
use Rattle.geometry.specs.declared.Computed.{Computed}
use Rattle.geometry_answers.specs.Named.{is_answer}
use Rattle.geometry_answers.proofs.Exact.{complete}
use Rattle.geometry_layout.proofs.Bounding.{answer-bounds}
use Rattle.plan.specs.declared.Planned.{Planned}
use Rattle.plan.specs.Plan.{planned}
use Rattle.reader_names.specs.Named.{named_by, uuid_at}
use Rattle.reader_names.proofs.Answer.{named-answered, named-label}
use Rattle.reader_names.specs.Read.{named_read, uuid_read}
use Rattle.reader_names.proofs.Laws.{full-name, full-uuid}
use Rattle.reader_exact.specs.Read.{not_found, found, read_sized, lesser, read_group0, group_number}
use Rattle.reader_exact.specs.declared.Found.{Found}
use Rattle.reader.proofs.Answers.{not_named, refused-first, accepted-first}

module _ (roomy : Bool) (xs : List ℕ) (l : 512 ≤ length xs) (r : Computed) (e : r ≡ named_read roomy xs) where
  is-named : r ≡ named_by roomy xs
  is-named = e ∙ full-name xs roomy l

  number-named : r.number ≡ (named_by roomy xs).number
  number-named = ap (λ (c : Computed). c.number) is-named

  pub unnamed : (r.number ≡ 0 → ⊥) → not_found not_left ≡ read_sized roomy xs
  unnamed h = not_named roomy xs l (λ z. h (number-named ∙ z))

  module _ (z : r.number ≡ 0) where
    its-number : (named_by roomy xs).number ≡ 0
    its-number = sym number-named ∙ z

    -- what is named is an answer, and has a group 0
    its-answer : (is_answer (named_by roomy xs).geometry ≡ true) × (0 < (named_by roomy xs).geometry.agcount)
    its-answer =
        let h : 120 ≤ length xs = omega arith in
        let a = complete (named_by roomy xs).geometry (named-answered roomy xs h its-number) in
        let b = answer-bounds (named_by roomy xs).geometry (named-label roomy xs h its-number) a in
        (a, let c = b.groups.count-least in omega arith)

    module _ (u : List ℕ) (f : u ≡ uuid_read xs) (n : ℕ) (m : n ≡ group_number r.geometry u 0 xs) where
      its-uuid : u ≡ uuid_at xs
      its-uuid = f ∙ full-uuid xs l

      number-here : n ≡ group_number (named_by roomy xs).geometry (uuid_at xs) 0 xs
      number-here = m ∙ ap₂ (λ (c : Computed) (v : List ℕ). group_number c.geometry v 0 xs) is-named its-uuid

      pub refused-read : (n ≡ 0 → ⊥) → not_found n ≡ read_sized roomy xs
      refused-read h = refused-first roomy xs l its-number its-answer.0 its-answer.1 n number-here h

      pub accepted-read : n ≡ 0 → (q : Planned) → q ≡ planned r.geometry 0 → found r.geometry u q.plan ≡ read_sized roomy xs
      accepted-read h q d =
          ap (λ (x : Planned). found r.geometry u x.plan) d
          ∙ ap₂ (λ (c : Computed) (v : List ℕ). found c.geometry v (planned c.geometry 0).plan) is-named its-uuid
          ∙ accepted-first roomy xs l its-number its-answer.0 its-answer.1 n number-here h

-- ---- of the two readings

module _ (xs : List ℕ) (old : Found) (e : old ≡ read_sized false xs) where
  pub old-given : old.number ≡ 0 → old ≡ read_group0 xs
  unfolding read_group0
  old-given z = e ∙ sym (ap (λ (t : Bool). cond t (read_sized true xs) (read_sized false xs)) (le-ltb (read_sized true xs).number (read_sized false xs).number (let n = ap (λ (f : Found). f.number) e in omega arith)))

  module _ (roomy : Found) (d : roomy ≡ read_sized true xs) where
    both-given : lesser roomy old ≡ read_group0 xs
    unfolding read_group0
    both-given = ap₂ lesser d e

    pub roomy-given : roomy.number < old.number → roomy ≡ read_group0 xs
    roomy-given h = sym (ap (λ (t : Bool). cond t roomy old) (lt-ltb roomy.number old.number h)) ∙ both-given

    pub old-kept : old.number ≤ roomy.number → old ≡ read_group0 xs
    old-kept h = sym (ap (λ (t : Bool). cond t roomy old) (le-ltb roomy.number old.number h)) ∙ both-given
