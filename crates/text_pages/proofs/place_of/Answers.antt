-- `text_pages::place_of` meets its contract.
-- Assumes nothing.
use mathlib.Core.Path.{◌≡◌, sym, ap}
use mathlib.Core.Path.{◌∙◌}
use mathlib.Core.Logic.{inl, inr}
use Prim.Native.Nat.{ℕ, ◌+◌}
use native.Mathlib.Omega.{arith}
use lib.ListN.{drop}
use Rattle.std.proofs.lemmas.List.{take_rest}
use Rattle.text_pages.specs.Pages.{place_of_byte}
use Rattle.text_pages.proofs.Places.{index-past}
use Rattle.text_pages.proofs.place_of.Goals as goal

pub returns-in-Some : goal.returns-in-Some
unfolding place_of_byte
returns-in-Some c = let l = c.in-Some.ensures.lookup.0 in
    let r : c.in-Some.rest.now ≡ drop c.args.at c.args.bytes.now = l.2 ∙ take_rest c.args.bytes.now c.args.at in
    let e = c.first_of.ensures in
    (rw r at (ap (λ (k : ℕ). c.args.at + k) e.0), omega arith, omega (arith, e.1))

pub returns-in-None : goal.returns-in-None
unfolding place_of_byte
returns-in-None c = elim c.in-None.ensures.lookup.0 [ inl h ↦ (sym (index-past _ c.args.bytes.now c.args.at (omega arith)), omega arith, omega arith) | inr h ↦ absurd (omega arith) ]
