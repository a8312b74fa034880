-- The numbers of the names `hold` and `release`, the rest of a text, a number by itself, and the numbers of a start in their order.
-- Assumes nothing.
use mathlib.Core.Path.{◌≡◌, refl}
use mathlib.Core.List.{List}
use mathlib.Core.Bool.{true, false, ◌&&◌}
use lib.Dec.{ltb, eqb}
use Rattle.table_lines.specs.Decimal.{value_after}
use Prim.Native.Nat.{ℕ, ◌-◌}
use lib.ListN.{length, take, drop, length-drop}
use lib.Seq.{take_all}
use native.Mathlib.Nat.{le_of_eq}
use Rattle.seqs.specs.Lists.{fold}
use Rattle.geometry.specs.declared.Computed.{Computed}
use Rattle.geometry.specs.Compute.{compute_def}
use Rattle.plan_holds.specs.declared.Held.{Held}
use Rattle.plan_holds.specs.Holding.{started}
use Rattle.request.specs.declared.Request.{Request}
use Rattle.request.specs.Parse.{parse_def}
use Rattle.run.specs.Runs.{or_next, step_of}
use Rattle.request_texts.specs.Texts.{letter, named, packed_name, leading, within, malformed_value}
use Rattle.inquire_holds.specs.declared.Opened.{Opened}
use Rattle.inquire_holds.specs.Words.{hold_name, release_name, number_alone}
use Rattle.inquire_holds.specs.Calls.{opened_of, holds_opened}

pub hold-name : hold_name ≡ 426207
unfolding packed_name named letter fold
hold-name = refl

pub release-name : release_name ≡ 46552540421
unfolding packed_name named letter fold
release-name = refl

-- `&xs[n..]`, as the borrow checker has it
pub behind : (n : ℕ) (xs : List ℕ) → take (length xs - n) (drop n xs) ≡ drop n xs
behind n xs = take_all (length xs - n) (drop n xs) (le_of_eq (length-drop n xs))

-- a text is a number exactly where its digits are one at least and all of it
module _ (text : List ℕ) (n : ℕ) (at : n ≡ leading text) where
  pub alone-is : (ltb 0 n && eqb n (length text)) ≡ true → within (value_after 0 text) ≡ number_alone text
  unfolding number_alone
  alone-is t = rw (← at, t)

  pub alone-not : (ltb 0 n && eqb n (length text)) ≡ false → malformed_value ≡ number_alone text
  unfolding number_alone
  alone-not t = rw (← at, t)

-- the records' number comes first, then the geometry step's, then the start's
pub opened-by : (input : List ℕ) (k : ℕ) (q : Request) (c : Computed) (h : Held) (later number : ℕ) → q ≡ parse_def input
    → c ≡ compute_def q.params q.device q.logical q.physical → h ≡ started c.geometry k → later ≡ or_next c.number h.number
    → number ≡ or_next q.number later → ◌≡◌ {A = Opened} (record { number = number; geometry = c.geometry; state = h.state }) (holds_opened input k)
unfolding holds_opened opened_of step_of
opened-by input k q c h later number a b d e f = rw (f, e, d, b, a) refl
