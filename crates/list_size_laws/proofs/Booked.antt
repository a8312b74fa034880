-- The size of an input is the size of what `writelist` sends for it.
-- Assumes nothing.
use mathlib.Core.Path.{◌≡◌, refl, sym, ap, ◌∙◌}
use mathlib.Core.Bool.{Bool, true, false}
use mathlib.Core.List.{List}
use Prim.Native.Nat.{ℕ, ◌+◌, ◌*◌, ◌^◌, ◌<◌, ◌≤◌}
use native.Mathlib.Omega.{arith}
use borrow.Author.Tests.{eq-eqb, eqb-true, eqb-false}
use lib.Dec.{eqb}
use lib.ListN.{length, get_or}
use Rattle.request.specs.Parse.{parse_def}
use Rattle.run.specs.Runs.{accepted}
use Rattle.list_records.specs.Records.{Record, list_bytes, payload as carried_by}
use Rattle.list_read.specs.Whole.{ListRead, read_list, whole_list}
use Rattle.list_spec.specs.Listing.{list_of}
use Rattle.list_send.specs.Sending.{sending_begun}
use Rattle.list_laws.specs.Whole.{sent_all, WrittenWhole}
use Rattle.list_laws.specs.Sending.{SendsAll, SendsNone}
use Rattle.list_laws.proofs.Whole.{input-whole}
use Rattle.list_laws.proofs.Sending.{sends-all, sends_none}
use Rattle.group_bytes.proofs.Accepted.{size-most}
use Rattle.list_size.specs.declared.ListSize.{ListSize}
use Rattle.list_size.specs.Sizes.{size_of, no_size, run_size, input_size}
use Rattle.list_size.specs.Closed.{closed_size}
use Rattle.list_size.proofs.Closed.{blocks-most, bytes_most, input-bounds, input-closed, input-refused}
use Rattle.list_size_laws.specs.Booked.{sent_for, Enough, Announced, Booked}

-- its number is the run's
number-at : (xs : List ℕ) (t : Bool) → eqb (accepted xs).number 0 ≡ t → (input_size xs).number ≡ (accepted xs).number
unfolding input_size run_size
number-at xs true e = rw e (sym (eqb-true (accepted xs).number 0 e))
number-at xs false e = rw e refl

number_is : (xs : List ℕ) → (input_size xs).number ≡ (accepted xs).number
number_is xs = number-at xs (eqb (accepted xs).number 0) refl

begun-run : (xs : List ℕ) → (sending_begun xs).run.number ≡ (accepted xs).number
unfolding sending_begun
begun-run xs = refl

module _ (xs : List ℕ) (bytes : (i : ℕ) → get_or xs i 0 < 256) where
  -- ---- accepted
  module _ (e : (accepted xs).number ≡ 0) where
    abbrev list : List Record
    list = list_of (accepted xs) (parse_def xs).device

    all : SendsAll (sending_begun xs) (accepted xs) (parse_def xs).device
    all = sends-all xs bytes e

    written : WrittenWhole (accepted xs) (parse_def xs).device
    written = input-whole xs bytes e

    size_is : input_size xs ≡ size_of list
    unfolding input_size run_size
    size_is = rw (eq-eqb (accepted xs).number 0 e) refl

    sent_is : (work : ℕ) (ys : List ℕ) → Enough xs work ys → sent_for xs work ys ≡ list_bytes list
    sent_is work ys h = all.whole work ys h.0 h.1

    -- read again
    back_is : (work : ℕ) (ys : List ℕ) → Enough xs work ys → read_list (sent_for xs work ys) ≡ whole_list list
    back_is work ys h = ap read_list (sent_is work ys h ∙ sym written.whole) ∙ written.back

    bytes_small : (input_size xs).bytes < 2 ^ 50
    bytes_small =
        let z = input-bounds xs bytes e in
        let g = (accepted xs).geometry in
        let m = bytes_most _ _ (blocks-most g z) (size-most g z) in
        let c = ap (λ (s : ListSize). s.bytes) (input-closed xs bytes e) in
        omega arith

    announced : Announced xs
    announced =
        record {
          bytes = λ work ys h. ap (λ (s : ListSize). s.bytes) size_is ∙ sym (ap length (sent_is work ys h));
          whole = λ work ys h. ap (λ (r : ListRead). r.number) (back_is work ys h);
          records = λ work ys h. ap (λ (s : ListSize). s.records) size_is ∙ sym (ap (λ (r : ListRead). length r.records) (back_is work ys h));
          payload = λ work ys h. ap (λ (s : ListSize). s.payload) size_is ∙ sym (ap (λ (r : ListRead). carried_by r.records) (back_is work ys h));
          chunks = ap (λ (s : ListSize). s.bytes) size_is ∙ sym (ap length written.whole);
          closed = input-closed xs bytes e;
          small = bytes_small;
        }

  -- WHAT IS SAID OF AN INPUT IS WHAT `writelist` SENDS FOR IT, AND ITS REFUSAL IS WRITELIST'S
  pub booked : Booked xs
  booked =
      record {
        number = number_is xs ∙ sym (begun-run xs);
        accepted-size = λ z. announced (sym (number_is xs) ∙ z);
        refused-size = λ h.
            let r : (accepted xs).number ≡ 0 → ⊥ = λ z. h (number_is xs ∙ z) in
            (input-refused xs r ∙ ap no_size (sym (number_is xs)), (sends_none xs bytes r).turns);
      }
