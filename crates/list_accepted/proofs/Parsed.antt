-- What `parse` answers for bytes has the machine's types: so what `accept` accepts are accepted runs.
-- Assumes nothing.
use Rattle.std.specs.Prelude.{Option, Some, None, unwrap_or}
use mathlib.Core.Path.{◌≡◌, refl, ◌∙◌}
use mathlib.Core.Bool.{Bool, true, false}
use mathlib.Core.List.{List, [], ◌∷◌}
use Prim.Native.Nat.{ℕ, zero, suc, ◌+◌, ◌-◌, ◌^◌, ◌≤◌, ◌<◌, min}
use native.Mathlib.Omega.{arith}
use borrow.Author.Tests.{lt-ltb, ltb-true, ltb-false}
use lib.Dec.{ltb, lit<}
use lib.ListN.{length, get_or, drop, replicate, length-append, length-take, length-drop, length-replicate}
use Rattle.endian.specs.Bytes.{Below}
use Rattle.endian.specs.Fields.{part}
use Rattle.endian.proofs.Laws.{at_bound}
use Rattle.head_bytes.proofs.Below.{below-append, below-zeros}
use Rattle.geometry_answers.specs.Answers.{TypedOptions}
use Rattle.request_input.specs.Records.{option, option_bits, value_with, records, well_formed}
use Rattle.request_input.specs.Records as keys
use Rattle.request.specs.Options.{short32, short8, signed, time_given, LabelInside, UuidInside, label_at, label_given, uuid_given, params_of, OptBelow}
use Rattle.request.specs.Parse.{parse_def, parsed_if}
use Rattle.request.specs.Defaults.{or_epoch, uuid_of, time_of, seed_of}
use Rattle.request.proofs.Values.{option-fits, label_inside, uuid-inside}
use Rattle.run.specs.Runs.{accepted}
use Rattle.run.proofs.Accepted.{run-zero}
use Rattle.list_accepted.specs.Accepted.{Signed64, TypedRequest, AcceptedRun}
use Rattle.list_accepted.proofs.Bytes.{below_all, below_at, below-take}
use Rattle.list_accepted.proofs.Runs.{request-zero}

-- ---- an option that fits, absent or given

or-64 : (m : ℕ) (o : Option ℕ) → 0 < m → OptBelow m o → unwrap_or o 0 < m
or-64 m None p h = p
or-64 m (Some n) p h = h

or-32 : (m : ℕ) (o : Option ℕ) → 0 < m → OptBelow m o → unwrap_or (short32 o) 0 < m
or-32 m None p h = p
or-32 m (Some n) p h = h

or-8 : (m : ℕ) (o : Option ℕ) → 0 < m → OptBelow m o → unwrap_or (short8 o) 0 < m
or-8 m None p h = p
or-8 m (Some n) p h = h

-- ---- the time

signed-at : (n : ℕ) (t : Bool) → ltb n (2 ^ 63) ≡ t → n < 2 ^ 64 → Signed64 (signed n)
unfolding signed
signed-at n true e h = rw e (ltb-true n (2 ^ 63) e)
signed-at n false e h = let b = ltb-false n (2 ^ 63) e in rw (e, lt-ltb n (2 ^ 64) h) (omega arith)

signed-fits : (n : ℕ) → n < 2 ^ 64 → Signed64 (signed n)
signed-fits n h = signed-at n (ltb n (2 ^ 63)) refl h

time-fits : (s n : Option ℕ) → OptBelow (2 ^ 64) s → OptBelow (2 ^ 32) n → Signed64 (or_epoch (time_given s n)).secs × ((or_epoch (time_given s n)).nsecs < 2 ^ 32)
time-fits None None a b = (lit< tt, lit< tt)
time-fits None (Some n) a b = (signed-fits 0 (lit< tt), b)
time-fits (Some s) None a b = (signed-fits s a, lit< tt)
time-fits (Some s) (Some n) a b = (signed-fits s a, b)

-- ---- label and UUID

below-drop : (m n : ℕ) (xs : List ℕ) → Below m xs → Below m (drop n xs)
below-drop m zero xs b = b
below-drop m (suc n) [] b = tt
below-drop m (suc n) (x ∷ xs) b = below-drop m n xs b.1

module _ (xs : List ℕ) (bytes : (i : ℕ) → get_or xs i 0 < 256) where
  part-below : (off n : ℕ) → Below 256 (part off n xs)
  part-below off n = below-take 256 n (drop off xs) (below-drop 256 off xs (below_all 256 xs bytes))

  part_length : (off n : ℕ) → off + n ≤ length xs → length (part off n xs) ≡ n
  part_length off n h = simp (length-take, length-drop) (omega arith)

  label-fits : (o : Option ℕ) → LabelInside xs o → ((label_given o xs).length < 2 ^ 64) × (length (label_given o xs).bytes ≡ 12) × Below 256 (label_given o xs).bytes
  unfolding label_at
  label-fits None h = (lit< tt, refl, below-zeros 12)
  label-fits (Some p) h =
      let n = min (get_or xs p 0) 12 in
      let b = bytes p in
      let l : length (part (p + 1) n xs) ≡ n = part_length (p + 1) n (omega arith) in
      let z : length (replicate {A = ℕ} (12 - n) 0) ≡ 12 - n = length-replicate (12 - n) 0 in
      (omega arith, length-append (part (p + 1) n xs) (replicate (12 - n) 0) ∙ omega arith, below-append 256 (part (p + 1) n xs) (replicate (12 - n) 0) (part-below (p + 1) n) (below-zeros (12 - n)))

  uuid-fits : (o : Option ℕ) → UuidInside xs o → (length (unwrap_or (uuid_given o xs) (replicate 16 0)) ≡ 16) × Below 256 (unwrap_or (uuid_given o xs) (replicate 16 0))
  uuid-fits None h = (refl, below-zeros 16)
  uuid-fits (Some p) h = (part_length p 16 h, part-below p 16)

  -- ---- the request

  module _ (well : well_formed xs ≡ true) where
    fits : (code : ℕ) → OptBelow (2 ^ get_or option_bits code 0) (value_with (option code) (records 0 xs))
    fits code = option-fits xs well code

    options-typed : TypedOptions (params_of xs)
    unfolding params_of option_bits
    options-typed =
        let l = label-fits (value_with keys.label (records 0 xs)) (label_inside xs) in
        record {
          size = or-64 (2 ^ 64) (value_with (option 1) (records 0 xs)) (lit< tt) (fits 1);
          block_size = or-32 (2 ^ 32) (value_with (option 2) (records 0 xs)) (lit< tt) (fits 2);
          sector-size = or-32 (2 ^ 32) (value_with (option 3) (records 0 xs)) (lit< tt) (fits 3);
          inode-size = or-32 (2 ^ 32) (value_with (option 4) (records 0 xs)) (lit< tt) (fits 4);
          agcount = or-64 (2 ^ 64) (value_with (option 5) (records 0 xs)) (lit< tt) (fits 5);
          agsize = or-64 (2 ^ 64) (value_with (option 6) (records 0 xs)) (lit< tt) (fits 6);
          imaxpct = or-8 (2 ^ 8) (value_with (option 7) (records 0 xs)) (lit< tt) (fits 7);
          label-length = l.0;
          label-size = l.1;
          label-bytes = below_at 256 (params_of xs).label.bytes (lit< tt) l.2;
        }

    request-typed : TypedRequest (parsed_if true xs)
    unfolding uuid_of time_of seed_of params_of option_bits
    request-typed =
        let u = uuid-fits (value_with keys.uuid (records 0 xs)) (uuid-inside xs) in
        let t = time-fits (value_with (option 10) (records 0 xs)) (value_with (option 11) (records 0 xs)) (fits 10) (fits 11) in
        record {
          options = options-typed;
          device = at_bound 8 2 xs bytes;
          logical = at_bound 4 10 xs bytes;
          physical = at_bound 4 14 xs bytes;
          uuid-size = u.0;
          uuid-bytes = below_at 256 (uuid_of (params_of xs)) (lit< tt) u.1;
          seconds = t.0;
          nanoseconds = t.1;
          seed = or-64 (2 ^ 64) (value_with (option 8) (records 0 xs)) (lit< tt) (fits 8);
        }

  -- WHAT `parse` ACCEPTS HAS ITS TYPES
  pub parsed-typed : well_formed xs ≡ true → TypedRequest (parse_def xs)
  unfolding parse_def
  parsed-typed well = rw well (request-typed well)

-- ---- what is accepted

well-at : (xs : List ℕ) (t : Bool) → (parsed_if t xs).number ≡ 0 → t ≡ true
well-at xs true e = refl
well-at xs false e = absurd (omega arith)

pub well-parsed : (xs : List ℕ) → (parse_def xs).number ≡ 0 → well_formed xs ≡ true
unfolding parse_def
well-parsed xs e = well-at xs (well_formed xs) e

-- WHAT `accept` ACCEPTS IS AN ACCEPTED RUN
pub accepted-run : (xs : List ℕ) → ((i : ℕ) → get_or xs i 0 < 256) → (accepted xs).number ≡ 0 → AcceptedRun (parse_def xs)
unfolding accepted
accepted-run xs bytes e =
    let n = run-zero (parse_def xs) e in
    record { typed = parsed-typed xs bytes (well-parsed xs (request-zero (parse_def xs) n)); number = n }
