-- The options that the records of a well-formed input give.
-- Assumes nothing.
use Rattle.std.specs.Prelude.{List, ◌++◌, Bool, false, cond, ℕ, ◌+◌, ◌-◌, ◌/◌, ◌%◌, ◌^◌, ◌≤◌, ◌<◌, min, ltb, eqb, ℤ, pos, ◌-ℤ◌, length, get_or, replicate, Option, Some, None}
use Rattle.endian.specs.Fields.{part}
use Rattle.params.specs.declared.Timestamp.{Timestamp}
use Rattle.params.specs.declared.Label.{Label}
use Rattle.params.specs.declared.Features.{Features}
use Rattle.params.specs.declared.Params.{Params}
use Rattle.params.specs.Params.{all_features, options, no_label}
use Rattle.request_input.specs.declared.Record.{Record}
use Rattle.request_input.specs.Records.{label, uuid, option, value_with, records}

-- what Holds of an option's number, if it is given
abbrev pub Holds : (ℕ → Type 0) → Option ℕ → Type 0
Holds P None = Unit {0}
Holds P (Some n) = P n

-- it is below `m`; the label whose length stands there lies inside the input; so does the UUID that begins there
abbrev pub OptBelow : ℕ → Option ℕ → Type 0
OptBelow m = Holds (λ (n : ℕ). n < m)

abbrev pub LabelInside : List ℕ → Option ℕ → Type 0
LabelInside xs = Holds (λ (p : ℕ). p + 1 + get_or xs p 0 ≤ length xs)

abbrev pub UuidInside : List ℕ → Option ℕ → Type 0
UuidInside xs = Holds (λ (p : ℕ). p + 16 ≤ length xs)

-- an option of 32 bits, and of 8 bits
abbrev pub short32 : Option ℕ → Option ℕ
short32 None = None
short32 (Some n) = Some n

abbrev pub short8 : Option ℕ → Option ℕ
short8 None = None
short8 (Some n) = Some n

unfoldable pub signed : ℕ → ℤ
signed n = cond (ltb n (2 ^ 63)) (pos n) (pos n -ℤ pos (2 ^ 64))

abbrev pub given_time : ℕ → ℕ → Option Timestamp
given_time secs nsecs = Some (record { secs = signed secs; nsecs = nsecs })

-- the time where seconds or nanoseconds are given; the absent ones are 0
abbrev pub time_given : Option ℕ → Option ℕ → Option Timestamp
time_given None None = None
time_given None (Some n) = given_time 0 n
time_given (Some s) None = given_time s 0
time_given (Some s) (Some n) = given_time s n

-- the bit `k` of the features is on
abbrev pub on : ℕ → ℕ → Bool
on k n = eqb (n / 2 ^ k % 2) 1

-- from bit 0 on
unfoldable pub features_in : ℕ → Features
features_in n = record {
  finobt = on 0 n;
  rmapbt = on 1 n;
  reflink = on 2 n;
  inobtcount = on 3 n;
  bigtime = on 4 n;
  nrext64 = on 5
      n;
  sparse = on 6 n;
}

abbrev pub features_given : Option ℕ → Features
features_given None = all_features
features_given (Some n) = features_in n

-- an option of one bit is on where 1 is given
abbrev pub turned_on : Option ℕ → Bool
turned_on None = false
turned_on (Some n) = eqb n 1

-- the label whose length stands at `p`: its length, and its first 12 bytes, filled up with zeros
unfoldable pub label_at : ℕ → List ℕ → Label
label_at p xs = record { length = get_or xs p 0; bytes = part (p + 1) (min (get_or xs p 0) 12) xs ++ replicate (12 - min (get_or xs p 0) 12) 0 }

abbrev pub label_given : Option ℕ → List ℕ → Label
label_given None xs = no_label
label_given (Some p) xs = label_at p xs

-- the 16 bytes of a UUID
abbrev pub uuid_given : Option ℕ → List ℕ → Option (List ℕ)
uuid_given None xs = None
uuid_given (Some p) xs = Some (part p 16 xs)

-- the options by their codes
abbrev pub options_in : List Record → List ℕ → Params
options_in rs xs =
    options
    (value_with (option 1) rs)
    (short32 (value_with (option 2) rs))
    (short32 (value_with (option 3) rs))
    (short32 (value_with (option 4) rs))
    (value_with (option 5) rs)
    (value_with (option 6) rs)
    (short8 (value_with (option 7) rs))
    (label_given (value_with label rs) xs)
    (uuid_given (value_with uuid rs) xs)
    (time_given (value_with (option 10) rs) (value_with (option 11) rs))
    (value_with (option 8) rs)
    (features_given (value_with (option 9) rs))
    (turned_on (value_with (option 12) rs))

unfoldable pub params_of : List ℕ → Params
params_of xs = options_in (records 0 xs) xs

-- the run is under the scan station profile; this is no option of the geometry step
unfoldable pub profile_of : List ℕ → Bool
profile_of xs = turned_on (value_with (option 13) (records 0 xs))
