-- The input as a list of records, and which lists are well-formed.
-- Assumes nothing.
use Rattle.std.specs.Prelude.{List, [], ◌∷◌, Bool, true, false, not, ◌&&◌, ◌||◌, cond, ℕ, zero, suc, ◌+◌, ◌-◌, ◌^◌, leb, ltb, eqb, length, get_or, Option, Some, None, is_some}
use Rattle.endian.specs.Bytes.{be_at}
use Rattle.request_input.specs.declared.Record.{Record}

-- ---- options

-- The bits of each option's type, by its code; a code that is no option's has none. A new option is a line here.
unfoldable pub option_bits : List ℕ
option_bits =
    0
    ∷ 64  -- 1 size
    ∷ 32  -- 2 block
    ∷ 32  -- 3 sector
    ∷ 32  -- 4 inode
    ∷ 64  -- 5 agcount
    ∷ 64  -- 6 agsize
    ∷ 8  -- 7 imaxpct
    ∷ 64  -- 8 seed
    ∷ 7  -- 9 features
    ∷ 64  -- 10 seconds
    ∷ 32  -- 11 nanoseconds
    ∷ 1  -- 12 roomy
    ∷ 1  -- 13 profile
    ∷ []

-- the code is known, and the number fits the option's type
unfoldable pub option_fits : ℕ → ℕ → Bool
option_fits code n = ltb 0 (get_or option_bits code 0) && ltb n (2 ^ get_or option_bits code 0)

-- ---- one record

-- What a record gives, as a key that may stand once: the device, the label, the UUID, or the option of a code.
abbrev pub device : ℕ
device = 0

abbrev pub label : ℕ
label = 1

abbrev pub uuid : ℕ
uuid = 2

abbrev pub option : ℕ → ℕ
option code = 3 + code

-- a record with its key, its value (an option's number; where the bytes of another begin), and where the next one begins
abbrev pub entry : ℕ → ℕ → ℕ → Record
entry key value next = record { key = key; value = value; next = next }

-- no record, in an input of `len` bytes: it has the key of no option, and nothing is read behind it
abbrev pub no_record : ℕ → Record
no_record len = entry (option 0) 0 len

-- a record that ends inside the input; a cut one is none
abbrev pub whole_record : ℕ → ℕ → ℕ → ℕ → Record
whole_record len key value next = cond (leb next len) (entry key value next) (no_record len)

-- The record at an offset, by its mark: `DV`, `OP`, `LB`, `ID`. Each has three bytes or more.
abbrev pub record_by_mark : ℕ → ℕ → List ℕ → Record
record_by_mark mark at xs =
    cond (eqb mark 0x4456) (whole_record (length xs) device (at + 2) (at + 18))
    (cond (eqb mark 0x4f50) (whole_record (length xs) (option (get_or xs (at + 2) 0)) (be_at 8 (at + 3) xs) (at + 11))
    (cond (eqb mark 0x4c42) (whole_record (length xs) label (at + 2) (at + 3 + get_or xs (at + 2) 0))
    (cond (eqb mark 0x4944) (whole_record (length xs) uuid (at + 2) (at + 18)) (no_record (length xs)))))

unfoldable pub record_at : ℕ → List ℕ → Record
record_at at xs = cond (leb (at + 3) (length xs)) (record_by_mark (be_at 2 at xs) at xs) (no_record (length xs))

-- its mark and its code are known, it isn't cut, and its number fits
abbrev pub record_known : ℕ → ℕ → Bool
record_known key value = ltb key 3 || option_fits (key - 3) value

-- ---- all records

abbrev pub record_then : Bool → Record → List Record → List Record
record_then true r rs = r ∷ rs
record_then false r rs = []

-- at most `n` records, from `at` on
unfoldable pub split_records : ℕ → ℕ → List ℕ → List Record
split_records zero at xs = []
split_records (suc n) at xs = record_then (ltb at (length xs)) (record_at at xs) (split_records n (record_at at xs).next xs)

-- the records from `at` on; each has a byte or more
unfoldable pub records : ℕ → List ℕ → List Record
records at xs = split_records (length xs - at) at xs

abbrev pub value_if_found : Bool → ℕ → Option ℕ → Option ℕ
value_if_found true v rest = Some v
value_if_found false v rest = rest

-- the value of the first record with the key
unfoldable pub value_with : ℕ → List Record → Option ℕ
value_with key [] = None
value_with key (r ∷ rs) = value_if_found (eqb key r.key) r.value (value_with key rs)

-- every record is known, and none has the key of a later one
unfoldable pub sound : List Record → Bool
sound [] = true
sound (r ∷ rs) = record_known r.key r.value && (not (is_some (value_with r.key rs)) && sound rs)

-- the first is the device's
unfoldable pub starts_with_device : List Record → Bool
starts_with_device [] = false
starts_with_device (r ∷ rs) = eqb r.key device

-- The input is well-formed: its records are sound, and the device's stands first.
unfoldable pub well_formed : List ℕ → Bool
well_formed xs = starts_with_device (records 0 xs) && sound (records 0 xs)
