-- The 64 bits that an inode stores of a time, and which times it can store.
-- Assumes nothing.
use Rattle.std.specs.Prelude.{◌≡◌, Bool, true, false, ◌&&◌, cond, ℕ, suc, ◌+◌, ◌-◌, ◌*◌, ◌/◌, ◌%◌, ◌^◌, leb, ltb, ℤ, pos, negsuc, ◌-ℤ◌}
use Rattle.refusals.specs.Numbers.{time_out_of_range}
use Rattle.structs.specs.Written.{require}
use Rattle.params.specs.declared.Timestamp.{Timestamp}

-- nanoseconds of a second
abbrev pub second : ℕ
second = 1_000_000_000

-- seconds from 1970 back to the least time, −2,147,483,648 s
abbrev pub epoch : ℕ
epoch = 2_147_483_648

-- the seconds are not before the least time
unfoldable pub not_early : ℤ → Bool
not_early (pos n) = true
not_early (negsuc n) = leb (suc n) epoch

-- the seconds + 2,147,483,648, where they are not before the least time
unfoldable pub shifted : ℤ → ℕ
shifted (pos n) = n + epoch
shifted (negsuc n) = epoch - suc n

-- the seconds in 32 bits, in two's complement
unfoldable pub in32 : ℤ → ℕ
in32 (pos n) = n
in32 (negsuc n) = 2 ^ 32 - suc n

-- Nanoseconds are below 1,000,000,000. Without bigtime, seconds are −2,147,483,648 to 2,147,483,647; with it,
-- (seconds + 2,147,483,648) × 1,000,000,000 + nanoseconds lies in 0 to 2^64 − 1.
unfoldable pub time_inside : Bool → ℤ → ℕ → Bool
time_inside false secs nsecs = ltb nsecs second && (not_early secs && ltb (shifted secs) (2 ^ 32))
time_inside true secs nsecs = ltb nsecs second && (not_early secs && ltb (shifted secs * second + nsecs) (2 ^ 64))

-- without bigtime the seconds in the high half and the nanoseconds in the low one; with it the nanoseconds since the least time
unfoldable pub time_raw : Bool → ℤ → ℕ → ℕ
time_raw false secs nsecs = in32 secs * 2 ^ 32 + nsecs
time_raw true secs nsecs = shifted secs * second + nsecs

abbrev pub time_number : Bool → ℤ → ℕ → ℕ
time_number bigtime secs nsecs = require time_out_of_range (time_inside bigtime secs nsecs) 0

-- a value that was accepted, 0 where it was not
abbrev pub value_if : Bool → ℕ → ℕ
value_if true v = v
value_if false v = 0

-- What `encode_time` answers.
pub record StoredAs (bigtime : Bool) (secs : ℤ) (nsecs number value : ℕ) : Type 0 where
  pub number_is : number ≡ time_number bigtime secs nsecs
  pub value-is : value ≡ value_if (time_inside bigtime secs nsecs) (time_raw bigtime secs nsecs)

-- not before the least time, and at most 16,299,260,425 s, the last second that either form can store
unfoldable pub storable : ℤ → Bool
storable (pos n) = leb n 16_299_260_425
storable (negsuc n) = leb (suc n) epoch

pub record ShiftedTime (secs : ℤ) (inside : Bool) (value : ℕ) : Type 0 where
  pub test : inside ≡ storable secs
  pub value-is : value ≡ value_if (storable secs) (shifted secs)

unfoldable pub signed32 : ℕ → ℤ
signed32 n = cond (ltb n (2 ^ 31)) (pos n) (pos n -ℤ pos (2 ^ 32))

-- the time that 64 bits of an inode are
unfoldable pub decoded : Bool → ℕ → Timestamp
decoded false raw = record { secs = signed32 (raw / 2 ^ 32); nsecs = raw % 2 ^ 32 }
decoded true raw = record { secs = pos (raw / second) -ℤ pos epoch; nsecs = raw % second }
