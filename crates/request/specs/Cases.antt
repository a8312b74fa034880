-- Inputs and the numbers that they get, as one table.
-- Assumes nothing.
use Rattle.std.specs.Prelude.{List, [], ◌∷◌, ◌++◌, Bool, true, ◌&&◌, ℕ, ◌^◌, ◌-◌, eqb, length, take, replicate}
use Rattle.refusals.specs.Numbers.{malformed}
use Rattle.endian.specs.Bytes.{be_bytes}
use Rattle.request.specs.Parse.{parse_def}

abbrev pub input_joined : List (List ℕ) → List ℕ
input_joined [] = []
input_joined (x ∷ xs) = x ++ input_joined xs

-- the records
unfoldable pub dv : ℕ → ℕ → ℕ → List ℕ
dv size logical physical = be_bytes 2 0x4456 ++ (be_bytes 8 size ++ (be_bytes 4 logical ++ be_bytes 4 physical))

unfoldable pub op : ℕ → ℕ → List ℕ
op code value = be_bytes 2 0x4f50 ++ (code ∷ be_bytes 8 value)

unfoldable pub lb : List ℕ → List ℕ
lb bytes = be_bytes 2 0x4c42 ++ (length bytes ∷ bytes)

unfoldable pub id : List ℕ → List ℕ
id bytes = be_bytes 2 0x4944 ++ bytes

-- planlist's example: a device of 1 GiB with sectors of 512 bytes
unfoldable pub disk : List ℕ
disk = dv 1_073_741_824 512 512

-- every record at its longest
unfoldable pub full : List ℕ
full =
    input_joined
    (disk
    ∷ op 1 (2 ^ 64 - 1)
    ∷ op 2 (2 ^ 32 - 1)
    ∷ op 3 (2 ^ 32 - 1)
    ∷ op 4 (2 ^ 32 - 1)
    ∷ op 5 (2 ^ 64 - 1)
    ∷ op 6 (2 ^ 64 - 1)
    ∷ op 7 255
    ∷ op 8 (2 ^ 64 - 1)
    ∷ op 9 127
    ∷ op 10 (2 ^ 64 - 1)
    ∷ op 11 (2 ^ 32 - 1)
    ∷ op 12 1
    ∷ op 13 1
    ∷ lb (replicate 255 65)
    ∷ id (replicate 16 7)
    ∷ [])

-- an input and its number
pub record InputCase : Type 0 where
  pub input : List ℕ
  pub number : ℕ

abbrev pub input_case : List ℕ → ℕ → InputCase
input_case input number = record { input = input; number = number }

abbrev pub all_cases : List InputCase → Bool
all_cases [] = true
all_cases (c ∷ cs) = eqb (parse_def c.input).number c.number && all_cases cs

unfoldable pub cases : List InputCase
cases =
    input_case disk 0
    ∷ input_case full 0
    ∷ input_case (disk ++ (op 11 5 ++ op 10 0)) 0  -- options in any order
    ∷ input_case (disk ++ lb []) 0
    ∷ input_case (disk ++ op 12 0) 0
    ∷ input_case (disk ++ op 12 1) 0
    ∷ input_case (disk ++ op 13 0) 0
    ∷ input_case (disk ++ op 13 1) 0
    ∷ input_case [] malformed  -- no device
    ∷ input_case (op 2 4096) malformed
    ∷ input_case (op 2 4096 ++ disk) malformed  -- the device is not first
    ∷ input_case (disk ++ disk) malformed  -- twice
    ∷ input_case (disk ++ (op 2 4096 ++ op 2 4096)) malformed
    ∷ input_case (disk ++ (lb [] ++ lb (65 ∷ []))) malformed
    ∷ input_case (disk ++ (id (replicate 16 0) ++ id (replicate 16 0))) malformed
    ∷ input_case (take 17 disk) malformed  -- cut
    ∷ input_case (disk ++ (68 ∷ [])) malformed
    ∷ input_case (disk ++ be_bytes 2 0x4f50) malformed
    ∷ input_case (disk ++ take 10 (op 1 0)) malformed
    ∷ input_case (disk ++ take 6 (lb (65 ∷ 66 ∷ 67 ∷ 68 ∷ []))) malformed
    ∷ input_case (disk ++ id (replicate 15 0)) malformed
    ∷ input_case (disk ++ be_bytes 2 0x5858) malformed  -- unknown mark, codes and feature bit
    ∷ input_case (disk ++ op 0 0) malformed
    ∷ input_case (disk ++ op 14 0) malformed
    ∷ input_case (disk ++ op 12 2) malformed  -- neither sizing
    ∷ input_case (disk ++ op 13 2) malformed  -- neither under the profile nor not
    ∷ input_case (disk ++ (op 13 1 ++ op 13 1)) malformed
    ∷ input_case (disk ++ op 255 0) malformed
    ∷ input_case (disk ++ op 9 128) malformed
    ∷ input_case (disk ++ op 2 (2 ^ 32)) malformed  -- too large for its type
    ∷ input_case (disk ++ op 7 256) malformed
    ∷ input_case (disk ++ op 11 (2 ^ 32)) malformed
    ∷ []
