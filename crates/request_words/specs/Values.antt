-- What the text behind `=` gives, by the word's key.
-- Assumes nothing.
use Rattle.std.specs.Prelude.{List, [], ◌∷◌, Bool, true, ◌&&◌, ◌||◌, cond, ℕ, suc, ◌+◌, ◌-◌, ◌/◌, ◌%◌, ◌^◌, leb, ltb, eqb, length, get_or}
use Rattle.arith.specs.Choice.{when}
use Rattle.seqs.specs.Lists.{first_index, fold}
use Rattle.request_texts.specs.Texts.{good_value, malformed_value, too_large, named, packed_name, number_text}
use Rattle.request_texts.specs.declared.Value.{Value}
use Rattle.request_words.specs.declared.Names.{Names}

-- where a name stands in a table of names; the table's length where it doesn't
abbrev pub index_in : List ℕ → ℕ → ℕ
index_in table name = first_index (λ n. eqb n name) table

-- ---- keys

-- The keys that are named below; 1 to 13 are the codes of the options.
abbrev pub label_key : ℕ
label_key = 0

abbrev pub features_key : ℕ
features_key = 9

abbrev pub sizing_key : ℕ
sizing_key = 12

abbrev pub profile_key : ℕ
profile_key = 13

abbrev pub size_key : ℕ
size_key = 14

abbrev pub logical_key : ℕ
logical_key = 15

abbrev pub physical_key : ℕ
physical_key = 16

abbrev pub uuid_key : ℕ
uuid_key = 17

-- the key of no word: how many keys there are
abbrev pub no_key : ℕ
no_key = 18

-- the largest code of an option
abbrev pub codes : ℕ
codes = 13

-- THE WORDS' NAMES: the key of a word is its name's index
unfoldable pub names : List ℕ
names =
    packed_name (108 ∷ 97 ∷ 98 ∷ 101 ∷ 108 ∷ [])  -- 0 label
    ∷ packed_name (117 ∷ 115 ∷ 101 ∷ [])  -- 1 use
    ∷ packed_name (98 ∷ 108 ∷ 111 ∷ 99 ∷ 107 ∷ [])  -- 2 block
    ∷ packed_name (115 ∷ 101 ∷ 99 ∷ 116 ∷ 111 ∷ 114 ∷ [])  -- 3 sector
    ∷ packed_name (105 ∷ 110 ∷ 111 ∷ 100 ∷ 101 ∷ [])  -- 4 inode
    ∷ packed_name (97 ∷ 103 ∷ 99 ∷ 111 ∷ 117 ∷ 110 ∷ 116 ∷ [])  -- 5 agcount
    ∷ packed_name (97 ∷ 103 ∷ 115 ∷ 105 ∷ 122 ∷ 101 ∷ [])  -- 6 agsize
    ∷ packed_name (105 ∷ 109 ∷ 97 ∷ 120 ∷ 112 ∷ 99 ∷ 116 ∷ [])  -- 7 imaxpct
    ∷ packed_name (115 ∷ 101 ∷ 101 ∷ 100 ∷ [])  -- 8 seed
    ∷ packed_name (102 ∷ 101 ∷ 97 ∷ 116 ∷ 117 ∷ 114 ∷ 101 ∷ 115 ∷ [])  -- 9 features
    ∷ packed_name (116 ∷ 105 ∷ 109 ∷ 101 ∷ [])  -- 10 time
    ∷ packed_name (110 ∷ 97 ∷ 110 ∷ 111 ∷ 115 ∷ 101 ∷ 99 ∷ 111 ∷ 110 ∷ 100 ∷ 115 ∷ [])  -- 11 nanoseconds
    ∷ packed_name (115 ∷ 105 ∷ 122 ∷ 105 ∷ 110 ∷ 103 ∷ [])  -- 12 sizing
    ∷ packed_name (112 ∷ 114 ∷ 111 ∷ 102 ∷ 105 ∷ 108 ∷ 101 ∷ [])  -- 13 profile
    ∷ packed_name (115 ∷ 105 ∷ 122 ∷ 101 ∷ [])  -- 14 size
    ∷ packed_name (108 ∷ 111 ∷ 103 ∷ 105 ∷ 99 ∷ 97 ∷ 108 ∷ [])  -- 15 logical
    ∷ packed_name (112 ∷ 104 ∷ 121 ∷ 115 ∷ 105 ∷ 99 ∷ 97 ∷ 108 ∷ [])  -- 16 physical
    ∷ packed_name (117 ∷ 117 ∷ 105 ∷ 100 ∷ [])  -- 17 uuid
    ∷ []

-- the largest value of each key; of a label it is the length
unfoldable pub largest_values : List ℕ
largest_values =
    12  -- label
    ∷ (2 ^ 64 - 1)  -- use
    ∷ (2 ^ 32 - 1)  -- block
    ∷ (2 ^ 32 - 1)  -- sector
    ∷ (2 ^ 32 - 1)  -- inode
    ∷ (2 ^ 64 - 1)  -- agcount
    ∷ (2 ^ 64 - 1)  -- agsize
    ∷ 255  -- imaxpct
    ∷ (2 ^ 64 - 1)  -- seed
    ∷ 127  -- features
    ∷ (2 ^ 64 - 1)  -- time
    ∷ (2 ^ 32 - 1)  -- nanoseconds
    ∷ 1  -- sizing
    ∷ 1  -- profile
    ∷ (2 ^ 64 - 1)  -- size
    ∷ (2 ^ 32 - 1)  -- logical
    ∷ (2 ^ 32 - 1)  -- physical
    ∷ 1  -- uuid
    ∷ []

-- ---- features

-- the features by their bits
unfoldable pub feature_names : List ℕ
feature_names =
    packed_name (102 ∷ 105 ∷ 110 ∷ 111 ∷ 98 ∷ 116 ∷ [])  -- 0 finobt
    ∷ packed_name (114 ∷ 109 ∷ 97 ∷ 112 ∷ 98 ∷ 116 ∷ [])  -- 1 rmapbt
    ∷ packed_name (114 ∷ 101 ∷ 102 ∷ 108 ∷ 105 ∷ 110 ∷ 107 ∷ [])  -- 2 reflink
    ∷ packed_name (105 ∷ 110 ∷ 111 ∷ 98 ∷ 116 ∷ 99 ∷ 111 ∷ 117 ∷ 110 ∷ 116 ∷ [])  -- 3 inobtcount
    ∷ packed_name (98 ∷ 105 ∷ 103 ∷ 116 ∷ 105 ∷ 109 ∷ 101 ∷ [])  -- 4 bigtime
    ∷ packed_name (110 ∷ 114 ∷ 101 ∷ 120 ∷ 116 ∷ 54 ∷ 52 ∷ [])  -- 5 nrext64
    ∷ packed_name (115 ∷ 112 ∷ 97 ∷ 114 ∷ 115 ∷ 101 ∷ [])  -- 6 sparse
    ∷ []

-- what each bit weighs
unfoldable pub weights : List ℕ
weights = 1 ∷ 2 ∷ 4 ∷ 8 ∷ 16 ∷ 32 ∷ 64 ∷ []

-- no features: of a text that is no list
abbrev pub no_feature_list : ℕ
no_feature_list = 128

-- a feature of weight w turned on (`+`) or off (`-`)
unfoldable pub turned : ℕ → ℕ → ℕ → ℕ
turned mask sign w =
    when (leb no_feature_list mask) no_feature_list
    (when (eqb w 0) no_feature_list
    (when (eqb sign 43) (when (eqb (mask / w % 2) 1) mask (mask + w))
    (when (eqb sign 45) (when (eqb (mask / w % 2) 1) (mask - w) mask) no_feature_list)))

-- what was read of a list: the features so far, the sign and the name of the one that is being read (0: none yet)
abbrev pub features_read : ℕ → ℕ → ℕ → Names
features_read mask sign name = record { mask = mask; sign = sign; name = name }

-- the features with the one that was read last
unfoldable pub last_feature : Names → ℕ
last_feature s = turned s.mask s.sign (get_or weights (index_in feature_names s.name) 0)

-- one byte of the list more: a comma ends a feature, a sign begins it
unfoldable pub next_byte : Names → ℕ → Names
next_byte s b =
    cond (eqb b 44) (features_read (last_feature s) 0 0)
    (cond (eqb s.sign 0) (features_read s.mask b 0)
    (features_read s.mask s.sign (named s.name b)))

-- a list of features, each with its sign, commas between: all but those that it turns off
unfoldable pub feature_mask : List ℕ → ℕ
feature_mask text = last_feature (fold next_byte (features_read 127 0 0) text)

abbrev pub none_name : ℕ
none_name = packed_name (110 ∷ 111 ∷ 110 ∷ 101 ∷ [])

abbrev pub all_name : ℕ
all_name = packed_name (97 ∷ 108 ∷ 108 ∷ [])

-- `none_name`, `all_name`, or a list
unfoldable pub features_text : List ℕ → Value
features_text text =
    cond (eqb (packed_name text) none_name) (good_value 0)
    (cond (eqb (packed_name text) all_name) (good_value 127)
    (cond (ltb (feature_mask text) no_feature_list) (good_value (feature_mask text)) malformed_value))

-- ---- the log's sizing: `plain` or `roomy`
unfoldable pub sizings : List ℕ
sizings = packed_name (112 ∷ 108 ∷ 97 ∷ 105 ∷ 110 ∷ []) ∷ packed_name (114 ∷ 111 ∷ 111 ∷ 109 ∷ 121 ∷ []) ∷ []

unfoldable pub sizing_in : List ℕ → Value
sizing_in text = cond (ltb (index_in sizings (packed_name text)) 2) (good_value (index_in sizings (packed_name text))) malformed_value

-- ---- the profile: `station`
abbrev pub station_name : ℕ
station_name = packed_name (115 ∷ 116 ∷ 97 ∷ 116 ∷ 105 ∷ 111 ∷ 110 ∷ [])

unfoldable pub profile_in : List ℕ → Value
profile_in text = cond (eqb (packed_name text) station_name) (good_value 1) malformed_value

-- ---- the UUID: 36 characters, hexadecimal but for four dashes; or `none`

-- the value of a hexadecimal digit; 16 of any other byte
unfoldable pub hex : ℕ → ℕ
hex b =
    cond (ltb 102 b) 16
    (cond (ltb 96 b) (b - 87)
    (cond (ltb 70 b) 16
    (cond (ltb 64 b) (b - 55)
    (cond (ltb 57 b) 16 (cond (ltb 47 b) (b - 48) 16)))))

abbrev pub is_dash : ℕ → Bool
is_dash i = eqb i 8 || (eqb i 13 || (eqb i 18 || eqb i 23))

-- the byte that stands at index i of a UUID
unfoldable pub fits_at : ℕ → ℕ → Bool
fits_at i b = cond (is_dash i) (eqb b 45) (ltb (hex b) 16)

-- every byte from index i on
unfoldable pub shaped : ℕ → List ℕ → Bool
shaped i [] = true
shaped i (b ∷ bs) = fits_at i b && shaped (suc i) bs

-- 1 where there is a UUID, 0 where none is wanted
unfoldable pub uuid_in : List ℕ → Value
uuid_in text =
    cond (eqb (packed_name text) none_name) (good_value 0)
    (cond (eqb (length text) 36 && shaped 0 text) (good_value 1) malformed_value)

-- ---- by the key

-- the text's value, before its size is asked for; of a label it is the length
unfoldable pub value_in : ℕ → List ℕ → Value
value_in key text =
    cond (eqb key label_key) (good_value (length text))
    (cond (eqb key features_key) (features_text text)
    (cond (eqb key sizing_key) (sizing_in text)
    (cond (eqb key profile_key) (profile_in text)
    (cond (eqb key uuid_key) (uuid_in text) (number_text text)))))

-- a value that isn't larger than its key allows
unfoldable pub limited : ℕ → Value → Value
limited key v = cond (leb v.value (get_or largest_values key 0)) v too_large
