-- Laws of the values behind `=`: each branch of a test, and each turn of a loop.
-- Assumes nothing.
use mathlib.Core.Path.{◌≡◌}
use mathlib.Core.Bool.{true, false}
use mathlib.Core.List.{List}
use Prim.Native.Nat.{ℕ, zero, suc, ◌+◌, ◌≤◌, ◌<◌}
use native.Mathlib.Numerals.{add-one}
use native.Mathlib.Omega.{arith}
use lib.Dec.{ltb, eqb}
use lib.ListN.{length, get_or, drop}
use borrow.Author.Tests.{lt-ltb, le-ltb, le-leb, lt-leb, eq-eqb, ne_eqb}
use Rattle.request_texts.specs.declared.Value.{Value}
use Rattle.request_words.specs.declared.Names.{Names}
use Rattle.request_texts.specs.Texts.{good_value, malformed_value, too_large, named, packed_name, number_text}
use Rattle.request_words.specs.Values.{label_key, features_key, sizing_key, profile_key, uuid_key, index_in, largest_values, weights, no_feature_list, features_read, last_feature, next_byte, feature_mask, none_name, all_name, features_text, sizings, sizing_in, station_name, profile_in, hex, is_dash, fits_at, shaped, uuid_in, value_in, limited}
use Rattle.text_pages.proofs.Places.{rest-cons, rest-nil}

-- ---- tables
pub weight-small : (bit : ℕ) → get_or weights bit 0 ≤ 64
unfolding weights
weight-small zero = omega arith
weight-small (suc zero) = omega arith
weight-small (suc (suc zero)) = omega arith
weight-small (suc (suc (suc zero))) = omega arith
weight-small (suc (suc (suc (suc zero)))) = omega arith
weight-small (suc (suc (suc (suc (suc zero))))) = omega arith
weight-small (suc (suc (suc (suc (suc (suc zero)))))) = omega arith
weight-small (suc (suc (suc (suc (suc (suc (suc n))))))) = omega arith

-- ---- features
module _ (s : Names) (b : ℕ) where
  pub byte-comma : (mask : ℕ) → mask ≡ last_feature s → b ≡ 44 → features_read mask 0 0 ≡ next_byte s b
  unfolding next_byte
  byte-comma mask e h = rw (eq-eqb b 44 h, e)

  pub byte-sign : (b ≡ 44 → ⊥) → s.sign ≡ 0 → features_read s.mask b 0 ≡ next_byte s b
  unfolding next_byte
  byte-sign ne h = rw (ne_eqb b 44 ne, eq-eqb s.sign 0 h)

  pub byte-name : (b ≡ 44 → ⊥) → (s.sign ≡ 0 → ⊥) → (name : ℕ) → name ≡ named s.name b → features_read s.mask s.sign name ≡ next_byte s b
  unfolding next_byte
  byte-name ne nz name e = rw (ne_eqb b 44 ne, ne_eqb s.sign 0 nz, e)

module _ (text : List ℕ) (name : ℕ) (is : name ≡ packed_name text) where
  pub features-none : name ≡ none_name → good_value 0 ≡ features_text text
  unfolding features_text
  features-none h = rw (← is, eq-eqb name none_name h)

  pub features-all : (name ≡ none_name → ⊥) → name ≡ all_name → good_value 127 ≡ features_text text
  unfolding features_text
  features-all ne h = rw (← is, ne_eqb name none_name ne, eq-eqb name all_name h)

  module _ (ne : name ≡ none_name → ⊥) (nor : name ≡ all_name → ⊥) (mask : ℕ) (of : mask ≡ feature_mask text) where
    pub features-listed : mask < no_feature_list → good_value mask ≡ features_text text
    unfolding features_text
    features-listed h = rw (← is, ne_eqb name none_name ne, ne_eqb name all_name nor, ← of, lt-ltb mask no_feature_list h)

    pub features-bad : no_feature_list ≤ mask → malformed_value ≡ features_text text
    unfolding features_text
    features-bad h = rw (← is, ne_eqb name none_name ne, ne_eqb name all_name nor, ← of, le-ltb mask no_feature_list h)

-- ---- sizing
module _ (text : List ℕ) (i : ℕ) (at : i ≡ index_in sizings (packed_name text)) where
  pub sizing-is : i < 2 → good_value i ≡ sizing_in text
  unfolding sizing_in
  sizing-is h = rw (← at, lt-ltb i 2 h)

  pub sizing-bad : 2 ≤ i → malformed_value ≡ sizing_in text
  unfolding sizing_in
  sizing-bad h = rw (← at, le-ltb i 2 h)

-- ---- the profile
module _ (text : List ℕ) (name : ℕ) (is : name ≡ packed_name text) where
  pub profile-is : name ≡ station_name → good_value 1 ≡ profile_in text
  unfolding profile_in
  profile-is h = rw (← is, eq-eqb name station_name h)

  pub profile-bad : (name ≡ station_name → ⊥) → malformed_value ≡ profile_in text
  unfolding profile_in
  profile-bad ne = rw (← is, ne_eqb name station_name ne)

-- ---- the UUID
module _ (i b : ℕ) where
  pub dash-fits : is_dash i ≡ true → eqb b 45 ≡ fits_at i b
  unfolding fits_at
  dash-fits e = rw e

  pub digit-fits : is_dash i ≡ false → (d : ℕ) → d ≡ hex b → ltb d 16 ≡ fits_at i b
  unfolding fits_at
  digit-fits e d h = rw (e, h)

module _ (xs : List ℕ) (i : ℕ) where
  pub shaped-turn : i < length xs → fits_at i (get_or xs i 0) ≡ true → shaped i (drop i xs) ≡ shaped (i + 1) (drop (i + 1) xs)
  unfolding shaped
  shaped-turn h e = rw (rest-cons xs 0 i h, e, add-one)

  pub shaped-not : i < length xs → fits_at i (get_or xs i 0) ≡ false → shaped i (drop i xs) ≡ false
  unfolding shaped
  shaped-not h e = rw (rest-cons xs 0 i h, e)

  pub shaped-end : length xs ≤ i → shaped i (drop i xs) ≡ true
  unfolding shaped
  shaped-end h = rw (rest-nil xs i h)

module _ (text : List ℕ) (name : ℕ) (is : name ≡ packed_name text) where
  pub uuid-none : name ≡ none_name → good_value 0 ≡ uuid_in text
  unfolding uuid_in
  uuid-none h = rw (← is, eq-eqb name none_name h)

  module _ (ne : name ≡ none_name → ⊥) where
    pub uuid-is : length text ≡ 36 → shaped 0 text ≡ true → good_value 1 ≡ uuid_in text
    unfolding uuid_in
    uuid-is l h = rw (← is, ne_eqb name none_name ne, eq-eqb (length text) 36 l, h)

    pub uuid-shape : length text ≡ 36 → shaped 0 text ≡ false → malformed_value ≡ uuid_in text
    unfolding uuid_in
    uuid-shape l h = rw (← is, ne_eqb name none_name ne, eq-eqb (length text) 36 l, h)

    pub uuid-length : (length text ≡ 36 → ⊥) → malformed_value ≡ uuid_in text
    unfolding uuid_in
    uuid-length l = rw (← is, ne_eqb name none_name ne, ne_eqb (length text) 36 l)

-- ---- by the key
module _ (key : ℕ) (text : List ℕ) where
  pub of-label : key ≡ label_key → good_value (length text) ≡ value_in key text
  unfolding value_in
  of-label e = rw (eq-eqb key label_key e)

  pub of-features : key ≡ features_key → features_text text ≡ value_in key text
  unfolding value_in
  of-features e = rw e

  pub of-sizing : key ≡ sizing_key → sizing_in text ≡ value_in key text
  unfolding value_in
  of-sizing e = rw e

  pub of-profile : key ≡ profile_key → profile_in text ≡ value_in key text
  unfolding value_in
  of-profile e = rw e

  pub of-uuid : key ≡ uuid_key → uuid_in text ≡ value_in key text
  unfolding value_in
  of-uuid e = rw e

  pub of_number : (key ≡ label_key → ⊥) → (key ≡ features_key → ⊥) → (key ≡ sizing_key → ⊥) → (key ≡ profile_key → ⊥) → (key ≡ uuid_key → ⊥) → number_text text ≡ value_in key text
  unfolding value_in
  of_number a b c d e = rw (ne_eqb key label_key a, ne_eqb key features_key b, ne_eqb key sizing_key c, ne_eqb key profile_key d, ne_eqb key uuid_key e)

module _ (key : ℕ) (v w : Value) (e : v ≡ w) (m : ℕ) (of : m ≡ get_or largest_values key 0) where
  pub limited-is : v.value ≤ m → v ≡ limited key w
  unfolding limited
  limited-is h = rw (← of, ← e, le-leb v.value m h)

  pub limited-not : m < v.value → too_large ≡ limited key w
  unfolding limited
  limited-not h = rw (← of, ← e, lt-leb v.value m h)
