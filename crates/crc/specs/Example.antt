-- What an answer says and what it doesn't, of an encoder that writes one byte and stamps.
-- Assumes nothing.
use Rattle.std.specs.Prelude.{◌≡◌, true, false, List, [], ◌∷◌, ℕ, get_or}
use Rattle.endian.specs.Bytes.{patch}
use Rattle.crc.specs.Crc.{stamped, verified}
use Rattle.crc.specs.Right.{already_right}

-- the byte 1 behind the checksum, and the checksum
abbrev pub one_byte : List ℕ → List ℕ
one_byte xs = stamped 0 (patch 4 (1 ∷ []) xs)

-- five bytes with a good checksum and `b` behind it
abbrev pub good_bytes : ℕ → List ℕ
good_bytes b = stamped 0 (0 ∷ 0 ∷ 0 ∷ 0 ∷ b ∷ [])

-- the encoder's own bytes, but for the byte behind the checksum
abbrev pub spoilt : List ℕ
spoilt = patch 4 (9 ∷ []) (good_bytes 1)

pub record Example : Type 0 where
  -- what it left, it finds right
  pub again : already_right (0 ∷ []) (good_bytes 1) (one_byte (good_bytes 1)) ≡ true
  -- a yes, though another byte changes
  pub yes : already_right (0 ∷ []) spoilt (one_byte spoilt) ≡ true
  pub was : get_or spoilt 4 0 ≡ 9
  pub is : get_or (one_byte spoilt) 4 0 ≡ 1
  -- a good checksum of other contents is no yes
  pub verifies : verified 0 (good_bytes 2) ≡ true
  pub no : already_right (0 ∷ []) (good_bytes 2) (one_byte (good_bytes 2)) ≡ false
