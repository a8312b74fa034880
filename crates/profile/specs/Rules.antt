-- The scan station profile: its rules, in the order of document 02, and the label of a disk as they judge it.
-- Assumes nothing.
use Rattle.std.specs.Prelude.{Bool, true, not, ◌&&◌, ◌||◌, cond, List, [], ◌∷◌, ℕ, leb, eqb, length, take}
use Rattle.arith.specs.Choice.{when}
use Rattle.refusals.specs.Numbers.{not_in_profile}
use Rattle.params.specs.declared.Features.{Features}
use Rattle.params.specs.declared.Label.{Label}
use Rattle.geometry.specs.declared.Geometry.{Geometry}

-- ---- the rules

-- sectors of 512 or 4096 bytes
unfoldable pub allowed_sector : ℕ → Bool
allowed_sector bytes = eqb bytes 512 || eqb bytes 4096

-- all seven features are on
unfoldable pub all_on : Features → Bool
all_on f = f.finobt && f.rmapbt && f.reflink && f.inobtcount && f.bigtime && f.nrext64 && f.sparse

-- 2 to 64 groups
unfoldable pub allowed_groups : ℕ → Bool
allowed_groups n = leb 2 n && leb n 64

-- a capital letter A to Z (65 to 90), a digit 0 to 9 (48 to 57), or a hyphen (45)
unfoldable pub label_byte : ℕ → Bool
label_byte b = (leb 65 b && leb b 90) || ((leb 48 b && leb b 57) || eqb b 45)

-- every byte is one of these
unfoldable pub label_bytes : List ℕ → Bool
label_bytes [] = true
label_bytes (b ∷ bs) = label_byte b && label_bytes bs

-- a label of 1 to 12 bytes, each of them allowed
unfoldable pub allowed_label : Label → Bool
allowed_label l = leb 1 l.length && leb l.length 12 && label_bytes (take l.length l.bytes)

-- THE PROFILE
unfoldable pub in_profile : Geometry → Label → Bool
in_profile g l =
    eqb g.blocksize 4096
    && allowed_sector g.sectsize
    && eqb g.inodesize 512
    && all_on g.features
    && allowed_groups g.agcount
    && allowed_label l

-- 37 under the profile where a rule fails, else 0
abbrev pub profile_number : Bool → Geometry → Label → ℕ
profile_number under g l = when (under && not (in_profile g l)) not_in_profile 0

-- ---- a disk

-- a label's bytes without the zeros at their end
unfoldable pub trimmed : List ℕ → List ℕ
trimmed [] = []
trimmed (b ∷ bs) = cond (eqb b 0 && eqb (length (trimmed bs)) 0) [] (b ∷ trimmed bs)

-- the label that a disk has: the zeros behind it only fill its field up
unfoldable pub label_on : Geometry → Label
label_on g = record { length = length (trimmed g.label); bytes = g.label }
