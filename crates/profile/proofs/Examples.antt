-- Bytes, labels and groups that the profile allows, and some that it doesn't.
-- Assumes nothing.
use mathlib.Core.Bool.{not, ◌&&◌}
use mathlib.Core.List.{List, [], ◌∷◌, ◌++◌}
use Prim.Native.Nat.{ℕ}
use lib.Dec.{T}
use lib.ListN.{length, replicate}
use Rattle.params.specs.declared.Label.{Label}
use Rattle.profile.specs.Rules.{allowed_sector, allowed_groups, label_byte, label_bytes, allowed_label}

-- a label of these bytes, in a field of 12
abbrev named : List ℕ → Label
named bs = record { length = length bs; bytes = bs ++ replicate 12 0 }

-- A, Z, 0, 9 and the hyphen, but not the bytes beside them, nor small letters and zero
bytes-judged : T (label_bytes (65 ∷ 90 ∷ 48 ∷ 57 ∷ 45 ∷ []) && (not (label_byte 64) && (not (label_byte 91) && (not (label_byte 47) && (not (label_byte 58) && (not (label_byte 44) && (not (label_byte 46) && (not (label_byte 97) && (not (label_byte 122) && not (label_byte 0))))))))))
unfolding label_byte label_bytes
bytes-judged = tt

-- a label of 1 byte and one of 12, but not of none, of 13, or with a zero behind it
labels-judged : T (allowed_label (named (65 ∷ [])) && (allowed_label (named (replicate 12 65)) && (not (allowed_label (named [])) && (not (allowed_label (named (replicate 13 65))) && not (allowed_label (named (65 ∷ 0 ∷ [])))))))
unfolding label_byte label_bytes allowed_label
labels-judged = tt

-- 2 and 64 groups, not 1 and 65; sectors of 512 and 4096 bytes, not of 1024 and 2048
sizes-judged : T (allowed_groups 2 && (allowed_groups 64 && (not (allowed_groups 1) && (not (allowed_groups 65) && (allowed_sector 512 && (allowed_sector 4096 && (not (allowed_sector 1024) && not (allowed_sector 2048))))))))
unfolding allowed_sector allowed_groups
sizes-judged = tt
