-- The answer for a head that is compared with bytes that were made for it, and what is left in a lent buffer in which they are made.
-- Assumes nothing.
use Rattle.std.specs.Prelude.{cond, List, ℕ, eqb, leb, length}
use Rattle.refusals.specs.Table.{first}
use Rattle.geometry.specs.declared.Geometry.{Geometry}
use Rattle.head_bytes.specs.Head.{head_length}
use Rattle.list_spec.specs.Listing.{head_left}
use Rattle.group_bytes.specs.Answers.{head_refusal}
use Rattle.reader_exact.specs.Read.{place_tests}

-- 31, then 29 where group k is not there, then 27 unless the bytes have a head's length, then 30 unless they are the ones that are left
unfoldable pub compared_number : Geometry → ℕ → List ℕ → List ℕ → ℕ
compared_number g k left xs = first (place_tests g (leb g.agcount k) (head_length g) left xs) 0

-- the head of group k as it is left, where it can be made in as many bytes; else what stood there
unfoldable pub made_in : Geometry → List ℕ → ℕ → List ℕ → List ℕ
made_in g u k ws = cond (eqb (head_refusal g k (length ws)) 0) (head_left g u k) ws
