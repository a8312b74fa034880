-- How far the bytes of a place agree with those that a run leaves there: the offset of the first that differs.
-- Assumes nothing.
use Rattle.std.specs.Prelude.{Bool, true, false, ◌&&◌, cond, List, [], ◌∷◌, ℕ, suc, eqb, leb, ltb, length}
use Rattle.geometry.specs.declared.Geometry.{Geometry}
use Rattle.geometry.specs.declared.Computed.{Computed}
use Rattle.list_spec.specs.Listing.{head_left, log_block}
use Rattle.group_bytes.specs.Answers.{head_refusal, log_refusal}
use Rattle.reader_names.specs.Read.{named_read, uuid_read}
use Rattle.reader_pass.specs.declared.Verdict.{Verdict}
use Rattle.reader_agreement.specs.declared.Agreement.{Agreement}

-- how many bytes two lists have in common at their start: the index of the first that differs
unfoldable pub common : List ℕ → List ℕ → ℕ
common [] ys = 0
common (x ∷ xs) [] = 0
common (x ∷ xs) (y ∷ ys) = cond (eqb x y) (suc (common xs ys)) 0

-- no run leaves anything here that the bytes could be compared with
abbrev pub nothing_left : Agreement
nothing_left = record { known = false; count = 0 }

-- the bytes xs agree so far with those that are left
abbrev pub agreeing : List ℕ → List ℕ → Agreement
agreeing left xs = record { known = true; count = common left xs }

-- the largest head: 10 blocks of 16,384 bytes
abbrev pub most_head_bytes : ℕ
most_head_bytes = 163840

-- what is left is made in as many bytes as there are, unless a number refuses that, or they are more than any head has
unfoldable pub agreed_in : ℕ → List ℕ → List ℕ → Agreement
agreed_in number left xs = cond (leb (length xs) most_head_bytes && eqb number 0) (agreeing left xs) nothing_left

-- group k's head
unfoldable pub head_agreed : Geometry → List ℕ → ℕ → List ℕ → Agreement
head_agreed g u k xs = agreed_in (head_refusal g k (length xs)) (head_left g u k) xs

-- the log's first block
unfoldable pub log_agreed : Geometry → List ℕ → List ℕ → Agreement
log_agreed g u xs = agreed_in (log_refusal g (length xs)) (log_block g u) xs

-- group 0's head under a sizing of the log: the geometry and the UUID are those that it names
abbrev pub named_agreed : Computed → List ℕ → List ℕ → Agreement
named_agreed c u xs = cond (eqb c.number 0) (head_agreed c.geometry u 0 xs) nothing_left

unfoldable pub first_as : Bool → List ℕ → Agreement
first_as roomy xs = named_agreed (named_read roomy xs) (uuid_read xs) xs

-- of two the one that goes farther, and the second where the first isn't known
unfoldable pub farther : Agreement → Agreement → Agreement
farther a b = cond (a.known && leb b.count a.count) a b

-- group 0's head under the sizing that goes farther
unfoldable pub first_agreed : List ℕ → Agreement
first_agreed xs = farther (first_as false xs) (first_as true xs)

-- THE PLACE of a verdict: group 0's head, another group's, or behind the last the log's block
unfoldable pub agreed_at : Verdict → List ℕ → Agreement
agreed_at v xs =
    cond (eqb v.place 0) (first_agreed xs)
    (cond (ltb v.place v.geometry.agcount) (head_agreed v.geometry v.uuid v.place xs)
    (log_agreed v.geometry v.uuid xs))
