-- What the reader answers: for group 0's head, and with what that gave for any group's head and for the log block.
-- Assumes nothing.
use Rattle.std.specs.Prelude.{Bool, true, false, not, cond, List, [], ◌∷◌, ℕ, ltb, leb, eqb, length, replicate}
use Rattle.refusals.specs.Numbers.{wrong_length, no_place, not_left, no_answer}
use Rattle.refusals.specs.Table.{Refusal, ◌if◌, first}
use Rattle.geometry.specs.declared.Geometry.{Geometry}
use Rattle.geometry.specs.declared.Computed.{Computed}
use Rattle.geometry.specs.Compute.{zero_geometry}
use Rattle.geometry_answers.specs.Named.{is_answer}
use Rattle.plan.specs.declared.AgPlan.{AgPlan}
use Rattle.plan.specs.declared.Planned.{Planned}
use Rattle.plan.specs.Plan.{no_plan, refused_plan, planned}
use Rattle.plan_totals.specs.Totals.{plans_number}
use Rattle.plan_same.specs.Same.{eq_list}
use Rattle.head_bytes.specs.Head.{head_length}
use Rattle.list_spec.specs.Listing.{log_block, head_left}
use Rattle.reader_names.specs.Named.{named_by, uuid_at}
use Rattle.reader_exact.specs.declared.Found.{Found}

-- the least that a superblock needs
abbrev pub least_sector : ℕ
least_sector = 512

-- 30 if planning refuses some group of the geometry, and 30 unless the bytes are those that are left here
abbrev pub left_tests : Geometry → List ℕ → List ℕ → List Refusal
left_tests g left xs =
    not_left if not (eqb (plans_number g) 0)
    ∷ not_left if not (eq_list eqb xs left)
    ∷ []

-- ---- group 0

-- what group 0's head gives: the number 0 with geometry, UUID and plan, or a refusal with zeros
abbrev pub not_found : ℕ → Found
not_found n = record { number = n; geometry = zero_geometry; uuid = replicate 16 0; plan = no_plan }

abbrev pub found : Geometry → List ℕ → AgPlan → Found
found g u p = record { number = 0; geometry = g; uuid = u; plan = p }

-- 27 under 512 bytes, then 30 if the superblock names no geometry that the geometry step accepts, then 27 unless the bytes have its head's
-- length, then 30
unfoldable pub first_tests : List ℕ → Computed → List ℕ → List Refusal
first_tests xs c u =
    wrong_length if ltb (length xs) least_sector
    ∷ not_left if not (eqb c.number 0)
    ∷ wrong_length if not (eqb (length xs) (head_length c.geometry))
    ∷ left_tests c.geometry (head_left c.geometry u 0) xs

unfoldable pub found_as : ℕ → Geometry → List ℕ → Found
found_as n g u = cond (eqb n 0) (found g u (planned g 0).plan) (not_found n)

-- under one sizing of the log
unfoldable pub read_sized : Bool → List ℕ → Found
read_sized roomy xs = found_as (first (first_tests xs (named_by roomy xs) (uuid_at xs)) 0) (named_by roomy xs).geometry (uuid_at xs)

-- under both: the one with the smaller number, and plain sizing where they have the same
abbrev pub lesser : Found → Found → Found
lesser roomy old = cond (ltb roomy.number old.number) roomy old

unfoldable pub read_group0 : List ℕ → Found
read_group0 xs = lesser (read_sized true xs) (read_sized false xs)

-- ---- any group and the log, with the geometry and the UUID that group 0 gave

-- 31, then 29 where the group is not there, then 27 unless the bytes have the place's length, then 30
unfoldable pub place_tests : Geometry → Bool → ℕ → List ℕ → List ℕ → List Refusal
place_tests g past size left xs =
    no_answer if not (is_answer g)
    ∷ no_place if past
    ∷ wrong_length if not (eqb (length xs) size)
    ∷ left_tests g left xs

-- the head of group k: the number 0 with its plan, or a refusal with zeros
unfoldable pub group_number : Geometry → List ℕ → ℕ → List ℕ → ℕ
group_number g u k xs = first (place_tests g (leb g.agcount k) (head_length g) (head_left g u k) xs) 0

unfoldable pub read_group : Geometry → List ℕ → ℕ → List ℕ → Planned
read_group g u k xs = cond (eqb (group_number g u k xs) 0) (record { number = 0; plan = (planned g k).plan })
    (refused_plan (group_number g u k xs))

-- the log's first block
unfoldable pub read_log : Geometry → List ℕ → List ℕ → ℕ
read_log g u xs = first (place_tests g false g.blocksize (log_block g u) xs) 0
