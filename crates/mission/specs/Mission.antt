-- THE USER'S DEMANDS 1 TO 3, a sentence a field, each about every disk there can be. proofs/Demands.antt proves them: `demand1`, `demand2`,
-- `demand3`.
--
-- Numbers beside an answer are those of docs/SCOPE.md; 0 accepts. Bytes are lists of numbers; a device is a number for every offset, and
-- may hold anything.
-- `A ↔ B` is "exactly where". These words recur:
--   Octets xs      every number in xs is below 256. Whatever a function is lent as `&[u8]` is so; the logic's lists may hold more.
--   Handed g u     g and u are of their types: the sizes and imaxpct fit theirs, the label has 12 bytes and the UUID 16. Whatever is passed
--                  as `Geometry` and `[u8; 16]` is so, whether or not any disk has it.
--   Answered g     g is the accepted geometry of some options on some device of fewer than 2^64 bytes.
--   AcceptedRun r  r is a request of its types (options, device, sectors, UUID, time, seed) whose input, geometry, plans of all groups and
--                  time are accepted. `run_of r` is its run: geometry, UUID, time and seed. `formatted r old` is a device that held `old`,
--                  after all its records.
--   reported g     what the reader reports of a run with geometry g: g with plain sizing of the log where that gives the same log, else g
--                  itself. `plain g` is g with plain sizing.
--   heads k        whatever bytes stand where the head of group k should be; `log` what stands in the log's first block.
--   run_records r   the run's written records, in order; `stopped_after r n old` a device that held `old`, after the first n of them. The
--                  finishing one, with the finished superblock, stands behind `before_finished` others.
-- A name such as `read_group0` is a definition, and the contract of the function `read_group0` says that this is its answer, on every input.
-- Assumes nothing.
pub mod Words
use Rattle.std.specs.Prelude.{◌≡◌, Bool, true, false, ◌&&◌, List, [], ◌∷◌, ◌++◌, ◌↔◌, ℕ, ◌+◌, ◌*◌, ◌-◌, ◌<◌, ◌≤◌, T, eqb, ltb, length, take, drop}
use Words.*

-- ==== DEMAND 1: every input is answered, a bad one by its number, and a refused call changes no lent byte

pub record Demand1 : Type 0 where
  -- The input may be any bytes. Where it is accepted, what it asks for is a run of the machine's types whose geometry, plans and time are
  -- accepted.
  pub any-input : (xs : List ℕ) → Octets xs → (accepted xs).number ≡ 0 → AcceptedRun (parse_def xs)
  -- Its number is 28 where the bytes are malformed, else the geometry step's, else that of the first refused plan, else 26 where no inode
  -- can store the time, else 37 where a run under the profile breaks a rule.
  pub input-number : (xs : List ℕ)
      → let r = parse_def xs in
      (accepted xs).number
      ≡ or_next (or_next r.number (or_next (step_of r).number
      (or_next (plans_number (step_of r).geometry) (time_refusal (step_of r).geometry (time_of r.params)))))
      (profile_number r.profile (step_of r).geometry r.params.label)
  -- The geometry step's number is that of the first test of the table of refusals that holds, and 0 where none does.
  pub by-the-table : (p : Params) (device logical physical : ℕ)
      → (compute_def p device logical physical).number ≡ first (refusals p device (chosen_of p device logical physical)) 0
  -- The table's numbers rise, so where several tests hold the number is the smallest of theirs.
  pub smallest-number : (p : Params) (device logical physical m : ℕ) → Listed m (refusals p device (chosen_of p device logical physical))
      → (0 < (compute_def p device logical physical).number) × ((compute_def p device logical physical).number ≤ m)
  -- No disk gets a layout for smaller sectors than its own.
  pub own-sectors : (p : Params) (device logical physical : ℕ) → (compute_def p device logical physical).number ≡ 0
      → logical ≤ (compute_def p device logical physical).geometry.sectsize
  -- In an accepted geometry every group before the last has 16 MiB or more, and so has what is left for the last: none is without blocks.
  pub no-empty-group : (g : Geometry) → Answered g
      → (16 * mib ≤ g.agsize * g.blocksize) × (16 * mib ≤ (g.dblocks - (g.agcount - 1) * g.agsize) * g.blocksize)
  -- A geometry that a caller hands in passes exactly where the geometry step answers it for some request, with every option (UUID, time and
  -- seed too), the device's size and its sectors of their types; else it gets 31.
  pub no-stranger : (g : Geometry) → TypedGeometry g → (is_answer g ≡ true) ↔ AskedFor g
  -- Planning a group answers 0 or 25: 25 exactly in the log's group, where fewer blocks are free than the free list takes.
  pub refused-plans : (g : Geometry) → Answered g → (k : ℕ) → k < g.agcount
      → (planned g k).number ≡ when (eqb k g.logagno && ltb (free_before_list (site_of g k)) (freelist_of g.features)) free_list_short 0
  -- In roomy sizing no group is refused.
  pub roomy-plans : (g : Geometry) → Answered g → g.roomy ≡ true → (k : ℕ) → k < g.agcount → (planned g k).number ≡ 0
  -- What the step accepts in roomy sizing it accepts in plain sizing, with a log no shorter.
  pub plain-accepts : (p : Params) (device logical physical : ℕ) → (compute_def (with_roomy p true) device logical physical).number ≡ 0
      → ((compute_def (with_roomy p false) device logical physical).number ≡ 0)
      × ((compute_def (with_roomy p true) device logical physical).geometry.logblocks
      ≤ (compute_def (with_roomy p false) device logical physical).geometry.logblocks)
  -- The reader has an answer for all bytes, of any length, and no number but these.
  pub reader-numbers : (g : Geometry) (u : List ℕ) (k : ℕ) (xs : List ℕ)
      → T (one_of (0 ∷ wrong_length ∷ not_left ∷ []) (read_group0 xs).number)
      × T (one_of (0 ∷ wrong_length ∷ no_place ∷ not_left ∷ no_answer ∷ []) (read_group g u k xs).number)
      × T (one_of (0 ∷ wrong_length ∷ not_left ∷ no_answer ∷ []) (read_log g u xs))
  -- A function that fills a lent buffer promises `Written` of its answer r and of the bytes before and after the call: where r isn't 0, no
  -- byte has changed.
  pub untouched : (n r : ℕ) (new old left : List ℕ) → Written n new old r left → (r ≡ 0 → ⊥) → left ≡ old
  -- So do those whose promise has a name of its own (`Put`, `PutAll`, `PutLine`, `Encoded`, `ChunkMade`): each is `Written`.
  pub one_form : OneForm

-- ==== DEMAND 2: checksums by the RFC, the source's plans, and what is written for a run (that the Rust answers the same is tested, not
-- proved)

pub record Demand2 : Type 0 where
  -- The checksum is defined a bit at a time, by RFC 3720's polynomial, and the five test vectors of that document come out of the
  -- definition.
  pub rfc-vectors : Vectors
  -- A structure that has got its checksum, anywhere inside it, verifies and is as long as before.
  pub checksums-verify : (off : ℕ) (xs : List ℕ) → off + 4 ≤ length xs
      → (verified off (stamped off xs) ≡ true) × (length (stamped off xs) ≡ length xs)
  -- What the superblock names of an accepted geometry gives all of it again under its sizing of the log, whatever the disk's physical
  -- sector.
  pub named_again : (p : Params) (device logical physical other : ℕ) → length p.label.bytes ≡ 12
      → (compute_def p device logical physical).number ≡ 0
      → named_on p.roomy (names_of (compute_def p device logical physical).geometry) other ≡ compute_def p device logical physical
  -- `planned` is the source's planner, step by step. For every group of every accepted geometry it gives what plain arithmetic gives.
  pub closed-plans : (g : Geometry) → Answered g → (k : ℕ) → k < g.agcount → planned g k ≡ closed_plan (site_of g k)
  -- Each block of a planned group is counted by exactly one of the plan's five uses; with rmapbt the reverse mappings hold exactly the used
  -- blocks.
  pub planned-once : (g : Geometry) → Answered g → (k : ℕ) → k < g.agcount → (planned g k).number ≡ 0
      → ((b : ℕ) → b < group_blocks g.dblocks g.agsize g.agcount k → uses_of g k b ≡ 1)
      × (g.features.rmapbt ≡ true → (b : ℕ) → mapped_of g k b ≡ used_of g k b)
  -- Where all plans are accepted, every running number of a group is below 2^30: the sums and the longest over its free records, and the
  -- differences of which its row is made. So 32 bits hold them.
  pub narrow : (g : Geometry) → Answered g → plans_number g ≡ 0 → (k : ℕ) → k < g.agcount → NarrowGroup g k
  -- Added in any order in which each group is taken once, be it rising, falling, or first the even groups, free and free-list blocks come
  -- to the disk's free count, and the rows to the table's last line; and no sum on the way passes 64 bits.
  pub any_order : (g : Geometry) → Answered g → plans_number g ≡ 0 → (ks : List ℕ) → Order g.agcount ks → AddsUp g ks
  -- The bytes that are sent for an accepted input, turn by turn through buffers that hold the longest chunk, are its list of written
  -- records, one after the other; and these bytes, read by themselves, are that list again.
  pub sent-and-read : (xs : List ℕ) → Octets xs → (accepted xs).number ≡ 0
      → (room : ℕ) (buf : List ℕ) → longest_piece (sending_begun xs) ≤ room → longest_piece (sending_begun xs) ≤ length buf
      → (handed (sending_begun xs).left (sending_begun xs) room buf ≡ list_bytes (list_of (accepted xs) (parse_def xs).device))
      × (read_list (handed (sending_begun xs).left (sending_begun xs) room buf) ≡ whole_list (list_of (accepted xs) (parse_def xs).device))
  -- Every record lies at a block's start and inside the device; there are three of zeros, two flushes, the rest single blocks, as many as
  -- `Ordered` says.
  pub ordered-list : (r : Request) → AcceptedRun r → Ordered (run_of r) r.device
  -- Applied to a device that held anything, the records leave every head, the log, the root chunk and the zeros that `DeviceLeft` names,
  -- byte for byte.
  pub left_behind : (r : Request) → AcceptedRun r → (old : Device) → DeviceLeft (run_of r) r.device (formatted r old)
  -- Every checksum in every head that they leave verifies: superblock, AGF, AGI, free list, and each root.
  pub checksums-left : (r : Request) → AcceptedRun r → (old : Device) (k : ℕ) → k < (run_of r).geometry.agcount
      → Checked (run_of r).geometry (head_on (run_of r).geometry (formatted r old) k)
  -- In every head that they leave each number stands at the public document's offset, and is the geometry's, the plan's or
  -- the run's: in the superblock,
  pub superblocks-left : (r : Request) → AcceptedRun r → (old : Device) (k : ℕ) → k < (run_of r).geometry.agcount
      → SuperblockAt (run_of r).geometry (run_of r).uuid k (sector_at (run_of r).geometry 0 (head_on (run_of r).geometry (formatted r old) k))
  -- in the free space header,
  pub agfs-left : (r : Request) → AcceptedRun r → (old : Device) (k : ℕ) → k < (run_of r).geometry.agcount
      → AgfAt (run_of r).geometry (run_of r).uuid k (sector_at (run_of r).geometry 1 (head_on (run_of r).geometry (formatted r old) k))
  -- in the inode header,
  pub agis-left : (r : Request) → AcceptedRun r → (old : Device) (k : ℕ) → k < (run_of r).geometry.agcount
      → AgiAt (run_of r).geometry (run_of r).uuid k (sector_at (run_of r).geometry 2 (head_on (run_of r).geometry (formatted r old) k))
  -- in the free list,
  pub lists-left : (r : Request) → AcceptedRun r → (old : Device) (k : ℕ) → k < (run_of r).geometry.agcount
      → FreeListAt (run_of r).geometry (run_of r).uuid k (sector_at (run_of r).geometry 3 (head_on (run_of r).geometry (formatted r old) k))
  -- and in the header of each root behind the sectors.
  pub roots-left : (r : Request) → AcceptedRun r → (old : Device) (k : ℕ) → k < (run_of r).geometry.agcount
      → RootsAt (run_of r).geometry (run_of r).uuid k (head_on (run_of r).geometry (formatted r old) k)
  -- In the root chunk that they leave the checksum of each of the 64 inodes verifies; each has its magic, its number and the UUID.
  pub inodes-left : (r : Request) → AcceptedRun r → (old : Device)
      → Inodes (run_of r).geometry (run_of r).uuid (chunk_on (run_of r).geometry (formatted r old))
  -- The first of them is the root directory: empty, its own parent, and its four times are the run's.
  pub directory-left : (r : Request) → AcceptedRun r → (old : Device)
      → DirectoryAt (run_of r).geometry (run_of r).time (inode_in (run_of r).geometry 0 (chunk_on (run_of r).geometry (formatted r old)))

-- ==== POWER LOST WHILE FORMATTING, a part of demand 3: of an accepted run r, in either sizing, under the profile or not, on a device that
-- held `old`; by a reader that is told to admit profile disks only, or not. Nothing is said of a block that was written in part, nor of
-- records in another order than theirs but by the last four sentences.

pub record PowerCut (r : Request) (old : Device) : Type 0 where
  -- Before the first record the old contents stand there.
  pub old-contents : stopped_after r 0 old ≡ old
  -- From the first record on, and until the finishing one has been applied, group 0 gets 30.
  pub refused : (n : ℕ) → 0 < n → n ≤ before_finished (run_of r).geometry → (told : Bool)
      → first_number told r (stopped_after r n old) ≡ not_left
  -- The finishing record is the one behind the first flush, and `before_finished` counts those before it.
  pub finishing : Finishing r
  -- From it on all is read back, whatever of the later records is missing.
  pub recovered : (n : ℕ) → before_finished (run_of r).geometry < n → ReadBack r (stopped_after r n old)
  -- A reader that admits profile disks only then gives every place 0, or 37 where the disk breaks a rule of the profile;
  pub admitted-then : (n : ℕ) → before_finished (run_of r).geometry < n
      → Admits (profile_number true (run_of r).geometry (label_on (run_of r).geometry)) r (stopped_after r n old)
  -- 0 of every run under the profile.
  pub profile-run : r.profile ≡ true → profile_number true (run_of r).geometry (label_on (run_of r).geometry) ≡ 0
  -- These records are those of the bytes that are sent for the run (`sent-and-read`).
  pub sent : read_list (list_bytes (run_records r)) ≡ whole_list (run_records r)
  -- Taken up from an input that ends after any number i of these bytes, they leave the device as it is after some of the first: whole
  -- records alone, and the first one is flushed before anything else is done. The buffer holds a block.
  pub received : (size limit i : ℕ) → max_supported_block ≤ size → r.device ≤ limit → r.device ≤ largest_offset
      → AppliesFront size limit (run_records r) i
  -- A disk's cache may lose any of the records behind the last flush, and write them in any order. Once the first record is kept, or the
  -- first n, group 0 gets 30 whichever of those before the finishing one came besides, in whichever order, and however often.
  pub any-subset : (n : ℕ) → 0 < n → n ≤ before_finished (run_of r).geometry → (rs : List Record)
      → Among (drop 1 (take (before_finished (run_of r).geometry) (run_records r))) rs → (told : Bool)
      → first_number told r (applied rs (stopped_after r n old)) ≡ not_left
  -- Acceptance needs the first flush kept. All is read back only where every head and the log block are those that the run leaves, so not
  -- where a record of these before that flush was lost and other bytes stood in its place (the root chunk isn't read).
  pub needs-all : (d : Device) → ReadBack r d → AsLeft r old d
  -- Once all records up to that flush are kept, group 0 still gets 30 while the finishing record is lost,
  pub finished-lost : (rs : List Record) → Among (drop (before_finished (run_of r).geometry + 1) (run_records r)) rs
      → (told : Bool) → first_number told r (applied rs (stopped_after r (before_finished (run_of r).geometry) old)) ≡ not_left
  -- and all is read back where that record is among those that came, whichever came before it and behind it.
  pub finished-kept : (xs ys : List Record) → Among (drop (before_finished (run_of r).geometry) (run_records r)) xs
      → Among (drop (before_finished (run_of r).geometry) (run_records r)) ys
      → ReadBack r (applied (xs ++ (finishing_record (run_of r) ∷ ys)) (stopped_after r (before_finished (run_of r).geometry) old))

-- ==== DEMAND 3: a reader that sees only the heads and the first log block, and what it vouches for

pub record Demand3 : Type 0 where
  -- After any accepted run, on any old device, the reader gets the run's geometry, as it reports it, its UUID and the plan of every group
  -- from the bytes.
  pub recovered : (r : Request) → AcceptedRun r → (old : Device) → ReadBack r (formatted r old)
  -- What it reports is the geometry but for the sizing of the log: plain where plain sizing gives the same log. Of a run in plain sizing it
  -- is the geometry.
  pub reported-geometry : (g : Geometry) → (plain (reported g) ≡ plain g) × (g.roomy ≡ false → reported g ≡ g)
  -- Whatever bytes stand there: group 0's head is accepted exactly where some accepted run leaves exactly these in group 0. The function
  -- `vouches` has this sentence as its contract.
  pub first_head : (xs : List ℕ) → Octets xs → ((read_group0 xs).number ≡ 0) ↔ SomeLeaves xs
  -- With a geometry and a UUID handed in, the head of group k is accepted exactly where some accepted run of these two leaves exactly these
  -- bytes.
  pub other-head : (g : Geometry) (u : List ℕ) (k : ℕ) (xs : List ℕ) → Handed g u → ((read_group g u k xs).number ≡ 0) ↔ Leaves g u k xs
  -- So it is with the log's first block.
  pub log-block : (g : Geometry) (u xs : List ℕ) → Handed g u → (read_log g u xs ≡ 0) ↔ LeavesLog g u xs
  -- A disk is accepted whole, the other places read with what group 0's head gave, exactly where one accepted run leaves all its heads and
  -- its log block.
  pub whole-disk : (heads : ℕ → List ℕ) (log : List ℕ) → Octets (heads 0) → ReadWhole heads log ↔ ByRecords heads log
  -- A pass over a disk says which bytes it wants next and is fed with them: the first sector, each head, the log block. Fed from any
  -- device, to the end, its verdict is 0 exactly where the records of one accepted run leave every head and the log block that stand there.
  pub pass-accepts : (d : Device) → ByteDevice d → (n : ℕ) → turns_needed d ≤ n → ((pass_verdict (passed_turns d n)).number ≡ 0) ↔ LeftByRun d
  -- Before its end, on such a disk, it says 27 at the place that comes next (group 0 for the first sector, agcount for the log block).
  pub pass-unfinished : (d : Device) → LeftByRun d → (n : ℕ) → n < turns_needed d
      → ((pass_verdict (passed_turns d n)).number ≡ wrong_length) × ((pass_verdict (passed_turns d n)).place ≡ n - 1)
  -- Whatever it is fed, part by part, from a file that changes while it is read too: its verdict is 0 exactly where one accepted run leaves
  -- these parts (the heads behind a first sector that says how long they are, and the log block behind them), and all were fed: the first
  -- sector, as many heads as there are groups, and the log block.
  pub pass-vouches : (parts : ℕ → List ℕ) → Octets (parts 1) → (n : ℕ) → ((pass_verdict (fed_by parts n)).number ≡ 0)
      ↔ (RunParts parts × (parts_needed parts ≤ n))
  -- With fewer of them it says 27 at the place that comes next; whatever the parts, those behind the last that is needed change nothing.
  pub pass-counted : (parts : ℕ → List ℕ) (n : ℕ)
      → (RunParts parts → n < parts_needed parts
      → ((pass_verdict (fed_by parts n)).number ≡ wrong_length) × ((pass_verdict (fed_by parts n)).place ≡ n - 1))
      × (parts_needed parts ≤ n → fed_by parts n ≡ fed_by parts (parts_needed parts))
  -- A head too many is that of a group that isn't there, and gets 29 whatever its bytes.
  pub no-such-group : (g : Geometry) (u : List ℕ) (k : ℕ) (xs : List ℕ) → is_answer g ≡ true → g.agcount ≤ k
      → (read_group g u k xs).number ≡ no_place
  -- On a disk accepted whole, with the geometry that group 0's head gave, each block of each group has exactly one of five uses, decoded
  -- from the bytes.
  pub one-use : (heads : ℕ → List ℕ) (log : List ℕ) → Octets (heads 0) → ReadWhole heads log → (g : Geometry)
      → (read_group0 (heads 0)).geometry ≡ g
      → (k b : ℕ) → k < g.agcount → b < group_blocks g.dblocks g.agsize g.agcount k → Once (uses_in g (heads 0) (heads k) k b)
  -- Over all groups, free blocks and free-list blocks are the superblock's free count; and this, the heads, the log and the chunk are all
  -- blocks.
  pub totals : (heads : ℕ → List ℕ) (log : List ℕ) → Octets (heads 0) → ReadWhole heads log → (g : Geometry)
      → (read_group0 (heads 0)).geometry ≡ g
      → (free_total g heads + list_total g heads ≡ count_in (heads 0))
      × (count_in (heads 0) + g.agcount * head_blocks g + (log_run_in g (heads 0)).blocks + chunk_total g heads ≡ g.dblocks)
  -- Wherever power is lost while an accepted run formats a device, and whatever that held: the sentences of `PowerCut`, above.
  pub power-cut : (r : Request) → AcceptedRun r → (old : Device) → PowerCut r old
  -- None of this is said of nothing: with no option at all, a device of 1 GiB with sectors of 512 bytes is accepted.
  pub some-disk : AcceptedRun (request 0 no_options (1024 * mib) 512 512)
