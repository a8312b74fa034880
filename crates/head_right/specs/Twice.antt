-- Format twice: an encoder that is called on what the same call left finds every checksum right.
-- Assumes nothing.
use Rattle.std.specs.Prelude.{◌≡◌, true, List, [], ◌∷◌, ℕ, ◌+◌, ◌≤◌, length}
use Rattle.crc.specs.Right.{already_right}
use Rattle.params.specs.declared.Timestamp.{Timestamp}
use Rattle.btree.specs.Leaf.{leaf_crc_at, leaf_bytes}
use Rattle.ag.specs.declared.agf.Agf.{Agf}
use Rattle.ag.specs.declared.agi.Agi.{Agi}
use Rattle.ag.specs.Agf.{agf_crc_at, agf_bytes}
use Rattle.ag.specs.Agi.{agi_crc_at, agi_bytes}
use Rattle.ag.specs.Agfl.{agfl_crc_at, agfl_bytes}
use Rattle.inode.specs.declared.dinode.Dinode.{Dinode}
use Rattle.inode.specs.Dinode.{inode_crc_at, dinode_bytes, free_bytes}
use Rattle.geometry.specs.declared.Geometry.{Geometry}
use Rattle.plan.specs.declared.AgPlan.{AgPlan}
use Rattle.sb.specs.declared.SbState.{SbState}
use Rattle.sb.specs.Superblock.{crc_at, sb_bytes}
use Rattle.head_bytes.specs.Head.{head_bytes}
use Rattle.head_bytes.specs.Places.{head_places}
use Rattle.chunk.specs.Chunk.{chunk_bytes, chunk_places}

-- `made` is what a call leaves of a buffer: of what it left, the same call says yes
abbrev pub Twice : List ℕ → (List ℕ → List ℕ) → List ℕ → Type 0
Twice sums made xs = already_right sums (made xs) (made (made xs)) ≡ true

pub record FormatTwice : Type 0 where
  pub superblock : (g : Geometry) (s : SbState) (xs : List ℕ) → length s.uuid ≡ 16 → length g.label ≡ 12
      → Twice (crc_at ∷ []) (sb_bytes g s) xs
  pub agf : (a : Agf) (uuid xs : List ℕ) → length uuid ≡ 16 → Twice (agf_crc_at ∷ []) (agf_bytes a uuid) xs
  pub agi : (a : Agi) (uuid xs : List ℕ) → length uuid ≡ 16 → Twice (agi_crc_at ∷ []) (agi_bytes a uuid) xs
  pub agfl : (seqno : ℕ) (uuid : List ℕ) (first : ℕ) (list xs : List ℕ) → length uuid ≡ 16 → 36 ≤ length xs
      → Twice (agfl_crc_at ∷ []) (agfl_bytes seqno uuid first list) xs
  pub leaf : (magic daddr agno : ℕ) (uuid recs : List ℕ) (numrecs len : ℕ) (xs : List ℕ)
      → Twice (leaf_crc_at ∷ []) (λ (l : List ℕ). leaf_bytes magic daddr agno uuid recs numrecs len) xs
  pub inode : (d : Dinode) (fork uuid xs : List ℕ) → length uuid ≡ 16 → 176 + length fork ≤ length xs
      → Twice (inode_crc_at ∷ []) (dinode_bytes d fork uuid) xs
  pub free-inode : (ino generation : ℕ) (uuid xs : List ℕ) → length uuid ≡ 16 → 176 ≤ length xs
      → Twice (inode_crc_at ∷ []) (free_bytes ino generation uuid) xs
  pub head : (g : Geometry) (p : AgPlan) (uuid : List ℕ) (s : SbState) (xs : List ℕ)
      → Twice (head_places g) (λ (l : List ℕ). head_bytes g p uuid s) xs
  pub root-chunk : (g : Geometry) (agbno : ℕ) (uuid : List ℕ) (time : Timestamp) (seed : ℕ) (xs : List ℕ)
      → Twice (chunk_places g.inodesize) (λ (l : List ℕ). chunk_bytes g agbno uuid time seed) xs
