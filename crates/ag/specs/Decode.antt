-- What the bytes of an AGF and of an AGI say.
-- Assumes nothing.
use Rattle.std.specs.Prelude.{List, [], ◌∷◌, ℕ, ◌^◌}
use Rattle.endian.specs.Bytes.{be_at, Below}
use Rattle.ag.specs.declared.agf.Agf.{Agf}
use Rattle.ag.specs.declared.agi.Agi.{Agi}

unfoldable pub agf_of : List ℕ → Agf
agf_of xs =
    record {
      seqno = be_at 4 8 xs;
      length = be_at 4 12 xs;
      bno_root = be_at 4 16 xs;
      bno_level = be_at 4 28 xs;
      cnt_root = be_at 4 20 xs;
      cnt_level = be_at 4 32 xs;
      rmap_root = be_at 4 24 xs;
      rmap_level = be_at 4 36 xs;
      rmap_blocks = be_at 4 80 xs;
      refcount_root = be_at 4 88 xs;
      refcount_level = be_at 4 92 xs;
      refcount_blocks = be_at 4 84 xs;
      flfirst = be_at 4 40 xs;
      fllast = be_at 4 44 xs;
      flcount = be_at 4 48 xs;
      freeblks = be_at 4 52 xs;
      longest = be_at 4 56 xs;
      btreeblks = be_at 4 60 xs;
    }

-- its numbers have 32 bits
abbrev pub AgfFits : Agf → Type 0
AgfFits a =
    Below (2 ^ 32)
    (a.seqno
    ∷ a.length
    ∷ a.bno_root
    ∷ a.bno_level
    ∷ a.cnt_root
    ∷ a.cnt_level
    ∷ a.rmap_root
    ∷ a.rmap_level
    ∷ a.rmap_blocks
    ∷ a.refcount_root
    ∷ a.refcount_level
    ∷ a.refcount_blocks
    ∷ a.flfirst
    ∷ a.fllast
    ∷ a.flcount
    ∷ a.freeblks
    ∷ a.longest
    ∷ a.btreeblks
    ∷ [])

unfoldable pub agi_of : List ℕ → Agi
agi_of xs =
    record {
      seqno = be_at 4 8 xs;
      length = be_at 4 12 xs;
      count = be_at 4 16 xs;
      root = be_at 4 20 xs;
      level = be_at 4 24 xs;
      freecount = be_at 4 28 xs;
      newino = be_at 4 32 xs;
      free_root = be_at 4 328 xs;
      free_level = be_at 4 332 xs;
      iblocks = be_at 4 336 xs;
      fblocks = be_at 4 340 xs;
    }

abbrev pub AgiFits : Agi → Type 0
AgiFits a =
    Below (2 ^ 32)
    (a.seqno ∷ a.length ∷ a.count ∷ a.root ∷ a.level ∷ a.freecount ∷ a.newino ∷ a.free_root ∷ a.free_level
    ∷ a.iblocks ∷ a.fblocks ∷ [])
