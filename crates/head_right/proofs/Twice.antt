-- Format twice, all yes.
-- Assumes nothing.
use mathlib.Core.Path.{◌≡◌, ap, ◌∙◌}
use mathlib.Core.Bool.{true}
use mathlib.Core.List.{List}
use Prim.Native.Nat.{ℕ}
use Rattle.crc.specs.Right.{already_right}
use Rattle.crc.proofs.Right.{right-again}
use Rattle.ag.proofs.Held.{agf-again, agi-again}
use Rattle.ag.proofs.Ring.{agfl-again}
use Rattle.inode.proofs.Held.{dinode-again, free-again}
use Rattle.sb.proofs.Read.{sb-again}
use Rattle.head_right.specs.Twice.{FormatTwice}

-- bytes that a call leaves as they are
same : (sums : List ℕ) {xs ys : List ℕ} → ys ≡ xs → already_right sums xs ys ≡ true
same sums {xs} {ys} e = ap (already_right sums xs) e ∙ right-again sums xs

pub format-twice : FormatTwice
format-twice =
    record {
      superblock = λ g s xs u l. same _ (sb-again g s u l xs);
      agf = λ a uuid xs u. same _ (agf-again a uuid xs u);
      agi = λ a uuid xs u. same _ (agi-again a uuid xs u);
      agfl = λ seqno uuid first list xs u l. same _ (agfl-again seqno uuid first list xs u l);
      leaf = λ magic daddr agno uuid recs numrecs len xs. right-again _ _;
      inode = λ d fork uuid xs u l. same _ (dinode-again d fork uuid xs u l);
      free-inode = λ ino generation uuid xs u l. same _ (free-again ino generation uuid xs u l);
      head = λ g p uuid s xs. right-again _ _;
      root-chunk = λ g agbno uuid time seed xs. right-again _ _;
    }
