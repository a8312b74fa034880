-- `sb::fill` meets its contract.
-- Assumes nothing.
use Rattle.structs.proofs.Encoded.{stamps}
use Rattle.sb.proofs.Order.{all-written}
use Rattle.sb.proofs.Read.{disk_places, apart, sb-stands}
use Rattle.sb.specs.Superblock.{crc_at, large_sector, logstart_of, sb_fields, sb_bytes}
use Prim.Native.Nat.{◌≤◌}
use lib.ListN.{length}
use native.Mathlib.Omega.{arith}
use mathlib.Core.Path.{◌≡◌, refl}
use borrow.Author.Rules.{rules}
use Rattle.sb.proofs.fill.Goals as goal

pub all_numbers-v-requires : goal.all_numbers-v-requires
unfolding logstart_of
all_numbers-v-requires c = c.log_start-start.ensures

pub returns : goal.returns
unfolding sb_bytes
returns c = let u : length c.args.s.uuid ≡ 16 = search rules in
    let l : length c.args.g.label ≡ 12 = search (rules, c.well_formed.0.1.1.1.1.1.1.1.1.1.1.1.1.1.1.1.1.1.1.1) in
    let h : 228 ≤ length c.args.sector.now = omega (arith, c.requires.0) in
    stamps (disk_places (large_sector c.args.g)) crc_at (apart (large_sector c.args.g)) (sb_fields c.args.g c.args.s) (sb-stands c.args.g c.args.s u l) refl h (all-written c.args.g c.args.s _ _ _ _ _ _ u l c.all_numbers-v.ensures c.large_sector-large.ensures c.put_numbers.ensures c.put_names.ensures c.put_log_sector.ensures) c.stamp.ensures
