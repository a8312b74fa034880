-- `inode::directory::empty_sf_dir` meets its contract.
-- Assumes nothing.
use Rattle.std.proofs.Common.{◌≡◌, ◌≤◌, ◌<◌, rules}
use Rattle.inode.proofs.Core.{dir-short, dir-long}
use Rattle.inode.proofs.directory.empty_sf_dir.Goals as goal

pub returns-in-Ok : goal.returns-in-Ok
returns-in-Ok c =
    let e : c.in-Ok.narrow ≡ c.args.parent = search rules in
    let h : c.args.parent ≤ 4294967295 = search rules in
    dir-short _ _ _ h (rw e at c.short.ensures)

pub returns-in-Err : goal.returns-in-Err
returns-in-Err c =
    let h : 4294967295 < c.args.parent = search rules in
    dir-long _ _ _ h c.long.ensures
