-- A request with no options but the groups' size, the label, the features and the sizing has its types, under the profile or not.
-- Assumes nothing.
use Rattle.std.specs.Prelude.{Option, None, unwrap_or}
use mathlib.Core.Path.{◌≡◌, refl}
use mathlib.Core.Bool.{Bool, false}
use Prim.Native.Nat.{ℕ, ◌^◌, ◌<◌}
use lib.Dec.{lit<}
use lib.ListN.{length, replicate}
use Rattle.endian.specs.Bytes.{Below}
use Rattle.params.specs.declared.Features.{Features}
use Rattle.params.specs.declared.Label.{Label}
use Rattle.params.specs.Params.{options, no_label}
use Rattle.head_bytes.proofs.Below.{below-zeros}
use Rattle.request.specs.Parse.{request, under}
use Rattle.request.specs.Defaults.{uuid_of, time_of, seed_of}
use Rattle.list_accepted.specs.Accepted.{TypedRequest}
use Rattle.list_accepted.proofs.Bytes.{below_at}

pub labelled-typed : (f : Features) (agsize : Option ℕ) (label : Label) (roomy on : Bool) (device : ℕ) → label.length < 2 ^ 64 → length label.bytes ≡ 12
    → Below 256 label.bytes → unwrap_or agsize 0 < 2 ^ 64 → device < 2 ^ 64
    → TypedRequest
    (under on (request 0 (options None None None None None agsize None label None None None f roomy) device 512 512))
unfolding uuid_of time_of seed_of
labelled-typed f agsize label roomy on device l size bytes a d =
    record {
      options =
          record {
            size = lit< tt;
            block_size = lit< tt;
            sector-size = lit< tt;
            inode-size = lit< tt;
            agcount = lit< tt;
            agsize = a;
            imaxpct = lit< tt;
            label-length = l;
            label-size = size;
            label-bytes = below_at 256 label.bytes (lit< tt) bytes;
          };
      device = d;
      logical = lit< tt;
      physical = lit< tt;
      uuid-size = refl;
      uuid-bytes = below_at 256 (replicate 16 0) (lit< tt) (below-zeros 16);
      seconds = lit< tt;
      nanoseconds = lit< tt;
      seed = lit< tt;
    }

-- with no label, not under the profile
pub plain-typed : (f : Features) (agsize : Option ℕ) (roomy : Bool) (device : ℕ) → unwrap_or agsize 0 < 2 ^ 64 → device < 2 ^ 64
    → TypedRequest
    (request 0 (options None None None None None agsize None no_label None None None f roomy) device 512 512)
plain-typed f agsize roomy device a d = labelled-typed f agsize no_label roomy false device (lit< tt) refl (below-zeros 12) a d
