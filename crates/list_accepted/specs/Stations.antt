-- The station cases as requests.
-- Assumes nothing.
use Rattle.std.specs.Prelude.{ℕ, get_or}
use Rattle.params.specs.Params.{no_options}
use Rattle.request.specs.declared.Request.{Request}
use Rattle.request.specs.Parse.{request}
use Rattle.stations.specs.Stations.{StationCase, station_refused, stations}

-- a case of the table, by its place
abbrev pub station : ℕ → StationCase
station n = get_or stations n (station_refused no_options 0 0)

-- its request: sectors of 512 bytes
abbrev pub request_of : StationCase → Request
request_of c = request 0 c.options c.device 512 512
