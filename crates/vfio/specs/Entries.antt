-- The table of requests (rule 3.1) under the code's names.
use Rattle.std.specs.Prelude.{ℕ, ◌≡◌, false, [], get_or}
use Rattle.std.proofs.Math.Option.{Option, some}
use Rattle.emulator.specs.Requests.{get_api_version, Entry, entry, requests}
use Rattle.vfio.specs.declared.requests.Entry.{Entry as Row}
use Rattle.vfio.specs.declared.requests.Request.{Request}
use Rattle.vfio.specs.declared.requests.Request.TheVariants.{GetApiVersion, CheckExtension, SetIommu, GetIommuInfo, MapDma, UnmapDma, GetInfo, GetRegionInfo, GetIrqInfo, SetIrqs, ResetDevice}

-- where each request of the code stands in the table
abbrev pub place_of : Request → ℕ
place_of GetApiVersion = 0
place_of CheckExtension = 1
place_of SetIommu = 2
place_of GetIommuInfo = 3
place_of MapDma = 4
place_of UnmapDma = 5
place_of GetInfo = 6
place_of GetRegionInfo = 7
place_of GetIrqInfo = 8
place_of SetIrqs = 9
place_of ResetDevice = 10

abbrev pub entry_of : Request → Entry
entry_of q = get_or requests (place_of q) (entry 0 0 get_api_version 0 false [])

-- what a row of the code's table tells of the entry that is listed
pub record Knows (listed : Option Entry) (row : Row) : Type 0 where
  pub request : listed ≡ some (entry_of row.request)
  pub size : row.size ≡ (entry_of row.request).size
  pub argsz : row.has_argsz ≡ (entry_of row.request).argsz
