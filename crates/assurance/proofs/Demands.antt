-- The term of all demands.
use Rattle.iommu.proofs.Requests.{remains}
use Rattle.parts.proofs.RoundTrip.{round_trips}
use Rattle.assurance.specs.Demands.{Demands}
use Rattle.assurance.proofs.Demand1.{demand1}
use Rattle.assurance.proofs.SaveLoad.{save-load}
use Rattle.assurance.proofs.Starred.{starred}
use Rattle.assurance.proofs.Demand3.{demand3}
use Rattle.assurance.proofs.Session.{sessions}
use Rattle.assurance.proofs.Account.{mapped-bytes}
use Rattle.assurance.proofs.Packed.{equivalence}
use Rattle.assurance.proofs.PastEnd.{past_end}

pub demands : Demands
demands =
    record {
      demand1 = demand1;
      round_trip = round_trips;
      save_load = save-load;
      starred = starred;
      remains = remains;
      demand3 = demand3;
      sessions = sessions;
      mapped_bytes = mapped-bytes;
      equivalence = equivalence;
      past_end = past_end;
    }
