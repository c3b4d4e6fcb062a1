use Rattle.cluster_map.proofs.Said.{said_alone, said_found, said_is_true}
use Rattle.cluster_map.proofs.map.maps_are_told_exactly.Goals as goal

pub returns-clause-is : goal.returns-clause-is
returns-clause-is c = said_is_true

pub returns-clause-alone : goal.returns-clause-alone
returns-clause-alone c = said_alone

pub returns-clause-found : goal.returns-clause-found
returns-clause-found c = said_found
