use Rattle.cluster_control.proofs.Said.{said_alone, said_is_true}
use Rattle.cluster_control.proofs.control.control_is_told_exactly.Goals as goal

pub returns-clause-is : goal.returns-clause-is
returns-clause-is c = said_is_true

pub returns-clause-alone : goal.returns-clause-alone
returns-clause-alone c = said_alone
