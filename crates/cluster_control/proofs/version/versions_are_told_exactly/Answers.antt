use Rattle.cluster_control.proofs.Said.{version_alone, version_is}
use Rattle.cluster_control.proofs.version.versions_are_told_exactly.Goals as goal

pub returns-clause-is : goal.returns-clause-is
returns-clause-is c = version_is

pub returns-clause-alone : goal.returns-clause-alone
returns-clause-alone c = version_alone
