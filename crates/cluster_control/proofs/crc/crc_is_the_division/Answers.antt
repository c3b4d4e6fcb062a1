use Rattle.cluster_control.proofs.Division.{crc_alone, crc_is}
use Rattle.cluster_control.proofs.crc.crc_is_the_division.Goals as goal

pub returns-clause-is : goal.returns-clause-is
returns-clause-is c = crc_is

pub returns-clause-alone : goal.returns-clause-alone
returns-clause-alone c = crc_alone
