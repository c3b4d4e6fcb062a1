use Rattle.catalog_rows.proofs.ArrayLaws.{int2s_law, oids_law}
use Rattle.catalog_rows.proofs.arrays.vectors_are_told.Goals as goal

pub returns-clause-int2s : goal.returns-clause-int2s
returns-clause-int2s c = int2s_law

pub returns-clause-oids : goal.returns-clause-oids
returns-clause-oids c = oids_law
