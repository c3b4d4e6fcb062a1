-- The catalogs of one database: its own row of pg_database, and the rows of the others.
use Rattle.std.specs.Prelude.{List}
use Rattle.catalog_rows.specs.declared.rows.AccessMethodRow.{AccessMethodRow}
use Rattle.catalog_rows.specs.declared.rows.AttributeRow.{AttributeRow}
use Rattle.catalog_rows.specs.declared.rows.ClassRow.{ClassRow}
use Rattle.catalog_rows.specs.declared.rows.CollationRow.{CollationRow}
use Rattle.catalog_rows.specs.declared.rows.DatabaseRow.{DatabaseRow}
use Rattle.catalog_rows.specs.declared.rows.IndexRow.{IndexRow}
use Rattle.catalog_rows.specs.declared.rows.NamespaceRow.{NamespaceRow}
use Rattle.catalog_rows.specs.declared.rows.OperatorClassRow.{OperatorClassRow}
use Rattle.catalog_rows.specs.declared.rows.TypeRow.{TypeRow}

-- the rows are those that are live in the catalogs' files, in their order there
pub record CatalogLists : Type 0 where
  pub database : DatabaseRow
  pub classes : List ClassRow
  pub attributes : List AttributeRow
  pub types : List TypeRow
  pub indexes : List IndexRow
  pub namespaces : List NamespaceRow
  pub operator_classes : List OperatorClassRow
  pub access_methods : List AccessMethodRow
  pub collations : List CollationRow
