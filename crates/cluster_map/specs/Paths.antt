-- Where the files of a cluster lie.
use Rattle.std.specs.Prelude.{ℕ, ◌==◌, if◌then◌else◌, List, ◌++◌, codes, decimal}
use Rattle.cluster_control.specs.Version.{number_of}
use Rattle.cluster_map.specs.declared.paths.Database.{Database}
use Rattle.cluster_map.specs.declared.paths.SpaceVersion.{SpaceVersion}

-- the tablespace of shared relations, and the default one
abbrev pub global_space : ℕ
global_space = 1664

abbrev pub default_space : ℕ
default_space = 1663

-- a relation's tablespace is its own, or where that is 0 its database's
abbrev pub space_of : Database → ℕ → ℕ
space_of database own = if own == 0 then database.tablespace else own

-- the name of the folder that a server's version has in a tablespace: the version, and that of its catalogs
abbrev pub version_folder : ℕ → ℕ → List ℕ
version_folder major catalog = codes "PG_" ++ decimal major ++ codes "_" ++ decimal catalog

-- the folder of a database in a tablespace that is neither of those two
abbrev pub folder_of_space : List ℕ → ℕ → ℕ → List ℕ
folder_of_space version space database =
    codes "pg_tblspc/" ++ decimal space ++ codes "/" ++ version ++ codes "/" ++ decimal database

-- the folder of a database's relations in a tablespace
unfoldable pub folder_in : SpaceVersion → Database → ℕ → List ℕ
folder_in version database space =
    if space == global_space then codes "global"
    else if space == default_space then codes "base/" ++ decimal database.oid
    else folder_of_space (version_folder (number_of version.major) version.catalog) space database.oid

-- a name below a folder
abbrev pub below : List ℕ → List ℕ → List ℕ
below folder name = folder ++ codes "/" ++ name

-- the path of a relation's first file, by its own tablespace and the number of its file
abbrev pub relation_path : SpaceVersion → Database → ℕ → ℕ → List ℕ
relation_path version database own file = below (folder_in version database (space_of database own)) (decimal file)
