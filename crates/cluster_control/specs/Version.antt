-- The file PG_VERSION: which server a cluster or a database is of.
use Rattle.std.specs.Prelude.{◌≡◌, ℕ, ◌==◌, ◌&&◌, if◌then◌else◌, List, [], ◌∷◌, ◌++◌, codes, decimal}
use Rattle.std.specs.Prelude.{Option, Some, None, Result, Ok, Err}
use Rattle.cluster_control.specs.declared.version.MajorVersion.{MajorVersion}
use Rattle.cluster_control.specs.declared.version.MajorVersion.TheVariants.{V13, V14, V15, V16, V17}
use Rattle.cluster_control.specs.declared.version.VersionFault.{VersionFault}
use Rattle.cluster_control.specs.declared.version.VersionFault.TheVariants.{NotThere, Unknown}

-- the number of a version
abbrev pub number_of : MajorVersion → ℕ
number_of V13 = 13
number_of V14 = 14
number_of V15 = 15
number_of V16 = 16
number_of V17 = 17

-- the bytes that say a version: its number in decimal, and a line feed
abbrev pub IsVersion : List ℕ → MajorVersion → Type 0
IsVersion bytes version = bytes ≡ decimal (number_of version) ++ codes "\n"

-- the version by its second digit
abbrev pub version_by : ℕ → Option MajorVersion
version_by digit =
    if digit == 51 then Some V13
    else if digit == 52 then Some V14
    else if digit == 53 then Some V15
    else if digit == 54 then Some V16
    else if digit == 55 then Some V17
    else None

-- the version that three bytes say: the digit 1, another digit, and a line feed
abbrev pub version_of_three : ℕ → ℕ → ℕ → Option MajorVersion
version_of_three first second third = if first == 49 && third == 10 then version_by second else None

-- the version that bytes say
abbrev pub version_said : List ℕ → Option MajorVersion
version_said (a ∷ b ∷ c ∷ []) = version_of_three a b c
version_said _ = None

abbrev pub or_unknown : Option MajorVersion → Result MajorVersion VersionFault
or_unknown (Some version) = Ok version
or_unknown None = Err Unknown

-- what a file says that is held or not
abbrev pub version_held : Option (List ℕ) → Result MajorVersion VersionFault
version_held None = Err NotThere
version_held (Some bytes) = or_unknown (version_said bytes)
