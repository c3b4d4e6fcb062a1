-- What the functions say is what the relations say.
use Rattle.std.specs.Prelude.{◌≡◌, ◌↔◌, ℕ, ℤ, List, Some}
use Rattle.key_orders.specs.declared.columns.ColType.{ColType}
use Rattle.key_orders.specs.Types.{HasAlignment}
use Rattle.catalog_rows.specs.Arrays.{IsInt2Vector, IsOidVector, int2s_in, oids_in}
use Rattle.catalog_rows.specs.Element.{IsMissing, missing_in}

abbrev pub Int2sAreTold : List ℕ → List ℤ → Type 0
Int2sAreTold content numbers = (int2s_in content ≡ Some numbers) ↔ IsInt2Vector content numbers

abbrev pub OidsAreTold : List ℕ → List ℕ → Type 0
OidsAreTold content oids = (oids_in content ≡ Some oids) ↔ IsOidVector content oids

abbrev pub MissingIsTold : ℕ → ColType → List ℕ → List ℕ → Type 0
MissingIsTold type_oid ctype content value =
    HasAlignment ctype → (missing_in type_oid ctype content ≡ Some value) ↔ IsMissing type_oid ctype content value
