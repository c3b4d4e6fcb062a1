-- What was read of a map.
use Rattle.std.proofs.Common.{◌≡◌, ◌∙◌, ℕ, List, length, take, refl, ap, arith}
use Rattle.std.specs.Prelude.{Option, Some, None, Err, ◌==◌, false, if◌then◌else◌}
use Rattle.std.specs.Option.{option_map}
use Rattle.std.proofs.lemmas.Bool.{ne_eqb}
use Rattle.std.proofs.lemmas.List.{take_all}
use Rattle.cluster_map.specs.Map.{map_held, map_said}
use Rattle.cluster_map.specs.declared.fault.MapFault.TheVariants.{WrongLength}
use Rattle.cluster_map.proofs.Said.{said_alone}

-- all bytes of a file that has so many
pub map_read : (file : Option (List ℕ)) (long n : ℕ) (read : List ℕ) → Some long ≡ option_map length file → long ≡ n
    → ((bytes : List ℕ) → file ≡ Some bytes → read ≡ take n bytes) → map_said read ≡ map_held file
map_read None long n read e fits is = absurd cc
map_read (Some bytes) long n read e fits is =
    let same : long ≡ length bytes = cc in
    ap map_said (is bytes refl ∙ take_all n bytes (omega arith))

-- a file of another length
pub map_long : (file : Option (List ℕ)) (long : ℕ) → Some long ≡ option_map length file → (long ≡ 512 → ⊥) → (long ≡ 524 → ⊥)
    → Err WrongLength ≡ map_held file
map_long None long e one other = absurd cc
map_long (Some bytes) long e one other =
    let same : long ≡ length bytes = cc in
    let not_one : (length bytes == 512) ≡ false = ne_eqb _ _ (λ q. one (same ∙ q)) in
    let not_other : (length bytes == 524) ≡ false = ne_eqb _ _ (λ q. other (same ∙ q)) in
    said_alone bytes (Err WrongLength) (λ i. if not_one i then Some 62 else if not_other i then Some 64 else None)
