-- What was read of a file.
use Rattle.std.proofs.Common.{◌≡◌, ◌∙◌, ℕ, ◌≤◌, false, List, [], ◌∷◌, length, take, refl, ap, sym, arith}
use Rattle.std.specs.Prelude.{Option, Some, None, Err, nat_lt, if◌then◌else◌}
use Rattle.std.specs.Option.{option_map}
use Rattle.std.proofs.lemmas.Bool.{le-ltb}
use Rattle.std.proofs.lemmas.List.{take_all}
use Rattle.cluster_control.specs.Control.{control_held, control_said}
use Rattle.cluster_control.specs.Version.{or_unknown, version_held, version_said}
use Rattle.cluster_control.specs.declared.fault.ControlFault.TheVariants.{Short}

pub control_read : (file : Option (List ℕ)) (long : ℕ) (read : List ℕ) → Some long ≡ option_map length file → 8192 ≤ long
    → ((bytes : List ℕ) → file ≡ Some bytes → read ≡ take 8192 bytes) → control_said read ≡ control_held file
control_read None long read e le is = absurd cc
control_read (Some bytes) long read e le is =
    let same : long ≡ length bytes = cc in
    let whole : nat_lt (length bytes) 8192 ≡ false = le-ltb (length bytes) 8192 (omega arith) in
    ap control_said (is bytes refl) ∙ (λ i. if sym whole i then Err Short else control_said (take 8192 bytes))

pub version_read : (file : Option (List ℕ)) (long : ℕ) (read : List ℕ) → Some long ≡ option_map length file → long ≡ 3
    → ((bytes : List ℕ) → file ≡ Some bytes → read ≡ take 3 bytes) → or_unknown (version_said read) ≡ version_held file
version_read None long read e le is = absurd cc
version_read (Some bytes) long read e le is =
    let same : long ≡ length bytes = cc in
    ap (λ (b : List ℕ). or_unknown (version_said b)) (is bytes refl ∙ take_all 3 bytes (omega arith))

-- of another length it says no version
pub version_long : (bytes : List ℕ) → (length bytes ≡ 3 → ⊥) → version_said bytes ≡ None
version_long [] n = refl
version_long (a ∷ []) n = refl
version_long (a ∷ b ∷ []) n = refl
version_long (a ∷ b ∷ c ∷ []) n = absurd (n refl)
version_long (a ∷ b ∷ c ∷ d ∷ rest) n = refl
