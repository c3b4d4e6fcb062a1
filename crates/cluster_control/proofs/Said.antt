-- What a control file and PG_VERSION say.
use Rattle.std.proofs.Common.{◌≡◌, ◌≢◌, ◌∙◌, ℕ, Bool, true, false, List, [], ◌∷◌, ◌++◌, refl, ap, sym, subst, inl, inr}
use Rattle.std.specs.Prelude.{◌==◌, ◌&&◌, not, if◌then◌else◌, codes, decimal, take, Some, None, Result, Ok, Err}
use Rattle.std.specs.Fmt.{digits}
use Rattle.std.proofs.lemmas.Bool.{cases_eq, eq-eqb, ne_eqb, eqb-true}
use Rattle.page_layout.specs.Page.{u32_at}
use Rattle.cluster_control.specs.Crc.{IsCrc, crc_of}
use Rattle.cluster_control.specs.Control.{HasItsCrc, SaysTrue, control_by_state, control_of, control_said}
use Rattle.cluster_control.specs.Control.{is_known_version, is_this_build}
use Rattle.cluster_control.specs.State.{state_of}
use Rattle.cluster_control.specs.Version.{IsVersion, number_of, version_by, version_said}
use Rattle.cluster_control.specs.declared.control.ControlFile.{ControlFile}
use Rattle.cluster_control.specs.declared.fault.ControlFault.{ControlFault}
use Rattle.cluster_control.specs.declared.fault.ControlFault.TheVariants.{NotThere, Short, WrongCrc, UnknownVersion, OtherBuild, NotShutDown}
use Rattle.cluster_control.specs.declared.state.ClusterState.{ClusterState}
use Rattle.cluster_control.specs.declared.state.ClusterState.TheVariants.{StartingUp, ShutDown, ShutDownInRecovery, ShuttingDown, InCrashRecovery, InArchiveRecovery, InProduction, Other}
use Rattle.cluster_control.specs.declared.version.MajorVersion.{MajorVersion}
use Rattle.cluster_control.specs.declared.version.MajorVersion.TheVariants.{V13, V14, V15, V16, V17}
use Rattle.cluster_control.proofs.Division.{crc_alone, crc_is}

-- the answer by what was tested
abbrev answer_by : Bool → Bool → Bool → ℕ → ClusterState → ControlFile → Result ControlFile ControlFault
answer_by right known build version state control =
    if not right then Err WrongCrc
    else if not known then Err (UnknownVersion version)
    else if not build then Err OtherBuild
    else control_by_state state control

abbrev crc_test : List ℕ → Bool
crc_test bytes = u32_at bytes 288 == crc_of (take 288 bytes)

has_crc : (bytes : List ℕ) → crc_test bytes ≡ true → HasItsCrc bytes
has_crc bytes e = subst (IsCrc (take 288 bytes)) (sym (eqb-true _ _ e)) (crc_is (take 288 bytes))

has_test : (bytes : List ℕ) → HasItsCrc bytes → crc_test bytes ≡ true
has_test bytes h = eq-eqb _ _ (crc_alone (take 288 bytes) (u32_at bytes 288) h)

has_none : (bytes : List ℕ) → (HasItsCrc bytes → ⊥) → crc_test bytes ≡ false
has_none bytes n = elim (cases_eq (u32_at bytes 288) (crc_of (take 288 bytes))) [
  | inl e ↦ absurd (n (has_crc bytes (eq-eqb _ _ e)))
  | inr other ↦ ne_eqb _ _ other
]

lacks : (bytes : List ℕ) → crc_test bytes ≡ false → HasItsCrc bytes → ⊥
lacks bytes e h = let both : true ≡ false = sym (has_test bytes h) ∙ e in absurd cc

by_state : (bytes : List ℕ) (state : ClusterState) → crc_test bytes ≡ true → is_known_version (u32_at bytes 8) ≡ true
    → is_this_build bytes ≡ true → state_of (u32_at bytes 16) ≡ state → SaysTrue bytes (control_by_state state (control_of bytes))
by_state bytes ShutDown right known build e = record { crc = has_crc bytes right; version = known; build = build; state = e; says = refl }
by_state bytes StartingUp right known build e = (has_crc bytes right, known, build, sym e, λ d. absurd cc)
by_state bytes ShutDownInRecovery right known build e = (has_crc bytes right, known, build, sym e, λ d. absurd cc)
by_state bytes ShuttingDown right known build e = (has_crc bytes right, known, build, sym e, λ d. absurd cc)
by_state bytes InCrashRecovery right known build e = (has_crc bytes right, known, build, sym e, λ d. absurd cc)
by_state bytes InArchiveRecovery right known build e = (has_crc bytes right, known, build, sym e, λ d. absurd cc)
by_state bytes InProduction right known build e = (has_crc bytes right, known, build, sym e, λ d. absurd cc)
by_state bytes (Other n) right known build e = (has_crc bytes right, known, build, sym e, λ d. absurd cc)

by_tests : (bytes : List ℕ) (right known build : Bool) → crc_test bytes ≡ right → is_known_version (u32_at bytes 8) ≡ known
    → is_this_build bytes ≡ build
    → SaysTrue bytes (answer_by right known build (u32_at bytes 8) (state_of (u32_at bytes 16)) (control_of bytes))
by_tests bytes false known build r k b = lacks bytes r
by_tests bytes true false build r k b = (has_crc bytes r, refl, k)
by_tests bytes true true false r k b = (has_crc bytes r, k, b)
by_tests bytes true true true r k b = by_state bytes (state_of (u32_at bytes 16)) r k b refl

pub said_is_true : (bytes : List ℕ) → SaysTrue bytes (control_said bytes)
unfolding control_said
said_is_true bytes = by_tests bytes _ _ _ refl refl refl

-- a state that refuses
refuses : (state : ClusterState) (control : ControlFile) → state ≢ ShutDown → control_by_state state control ≡ Err (NotShutDown state)
refuses ShutDown control n = absurd (n refl)
refuses StartingUp control n = refl
refuses ShutDownInRecovery control n = refl
refuses ShuttingDown control n = refl
refuses InCrashRecovery control n = refl
refuses InArchiveRecovery control n = refl
refuses InProduction control n = refl
refuses (Other k) control n = refl

pub said_alone : (bytes : List ℕ) (other : Result ControlFile ControlFault) → SaysTrue bytes other → other ≡ control_said bytes
unfolding control_said
said_alone bytes (Ok control) h =
    let right = has_test bytes h.crc in
    let all : control_said bytes ≡ Ok control = λ i. answer_by (right i) (h.version i) (h.build i) (u32_at bytes 8) (h.state i) (sym h.says i) in
    sym all
said_alone bytes (Err NotThere) h = absurd h
said_alone bytes (Err Short) h = absurd h
said_alone bytes (Err WrongCrc) h =
    let wrong = has_none bytes h in
    let all : control_said bytes ≡ Err WrongCrc =
    λ i. answer_by (wrong i) (is_known_version (u32_at bytes 8)) (is_this_build bytes) (u32_at bytes 8) (state_of (u32_at bytes 16)) (control_of bytes) in
    sym all
said_alone bytes (Err (UnknownVersion version)) h =
    let right = has_test bytes h.0 in
    let unknown : is_known_version (u32_at bytes 8) ≡ false = ap is_known_version (sym h.1) ∙ h.2 in
    let all : control_said bytes ≡ Err (UnknownVersion version) =
    λ i. answer_by (right i) (unknown i) (is_this_build bytes) (sym h.1 i) (state_of (u32_at bytes 16)) (control_of bytes) in
    sym all
said_alone bytes (Err OtherBuild) h =
    let right = has_test bytes h.0 in
    let all : control_said bytes ≡ Err OtherBuild =
    λ i. answer_by (right i) (h.1 i) (h.2 i) (u32_at bytes 8) (state_of (u32_at bytes 16)) (control_of bytes) in
    sym all
said_alone bytes (Err (NotShutDown state)) h =
    let right = has_test bytes h.0 in
    let all : control_said bytes ≡ control_by_state state (control_of bytes) =
    λ i. answer_by (right i) (h.1 i) (h.2 i) (u32_at bytes 8) (sym h.3 i) (control_of bytes) in
    sym (all ∙ refuses state (control_of bytes) h.4)

-- The bytes of a version

abbrev digit_of : MajorVersion → ℕ
digit_of V13 = 51
digit_of V14 = 52
digit_of V15 = 53
digit_of V16 = 54
digit_of V17 = 55

spelled : (version : MajorVersion) → decimal (number_of version) ++ codes "\n" ≡ 49 ∷ digit_of version ∷ 10 ∷ []
unfolding digits
spelled V13 = refl
spelled V14 = refl
spelled V15 = refl
spelled V16 = refl
spelled V17 = refl

digit_says : (version : MajorVersion) → version_by (digit_of version) ≡ Some version
digit_says V13 = refl
digit_says V14 = refl
digit_says V15 = refl
digit_says V16 = refl
digit_says V17 = refl

pub version_alone : (bytes : List ℕ) (version : MajorVersion) → IsVersion bytes version → version_said bytes ≡ Some version
version_alone bytes version h = ap version_said (h ∙ spelled version) ∙ digit_says version

same_digit : (v w : MajorVersion) → Some v ≡ Some w → digit_of v ≡ digit_of w
same_digit v w e = let same : v ≡ w = cc in ap digit_of same

by_digit : (b : ℕ) (version : MajorVersion) → version_by b ≡ Some version → b ≡ digit_of version
by_digit b version e = elim (cases_eq b 51) [
  | inl d ↦ d ∙ same_digit V13 version (sym (ap version_by d) ∙ e)
  | inr n3 ↦ elim (cases_eq b 52) [
    | inl d ↦ d ∙ same_digit V14 version (sym (ap version_by d) ∙ e)
    | inr n4 ↦ elim (cases_eq b 53) [
      | inl d ↦ d ∙ same_digit V15 version (sym (ap version_by d) ∙ e)
      | inr n5 ↦ elim (cases_eq b 54) [
        | inl d ↦ d ∙ same_digit V16 version (sym (ap version_by d) ∙ e)
        | inr n6 ↦ elim (cases_eq b 55) [
          | inl d ↦ d ∙ same_digit V17 version (sym (ap version_by d) ∙ e)
          | inr n7 ↦
              let none : version_by b ≡ None = λ i.
              if ne_eqb b 51 n3 i then Some V13 else if ne_eqb b 52 n4 i then Some V14 else if ne_eqb b 53 n5 i then Some V15
              else if ne_eqb b 54 n6 i then Some V16 else if ne_eqb b 55 n7 i then Some V17 else None in
              let clash : None ≡ Some version = sym none ∙ e in
              absurd cc
        ]
      ]
    ]
  ]
]

by_three : (a b c : ℕ) (version : MajorVersion) (first last : Bool) → (a == 49) ≡ first → (c == 10) ≡ last
    → (if first && last then version_by b else None) ≡ Some version → a ∷ b ∷ c ∷ [] ≡ decimal (number_of version) ++ codes "\n"
by_three a b c version true true f l e =
    (λ i. eqb-true a 49 f i ∷ by_digit b version e i ∷ eqb-true c 10 l i ∷ []) ∙ sym (spelled version)
by_three a b c version true false f l e = absurd cc
by_three a b c version false last f l e = absurd cc

pub version_is : (bytes : List ℕ) (version : MajorVersion) → version_said bytes ≡ Some version → IsVersion bytes version
version_is [] version e = absurd cc
version_is (a ∷ []) version e = absurd cc
version_is (a ∷ b ∷ []) version e = absurd cc
version_is (a ∷ b ∷ c ∷ []) version e = by_three a b c version _ _ refl refl e
version_is (a ∷ b ∷ c ∷ d ∷ rest) version e = absurd cc
