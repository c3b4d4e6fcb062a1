-- The control file of a cluster: which of its bytes say what, and when it is refused.
use Rattle.std.specs.Prelude.{◌≡◌, ◌≢◌, ℕ, ◌+◌, ◌-◌, ◌*◌, ◌%◌, ◌^◌, ◌==◌, ◌&&◌, ◌||◌, Bool, true, false, not, nat_lt}
use Rattle.std.specs.Prelude.{if◌then◌else◌, List, length, take, drop, Option, Some, None, Result, Ok, Err}
use Rattle.byteorder.specs.Endian.{little_number}
use Rattle.page_layout.specs.Page.{u32_at}
use Rattle.rel_files.specs.declared.cluster.Cluster.{Cluster}
use Rattle.cluster_control.specs.Crc.{IsCrc, crc_of}
use Rattle.cluster_control.specs.declared.control.ControlFile.{ControlFile}
use Rattle.cluster_control.specs.declared.fault.ControlFault.{ControlFault}
use Rattle.cluster_control.specs.declared.fault.ControlFault.TheVariants.{NotThere, Short, WrongCrc, UnknownVersion}
use Rattle.cluster_control.specs.declared.fault.ControlFault.TheVariants.{OtherBuild, NotShutDown}
use Rattle.cluster_control.specs.declared.state.ClusterState.{ClusterState}
use Rattle.cluster_control.specs.declared.state.ClusterState.TheVariants.{ShutDown}
use Rattle.cluster_control.specs.State.{state_of}

-- the number in the eight bytes at a place, the lowest byte first
unfoldable pub u64_at : List ℕ → ℕ → ℕ
u64_at bytes at = little_number 8 (drop at bytes)

-- what the file says, place by place
unfoldable pub control_of : List ℕ → ControlFile
control_of bytes = record {
  system_identifier = u64_at bytes 0;
  control_version = u32_at bytes 8;
  catalog_version = u32_at bytes 12;
  state = state_of (u32_at bytes 16);
  checkpoint = u64_at bytes 32;
  timeline = u32_at bytes 48;
  next_xid = u64_at bytes 64;
  next_multi = u32_at bytes 76;
  next_member = u32_at bytes 80;
  oldest_xid = u32_at bytes 84;
  oldest_multi = u32_at bytes 92;
  segment_blocks = u32_at bytes 220;
  log_file_bytes = u32_at bytes 228;
  has_checksums = not (u32_at bytes 252 == 0);
}

-- the numbers by which transactions are judged: of the next transaction the lower half, which is without its epoch
abbrev pub numbers_of : ControlFile → Cluster
numbers_of control = record {
  next_xid = control.next_xid % 2 ^ 32;
  oldest_xid = control.oldest_xid;
  next_multi = control.next_multi;
  oldest_multi = control.oldest_multi;
  next_member = control.next_member;
}

-- the last four bytes that are read are the CRC-32C of the 288 before them
abbrev pub HasItsCrc : List ℕ → Type 0
HasItsCrc bytes = IsCrc (take 288 bytes) (u32_at bytes 288)

-- its layout is known: that of the servers 13 to 16, or of 17
abbrev pub is_known_version : ℕ → Bool
is_known_version version = version == 1300 || version == 1700

-- the float 1234567.0 in the eight bytes of the standard IEEE 754: its exponent above 52 bits of its fraction
abbrev pub float_mark : ℕ
float_mark = (1023 + 20) * 2 ^ 52 + (1234567 - 2 ^ 20) * 2 ^ 32

-- the server was built with alignment to 8 bytes, these floats, blocks of 8192 bytes, and names of 64
unfoldable pub is_this_build : List ℕ → Bool
is_this_build bytes =
    u32_at bytes 204 == 8 && u64_at bytes 208 == float_mark && u32_at bytes 216 == 8192 && u32_at bytes 232 == 64

-- these bytes are the control file of a cluster that was shut down, and say this
pub record IsControlFile (bytes : List ℕ) (control : ControlFile) : Type 0 where
  pub crc : HasItsCrc bytes
  pub version : is_known_version (u32_at bytes 8) ≡ true
  pub build : is_this_build bytes ≡ true
  pub state : state_of (u32_at bytes 16) ≡ ShutDown
  pub says : control ≡ control_of bytes

-- the bytes of a control file are refused so: each refusal where none before it comes
abbrev pub IsRefusedFor : List ℕ → ControlFault → Type 0
IsRefusedFor bytes NotThere = ⊥
IsRefusedFor bytes Short = ⊥
IsRefusedFor bytes WrongCrc = HasItsCrc bytes → ⊥
IsRefusedFor bytes (UnknownVersion version) =
    HasItsCrc bytes × (version ≡ u32_at bytes 8) × (is_known_version version ≡ false)
IsRefusedFor bytes OtherBuild =
    HasItsCrc bytes × (is_known_version (u32_at bytes 8) ≡ true) × (is_this_build bytes ≡ false)
IsRefusedFor bytes (NotShutDown state) =
    HasItsCrc bytes × (is_known_version (u32_at bytes 8) ≡ true) × (is_this_build bytes ≡ true)
    × (state ≡ state_of (u32_at bytes 16)) × (state ≢ ShutDown)

-- these bytes say this, or are refused so
abbrev pub SaysTrue : List ℕ → Result ControlFile ControlFault → Type 0
SaysTrue bytes (Ok control) = IsControlFile bytes control
SaysTrue bytes (Err fault) = IsRefusedFor bytes fault

-- where the rest is in order, the state decides
abbrev pub control_by_state : ClusterState → ControlFile → Result ControlFile ControlFault
control_by_state ShutDown control = Ok control
control_by_state state control = Err (NotShutDown state)

-- what these bytes say
unfoldable pub control_said : List ℕ → Result ControlFile ControlFault
control_said bytes =
    if not (u32_at bytes 288 == crc_of (take 288 bytes)) then Err WrongCrc
    else if not (is_known_version (u32_at bytes 8)) then Err (UnknownVersion (u32_at bytes 8))
    else if not (is_this_build bytes) then Err OtherBuild
    else control_by_state (state_of (u32_at bytes 16)) (control_of bytes)

-- what a file says that is held or not: it has 8192 bytes, and any more of them aren't looked at
abbrev pub control_held : Option (List ℕ) → Result ControlFile ControlFault
control_held None = Err NotThere
control_held (Some bytes) = if nat_lt (length bytes) 8192 then Err Short else control_said (take 8192 bytes)
