-- Names of capabilities.
use Rattle.std.specs.Prelude.{◌≡◌, ◌≤◌, ◌⊎◌, ℕ, List, [], ◌∷◌, codes, drop, length, map}
use Rattle.std.specs.Char.{to_ascii_lowercase}

-- Linux's capabilities, by their numbers from 0 on (capabilities(7)).
abbrev pub capability_names : List (List ℕ)
capability_names = codes "CAP_CHOWN" ∷ codes "CAP_DAC_OVERRIDE" ∷ codes "CAP_DAC_READ_SEARCH" ∷ codes "CAP_FOWNER"
    ∷ codes "CAP_FSETID" ∷ codes "CAP_KILL" ∷ codes "CAP_SETGID" ∷ codes "CAP_SETUID" ∷ codes "CAP_SETPCAP"
    ∷ codes "CAP_LINUX_IMMUTABLE" ∷ codes "CAP_NET_BIND_SERVICE" ∷ codes "CAP_NET_BROADCAST" ∷ codes "CAP_NET_ADMIN"
    ∷ codes "CAP_NET_RAW" ∷ codes "CAP_IPC_LOCK" ∷ codes "CAP_IPC_OWNER" ∷ codes "CAP_SYS_MODULE" ∷ codes "CAP_SYS_RAWIO"
    ∷ codes "CAP_SYS_CHROOT" ∷ codes "CAP_SYS_PTRACE" ∷ codes "CAP_SYS_PACCT" ∷ codes "CAP_SYS_ADMIN" ∷ codes "CAP_SYS_BOOT"
    ∷ codes "CAP_SYS_NICE" ∷ codes "CAP_SYS_RESOURCE" ∷ codes "CAP_SYS_TIME" ∷ codes "CAP_SYS_TTY_CONFIG" ∷ codes "CAP_MKNOD"
    ∷ codes "CAP_LEASE" ∷ codes "CAP_AUDIT_WRITE" ∷ codes "CAP_AUDIT_CONTROL" ∷ codes "CAP_SETFCAP" ∷ codes "CAP_MAC_OVERRIDE"
    ∷ codes "CAP_MAC_ADMIN" ∷ codes "CAP_SYSLOG" ∷ codes "CAP_WAKE_ALARM" ∷ codes "CAP_BLOCK_SUSPEND" ∷ codes "CAP_AUDIT_READ"
    ∷ codes "CAP_PERFMON" ∷ codes "CAP_BPF" ∷ codes "CAP_CHECKPOINT_RESTORE" ∷ []

-- The name is what stands after the first four bytes of the capability's, in any case.
pub record IsShort (own name : List ℕ) : Type 0 where
  pub long : 4 ≤ length own
  pub same : map to_ascii_lowercase (drop 4 own) ≡ map to_ascii_lowercase name

-- The capability has this name, in any case, with or without CAP_ in front.
abbrev pub IsCalled : List ℕ → List ℕ → Type 0
IsCalled own name = (map to_ascii_lowercase own ≡ map to_ascii_lowercase name) ⊎ IsShort own name
