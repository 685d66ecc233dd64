-- The table of capabilities (capabilities(7); docs/policy.md, "Tables").
use Rattle.std.specs.Prelude.{ℕ, List, [], ◌∷◌, Option, codes, slice_get}
use Rattle.aa_profile_data.specs.TableNames.{number_in}

-- Their names, each at the index that is its number: capabilities(7) names them, and the kernel numbers them so (linux/capability.h).
abbrev pub names : List (List ℕ)
names =
    codes "chown" ∷ codes "dac_override" ∷ codes "dac_read_search" ∷ codes "fowner" ∷ codes "fsetid" ∷
    codes "kill" ∷ codes "setgid" ∷ codes "setuid" ∷ codes "setpcap" ∷ codes "linux_immutable" ∷
    codes "net_bind_service" ∷ codes "net_broadcast" ∷ codes "net_admin" ∷ codes "net_raw" ∷ codes "ipc_lock" ∷
    codes "ipc_owner" ∷ codes "sys_module" ∷ codes "sys_rawio" ∷ codes "sys_chroot" ∷ codes "sys_ptrace" ∷
    codes "sys_pacct" ∷ codes "sys_admin" ∷ codes "sys_boot" ∷ codes "sys_nice" ∷ codes "sys_resource" ∷
    codes "sys_time" ∷ codes "sys_tty_config" ∷ codes "mknod" ∷ codes "lease" ∷ codes "audit_write" ∷
    codes "audit_control" ∷ codes "setfcap" ∷ codes "mac_override" ∷ codes "mac_admin" ∷ codes "syslog" ∷
    codes "wake_alarm" ∷ codes "block_suspend" ∷ codes "audit_read" ∷ codes "perfmon" ∷ codes "bpf" ∷
    codes "checkpoint_restore" ∷ []

abbrev pub capability_number : List ℕ → Option ℕ
capability_number name = number_in names name

abbrev pub capability_name : ℕ → Option (List ℕ)
capability_name number = slice_get names number
