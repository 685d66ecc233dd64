-- The table of domains (docs/policy.md, "Tables").
use Rattle.std.specs.Prelude.{ℕ, Bool, ◌==◌, ◌||◌, List, [], ◌∷◌, Option, codes, slice_get}
use Rattle.aa_profile_data.specs.TableNames.{number_in}

-- Their names, each at the index that is its number: those of apparmor.d(5), "Network Rules", by numbers of this table.
abbrev pub names : List (List ℕ)
names =
    codes "unix" ∷ codes "inet" ∷ codes "ax25" ∷ codes "ipx" ∷ codes "appletalk" ∷ codes "netrom" ∷
    codes "bridge" ∷ codes "atmpvc" ∷ codes "x25" ∷ codes "inet6" ∷ codes "rose" ∷ codes "netbeui" ∷
    codes "security" ∷ codes "key" ∷ codes "netlink" ∷ codes "packet" ∷ codes "ash" ∷ codes "econet" ∷
    codes "atmsvc" ∷ codes "rds" ∷ codes "sna" ∷ codes "irda" ∷ codes "pppox" ∷ codes "wanpipe" ∷
    codes "llc" ∷ codes "ib" ∷ codes "mpls" ∷ codes "can" ∷ codes "tipc" ∷ codes "bluetooth" ∷
    codes "iucv" ∷ codes "rxrpc" ∷ codes "isdn" ∷ codes "phonet" ∷ codes "ieee802154" ∷ codes "caif" ∷
    codes "alg" ∷ codes "nfc" ∷ codes "vsock" ∷ codes "kcm" ∷ codes "qipcrtr" ∷ codes "smc" ∷
    codes "xdp" ∷ codes "mctp" ∷ []

abbrev pub domain_number : List ℕ → Option ℕ
domain_number name = number_in names name

abbrev pub domain_name : ℕ → Option (List ℕ)
domain_name number = slice_get names number

-- the domains that have protocols: `inet` and `inet6`
abbrev pub has_protocols : ℕ → Bool
has_protocols domain = domain == 1 || domain == 9
