-- For `listing`: listings of programs, one after the other.
use Rattle.std.proofs.Common.{◌≡◌, ℕ, List, [], ◌∷◌, ◌++◌, map, string_bytes, sym, ap, ◌∙◌}
use Rattle.std.specs.List.{flat_map}
use Rattle.std.proofs.lemmas.List.{map_push, flat_map_more}
use Rattle.seccompiler.specs.declared.bpf.sock_filter.{sock_filter}
use Rattle.seccomp_text.specs.Listing.{listing_of}
use Rattle.seccompc.specs.Listing.{named_program}
use Rattle.seccompc.proofs.Policies.{Entry}

-- The listings of programs.
abbrev pub listings : List Entry → List ℕ
listings entries = flat_map listing_of (map named_program entries)

-- One program more at the end.
listings_push : (entries : List Entry) (e : Entry) → listings (entries ++ e ∷ []) ≡ listings entries ++ listing_of (named_program e)
listings_push entries e =
    ap (flat_map listing_of) (map_push named_program entries e)
    ∙ sym (flat_map_more listing_of [] (map named_program entries) (named_program e))

-- One listing more.
pub listing_more : (done : List Entry) (e : Entry) (name : List ℕ) (program : List sock_filter) (old new : List ℕ) → old ≡ listings done
    → new ≡ old ++ listing_of (name, program) → name ≡ string_bytes e.0 → program ≡ e.1.items → new ≡ listings (done ++ e ∷ [])
listing_more done e name program old new so_far more same_name same_program =
    more ∙ ap (λ l. l ++ listing_of (name, program)) so_far ∙ ap (λ n. listings done ++ listing_of (n, program)) same_name
    ∙ ap (λ p. listings done ++ listing_of (string_bytes e.0, p)) same_program ∙ sym (listings_push done e)
