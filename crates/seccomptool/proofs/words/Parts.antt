-- A path and the name of a filter in one text.
use Rattle.seccomptool.proofs.Common.{[], ◌++◌, ◌+◌, ◌<◌, ◌==◌, ◌∙◌, ◌∷◌, ◌≡◌, ◌≢◌, All-from_get_or, AllZip, Bool, IfSome, List, Named}
use Rattle.seccomptool.proofs.Common.{NoCharPasses, None, Some, all_zipped_more, ap, arith, drop, false, get_or, length, map, map-append}
use Rattle.seccomptool.proofs.Common.{refl, subst, sym, take, take-append-drop, take_more, ℕ}
use Rattle.std.proofs.Common.{Bor}
use Rattle.std.specs.Str.Pattern.{RFindsChar, SplitsAroundMatch}
use Rattle.std.proofs.lemmas.Str.Pattern.{NoCharPasses-char, drop_at_char}
use Rattle.seccomptool.specs.Files.{HasNoColon, IsNamedBy, IsPathAndName, Paths, both, name_given}

-- What the search for a colon doesn't find isn't there.
pub no_colon : (text : List ℕ) → NoCharPasses (λ c. c == 0x3a) text → HasNoColon text
no_colon text none = All-from_get_or (λ byte. byte ≢ 0x3a) text 0
    (λ i within. NoCharPasses-char 0x3a text i none (omega arith) within)

-- What stands in front of the last colon, and behind it, if nothing is at the whole.
pub parted : (paths : Paths) (text front back : List ℕ) → IfSome paths (λ there. there text ≡ false)
    → SplitsAroundMatch (RFindsChar 0x3a) text front back → IsPathAndName paths text front (name_given back)
parted paths text front back none (i, j, found, is_front, is_back, order, starts, ends) =
    both none back (sym (take-append-drop i text) ∙ ap (λ rest. take i text ++ rest) (drop_at_char 0x3a text i j found.1 (omega arith))
    ∙ cc (is_front, is_back)) (subst HasNoColon (sym is_back) (no_colon (drop j text) found.0)) refl

-- What was found of a path is so, where it is known.
pub found_there : (paths : Paths) (text : List ℕ) (result value : Bool) → IfSome paths (λ there. result ≡ there text) → result ≡ value
    → IfSome paths (λ there. there text ≡ value)
found_there None text result value is same = tt
found_there (Some there) text result value is same = sym is ∙ same

-- One more of those that are named.
pub named_more : (paths : Paths) (texts : List (Bor (List ℕ))) (at : ℕ) (d : Bor (List ℕ)) (all new : List Named) (named : Named)
    → at < length texts → AllZip (IsNamedBy paths) (map (λ text. text.now) (take at texts)) all
    → IsNamedBy paths (get_or texts at d).now named → new ≡ all ++ named ∷ []
    → AllZip (IsNamedBy paths) (map (λ text. text.now) (take (at + 1) texts)) new
named_more paths texts at d all new named room so_far own is =
    rw (is, take_more texts at d room, map-append)
    (all_zipped_more (IsNamedBy paths) (map (λ (text : Bor (List ℕ)). text.now) (take at texts)) all (get_or texts at d).now named so_far
    own)
