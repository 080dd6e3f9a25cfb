-- The rest of a text that is shown consists of its next byte and the bytes after it.
use Rattle.std.proofs.Common.{◌≡◌, ℕ, ◌+◌, ◌<◌, List, ◌∷◌, ◌++◌, Bool, Option}
use Rattle.std.proofs.Common.{length, drop, get_or, ap, subst, add-one, drop-cons}
use Rattle.yf_lines.proofs.OutputLemmas.{Progress}
use Rattle.yf_lines.specs.Shown.{shown_after, shown_byte}

pub next_byte : (old new : Option (List ℕ)) (before after : Bool) (text : List ℕ) (last : ℕ) (bytes : List ℕ)
    (i d : ℕ)
    → i < length bytes → Progress old new before after text (shown_after last (drop i bytes))
    → Progress old new before after text
    (shown_byte last (get_or bytes i d) ++ shown_after (get_or bytes i d) (drop (i + 1) bytes))
next_byte old new before after text last bytes i d within p =
    let cut : drop i bytes ≡ get_or bytes i d ∷ drop (i + 1) bytes = rw add-one (drop-cons bytes i d within) in
    subst (Progress old new before after text) (ap (λ b. shown_after last b) cut) p
