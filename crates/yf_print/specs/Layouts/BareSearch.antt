-- Whether to leave out the `---` of the first document, decided by the first comment after the document's start.
use Rattle.std.specs.Prelude.{ℕ, Bool, false, not, ◌&&◌, ◌==◌, ◌+◌, List, [], ◌∷◌, Option, Some, None}
use Rattle.yf_events.specs.Reading.{place_at}
use Rattle.yf_events.specs.declared.document.Doc.{Doc}
use Rattle.yf_events.specs.declared.lists.Lists.{Lists}
use Rattle.yf_forms.specs.declared.style.Style.{Style}
use Rattle.yf_forms.specs.NormalForms.BareStart.{begins_bare, keeps_starts}
use Rattle.yf_forms.specs.Passes.Searches.{count_to}

-- after one document, and before any leaf
abbrev pub is_leading : Option (ℕ × ℕ) → Bool
is_leading None = false
is_leading (Some place) = (place.0 == 1) && (place.1 == 0)

abbrev pub is_led_from : Lists → List Doc → Bool
is_led_from r [] = false
is_led_from r (d ∷ ds) = is_leading (place_at r (0 + count_to d.start r.comments))

abbrev pub is_led : Lists → Bool
is_led r = is_led_from r r.documents

abbrev pub is_found_bare : Lists → Style → Bool
is_found_bare r s = keeps_starts s && (begins_bare r.events && not (is_led r))
