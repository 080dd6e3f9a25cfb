-- Which documents of a formatted text begin with a `---`, in terms of the readings of the text and of its formatting.
use Rattle.std.specs.Prelude.{◌≡◌, ℕ, Bool, true, not, ◌||◌, List, [], ◌∷◌, map}
use Rattle.std.specs.Str.{IsUtf8}
use Rattle.yf_events.specs.Reading.{events_of}
use Rattle.yf_events.specs.declared.lists.Lists.{Lists}
use Rattle.yf_stream.specs.ReadingOf.{ReadingOf}
use Rattle.yf_forms.specs.NormalForms.BareStart.{has_lead, keeps_starts}
use Rattle.yf_forms.specs.declared.style.Style.{Style}
use Rattle.yf_rule_sets.specs.RuleSets.Documents.{markers_in}
use Rattle.yf_laws.specs.Format.{IsFormatting}

-- Whether each document of a formatting has a `---`, from whether the documents of the text have one: each has one,
-- except for the first. The first has one if it has one in the text, or if a comment is between its start and its first
-- leaf with characters (`leads`), or if the setting doesn't keep its start.
abbrev pub kept_markers : Bool → Bool → List Bool → List Bool
kept_markers keeps leads [] = []
kept_markers keeps leads (marked ∷ others) = (not keeps || (marked || leads)) ∷ map (λ (other : Bool). true) others

-- A formatting has as many documents as the text, and all of them begin with a `---`. Under `document_start = "keep"` a
-- first document is excepted if it has none in the text, unless a comment is between its start and its first leaf with
-- characters.
abbrev pub StartsAreKept : Type 0
StartsAreKept = (t u : List ℕ) (s : Style) (r q : Lists) → IsUtf8 t → IsFormatting t s u → ReadingOf t r → ReadingOf u q
    → markers_in (events_of q) ≡ kept_markers (keeps_starts s) (has_lead r) (markers_in (events_of r))
