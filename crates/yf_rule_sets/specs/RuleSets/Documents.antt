-- The starts of documents.
use Rattle.std.specs.Prelude.{◌≡◌, ℕ, Bool, true, false, ◌&&◌, ◌==◌, List, [], ◌∷◌, slice_get, Some}
use Rattle.yf_events.specs.Event.{EventValue, document_starts}
use Rattle.yf_events.specs.Reading.{events_of}
use Rattle.yf_events.specs.declared.document.Doc.{Doc}
use Rattle.yf_events.specs.declared.lists.Lists.{Lists}
use Rattle.yf_forms.specs.NormalForms.BareStart.{keeps_starts}
use Rattle.yf_forms.specs.declared.style.Style.{Style}
use Rattle.yf_rule_sets.specs.RuleSets.Whites.{IsAlone}

-- for each document, whether it has a `---`
abbrev pub markers_in : List EventValue → List Bool
markers_in [] = []
markers_in (document_starts marked ∷ es) = marked ∷ markers_in es
markers_in (e ∷ es) = markers_in es

-- the document of that index may be without a `---`: the first one, if the style keeps it so
abbrev pub may_be_bare : Style → ℕ → Bool
may_be_bare s k = keeps_starts s && (k == 0)

-- a document that begins there without a `---`, but must have one, or with a `---` that a character other than white
-- space follows on its line
pub data IsUnmarked (t : List ℕ) : Bool → Bool → ℕ → ℕ → Type 0 where
  without_marker : {o : ℕ} → IsUnmarked t false false o o
  not_alone : {o : ℕ} {may_be_bare : Bool} → (IsAlone t o → ⊥) → IsUnmarked t true may_be_bare o o

-- document-start: the start of the document of index k, if its `---` is missing or not alone on its line (`IsUnmarked`)
pub data NoMarkerLine (t : List ℕ) (r : Lists) (s : Style) (k : ℕ) : ℕ → Type 0 where
  of_document : {d : Doc} {marked : Bool} {o : ℕ} → slice_get r.documents k ≡ Some d → slice_get (markers_in (events_of r)) k ≡ Some marked
      → IsUnmarked t marked (may_be_bare s k) d.start o → NoMarkerLine t r s k o
