-- The rules for each document besides its grammar (YAML 1.2.2, sections 5.7, 6.8, 6.9 and 7.1), and their breaches.
use Rattle.std.specs.Prelude.{◌≡◌, ◌<◌, ◌≤◌, ℕ, Bool, true, false, ◌==◌, ◌&&◌, ◌||◌, not, List, [], ◌∷◌, ◌++◌, Option, Some, None, codes, is_none, is_some, if◌then◌else◌}
use Rattle.std.specs.List.{All, Contains}
use Rattle.std.specs.Str.{bytes_eq}
use Rattle.yf_props.specs.Handles.{Declaration, is_declared, prefix_of}
use Rattle.yf_props.specs.Props.{TagValue}
use Rattle.yf_props.specs.Props.TagValue.{IsShort}
use Rattle.yf_events.specs.declared.directive.Directive.{Directive}
use Rattle.yf_events.specs.declared.event.Span.{Span}
use Rattle.yf_events.specs.Event.{EventValue, EventInText, alias_node, props_of}
use Rattle.yf_events.specs.declared.reading.TheConstants.{DEPTH}
use Rattle.yf_stream.specs.Stream.{Document, Documents, Stream}
use Rattle.yf_stream.specs.declared.breaches.Breach.{Breach}
use Rattle.yf_stream.specs.declared.breaches.BreachKind.{BreachKind}
use Rattle.yf_stream.specs.declared.breaches.BreachKind.TheVariants.{UnknownHandle, UnknownAlias, RepeatedDirective, BadVersion, EscapeValue}

-- the breach, if the test holds
abbrev pub breach_if : Bool → BreachKind → ℕ → List Breach
breach_if true kind offset = record { offset = offset; kind = kind } ∷ []
breach_if false kind offset = []

-- the number before the dot is 1
abbrev pub is_one : ℕ → List ℕ → Bool
is_one c [] = false
is_one c (d ∷ rest) = (c == 49) && (d == 46)

abbrev pub is_version_one : List ℕ → Bool
is_version_one [] = false
is_version_one (c ∷ rest) = if c == 48 then is_version_one rest else is_one c rest

-- the version of a YAML directive, and the handle and the prefix of a TAG directive, by their words
abbrev pub version_of : List (List ℕ) → Option (List ℕ)
version_of (name ∷ version ∷ []) = if bytes_eq name (codes "YAML") then Some version else None
version_of _ = None

abbrev pub declaration_of : List (List ℕ) → Option Declaration
declaration_of (name ∷ handle ∷ prefix ∷ []) = if bytes_eq name (codes "TAG") then Some (handle, prefix) else None
declaration_of _ = None

-- the declarations with one more, unless its handle is declared
abbrev pub with_declaration : List Declaration → Option Declaration → List Declaration
with_declaration ds None = ds
with_declaration ds (Some d) = if is_declared ds d.0 then ds else ds ++ (d ∷ [])

-- the breaches of a second version, of a major version other than 1, and of a second declaration
abbrev pub version_breaches : Bool → ℕ → Option (List ℕ) → List Breach
version_breaches seen offset None = []
version_breaches seen offset (Some version) =
    breach_if seen RepeatedDirective offset ++ breach_if (not (is_version_one version)) BadVersion offset

abbrev pub declaration_breaches : List Declaration → ℕ → Option Declaration → List Breach
declaration_breaches ds offset None = []
declaration_breaches ds offset (Some d) = breach_if (is_declared ds d.0) RepeatedDirective offset

-- the breaches of a document's directives, after a YAML directive or none, and after these declarations
abbrev pub directive_breaches : Bool → List Declaration → List Directive → List Breach
directive_breaches seen ds [] = []
directive_breaches seen ds (d ∷ rest) =
    version_breaches seen d.offset (version_of d.words) ++ (declaration_breaches ds d.offset (declaration_of d.words)
    ++ directive_breaches (seen || is_some (version_of d.words)) (with_declaration ds (declaration_of d.words)) rest)

-- all declarations of a document
abbrev pub declarations : List Declaration → List Directive → List Declaration
declarations ds [] = ds
declarations ds (d ∷ rest) = declarations (with_declaration ds (declaration_of d.words)) rest

-- the name of an alias
abbrev pub alias_of : EventValue → Option (List ℕ)
alias_of (alias_node name) = Some name
alias_of _ = None

-- the handle of a tag is neither declared nor a default
abbrev pub is_unknown : List Declaration → Option TagValue → Bool
is_unknown ds (Some (IsShort handle suffix)) = is_none (prefix_of ds handle)
is_unknown ds _ = false

abbrev pub offset_or : ℕ → Option ℕ → ℕ
offset_or d None = d
offset_or d (Some i) = i

abbrev pub start_or : ℕ → Option Span → ℕ
start_or d None = d
start_or d (Some span) = span.start

abbrev pub with_name : Option (List ℕ) → List (List ℕ) → List (List ℕ)
with_name None names = names
with_name (Some name) names = name ∷ names

abbrev pub has_name : List (List ℕ) → List ℕ → Bool
has_name [] name = false
has_name (x ∷ names) name = bytes_eq x name || has_name names name

abbrev pub alias_breaches : List (List ℕ) → ℕ → Option (List ℕ) → List Breach
alias_breaches names offset None = []
alias_breaches names offset (Some name) = breach_if (not (has_name names name)) UnknownAlias offset

-- the breaches of a document's events, with the declarations of its handles, after these anchors; an anchor has also
-- occurred for the aliases within its own node
abbrev pub event_breaches : List Declaration → List (List ℕ) → List EventInText → List Breach
event_breaches ds names [] = []
event_breaches ds names (e ∷ rest) =
    breach_if (is_unknown ds (props_of e.event).tag) UnknownHandle (offset_or 0 e.tag_offset)
    ++ (alias_breaches names (start_or 0 e.span) (alias_of e.event)
    ++ event_breaches ds (with_name (props_of e.event).anchor names) rest)

-- the escapes that are no character
abbrev pub escape_breaches : List ℕ → List Breach
escape_breaches [] = []
escape_breaches (i ∷ rest) = record { offset = i; kind = EscapeValue } ∷ escape_breaches rest

-- the rank of a breach among those at its offset; the lowest comes first
abbrev pub rank : BreachKind → ℕ
rank UnknownHandle = 4
rank UnknownAlias = 5
rank RepeatedDirective = 6
rank BadVersion = 7
rank EscapeValue = 8

-- the first breach: none is before it in the text, and none at its offset has a lower rank
pub data IsEarlierBreach (a b : Breach) : Type 0 where
  earlier_place : a.offset < b.offset → IsEarlierBreach a b
  same_place : a.offset ≡ b.offset → rank a.kind ≤ rank b.kind → IsEarlierBreach a b

abbrev pub document_breaches : Document → List Breach
document_breaches d = directive_breaches false [] d.directives
    ++ (event_breaches (declarations [] d.directives) [] d.events ++ escape_breaches d.escapes)

-- all breaches of a stream
abbrev pub breaches : List Document → List Breach
breaches [] = []
breaches (d ∷ rest) = document_breaches d ++ breaches rest

-- the first of them
pub record IsFirst (bs : List Breach) (b : Breach) : Type 0 where
  pub among : Contains bs b
  pub all : All (IsEarlierBreach b) bs

-- the one shape of a text: the only stream that is derived from it within the limit of open collections
pub record Shapes (t : List ℕ) (x : Documents) : Type 0 where
  pub height : ℕ
  pub derived : Stream t height x
  pub within : height ≤ DEPTH
  pub only : (h : ℕ) (y : Documents) → Stream t h y → h ≤ DEPTH → y ≡ x

-- the one shape of a text without breaches
pub record ReadsWithoutBreach (t : List ℕ) (x : Documents) : Type 0 where
  pub shapes : Shapes t x
  pub well_formed : breaches x.documents ≡ []
