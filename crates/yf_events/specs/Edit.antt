-- Changes of one event in a list of them.
use Rattle.std.specs.Prelude.{ℕ, zero, suc, List, [], ◌∷◌, Option, Some, None}
use Rattle.yf_events.specs.Event.{EventInText}
use Rattle.yf_events.specs.declared.event.Entry.{Entry}
use Rattle.yf_events.specs.declared.event.Span.{Span}

-- the list with the event at the index changed; past the end nothing changes
abbrev pub edited : (EventInText → EventInText) → ℕ → List EventInText → List EventInText
edited f i [] = []
edited f zero (e ∷ es) = f e ∷ es
edited f (suc i) (e ∷ es) = e ∷ edited f i es

abbrev pub span_to : ℕ → Option Span → Option Span
span_to end None = None
span_to end (Some span) = Some (record { start = span.start; end = end })

abbrev pub ended : ℕ → EventInText → EventInText
ended end e = record e { span = span_to end e.span }

abbrev pub with_colon : ℕ → Option Entry → Option Entry
with_colon colon None = None
with_colon colon (Some entry) = Some (record entry { colon = Some colon })

abbrev pub coloned : ℕ → EventInText → EventInText
coloned colon e = record e { entry = with_colon colon e.entry }
