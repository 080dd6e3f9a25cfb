-- A run of events that name nothing.
use Rattle.std.specs.Prelude.{ℕ, List, Option}
use Rattle.yf_props.specs.Handles.{Declaration}
use Rattle.yf_events.specs.Event.{EventInText}
use Rattle.yf_stream.specs.TagPass.{AllPassed}
use Rattle.yf_stream.specs.declared.breaches.Breach.{Breach}

-- all events from i up to j have been passed, for any declarations, names and breaches before
pub record BarePassed (es : List EventInText) (i j : ℕ) (a b : List (Option (List ℕ))) : Type 0 where
  pub passed : (ds : List Declaration) (first : Option Breach) (names : List (List ℕ)) → AllPassed es ds i j first first names names a b
