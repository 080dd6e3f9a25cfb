-- The lists and the breach that are made of parts, and their meaning if the parts are those of the one shape of the
-- text.
use Rattle.std.proofs.Common.{List, ℕ, Result, Ok, Err}
use Rattle.std.specs.List.{All}
use Rattle.std.specs.Str.{IsCharBoundary, IsUtf8}
use Rattle.yf_events.specs.declared.lists.Lists.{Lists}
use Rattle.yf_stream.specs.MadeReadings.{MadeOf, MadeOr, NoBreach, RefusalIn}
use Rattle.yf_stream.specs.NotedLists.{IsFirstBreach, ListsOf, ListsOrRefusal}
use Rattle.yf_stream.specs.RefusalPlaces.{DocumentsAt}
use Rattle.yf_stream.specs.declared.documents.Parts.{Parts}
use Rattle.yf_stream.specs.declared.stream.Refusal.{Refusal}
use Rattle.yf_stream.specs.declared.stream.Refusal.TheVariants as Refusals
use Rattle.yf_stream.proofs.Offsets.BreachBoundaries.{first_told}
use Rattle.yf_stream.proofs.Reader.ReadingMade.{first_breach, reading_made}

pub made_of : {t : List ℕ} {p : Parts} {r : Lists} → IsUtf8 t → ListsOf t p r → MadeOf t r
made_of {p = p} u n = record { parts = p; noted = n; reading = λ x s w. reading_made u s w n }

refusal_in : {t : List ℕ} (p : Parts) (refusal : Refusal) → IsUtf8 t → DocumentsAt t p.documents → All (IsCharBoundary t) p.part.escapes → IsFirstBreach p refusal → RefusalIn t refusal
refusal_in p (Refusals.Breach b) u d e f = record {
  parts = p;
  first = f;
  told = λ x s w. first_breach u s w f;
  place = λ x s w. first_told u s w d e (first_breach u s w f);
}
refusal_in p (Refusals.Syntax offset) u d e f = tt
refusal_in p (Refusals.TooDeep offset) u d e f = tt

pub made_or : {t : List ℕ} (p : Parts) (r : Result Lists Refusal) → IsUtf8 t → DocumentsAt t p.documents → All (IsCharBoundary t) p.part.escapes → ListsOrRefusal t p r → MadeOr t r
made_or p (Ok lists) u d e n = made_of u n
made_or p (Err refusal) u d e f = refusal_in p refusal u d e f

pub not_derived : (t : List ℕ) (refusal : Refusal) → NoBreach refusal → RefusalIn t refusal
not_derived t (Refusals.Breach b) n = absurd n
not_derived t (Refusals.Syntax offset) n = tt
not_derived t (Refusals.TooDeep offset) n = tt
