-- A document breaches nothing if and only if its statements keep the further rules.
use Rattle.std.proofs.Common.{◌≡◌, ℕ, Bool, true, false, not, List, [], ◌∷◌, ◌++◌, map, Option, Some, None, refl, ap, ◌∙◌}
use Rattle.yf_props.specs.Handles.{Declaration}
use Rattle.yf_events.specs.Event.{EventInText, props_of}
use Rattle.yf_stream.specs.Stream.{Document}
use Rattle.yf_stream.specs.WellFormed.{alias_breaches, alias_of, breach_if, breaches, declarations, document_breaches, escape_breaches, event_breaches, has_name, offset_or, start_or, with_name}
use Rattle.yf_standard.specs.Readings.{document_said}
use Rattle.yf_promises.specs.Said.{DocumentFits, DocumentsFit, NodesFit, has_anchor}

both_none : {A : Type 0} {x y : List A} → x ++ y ≡ [] → (x ≡ []) × (y ≡ [])
both_none {x = []} e = (refl, e)
both_none {x = a ∷ x} e = absurd cc

both_from : {A : Type 0} {x y : List A} → x ≡ [] → y ≡ [] → x ++ y ≡ []
both_from {y = y} e f = ap (λ z. z ++ y) e ∙ f

is_false : {b : Bool} (kind : _) (offset : ℕ) → breach_if b kind offset ≡ [] → b ≡ false
is_false {b = false} kind offset e = refl
is_false {b = true} kind offset e = absurd cc

is_none : {b : Bool} (kind : _) (offset : ℕ) → b ≡ false → breach_if b kind offset ≡ []
is_none kind offset e = ap (λ b. breach_if b kind offset) e

is_true : (b : Bool) → not b ≡ false → b ≡ true
is_true true e = refl
is_true false e = absurd cc

anchored : (names : List (List ℕ)) (offset : ℕ) (alias : Option (List ℕ)) → alias_breaches names offset alias ≡ []
    → has_anchor names alias ≡ true
anchored names offset None e = refl
anchored names offset (Some name) e = is_true (has_name names name) (is_false _ offset e)

no_breach : (names : List (List ℕ)) (offset : ℕ) (alias : Option (List ℕ)) → has_anchor names alias ≡ true
    → alias_breaches names offset alias ≡ []
no_breach names offset None e = refl
no_breach names offset (Some name) e = is_none _ offset (ap (λ b. not b) e)

nodes_fit : (ds : List Declaration) (names : List (List ℕ)) (es : List EventInText) → event_breaches ds names es ≡ []
    → NodesFit ds names (map (λ e. e.event) es)
nodes_fit ds names [] e = tt
nodes_fit ds names (x ∷ es) e =
    let tag = both_none e in
    let rest = both_none tag.1 in (
      is_false _ (offset_or 0 x.tag_offset) tag.0,
      anchored names (start_or 0 x.span) (alias_of x.event) rest.0,
      nodes_fit ds (with_name (props_of x.event).anchor names) es rest.1,
    )

nodes_breach : (ds : List Declaration) (names : List (List ℕ)) (es : List EventInText)
    → NodesFit ds names (map (λ e. e.event) es) → event_breaches ds names es ≡ []
nodes_breach ds names [] f = refl
nodes_breach ds names (x ∷ es) f =
    both_from (is_none _ (offset_or 0 x.tag_offset) f.0)
    (both_from (no_breach names (start_or 0 x.span) (alias_of x.event) f.1)
    (nodes_breach ds (with_name (props_of x.event).anchor names) es f.2))

no_escapes : (es : List ℕ) → escape_breaches es ≡ [] → es ≡ []
no_escapes [] e = refl
no_escapes (i ∷ es) e = absurd cc

document_fits : (d : Document) → document_breaches d ≡ [] → DocumentFits (document_said d)
document_fits d e =
    let a = both_none e in
    let b = both_none a.1 in
    record {
      directives = a.0;
      nodes = nodes_fit (declarations [] d.directives) [] d.events b.0;
      escapes = no_escapes d.escapes b.1;
    }

document_breaches_none : (d : Document) → DocumentFits (document_said d) → document_breaches d ≡ []
document_breaches_none d f =
    both_from f.directives
    (both_from (nodes_breach (declarations [] d.directives) [] d.events f.nodes)
    (ap (λ es. escape_breaches es) f.escapes))

pub documents_fit : (ds : List Document) → breaches ds ≡ [] → DocumentsFit (map document_said ds)
documents_fit [] e = tt
documents_fit (d ∷ ds) e =
    let a = both_none e in
    (document_fits d a.0, documents_fit ds a.1)

pub documents_breach : (ds : List Document) → DocumentsFit (map document_said ds) → breaches ds ≡ []
documents_breach [] f = refl
documents_breach (d ∷ ds) f = both_from (document_breaches_none d f.0) (documents_breach ds f.1)
