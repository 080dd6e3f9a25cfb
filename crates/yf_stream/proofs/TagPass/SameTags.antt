-- Documents with equal nodes and directives have equal resolved tags, and notes keep the events.
use Rattle.std.proofs.Common.{◌≡◌, ℕ, List, [], ◌∷◌, ◌++◌, Option, None, refl, ap, ◌∙◌, subst}
use Rattle.yf_props.specs.Handles.{Declaration}
use Rattle.yf_events.specs.Event.{EventInText}
use Rattle.yf_grammar.specs.Productions.ReadParts.{Noting, no_event, without_entry, with_entry}
use Rattle.yf_stream.specs.ReadingOf.{DocumentEvents, no_document, one_document, EventTags}
use Rattle.yf_stream.specs.Stream.{Document}
use Rattle.yf_stream.specs.WellFormed.{declarations}
use Rattle.yf_stream.proofs.Existence.BreachLemmas.{SameDocuments, no_same_documents, same_documents, declarations_same, tags_same, values}
use Rattle.yf_stream.proofs.Uniqueness.OneReading.{tags_one}

pub noting_values : {t : List ℕ} {floor : ℕ} {x y : List EventInText} → Noting t floor x y → values x ≡ values y
noting_values no_event = refl
noting_values (without_entry {e = e} n a) = ap (λ w. e.event ∷ w) (noting_values a)
noting_values (with_entry {e = e} entry n s a) = ap (λ w. e.event ∷ w) (noting_values a)

pub same_tags : {t u : List ℕ} {ds es : List Document} {x y : List EventInText} {tags more : List (Option (List ℕ))} → SameDocuments ds es → DocumentEvents t ds x tags
    → DocumentEvents u es y more → tags ≡ more
same_tags no_same_documents no_document no_document = refl
same_tags (same_documents {d = d} {e = e} a others) (one_document {tags = xs} {more = zs} g l m r) (one_document {tags = ys} {more = ws} h n o s) =
    let here : EventTags (declarations [] e.directives) e.events xs =
    subst (λ (w : List Declaration). EventTags w e.events xs) (declarations_same [] d.directives e.directives a.directives) (tags_same e.events a.nodes g) in
    let one : xs ≡ ys = tags_one here h in
    ap (λ w. None ∷ (w ++ (None ∷ zs))) one ∙ ap (λ w. None ∷ (ys ++ (None ∷ w))) (same_tags others r s)
