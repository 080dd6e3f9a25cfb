-- The offsets of nodes and directives don't matter to the rules that they break.
use Rattle.std.proofs.Common.{◌≡◌, ℕ, suc, Bool, true, false, List, [], ◌∷◌, ◌++◌, length, map, Option, Some, None, refl, sym, ap, ◌∙◌, subst, arith, is_some, ◌||◌, not}
use Rattle.yf_chars.proofs.Tests.{same_head, same_tail}
use Rattle.yf_props.specs.Handles.{Declaration, is_declared}
use Rattle.yf_props.specs.Props.{PropsValue}
use Rattle.yf_events.specs.Alike.{Alike, alike_scalars, alike_aliases, alike_sequences, alike_mappings, AlikeItems, alike_nothing, alike_item, AlikePairs, alike_no_pairs, alike_pair}
use Rattle.yf_events.specs.Event.{EventValue, EventInText, sequence_starts, sequence_ends, mapping_starts, mapping_ends, props_of}
use Rattle.yf_events.specs.Tree.{Node, Items, Pairs, unplaced, flat, flat_items, flat_pairs}
use Rattle.yf_events.specs.declared.directive.Directive.{Directive}
use Rattle.yf_stream.specs.ReadingOf.{EventTags, no_event, untagged, tagged}
use Rattle.yf_stream.specs.Stream.{Document}
use Rattle.yf_stream.specs.WellFormed.{alias_breaches, alias_of, breach_if, breaches, declaration_breaches, declaration_of, declarations, directive_breaches, document_breaches, escape_breaches, event_breaches, has_name, is_unknown, is_version_one, offset_or, start_or, version_breaches, version_of, with_declaration, with_name}
use Rattle.yf_stream.specs.declared.breaches.BreachKind.{BreachKind}
use Rattle.yf_stream.specs.declared.breaches.BreachKind.TheVariants.{UnknownHandle, UnknownAlias, RepeatedDirective, BadVersion}

-- The parts of an event, and of a directive, that the rules depend on.

abbrev pub values : List EventInText → List EventValue
values es = map (λ (e : EventInText). e.event) es

abbrev pub Sign : Type 0
Sign = PropsValue × Option (List ℕ)

abbrev pub sign : EventValue → Sign
sign v = (props_of v, alias_of v)

abbrev pub signs : List EventInText → List Sign
signs es = map sign (values es)

abbrev pub words : List Directive → List (List (List ℕ))
words ds = map (λ (d : Directive). d.words) ds

-- Lists.

pub some_none : {A B : Type 0} {a : A} {x : List A} → a ∷ x ≡ [] → B
some_none {a = a} {x = x} e = let long : suc (length x) ≡ 0 = ap length e in absurd (omega arith)

pub both_empty : {A : Type 0} (x y : List A) → x ++ y ≡ [] → (x ≡ []) × (y ≡ [])
both_empty [] y e = (refl, e)
both_empty (a ∷ x) y e = some_none e

empty_both : {A : Type 0} {x y : List A} → x ≡ [] → y ≡ [] → x ++ y ≡ []
empty_both {y = y} e f = ap (λ w. w ++ y) e ∙ f

-- Breaches.

none_there : (b : Bool) (k : BreachKind) (i j : ℕ) → breach_if b k i ≡ [] → breach_if b k j ≡ []
none_there true k i j e = some_none e
none_there false k i j e = refl

alias_quiet : (names : List (List ℕ)) (i j : ℕ) (o : Option (List ℕ)) → alias_breaches names i o ≡ [] → alias_breaches names j o ≡ []
alias_quiet names i j None e = refl
alias_quiet names i j (Some name) e = none_there (not (has_name names name)) UnknownAlias i j e

events_quiet : (ds : List Declaration) (names : List (List ℕ)) (xs ys : List EventInText) → signs xs ≡ signs ys → event_breaches ds names xs ≡ [] → event_breaches ds names ys ≡ []
events_quiet ds names xs [] s e = refl
events_quiet ds names [] (y ∷ ys) s e = some_none (sym s)
events_quiet ds names (x ∷ xs) (y ∷ ys) s e =
    let props : props_of x.event ≡ props_of y.event = ap (λ (w : Sign). w.0) (same_head s) in
    let alias : alias_of x.event ≡ alias_of y.event = ap (λ (w : Sign). w.1) (same_head s) in
    let first = both_empty (breach_if (is_unknown ds (props_of x.event).tag) UnknownHandle (offset_or 0 x.tag_offset)) _ e in
    let second = both_empty (alias_breaches names (start_or 0 x.span) (alias_of x.event)) _ first.1 in
    let handle : breach_if (is_unknown ds (props_of y.event).tag) UnknownHandle (offset_or 0 y.tag_offset) ≡ [] =
    subst (λ (w : PropsValue). breach_if (is_unknown ds w.tag) UnknownHandle (offset_or 0 y.tag_offset) ≡ []) props
    (none_there (is_unknown ds (props_of x.event).tag) UnknownHandle (offset_or 0 x.tag_offset) (offset_or 0 y.tag_offset) first.0) in
    let named : alias_breaches names (start_or 0 y.span) (alias_of y.event) ≡ [] =
    subst (λ w. alias_breaches names (start_or 0 y.span) w ≡ []) alias (alias_quiet names (start_or 0 x.span) (start_or 0 y.span) (alias_of x.event) second.0) in
    let others : event_breaches ds (with_name (props_of x.event).anchor names) ys ≡ [] = events_quiet ds (with_name (props_of x.event).anchor names) xs ys (same_tail s) second.1 in
    empty_both handle (empty_both named (subst (λ (w : PropsValue). event_breaches ds (with_name w.anchor names) ys ≡ []) props others))

version_quiet : (seen : Bool) (i j : ℕ) (o : Option (List ℕ)) → version_breaches seen i o ≡ [] → version_breaches seen j o ≡ []
version_quiet seen i j None e = refl
version_quiet seen i j (Some v) e =
    let both = both_empty (breach_if seen RepeatedDirective i) _ e in
    empty_both (none_there seen RepeatedDirective i j both.0) (none_there (not (is_version_one v)) BadVersion i j both.1)

declaration_quiet : (ds : List Declaration) (i j : ℕ) (o : Option Declaration) → declaration_breaches ds i o ≡ [] → declaration_breaches ds j o ≡ []
declaration_quiet ds i j None e = refl
declaration_quiet ds i j (Some d) e = none_there (is_declared ds d.0) RepeatedDirective i j e

directives_quiet : (seen : Bool) (decl : List Declaration) (ds es : List Directive) → words ds ≡ words es → directive_breaches seen decl ds ≡ [] → directive_breaches seen decl es ≡ []
directives_quiet seen decl ds [] s e = refl
directives_quiet seen decl [] (f ∷ fs) s e = some_none (sym s)
directives_quiet seen decl (d ∷ ds) (f ∷ fs) s e =
    let same : d.words ≡ f.words = same_head s in
    let first = both_empty (version_breaches seen d.offset (version_of d.words)) _ e in
    let second = both_empty (declaration_breaches decl d.offset (declaration_of d.words)) _ first.1 in
    let others = directives_quiet (seen || is_some (version_of d.words)) (with_declaration decl (declaration_of d.words)) ds fs (same_tail s) second.1 in
    subst (λ w. version_breaches seen f.offset (version_of w) ++ (declaration_breaches decl f.offset (declaration_of w)
    ++ directive_breaches (seen || is_some (version_of w)) (with_declaration decl (declaration_of w)) fs) ≡ []) same
    (empty_both (version_quiet seen d.offset f.offset (version_of d.words) first.0)
    (empty_both (declaration_quiet decl d.offset f.offset (declaration_of d.words) second.0) others))

pub declarations_same : (decl : List Declaration) (ds es : List Directive) → words ds ≡ words es → declarations decl ds ≡ declarations decl es
declarations_same decl [] [] s = refl
declarations_same decl [] (f ∷ fs) s = some_none (sym s)
declarations_same decl (d ∷ ds) [] s = some_none s
declarations_same decl (d ∷ ds) (f ∷ fs) s =
    declarations_same (with_declaration decl (declaration_of d.words)) ds fs (same_tail s)
    ∙ ap (λ w. declarations (with_declaration decl (declaration_of w)) fs) (same_head s)

-- Documents with equal nodes and directives; all escapes of the second are characters.
pub record SameDocument (d e : Document) : Type 0 where
  pub directives : words d.directives ≡ words e.directives
  pub nodes : signs d.events ≡ signs e.events
  pub escapes : e.escapes ≡ []

pub data SameDocuments : List Document → List Document → Type 0 where
  no_same_documents : SameDocuments [] []
  same_documents : {d e : Document} {ds es : List Document} → SameDocument d e → SameDocuments ds es → SameDocuments (d ∷ ds) (e ∷ es)

document_quiet : {d e : Document} → SameDocument d e → document_breaches d ≡ [] → document_breaches e ≡ []
document_quiet {d} {e} a n =
    let first = both_empty (directive_breaches false [] d.directives) _ n in
    let second = both_empty (event_breaches (declarations [] d.directives) [] d.events) _ first.1 in
    let nodes : event_breaches (declarations [] e.directives) [] e.events ≡ [] =
    subst (λ w. event_breaches w [] e.events ≡ []) (declarations_same [] d.directives e.directives a.directives)
    (events_quiet (declarations [] d.directives) [] d.events e.events a.nodes second.0) in
    empty_both (directives_quiet false [] d.directives e.directives a.directives first.0) (empty_both nodes (ap escape_breaches a.escapes))

pub documents_quiet : {ds es : List Document} → SameDocuments ds es → breaches ds ≡ [] → breaches es ≡ []
documents_quiet no_same_documents n = refl
documents_quiet (same_documents {d = d} a more) n =
    let both = both_empty (document_breaches d) _ n in empty_both (document_quiet a both.0) (documents_quiet more both.1)

-- the resolved tags of equal nodes
pub tags_same : {ds : List Declaration} {xs : List EventInText} {tags : List (Option (List ℕ))} (ys : List EventInText) → signs xs ≡ signs ys → EventTags ds xs tags → EventTags ds ys tags
tags_same [] s no_event = no_event
tags_same (y ∷ ys) s no_event = some_none (sym s)
tags_same [] s (untagged e a) = some_none s
tags_same (y ∷ ys) s (untagged e a) = untagged (ap (λ (w : Sign). w.0.tag) (sym (same_head s)) ∙ e) (tags_same ys (same_tail s) a)
tags_same [] s (tagged e f a) = some_none s
tags_same (y ∷ ys) s (tagged e f a) = tagged (ap (λ (w : Sign). w.0.tag) (sym (same_head s)) ∙ e) f (tags_same ys (same_tail s) a)

-- Trees that differ only in offsets.

pub values_append : (xs ys : List EventInText) → values (xs ++ ys) ≡ values xs ++ values ys
values_append [] ys = refl
values_append (x ∷ xs) ys = ap (λ w. x.event ∷ w) (values_append xs ys)

values_joined : (a b c d : List EventInText) → values a ≡ values c → values b ≡ values d → values (a ++ b) ≡ values (c ++ d)
values_joined a b c d e f = values_append a b ∙ (ap (λ w. w ++ values b) e ∙ (ap (λ w. values c ++ w) f ∙ sym (values_append c d)))

mutual
  pub alike_values : {K : Node → Node → Node → Node → Type 0} {x y : Node} → Alike K x y → values (flat x) ≡ values (flat y)
  alike_values (alike_scalars e) = refl
  alike_values (alike_aliases e) = refl
  alike_values (alike_sequences {flow = flow} {props = props} {xs = xs} {ys = ys} e a) =
      ap (λ w. sequence_starts flow props ∷ w) (values_joined (flat_items xs) (unplaced sequence_ends ∷ []) (flat_items ys) (unplaced sequence_ends ∷ []) (items_values a) refl)
  alike_values (alike_mappings {flow = flow} {props = props} {ps = ps} {qs = qs} e a) =
      ap (λ w. mapping_starts flow props ∷ w) (values_joined (flat_pairs ps) (unplaced mapping_ends ∷ []) (flat_pairs qs) (unplaced mapping_ends ∷ []) (pairs_values a) refl)

  items_values : {K : Node → Node → Node → Node → Type 0} {xs ys : Items} → AlikeItems K xs ys → values (flat_items xs) ≡ values (flat_items ys)
  items_values alike_nothing = refl
  items_values (alike_item {x = x} {y = y} {xs = xs} {ys = ys} a more) = values_joined (flat x) (flat_items xs) (flat y) (flat_items ys) (alike_values a) (items_values more)

  pairs_values : {K : Node → Node → Node → Node → Type 0} {ps qs : Pairs} → AlikePairs K ps qs → values (flat_pairs ps) ≡ values (flat_pairs qs)
  pairs_values alike_no_pairs = refl
  pairs_values (alike_pair {k = k} {l = l} {v = v} {w = w} {ps = ps} {qs = qs} a b e more) =
      values_joined (flat k) (flat v ++ flat_pairs ps) (flat l) (flat w ++ flat_pairs qs) (alike_values a)
      (values_joined (flat v) (flat_pairs ps) (flat w) (flat_pairs qs) (alike_values b) (pairs_values more))
