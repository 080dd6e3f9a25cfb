-- A pass over the events of derived documents finds their breaches and their tags.
use Rattle.std.proofs.Common.{◌≡◌, ℕ, Bool, true, false, ⊎_elim, List, [], ◌∷◌, ◌++◌, map, flat_map, Option, Some, None, refl, sym, ap, ◌∙◌, subst, arith, true≢false, append_assoc, if◌then◌else◌}
use Rattle.std.proofs.lemmas.List.Elements.{All-contains, Contains-append_cases, Contains-append_left, Contains-append_right, Contains-get_or}
use Rattle.std.specs.List.{Contains}
use Rattle.yf_props.specs.Handles.{Declaration}
use Rattle.yf_props.specs.Props.{TagValue}
use Rattle.yf_events.specs.Event.{EventInText, document_ends, document_starts, stream_ends, stream_starts, props_of}
use Rattle.yf_events.specs.Tree.{Items, Node, Pairs, alias, flat, flat_items, flat_pairs, item, mapping, no_items, no_pairs, pair, scalar, sequence, unplaced}
use Rattle.yf_events.specs.declared.document.Doc.{Doc}
use Rattle.yf_grammar.specs.Productions.ReadParts.{Noting, no_event as none_noted, with_entry, without_entry}
use Rattle.yf_stream.specs.ReadingOf.{DocumentEvents, EventTags, doc_of, no_document, no_event, one_document, tagged, untagged}
use Rattle.yf_stream.specs.Stream.{Document}
use Rattle.yf_stream.specs.TagPass.{FirstOf, PassTags, TagOf, document_begins, event_follows, later_documents, next_directives, no_event_left, own_breaches, pass_breaches, starts_document, stream_breaches}
use Rattle.yf_stream.specs.WellFormed.{IsEarlierBreach, alias_breaches, alias_of, breach_if, breaches, declarations, directive_breaches, escape_breaches, event_breaches, is_unknown, offset_or, start_or, with_name}
use Rattle.yf_stream.specs.WrittenParts.{DocumentsWritten, document_written, nothing_written}
use Rattle.yf_stream.specs.declared.breaches.Breach.{Breach}
use Rattle.yf_stream.specs.declared.breaches.BreachKind.TheVariants.{UnknownHandle}
use Rattle.yf_stream.proofs.TagPass.FirstLemmas.{escapes_join}
use Rattle.yf_stream.proofs.TagPass.PassLemmas.{at_document, at_event}

-- Events that start no document, for example a node's.

abbrev pub NoStarts : List EventInText → Type 0
NoStarts [] = Unit {0}
NoStarts (e ∷ es) = (starts_document e.event ≡ false) × NoStarts es

no_starts_join : (xs ys : List EventInText) → NoStarts xs → NoStarts ys → NoStarts (xs ++ ys)
no_starts_join [] ys n m = m
no_starts_join (x ∷ xs) ys n m = (n.0, no_starts_join xs ys n.1 m)

mutual
  pub node_no_starts : (x : Node) → NoStarts (flat x)
  node_no_starts (scalar at props style text lines) = (refl, tt)
  node_no_starts (alias at name) = (refl, tt)
  node_no_starts (sequence at flow props items) = (refl, no_starts_join (flat_items items) _ (items_no_starts items) (refl, tt))
  node_no_starts (mapping at flow props pairs) = (refl, no_starts_join (flat_pairs pairs) _ (pairs_no_starts pairs) (refl, tt))

  items_no_starts : (xs : Items) → NoStarts (flat_items xs)
  items_no_starts no_items = tt
  items_no_starts (item x xs) = no_starts_join (flat x) (flat_items xs) (node_no_starts x) (items_no_starts xs)

  pairs_no_starts : (ps : Pairs) → NoStarts (flat_pairs ps)
  pairs_no_starts no_pairs = tt
  pairs_no_starts (pair k v ps) = no_starts_join (flat k) _ (node_no_starts k) (no_starts_join (flat v) (flat_pairs ps) (node_no_starts v) (pairs_no_starts ps))

abbrev pub QuietDocuments : List Document → Type 0
QuietDocuments [] = Unit {0}
QuietDocuments (d ∷ ds) = NoStarts d.events × QuietDocuments ds

-- The breaches that the pass finds.

names_after : List (List ℕ) → List EventInText → List (List ℕ)
names_after names [] = names
names_after names (e ∷ es) = names_after (with_name (props_of e.event).anchor names) es

regrouped : (a b c d : List Breach) → (a ++ b) ++ (c ++ d) ≡ (a ++ (b ++ c)) ++ d
regrouped a b c d = append_assoc a b (c ++ d) ∙ ap (λ z. a ++ z) (sym (append_assoc b c d)) ∙ sym (append_assoc a (b ++ c) d)

pass_inside : (docs : List Doc) (ds : List Declaration) (names : List (List ℕ)) (es rest : List EventInText) → NoStarts es
    → pass_breaches docs ds names (es ++ rest) ≡ event_breaches ds names es ++ pass_breaches docs ds (names_after names es) rest
unfolding names_after
pass_inside docs ds names [] rest n = refl
pass_inside docs ds names (e ∷ es) rest n =
    at_event docs ds names e (es ++ rest) n.0
    ∙ ap (λ z. own_breaches ds names e ++ z) (pass_inside docs ds (with_name (props_of e.event).anchor names) es rest n.1)
    ∙ regrouped (breach_if (is_unknown ds (props_of e.event).tag) UnknownHandle (offset_or 0 e.tag_offset))
    (alias_breaches names (start_or 0 e.span) (alias_of e.event))
    (event_breaches ds (with_name (props_of e.event).anchor names) es)
    (pass_breaches docs ds (names_after (with_name (props_of e.event).anchor names) es) rest)

-- the breaches of documents, without those by their escapes
document_pass : Document → List Breach
document_pass d = directive_breaches false [] d.directives ++ event_breaches (declarations [] d.directives) [] d.events

passes : List Document → List Breach
passes [] = []
passes (d ∷ ds) = document_pass d ++ passes ds

pass_documents : {t : List ℕ} {ds : List Document} {x : List EventInText} (fs : List Declaration) (names : List (List ℕ)) → QuietDocuments ds → DocumentsWritten t ds x
    → pass_breaches (map doc_of ds) fs names (x ++ (unplaced stream_ends ∷ [])) ≡ passes ds
unfolding passes document_pass
pass_documents fs names q nothing_written = refl
pass_documents fs names q (document_written {d = d} {ds = ds} {x = x} {closed = closed} l m w) =
    let end = unplaced stream_ends ∷ [] in
    let tail = unplaced (document_ends closed) ∷ (x ++ end) in
    let decl = declarations [] d.directives in
    ap (λ z. pass_breaches (map doc_of (d ∷ ds)) fs names (unplaced (document_starts d.marked) ∷ z)) (append_assoc d.events (unplaced (document_ends closed) ∷ x) end)
    ∙ at_document (map doc_of (d ∷ ds)) fs names (unplaced (document_starts d.marked)) (d.events ++ tail) refl
    ∙ ap (λ z. directive_breaches false [] d.directives ++ z)
    (pass_inside (map doc_of ds) decl [] d.events tail q.0
    ∙ ap (λ z. event_breaches decl [] d.events ++ z)
    (at_event (map doc_of ds) decl (names_after [] d.events) (unplaced (document_ends closed)) (x ++ end) refl ∙ pass_documents decl (names_after [] d.events) q.1 w))
    ∙ sym (append_assoc (directive_breaches false [] d.directives) (event_breaches decl [] d.events) (passes ds))

if_same : {A : Type 0} {w x y z : A} (b : Bool) → w ≡ x → y ≡ z → (if b then w else y) ≡ (if b then x else z)
if_same true e f = e
if_same false e f = f

-- notes on blank lines keep the breaches
pass_noted : {t : List ℕ} {floor : ℕ} {x y : List EventInText} (docs : List Doc) (ds : List Declaration) (names : List (List ℕ)) → Noting t floor x y
    → pass_breaches docs ds names x ≡ pass_breaches docs ds names y
pass_noted docs ds names none_noted = refl
pass_noted docs ds names (without_entry {e = e} n r) =
    if_same (starts_document e.event) (ap (λ z. directive_breaches false [] (next_directives docs) ++ z) (pass_noted (later_documents docs) (declarations [] (next_directives docs)) [] r))
    (ap (λ z. own_breaches ds names e ++ z) (pass_noted docs ds (with_name (props_of e.event).anchor names) r))
pass_noted docs ds names (with_entry {e = e} entry n s r) =
    if_same (starts_document e.event) (ap (λ z. directive_breaches false [] (next_directives docs) ++ z) (pass_noted (later_documents docs) (declarations [] (next_directives docs)) [] r))
    (ap (λ z. own_breaches ds names e ++ z) (pass_noted docs ds (with_name (props_of e.event).anchor names) r))

-- Lists with equal elements.

record SameOnes (a b : List Breach) : Type 0 where
  there : (x : Breach) → Contains a x → Contains b x
  back : (x : Breach) → Contains b x → Contains a x

in_first : (a b : List Breach) {x : Breach} → Contains a x → Contains (a ++ b) x
in_first a b {x} c = Contains-append_left a b x c

in_second : (a b : List Breach) {x : Breach} → Contains b x → Contains (a ++ b) x
in_second a b {x} c = Contains-append_right a b x c

in_either : (a b : List Breach) {C : Type 0} {x : Breach} → (Contains a x → C) → (Contains b x → C) → Contains (a ++ b) x → C
in_either a b {x = x} f g c = ⊎_elim f g (Contains-append_cases a b x c)

-- the breaches by a document's escapes and by the others', and the other breaches of that document and of the others
moved : (e f p q : List Breach) {r : List Breach} → SameOnes (f ++ q) r → SameOnes ((e ++ f) ++ (p ++ q)) ((p ++ e) ++ r)
moved e f p q {r} s = record {
  there = λ x.
      in_either (e ++ f) (p ++ q)
      (in_either e f (λ c. in_first (p ++ e) r (in_second p e c)) (λ c. in_second (p ++ e) r (s.there x (in_first f q c))))
      (in_either p q (λ c. in_first (p ++ e) r (in_first p e c)) (λ c. in_second (p ++ e) r (s.there x (in_second f q c))));
  back = λ x.
      in_either (p ++ e) r
      (in_either p e (λ c. in_second (e ++ f) (p ++ q) (in_first p q c)) (λ c. in_first (e ++ f) (p ++ q) (in_first e f c)))
      (λ c. in_either f q (λ d. in_first (e ++ f) (p ++ q) (in_second e f d)) (λ d. in_second (e ++ f) (p ++ q) (in_second p q d)) (s.back x c));
}

same_documents : (ds : List Document) → SameOnes (escape_breaches (flat_map (λ (d : Document). d.escapes) ds) ++ passes ds) (breaches ds)
unfolding passes document_pass
same_documents [] = record { there = λ x c. c; back = λ x c. c }
same_documents (d ∷ ds) =
    let others = flat_map (λ (d : Document). d.escapes) ds in
    let dirs = directive_breaches false [] d.directives in
    let evs = event_breaches (declarations [] d.directives) [] d.events in
    let m = moved (escape_breaches d.escapes) (escape_breaches others) (dirs ++ evs) (passes ds) (same_documents ds) in
    subst (λ z. SameOnes (z ++ ((dirs ++ evs) ++ passes ds)) (breaches (d ∷ ds))) (sym (escapes_join d.escapes others))
    (subst (λ z. SameOnes ((escape_breaches d.escapes ++ escape_breaches others) ++ ((dirs ++ evs) ++ passes ds)) (z ++ breaches ds))
    (append_assoc dirs evs (escape_breaches d.escapes)) m)

first_moved : {a b : List Breach} (o : Option Breach) → SameOnes a b → FirstOf a o → FirstOf b o
first_moved {a} {b} None s e = nothing b (λ x c. subst (λ z. Contains z x) e (s.back x c)) where
  nothing : (b : List Breach) → ((x : Breach) → Contains b x → Contains [] x) → b ≡ []
  nothing [] f = refl
  nothing (x ∷ b) f = let c = f x (in_first (x ∷ []) b (Contains-get_or (x ∷ []) 0 x (omega arith))) in absurd (omega (arith, c.1))
first_moved {a} {b} (Some f) s e = record {
  among = s.there f e.among;
  all = λ k d l. All-contains (IsEarlierBreach f) a _ e.all (s.back _ (Contains-get_or b k d l));
}

-- The first breach that the pass finds is the first breach of the documents.
pub first_of_documents : {t : List ℕ} {ds : List Document} {x events : List EventInText} (first : Option Breach) → QuietDocuments ds → DocumentsWritten t ds x
    → Noting t 0 (unplaced stream_starts ∷ (x ++ (unplaced stream_ends ∷ []))) events
    → FirstOf (stream_breaches (map doc_of ds) events (flat_map (λ (d : Document). d.escapes) ds)) first → FirstOf (breaches ds) first
first_of_documents {ds = ds} {x = x} {events = events} first q w n f =
    let es = x ++ (unplaced stream_ends ∷ []) in
    let all : pass_breaches (map doc_of ds) [] [] events ≡ passes ds =
    sym (pass_noted (map doc_of ds) [] [] n) ∙ at_event (map doc_of ds) [] [] (unplaced stream_starts) es refl ∙ pass_documents [] [] q w in
    first_moved first (same_documents ds) (subst (λ z. FirstOf (escape_breaches (flat_map (λ (d : Document). d.escapes) ds) ++ z) first) all f)

-- The tags that the pass finds.

record TagsInside (docs : List Doc) (ds : List Declaration) (es rest : List EventInText) (tags : List (Option (List ℕ))) : Type 0 where
  own : List (Option (List ℕ))
  others : List (Option (List ℕ))
  list : tags ≡ own ++ others
  are : EventTags ds es own
  follows : PassTags docs ds rest others

tag_there : {ds : List Declaration} {e : EventInText} {es : List EventInText} (o : Option TagValue) (tag : Option (List ℕ)) {tags : List (Option (List ℕ))}
    → (props_of e.event).tag ≡ o → TagOf ds o tag → EventTags ds es tags → EventTags ds (e ∷ es) (tag ∷ tags)
tag_there None None e p r = untagged e r
tag_there None (Some x) e p r = absurd p
tag_there (Some v) None e p r = absurd p
tag_there (Some v) (Some x) e p r = tagged e p r

tags_inside : {docs : List Doc} {ds : List Declaration} (es rest : List EventInText) {tags : List (Option (List ℕ))} → NoStarts es → PassTags docs ds (es ++ rest) tags
    → TagsInside docs ds es rest tags
tags_inside [] rest {tags} n p = record { own = []; others = tags; list = refl; are = no_event; follows = p }
tags_inside (e ∷ es) rest n (document_begins s p) = absurd (true≢false (sym s ∙ n.0))
tags_inside (e ∷ es) rest n (event_follows {tag = tag} s o p) =
    let r = tags_inside es rest n.1 p in
    record { own = tag ∷ r.own; others = r.others; list = ap (λ z. tag ∷ z) r.list; are = tag_there (props_of e.event).tag tag refl o r.are; follows = r.follows }

-- an event without a tag, and the events of a document that begins
record TagAfter (docs : List Doc) (ds : List Declaration) (es : List EventInText) (tags : List (Option (List ℕ))) : Type 0 where
  others : List (Option (List ℕ))
  list : tags ≡ None ∷ others
  follows : PassTags docs ds es others

none_of : (ds : List Declaration) (tag : Option (List ℕ)) → TagOf ds None tag → tag ≡ None
none_of ds None p = refl
none_of ds (Some x) p = absurd p

after_plain : {docs : List Doc} {ds : List Declaration} {e : EventInText} {es : List EventInText} {tags : List (Option (List ℕ))} → starts_document e.event ≡ false
    → (props_of e.event).tag ≡ None → PassTags docs ds (e ∷ es) tags → TagAfter docs ds es tags
after_plain n m (document_begins s p) = absurd (true≢false (sym s ∙ n))
after_plain {ds = ds} n m (event_follows {tag = tag} {tags = tags} s o p) =
    record { others = tags; list = ap (λ z. z ∷ tags) (none_of ds tag (subst (λ z. TagOf ds z tag) m o)); follows = p }

after_start : {docs : List Doc} {ds : List Declaration} {e : EventInText} {es : List EventInText} {tags : List (Option (List ℕ))} → starts_document e.event ≡ true
    → PassTags docs ds (e ∷ es) tags → TagAfter (later_documents docs) (declarations [] (next_directives docs)) es tags
after_start n (document_begins {tags = tags} s p) = record { others = tags; list = refl; follows = p }
after_start n (event_follows s o p) = absurd (true≢false (sym n ∙ s))

record DocumentTags (t : List ℕ) (ds : List Document) (x : List EventInText) (tags : List (Option (List ℕ))) : Type 0 where
  between : List (Option (List ℕ))
  are : DocumentEvents t ds x between
  list : tags ≡ between ++ (None ∷ [])

nothing_after : {docs : List Doc} {ds : List Declaration} {tags : List (Option (List ℕ))} → PassTags docs ds [] tags → tags ≡ []
nothing_after no_event_left = refl

document_tags : {t : List ℕ} {ds : List Document} {x : List EventInText} {fs : List Declaration} {tags : List (Option (List ℕ))} → QuietDocuments ds → DocumentsWritten t ds x
    → PassTags (map doc_of ds) fs (x ++ (unplaced stream_ends ∷ [])) tags → DocumentTags t ds x tags
document_tags q nothing_written p =
    let b = after_plain refl refl p in
    record { between = []; are = no_document; list = b.list ∙ ap (λ z. None ∷ z) (nothing_after b.follows) }
document_tags {tags = tags} q (document_written {d = d} {ds = ds} {x = x} {closed = closed} l m w) p =
    let end = unplaced stream_ends ∷ [] in
    let first = after_start refl p in
    let inner = subst (λ z. PassTags (map doc_of ds) (declarations [] d.directives) z first.others) (append_assoc d.events (unplaced (document_ends closed) ∷ x) end) first.follows in
    let own = tags_inside d.events (unplaced (document_ends closed) ∷ (x ++ end)) q.0 inner in
    let last = after_plain refl refl own.follows in
    let more = document_tags q.1 w last.follows in
    record {
      between = None ∷ (own.own ++ (None ∷ more.between));
      are = one_document own.are l m more.are;
      list = first.list ∙ ap (λ z. None ∷ z) (own.list ∙ ap (λ z. own.own ++ z) (last.list ∙ ap (λ z. None ∷ z) more.list)
          ∙ sym (append_assoc own.own (None ∷ more.between) (None ∷ [])));
    }

tags_noted : {t : List ℕ} {floor : ℕ} {x y : List EventInText} {docs : List Doc} {ds : List Declaration} {tags : List (Option (List ℕ))} → Noting t floor x y
    → PassTags docs ds y tags → PassTags docs ds x tags
tags_noted none_noted p = p
tags_noted (without_entry n r) (document_begins s p) = document_begins s (tags_noted r p)
tags_noted (without_entry n r) (event_follows s o p) = event_follows s o (tags_noted r p)
tags_noted (with_entry entry n m r) (document_begins s p) = document_begins s (tags_noted r p)
tags_noted (with_entry entry n m r) (event_follows s o p) = event_follows s o (tags_noted r p)

-- The tags that the pass finds are those of the documents.
pub record TagsOfDocuments (t : List ℕ) (ds : List Document) (x : List EventInText) (tags : List (Option (List ℕ))) : Type 0 where
  pub between : List (Option (List ℕ))
  pub are : DocumentEvents t ds x between
  pub list : tags ≡ None ∷ (between ++ (None ∷ []))

pub tags_of_documents : {t : List ℕ} {ds : List Document} {x events : List EventInText} {tags : List (Option (List ℕ))} → QuietDocuments ds → DocumentsWritten t ds x
    → Noting t 0 (unplaced stream_starts ∷ (x ++ (unplaced stream_ends ∷ []))) events → PassTags (map doc_of ds) [] events tags → TagsOfDocuments t ds x tags
tags_of_documents q w n p =
    let first = after_plain refl refl (tags_noted n p) in
    let rest = document_tags q w first.follows in
    record { between = rest.between; are = rest.are; list = first.list ∙ ap (λ z. None ∷ z) rest.list }
