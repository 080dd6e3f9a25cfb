-- A pass over the events of a stream: its results depend only on the names and declarations that are found, not on
-- their order. The results after one more event.
use Rattle.std.proofs.Common.{◌≡◌, ℕ, zero, suc, ◌+◌, ◌<◌, ◌≤◌, Bool, true, false, ◌||◌, not, List, [], ◌∷◌, ◌++◌, drop, length, slice_get, Option, Some, None, refl, sym, ap, ◌∙◌, subst, true≢false, append_assoc, append-nil, is_none, is_some, if◌then◌else◌, add-one, get_or}
use Rattle.std.proofs.Math.ListN.{drop_of_length-le}
use Rattle.std.proofs.lemmas.Option.{slice_get-get_or}
use Rattle.std.specs.Str.{bytes_eq}
use Rattle.yf_props.specs.Handles.{Declaration, TagText, default_prefix, declared_prefix, is_declared, or_else, prefix_of, shorthand_text, verbatim_text, non_specific_text}
use Rattle.yf_props.specs.Props.{TagValue}
use Rattle.yf_props.specs.Props.TagValue.{IsVerbatim, IsShort, IsNonSpecific}
use Rattle.yf_events.specs.Event.{EventInText, stream_starts, props_of}
use Rattle.yf_events.specs.Tree.{unplaced}
use Rattle.yf_events.specs.declared.directive.Directive.{Directive}
use Rattle.yf_events.specs.declared.document.Doc.{Doc}
use Rattle.yf_stream.specs.TagPass.{AllPassed, FirstOf, FirstOfBoth, PassTags, EventPassed, TagsResolved, SameDeclarations, SameNames, StartsDocument, TagOf, document_begins, event_follows, later_documents, next_directives, no_event_left, own_breaches, pass_breaches, starts_document, stream_breaches}
use Rattle.yf_stream.specs.WellFormed.{alias_breaches, alias_of, breach_if, declaration_breaches, declaration_of, declarations, directive_breaches, escape_breaches, is_unknown, offset_or, start_or, version_breaches, version_of, with_declaration, with_name}
use Rattle.yf_stream.specs.declared.breaches.Breach.{Breach}
use Rattle.yf_stream.specs.declared.breaches.BreachKind.TheVariants.{RepeatedDirective, UnknownAlias, UnknownHandle}
use Rattle.yf_stream.proofs.Existence.BreachLemmas.{both_empty, some_none}
use Rattle.yf_stream.proofs.TagPass.DeclaredLemmas.{declares_last, not_declared, same_declared, with_new, with_old}
use Rattle.yf_stream.proofs.TagPass.FirstLemmas.{finds_nothing_more, finds_then, found_nothing}

-- Names in another order.

pub one_name_more : {a b : List (List ℕ)} (o : Option (List ℕ)) → SameNames a b → SameNames (with_name o a) (with_name o b)
one_name_more None s = s
one_name_more (Some n) s = record { each = λ x. ap (λ z. bytes_eq n x || z) (s.each x) }

alias_names : {a b : List (List ℕ)} (i : ℕ) (o : Option (List ℕ)) → SameNames a b → alias_breaches a i o ≡ alias_breaches b i o
alias_names i None s = refl
alias_names i (Some n) s = ap (λ z. breach_if (not z) UnknownAlias i) (s.each n)

own_names : {a b : List (List ℕ)} (ds : List Declaration) (e : EventInText) → SameNames a b → own_breaches ds a e ≡ own_breaches ds b e
own_names ds e s =
    ap (λ z. breach_if (is_unknown ds (props_of e.event).tag) UnknownHandle (offset_or 0 e.tag_offset) ++ z) (alias_names (start_or 0 e.span) (alias_of e.event) s)

if_else : {A : Type 0} (x : A) {y z : A} (b : Bool) → y ≡ z → (if b then x else y) ≡ (if b then x else z)
if_else x true e = refl
if_else x false e = e

pub joined : {A : Type 0} {a b c d : List A} → a ≡ b → c ≡ d → a ++ c ≡ b ++ d
joined {a = a} {d = d} e f = ap (λ z. a ++ z) f ∙ ap (λ z. z ++ d) e

pub pass_names : {a b : List (List ℕ)} (docs : List Doc) (ds : List Declaration) (es : List EventInText) → SameNames a b → pass_breaches docs ds a es ≡ pass_breaches docs ds b es
pass_names docs ds [] s = refl
pass_names {a} {b} docs ds (e ∷ es) s =
    if_else _ (starts_document e.event) (joined (own_names ds e s) (pass_names {a = with_name (props_of e.event).anchor a} {b = with_name (props_of e.event).anchor b} docs ds es (one_name_more (props_of e.event).anchor s)))

-- Declarations in another order.

prefix_same : {a b : List Declaration} (h : List ℕ) → SameDeclarations a b → prefix_of a h ≡ prefix_of b h
prefix_same h s = ap (λ z. or_else z (default_prefix h)) (s.each h)

pub unknown_same : {a b : List Declaration} (o : Option TagValue) → SameDeclarations a b → is_unknown a o ≡ is_unknown b o
unknown_same None s = refl
unknown_same (Some (IsVerbatim x)) s = refl
unknown_same (Some (IsShort h x)) s = ap is_none (prefix_same h s)
unknown_same (Some IsNonSpecific) s = refl

pub text_same : {a b : List Declaration} {tag : TagValue} {x : List ℕ} → SameDeclarations a b → TagText a tag x → TagText b tag x
text_same s verbatim_text = verbatim_text
text_same s (shorthand_text {handle = h} e t) = shorthand_text (sym (prefix_same h s) ∙ e) t
text_same s non_specific_text = non_specific_text

pub tag_same : {a b : List Declaration} (o : Option TagValue) (x : Option (List ℕ)) → SameDeclarations a b → TagOf a o x → TagOf b o x
tag_same None None s p = p
tag_same None (Some x) s p = p
tag_same (Some tag) None s p = p
tag_same (Some tag) (Some x) s p = text_same s p

pub turned : {a b : List Declaration} → SameDeclarations a b → SameDeclarations b a
turned s = record { each = λ h. sym (s.each h) }

is_declared_same : {a b : List Declaration} (h : List ℕ) → SameDeclarations a b → is_declared a h ≡ is_declared b h
is_declared_same h s = ap is_some (s.each h)

pub one_more_declared : {a b : List Declaration} (o : Option Declaration) → SameDeclarations a b → SameDeclarations (with_declaration a o) (with_declaration b o)
one_more_declared None s = s
one_more_declared {a} {b} (Some (k, v)) s = go (is_declared a k) refl where
  go : (c : Bool) → is_declared a k ≡ c → SameDeclarations (with_declaration a (Some (k, v))) (with_declaration b (Some (k, v)))
  go true e = record {
    each = λ h.
        ap (λ z. declared_prefix z h) (with_old a k v e) ∙ s.each h ∙ ap (λ z. declared_prefix z h) (sym (with_old b k v (sym (is_declared_same k s) ∙ e)));
  }
  go false e =
      let f = sym (is_declared_same k s) ∙ e in
      let more = same_declared (declares_last a k v (not_declared a k e)) (declares_last b k v (not_declared b k f)) s in
      record { each = λ h. ap (λ z. declared_prefix z h) (with_new a k v e) ∙ more.each h ∙ ap (λ z. declared_prefix z h) (sym (with_new b k v f)) }

pub all_declared : {a b : List Declaration} (xs : List Directive) → SameDeclarations a b → SameDeclarations (declarations a xs) (declarations b xs)
all_declared [] s = s
all_declared {a} {b} (d ∷ xs) s =
    all_declared {a = with_declaration a (declaration_of d.words)} {b = with_declaration b (declaration_of d.words)} xs (one_more_declared (declaration_of d.words) s)

declaration_same : {a b : List Declaration} (i : ℕ) (o : Option Declaration) → SameDeclarations a b → declaration_breaches a i o ≡ declaration_breaches b i o
declaration_same i None s = refl
declaration_same i (Some d) s = ap (λ z. breach_if z RepeatedDirective i) (is_declared_same d.0 s)

pub directives_same : {a b : List Declaration} (seen : Bool) (xs : List Directive) → SameDeclarations a b → directive_breaches seen a xs ≡ directive_breaches seen b xs
directives_same seen [] s = refl
directives_same {a} {b} seen (d ∷ xs) s =
    ap (λ z. version_breaches seen d.offset (version_of d.words) ++ z)
    (joined (declaration_same d.offset (declaration_of d.words) s)
    (directives_same {a = with_declaration a (declaration_of d.words)} {b = with_declaration b (declaration_of d.words)} (seen || is_some (version_of d.words)) xs
    (one_more_declared (declaration_of d.words) s)))

own_declared : {a b : List Declaration} (names : List (List ℕ)) (e : EventInText) → SameDeclarations a b → own_breaches a names e ≡ own_breaches b names e
own_declared names e s =
    ap (λ z. breach_if z UnknownHandle (offset_or 0 e.tag_offset) ++ alias_breaches names (start_or 0 e.span) (alias_of e.event))
    (unknown_same (props_of e.event).tag s)

pub pass_declared : {a b : List Declaration} (docs : List Doc) (names : List (List ℕ)) (es : List EventInText) → SameDeclarations a b
    → pass_breaches docs a names es ≡ pass_breaches docs b names es
pass_declared docs names [] s = refl
pass_declared docs names (e ∷ es) s =
    if_else _ (starts_document e.event) (joined (own_declared names e s) (pass_declared docs (with_name (props_of e.event).anchor names) es s))

pub tags_declared : {a b : List Declaration} {docs : List Doc} {es : List EventInText} {tags : List (Option (List ℕ))} → SameDeclarations a b → PassTags docs a es tags
    → PassTags docs b es tags
tags_declared s no_event_left = no_event_left
tags_declared s (document_begins f p) = document_begins f p
tags_declared s (event_follows {e = e} {tag = tag} f o p) = event_follows f (tag_same (props_of e.event).tag tag s o) (tags_declared s p)

-- One event.

pub at_document : (docs : List Doc) (ds : List Declaration) (names : List (List ℕ)) (e : EventInText) (es : List EventInText) → starts_document e.event ≡ true
    → pass_breaches docs ds names (e ∷ es)
    ≡ directive_breaches false [] (next_directives docs) ++ pass_breaches (later_documents docs) (declarations [] (next_directives docs)) [] es
at_document docs ds names e es s =
    ap (λ z. if z
    then directive_breaches false [] (next_directives docs) ++ pass_breaches (later_documents docs) (declarations [] (next_directives docs)) [] es
    else own_breaches ds names e ++ pass_breaches docs ds (with_name (props_of e.event).anchor names) es) s

pub at_event : (docs : List Doc) (ds : List Declaration) (names : List (List ℕ)) (e : EventInText) (es : List EventInText) → starts_document e.event ≡ false
    → pass_breaches docs ds names (e ∷ es) ≡ own_breaches ds names e ++ pass_breaches docs ds (with_name (props_of e.event).anchor names) es
at_event docs ds names e es s =
    ap (λ z. if z
    then directive_breaches false [] (next_directives docs) ++ pass_breaches (later_documents docs) (declarations [] (next_directives docs)) [] es
    else own_breaches ds names e ++ pass_breaches docs ds (with_name (props_of e.event).anchor names) es) s

-- at the start of a document, the one before doesn't matter
pub breaches_anew : (docs : List Doc) (ds : List Declaration) (names : List (List ℕ)) (es : List EventInText) → StartsDocument es
    → pass_breaches docs ds names es ≡ pass_breaches docs [] [] es
breaches_anew docs ds names [] s = refl
breaches_anew docs ds names (e ∷ es) s = at_document docs ds names e es s ∙ sym (at_document docs [] [] e es s)

pub tags_anew : {docs : List Doc} {a b : List Declaration} {es : List EventInText} {tags : List (Option (List ℕ))} → StartsDocument es → PassTags docs a es tags
    → PassTags docs b es tags
tags_anew s no_event_left = no_event_left
tags_anew s (document_begins f p) = document_begins f p
tags_anew s (event_follows f o p) = absurd (true≢false (sym s ∙ f))

-- the element at an index, and those after it
pub at_index : {A : Type 0} (xs : List A) (j : ℕ) {x : A} → slice_get xs j ≡ Some x → drop j xs ≡ x ∷ drop (j + 1) xs
at_index xs j {x} f = cut_at xs j f ∙ ap (λ k. x ∷ drop k xs) (sym (add-one j)) where
  cut_at : {A : Type 0} (xs : List A) (i : ℕ) {x : A} → slice_get xs i ≡ Some x → drop i xs ≡ x ∷ drop (suc i) xs
  cut_at [] i e = absurd cc
  cut_at (y ∷ xs) zero {x} e = let same : y ≡ x = cc in ap (λ w. w ∷ xs) same
  cut_at (y ∷ xs) (suc i) e = cut_at xs i e

-- The breaches and tags of the events from i up to j.

pub none_passed : {es : List EventInText} {ds : List Declaration} (i : ℕ) {first : Option Breach} {names : List (List ℕ)} (a : List (Option (List ℕ)))
    → AllPassed es ds i i first first names names a a
none_passed i a = record {
  found = [];
  finds = finds_nothing_more;
  breaches = λ docs. refl;
  added = [];
  list = sym (append-nil a);
  tags = λ n docs rest p. p;
}

pub one_passed : {es : List EventInText} {ds : List Declaration} {i j : ℕ} {before mid after : Option Breach} {names between others : List (List ℕ)}
    {a b c : List (Option (List ℕ))} {e : EventInText} → AllPassed es ds i j before mid names between a b → slice_get es j ≡ Some e
    → starts_document e.event ≡ false → EventPassed ds e mid after between others b c → AllPassed es ds i (j + 1) before after names others a c
one_passed {es} {ds} {i} {j} {before} {mid} {after} {names} {between} {others} {a} {b} {c} {e} p f n o =
    let here = at_index es j f in
    let tag = o.tag in
    record {
      found = p.found ++ own_breaches ds between e;
      finds = finds_then p.finds o.finds;
      breaches = λ docs.
          p.breaches docs ∙ ap (λ z. p.found ++ pass_breaches docs ds between z) here
          ∙ ap (λ z. p.found ++ z) (at_event docs ds between e (drop (j + 1) es) n
          ∙ ap (λ z. own_breaches ds between e ++ z) (pass_names docs ds (drop (j + 1) es) (record { each = λ x. sym (o.same.each x) })))
          ∙ sym (append_assoc p.found (own_breaches ds between e) (pass_breaches docs ds others (drop (j + 1) es)));
      added = p.added ++ tag ∷ [];
      list = o.list ∙ ap (λ z. z ++ tag ∷ []) p.list ∙ append_assoc a p.added (tag ∷ []);
      tags = λ none docs rest t.
          let nothing = found_nothing none o.finds in
          let known = both_empty (breach_if (is_unknown ds (props_of e.event).tag) UnknownHandle (offset_or 0 e.tag_offset)) _ nothing.1 in
          let own = o.is_there (not_breached (is_unknown ds (props_of e.event).tag) (offset_or 0 e.tag_offset) known.0) in
          let more : PassTags docs ds (drop j es) (tag ∷ rest) = subst (λ z. PassTags docs ds z (tag ∷ rest)) (sym here) (event_follows n own t) in
          subst (λ z. PassTags docs ds (drop i es) z) (sym (append_assoc p.added (tag ∷ []) rest)) (p.tags nothing.0 docs (tag ∷ rest) more);
    }
  where
    not_breached : (b : Bool) (i : ℕ) → breach_if b UnknownHandle i ≡ [] → b ≡ false
    not_breached true i e = some_none e
    not_breached false i e = refl

-- those of a document, with its directives
pub document_passed : {es : List EventInText} {directives : List Directive} {i j : ℕ} {before mid after : Option Breach} {a b : List (Option (List ℕ))}
    {names others : List (List ℕ)} {none ds : List Declaration} → none ≡ [] → names ≡ [] → SameDeclarations ds (declarations none directives)
    → FirstOfBoth before mid (directive_breaches false none directives) → StartsDocument (drop j es) → AllPassed es ds i j mid after names others a b
    → TagsResolved es directives i j before after a b
document_passed {es} {directives} {i} {j} {before} {mid} {after} {a} {b} {others = others} {ds = ds} d e s f n p =
    from_none (subst (λ z. SameDeclarations ds (declarations z directives)) d s) (subst (λ z. FirstOfBoth before mid (directive_breaches false z directives)) d f)
    (subst (λ z. AllPassed es ds i j mid after z others a b) e p)
  where
    own : List Breach
    own = directive_breaches false [] directives

    from_none : SameDeclarations ds (declarations [] directives) → FirstOfBoth before mid own → AllPassed es ds i j mid after [] others a b
        → TagsResolved es directives i j before after a b
    from_none s f p = record {
      found = own ++ p.found;
      finds = finds_then f p.finds;
      breaches = λ docs.
          ap (λ z. own ++ z) (sym (pass_declared docs [] (drop i es) s) ∙ p.breaches docs ∙ ap (λ z. p.found ++ z) (breaches_anew docs ds others (drop j es) n))
          ∙ sym (append_assoc own p.found (pass_breaches docs [] [] (drop j es)));
      added = p.added;
      list = p.list;
      tags = λ none docs rest t. tags_declared s (p.tags none docs rest (tags_anew n t));
    }

-- The breaches and tags of a stream up to the index `at`, if `begun` documents have begun.
pub record Resolving (docs : List Doc) (es : List EventInText) (escapes : List ℕ) (begun at : ℕ) (first : Option Breach) (tags : List (Option (List ℕ))) : Type 0 where
  pub done : List Breach
  pub found : FirstOf done first
  pub breaches : stream_breaches docs es escapes ≡ done ++ pass_breaches (drop begun docs) [] [] (drop at es)
  pub resolved : first ≡ None → (rest : List (Option (List ℕ))) → PassTags (drop begun docs) [] (drop at es) rest → PassTags docs [] es (tags ++ rest)
  pub next : StartsDocument (drop at es)

pub resolving_starts : {docs : List Doc} {es : List EventInText} {escapes : List ℕ} {at : ℕ} {before after : Option Breach} {a b : List (Option (List ℕ))}
    → FirstOfBoth None before (escape_breaches escapes) → a ≡ [] → TagsResolved es [] 0 at before after a b → StartsDocument (drop at es)
    → Resolving docs es escapes 0 at after b
resolving_starts {docs} {es} {escapes} {at} {b = b} f e r s = record {
  done = escape_breaches escapes ++ r.found;
  found = (finds_then f r.finds).first [] refl;
  breaches = ap (λ z. escape_breaches escapes ++ z) (r.breaches docs) ∙ sym (append_assoc (escape_breaches escapes) r.found (pass_breaches docs [] [] (drop at es)));
  resolved = λ none rest t. subst (λ z. PassTags docs [] es (z ++ rest)) (sym (r.list ∙ ap (λ z. z ++ r.added) e)) (r.tags none docs rest t);
  next = s;
}

none_next : (docs : List Doc) (b : ℕ) → later_documents (drop b docs) ≡ drop (b + 1) docs
none_next docs b = go docs b ∙ ap (λ k. drop k docs) (sym (add-one b)) where
  go : (docs : List Doc) (b : ℕ) → later_documents (drop b docs) ≡ drop (suc b) docs
  go [] zero = refl
  go [] (suc b) = refl
  go (d ∷ docs) zero = refl
  go (d ∷ docs) (suc b) = go docs b

pub resolving_document : {docs : List Doc} {es : List EventInText} {escapes : List ℕ} {begun at end : ℕ} {before after : Option Breach}
    {a b c : List (Option (List ℕ))} {directives : List Directive} → Resolving docs es escapes begun at before a → at < length es
    → b ≡ a ++ None ∷ [] → directives ≡ next_directives (drop begun docs) → TagsResolved es directives (at + 1) end before after b c
    → StartsDocument (drop end es) → Resolving docs es escapes (begun + 1) end after c
resolving_document {docs} {es} {escapes} {begun} {at} {end} {before} {after} {a} {b} {c} {directives} p l m d r s = record {
  done = p.done ++ r.found;
  found = r.finds.first p.done p.found;
  breaches = p.breaches ∙ ap (λ z. p.done ++ z) all ∙ sym (append_assoc p.done r.found (pass_breaches (drop (begun + 1) docs) [] [] (drop end es)));
  resolved = λ none rest t.
      let nothing = found_nothing none r.finds in
      let inside : PassTags (drop (begun + 1) docs) (declarations [] directives) (drop (at + 1) es) (r.added ++ rest) = r.tags none (drop (begun + 1) docs) rest t in
      let later : PassTags (later_documents (drop begun docs)) (declarations [] (next_directives (drop begun docs))) (drop (at + 1) es) (r.added ++ rest) =
      subst (λ z. PassTags z (declarations [] (next_directives (drop begun docs))) (drop (at + 1) es) (r.added ++ rest)) (sym (none_next docs begun))
      (subst (λ z. PassTags (drop (begun + 1) docs) (declarations [] z) (drop (at + 1) es) (r.added ++ rest)) d inside) in
      let whole : PassTags (drop begun docs) [] (drop at es) (None ∷ (r.added ++ rest)) =
      subst (λ z. PassTags (drop begun docs) [] z (None ∷ (r.added ++ rest))) (sym here) (document_begins starts later) in
      subst (λ z. PassTags docs [] es z) (joined_lists rest) (p.resolved nothing.0 (None ∷ (r.added ++ rest)) whole);
  next = s;
}
  where
    e : EventInText
    e = get_or es at (unplaced stream_starts)

    here : drop at es ≡ e ∷ drop (at + 1) es
    here = at_index es at (slice_get-get_or es at (unplaced stream_starts) l)

    starts : starts_document e.event ≡ true
    starts = subst StartsDocument here p.next

    all : pass_breaches (drop begun docs) [] [] (drop at es) ≡ r.found ++ pass_breaches (drop (begun + 1) docs) [] [] (drop end es)
    all =
        ap (λ z. pass_breaches (drop begun docs) [] [] z) here ∙ at_document (drop begun docs) [] [] e (drop (at + 1) es) starts
        ∙ ap (λ z. directive_breaches false [] z ++ pass_breaches (later_documents (drop begun docs)) (declarations [] z) [] (drop (at + 1) es)) (sym d)
        ∙ ap (λ z. directive_breaches false [] directives ++ pass_breaches z (declarations [] directives) [] (drop (at + 1) es)) (none_next docs begun)
        ∙ r.breaches (drop (begun + 1) docs)

    joined_lists : (rest : List (Option (List ℕ))) → a ++ (None ∷ (r.added ++ rest)) ≡ c ++ rest
    joined_lists rest =
        sym (append_assoc a (None ∷ []) (r.added ++ rest)) ∙ ap (λ z. z ++ (r.added ++ rest)) (sym m)
        ∙ sym (append_assoc b r.added rest) ∙ ap (λ z. z ++ rest) (sym r.list)

pub resolving_ends : {docs : List Doc} {es : List EventInText} {escapes : List ℕ} {begun at : ℕ} {first : Option Breach} {tags : List (Option (List ℕ))}
    → Resolving docs es escapes begun at first tags → length es ≤ at
    → FirstOf (stream_breaches docs es escapes) first × (first ≡ None → PassTags docs [] es tags)
resolving_ends {docs} {es} {escapes} {begun} {at} {first} {tags} p l =
    let none = drop_of_length-le es l in
    let all : stream_breaches docs es escapes ≡ p.done =
    p.breaches ∙ ap (λ z. p.done ++ pass_breaches (drop begun docs) [] [] z) none ∙ append-nil p.done in (
      subst (λ z. FirstOf z first) (sym all) p.found,
      λ n.
          subst (λ z. PassTags docs [] es z) (append-nil tags)
          (p.resolved n [] (subst (λ z. PassTags (drop begun docs) [] z []) (sym none) no_event_left)),
    )
