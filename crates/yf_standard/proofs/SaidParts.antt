-- What tokens state, part by part: each way of joining parts is one of the meanings of `Grammar`.
use Rattle.std.proofs.Common.{◌≡◌, ℕ, Bool, true, false, List, [], ◌∷◌, ◌++◌, Option, None, map, encode_utf8_all, refl, sym, ap, ◌∙◌, subst, append_assoc, append-nil}
use Rattle.std.proofs.lemmas.List.{map-append}
use Rattle.yf_comments.specs.Comment.{CommentValue}
use Rattle.yf_props.specs.Props.{PropsValue, no_props}
use Rattle.yf_props.specs.Names.{PropertiesValue}
use Rattle.yf_quoted.specs.Quoted.{text_of, bad_escapes}
use Rattle.yf_events.specs.Event.{EventValue, EventInText, scalar_node}
use Rattle.yf_events.specs.declared.event.Entry.{Entry}
use Rattle.yf_events.specs.declared.event.ScalarStyle.{ScalarStyle}
use Rattle.yf_events.specs.declared.event.ScalarStyle.TheVariants.{Plain}
use Rattle.yf_grammar.specs.Productions.Meaning.{Meaning, ◌⊕◌, meaning_after, noting, plain_event, from_to, scalar, alias_to, empty_node, start_of, end_of, collection, event_with, first_with, with_props, first_entering, entering}
use Rattle.yf_standard.specs.Contents.{Mark, marks, pieces}
use Rattle.yf_standard.specs.Tokens.{Token, Note, note_of, notes, notes_of}
use Rattle.yf_standard.specs.Tokens.Token.{a_comment, an_alias, a_scalar, starts, ends}
use Rattle.yf_standard.specs.Readings.{Said, said, place_of, tag_places, said_of}
use Rattle.yf_standard.proofs.CommentsMeant.{notes_append}

-- what the meaning x says, and then s
abbrev pub joined_said : Meaning → Said → Said
joined_said x s = record {
  events = map (λ e. e.event) x.events ++ s.events;
  comments = notes_of x.comments ++ s.comments;
  tags = tag_places x.events ++ s.tags;
  escapes = x.escapes ++ s.escapes;
}

-- tokens that state what a meaning states
pub record Says (y : List Token) (x : Meaning) : Type 0 where
  pub all : (z : List Token) → said no_props (y ++ z) ≡ joined_said x (said no_props z)

pub same_said : {a b : Said} → a.events ≡ b.events → a.comments ≡ b.comments → a.tags ≡ b.tags → a.escapes ≡ b.escapes → a ≡ b
same_said e c t x = λ k. record { events = e k; comments = c k; tags = t k; escapes = x k }

abbrev with_first : EventValue → Said → Said
with_first e s = record s { events = e ∷ s.events }

abbrev pub with_comments : List CommentValue → Said → Said
with_comments cs s = record s { comments = notes_of cs ++ s.comments }

abbrev with_comment : CommentValue → Said → Said
with_comment c s = record s { comments = note_of c ∷ s.comments }

pub notes_said : (p : PropsValue) (cs : List CommentValue) (z : List Token) → said p (notes cs ++ z) ≡ with_comments cs (said p z)
unfolding said
notes_said p [] z = refl
notes_said p (c ∷ cs) z = ap (λ (s : Said). with_comment c s) (notes_said p cs z)

places_append : (x y : List EventInText) → tag_places (x ++ y) ≡ tag_places x ++ tag_places y
places_append [] y = refl
places_append (e ∷ x) y = ap (λ z. place_of e.tag_offset ++ z) (places_append x y) ∙ sym (append_assoc (place_of e.tag_offset) (tag_places x) (tag_places y))

pub notes_of_append : (x y : List CommentValue) → notes_of (x ++ y) ≡ notes_of x ++ notes_of y
notes_of_append [] y = refl
notes_of_append (c ∷ x) y = ap (λ (z : List Note). note_of c ∷ z) (notes_of_append x y)

pub comments_joined : (cs ds : List CommentValue) (z : List Note) → notes_of cs ++ (notes_of ds ++ z) ≡ notes_of (cs ++ ds) ++ z
comments_joined cs ds z = sym (append_assoc (notes_of cs) (notes_of ds) z) ∙ ap (λ v. v ++ z) (sym (notes_of_append cs ds))

pub said_after : (cs : List CommentValue) {y : List Token} {x : Meaning} → Says y x → Says (notes cs ++ y) (meaning_after cs x)
unfolding meaning_after
said_after cs {y} {x} f = record {
  all = λ z.
      ap (λ v. said no_props v) (append_assoc (notes cs) y z) ∙ notes_said no_props cs (y ++ z) ∙ ap (λ s. with_comments cs s) (f.all z)
      ∙ same_said refl (comments_joined cs x.comments (said no_props z).comments) refl refl;
}

pub said_noting : {y : List Token} {x : Meaning} → Says y x → (cs : List CommentValue) → Says (y ++ notes cs) (noting x cs)
unfolding noting
said_noting {y} {x} f cs = record {
  all = λ z.
      ap (λ v. said no_props v) (append_assoc y (notes cs) z) ∙ f.all (notes cs ++ z) ∙ ap (λ s. joined_said x s) (notes_said no_props cs z)
      ∙ same_said refl (comments_joined x.comments cs (said no_props z).comments) refl refl;
}

abbrev value : EventInText → EventValue
value e = e.event

pub said_join : {y w : List Token} {x v : Meaning} → Says y x → Says w v → Says (y ++ w) (x ⊕ v)
unfolding ◌⊕◌
said_join {y} {w} {x} {v} f g = record {
  all = λ z.
      let s : Said = said no_props z in
      ap (λ v. said no_props v) (append_assoc y w z) ∙ f.all (w ++ z) ∙ ap (λ s. joined_said x s) (g.all z)
      ∙ same_said (sym (append_assoc (map value x.events) (map value v.events) s.events) ∙ ap (λ z. z ++ s.events) (sym (map-append value x.events v.events)))
      (comments_joined x.comments v.comments s.comments)
      (sym (append_assoc (tag_places x.events) (tag_places v.events) s.tags) ∙ ap (λ z. z ++ s.tags) (sym (places_append x.events v.events)))
      (sym (append_assoc x.escapes v.escapes s.escapes));
}

entered_values : (e : Entry) (es : List EventInText) → map value es ≡ map value (first_entering e es)
entered_values e [] = refl
entered_values e (f ∷ es) = refl

entered_places : (e : Entry) (es : List EventInText) → tag_places es ≡ tag_places (first_entering e es)
entered_places e [] = refl
entered_places e (f ∷ es) = refl

pub said_entering : (i : ℕ) (k : Option ℕ) {y : List Token} {x : Meaning} → Says y x → Says y (entering i k x)
unfolding entering
said_entering i k {y} {x} f = record {
  all = λ z.
      let s : Said = said no_props z in
      let e : Entry = record { start = i; colon = k; blank_before = false } in
      f.all z ∙ same_said (ap (λ v. v ++ s.events) (entered_values e x.events)) refl (ap (λ v. v ++ s.tags) (entered_places e x.events)) refl;
}

pub says_same : {y w : List Token} {x : Meaning} → y ≡ w → Says y x → Says w x
says_same {x = x} e f = subst (λ v. Says v x) e f

pub says_comments : (cs : List CommentValue) (j : ℕ) → Says (notes cs) (record { events = []; comments = cs; escapes = []; finish = j })
says_comments cs j = record { all = λ z. notes_said no_props cs z }

pub says_whole : {y : List Token} {x : Meaning} → Says y x → said no_props y ≡ said_of x
unfolding said
says_whole {y} {x} f =
    ap (λ v. said no_props v) (sym (append-nil y)) ∙ f.all []
    ∙ same_said (append-nil (map value x.events)) (append-nil (notes_of x.comments)) (append-nil (tag_places x.events)) (append-nil x.escapes)

-- a node without properties of its own has the properties before it
pub record SaysNode (y : List Token) (x : Meaning) : Type 0 where
  pub first : EventInText
  pub others : List EventInText
  pub are : x.events ≡ first ∷ others
  pub untagged : first.tag_offset ≡ None
  pub bare : event_with no_props first.event ≡ first.event
  pub says : (p : PropsValue) (z : List Token) → said p (y ++ z) ≡ (let s : Said = said no_props z in record {
    events = event_with p first.event ∷ (map (λ e. e.event) others ++ s.events);
    comments = notes_of x.comments ++ s.comments;
    tags = tag_places others ++ s.tags;
    escapes = x.escapes ++ s.escapes;
  })

pub node_says : {y : List Token} {x : Meaning} → SaysNode y x → Says y x
node_says {y} {x} n = record {
  all = λ z.
      let s : Said = said no_props z in
      n.says no_props z
      ∙ same_said (ap (λ e. e ∷ (map value n.others ++ s.events)) n.bare ∙ ap (λ es. map value es ++ s.events) (sym n.are)) refl
      (ap (λ o. (place_of o ++ tag_places n.others) ++ s.tags) (sym n.untagged) ∙ ap (λ es. tag_places es ++ s.tags) (sym n.are)) refl;
}

start_bare : (sequence flow : Bool) → event_with no_props (start_of sequence flow) ≡ start_of sequence flow
start_bare true flow = refl
start_bare false flow = refl

pub says_collection : (sequence flow : Bool) (i j : ℕ) {y : List Token} {x : Meaning} → Says y x
    → SaysNode (starts sequence flow ∷ (y ++ ends sequence ∷ [])) (collection sequence flow i j x)
unfolding said collection plain_event
says_collection sequence flow i j {y} {x} f = record {
  first = plain_event (start_of sequence flow) (from_to i j);
  others = x.events ++ (plain_event (end_of sequence) None ∷ []);
  are = refl;
  untagged = refl;
  bare = start_bare sequence flow;
  says = λ p z.
      let s : Said = said no_props z in
      let last : List EventInText = plain_event (end_of sequence) None ∷ [] in
      ap (λ v. with_first (event_with p (start_of sequence flow)) (said no_props v)) (append_assoc y (ends sequence ∷ []) z)
      ∙ ap (λ s. with_first (event_with p (start_of sequence flow)) s) (f.all (ends sequence ∷ z))
      ∙ same_said
      (ap (λ v. event_with p (start_of sequence flow) ∷ v) (sym (append_assoc (map value x.events) (end_of sequence ∷ []) s.events) ∙ ap (λ v. v ++ s.events) (sym (map-append value x.events last))))
      refl
      (ap (λ v. v ++ s.tags) (sym (append-nil (tag_places x.events)) ∙ sym (places_append x.events last)))
      refl;
}

pub says_scalar : (style : ScalarStyle) (y : List Mark) (i j : ℕ) → SaysNode (a_scalar style y ∷ []) (scalar style (encode_utf8_all (text_of (pieces y))) (bad_escapes (pieces y)) i j)
unfolding said scalar plain_event
says_scalar style y i j = record { first = plain_event (scalar_node no_props style (encode_utf8_all (text_of (pieces y)))) (from_to i j); others = []; are = refl; untagged = refl; bare = refl; says = λ p z. refl }

pub says_empty : (j : ℕ) → SaysNode (a_scalar Plain [] ∷ []) (empty_node j)
unfolding said empty_node plain_event pieces
says_empty j = record { first = plain_event (scalar_node no_props Plain []) None; others = []; are = refl; untagged = refl; bare = refl; says = λ p z. refl }

pub says_alias : (name : List ℕ) (i j : ℕ) → Says (an_alias i name ∷ []) (alias_to name i j)
unfolding said alias_to plain_event
says_alias name i j = record { all = λ z. refl }

-- the characters of a text are its pieces
pub mark_pieces : (x : List ℕ) → text_of (pieces (marks x)) ≡ x
unfolding pieces
mark_pieces [] = refl
mark_pieces (c ∷ x) = ap (λ z. c ∷ z) (mark_pieces x)

pub mark_escapes : (x : List ℕ) → bad_escapes (pieces (marks x)) ≡ []
unfolding pieces
mark_escapes [] = refl
mark_escapes (c ∷ x) = mark_escapes x

pub says_text : (style : ScalarStyle) (x : List ℕ) (i j : ℕ) → SaysNode (a_scalar style (marks x) ∷ []) (scalar style (encode_utf8_all x) [] i j)
says_text style x i j =
    subst (λ e. SaysNode (a_scalar style (marks x) ∷ []) (scalar style (encode_utf8_all x) e i j)) (mark_escapes x)
    (subst (λ v. SaysNode (a_scalar style (marks x) ∷ []) (scalar style (encode_utf8_all v) (bad_escapes (pieces (marks x))) i j)) (mark_pieces x) (says_scalar style (marks x) i j))

-- properties, and the node after them
abbrev pub with_values : PropertiesValue → Said → Said
with_values v s = record s { comments = notes_of v.comments ++ s.comments; tags = place_of v.tag_offset ++ s.tags }

pub record SaysProps (y : List Token) (v : PropertiesValue) : Type 0 where
  pub all : (z : List Token) → said no_props (y ++ z) ≡ with_values v (said v.props z)

pub says_with : {y w : List Token} {x : Meaning} (v : PropertiesValue) (cs : List CommentValue) (i j : ℕ) → SaysProps y v → SaysNode w x
    → Says (y ++ (notes cs ++ w)) (meaning_after (v.comments ++ cs) (with_props v.props v.tag_offset i j x))
unfolding meaning_after with_props
says_with {y} {w} {x} v cs i j f n = record {
  all = λ z.
      let s : Said = said no_props z in
      ap (λ v. said no_props v) (append_assoc y (notes cs ++ w) z) ∙ f.all ((notes cs ++ w) ++ z)
      ∙ ap (λ u. with_values v (said v.props u)) (append_assoc (notes cs) w z)
      ∙ ap (λ s. with_values v s) (notes_said v.props cs (w ++ z) ∙ ap (λ s. with_comments cs s) (n.says v.props z))
      ∙ same_said (ap (λ es. map value (first_with v.props v.tag_offset i j es) ++ s.events) (sym n.are))
      (comments_joined v.comments cs (notes_of x.comments ++ s.comments) ∙ comments_joined (v.comments ++ cs) x.comments s.comments)
      (sym (append_assoc (place_of v.tag_offset) (tag_places n.others) s.tags) ∙ ap (λ es. tag_places (first_with v.props v.tag_offset i j es) ++ s.tags) (sym n.are))
      refl;
}

pub after_thrice : (cs ds es : List CommentValue) (x : Meaning) → meaning_after cs (meaning_after (ds ++ es) x) ≡ meaning_after (cs ++ ds ++ es) x
unfolding meaning_after
after_thrice cs ds es x = ap (λ v. record x { comments = v }) (sym (append_assoc cs (ds ++ es) x.comments) ∙ ap (λ v. v ++ x.comments) (sym (append_assoc cs ds es)))
