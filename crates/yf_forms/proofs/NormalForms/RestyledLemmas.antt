-- Laws of restyled readings: they are well nested if the reading is, and have its content.
use Rattle.std.proofs.Common.{◌≡◌, ℕ, zero, suc, Bool, true, false, List, [], ◌∷◌, if◌then◌else◌, chars, Option, Some, None, length, map, refl, sym, ap, ◌∙◌}
use Rattle.std.specs.List.{flat_map, zip}
use Rattle.yf_lines.specs.Steady.{is_steady}
use Rattle.yf_lines.specs.declared.quotes.Quotes.{Quotes}
use Rattle.yf_events.specs.Content.{a_scalar, untagged, untagged_kind, kind_of, items_of_event, nodes_of, content_of}
use Rattle.yf_events.specs.Event.{EventValue, EventInText, stream_starts, stream_ends, document_starts, document_ends, sequence_starts, sequence_ends, mapping_starts, mapping_ends, scalar_node, alias_node}
use Rattle.yf_events.specs.Nested.{IsStream}
use Rattle.yf_events.specs.Nesting.{move_at, run, follow}
use Rattle.yf_events.specs.Reading.{events_of, ListsFit}
use Rattle.yf_events.specs.declared.event.ScalarStyle.{ScalarStyle}
use Rattle.yf_events.specs.declared.event.ScalarStyle.TheVariants.{Plain, Single, Double, Literal, Folded}
use Rattle.yf_events.specs.declared.lists.Lists.{Lists}
use Rattle.yf_events.specs.declared.nesting.NestingState.{NestingState}
use Rattle.yf_events.specs.declared.nesting.NestingState.TheVariants.{Stream}
use Rattle.yf_events.specs.declared.nesting.Move.{Move}
use Rattle.yf_events.specs.declared.nesting.Move.TheVariants.{Refuse, Stay, Open, Close}
use Rattle.yf_events.proofs.Nests.{complete}
use Rattle.yf_events.proofs.Rests.{is_stream}
use Rattle.yf_quoted.specs.Written.{quotes_in}
use Rattle.yf_forms.specs.declared.style.Style.{Style}
use Rattle.yf_forms.specs.Nodes.ScalarStyles.{quoted_in, style_in, wanted, has_block_content}
use Rattle.yf_forms.specs.NormalForms.Restyled.{restyled_event, SameButStyles, none_left, one_more, IsRestyled}

pub restyled_length : {q : Style} {es fs : List EventInText} → SameButStyles q es fs → length fs ≡ length es
restyled_length none_left = refl
restyled_length (one_more flow r) = ap suc (restyled_length r)

-- everything but the events is equal
pub restyled_whole : {q : Style} (r m : Lists) → SameButStyles q r.events m.events → m.resolved ≡ r.resolved → m.comments ≡ r.comments
    → m.on_leaf_line ≡ r.on_leaf_line → m.documents ≡ r.documents → m.escapes ≡ r.escapes → IsRestyled q r m
restyled_whole r m s a b c d e = record { events = s; rest = rw (sym a, sym b, sym c, sym d, sym e) refl }

-- the lists fit each other if those of the reading do
pub still_fits : {q : Style} {r m : Lists} → IsRestyled q r m → ListsFit r → ListsFit m
still_fits {q} {r} {m} s f = record {
  tags = ap (λ w. length w.resolved) s.rest ∙ f.tags ∙ sym (restyled_length s.events);
  notes = ap (λ w. length w.on_leaf_line) s.rest ∙ f.notes ∙ sym (ap (λ w. length w.comments) s.rest);
}

-- well nested

same_move : (q : Style) (flow : Bool) (top : NestingState) (e : EventValue) → move_at top (restyled_event q flow e) ≡ move_at top e
same_move q flow top stream_starts = refl
same_move q flow top stream_ends = refl
same_move q flow top (document_starts marked) = refl
same_move q flow top (document_ends marked) = refl
same_move q flow top (sequence_starts g props) = refl
same_move q flow top sequence_ends = refl
same_move q flow top (mapping_starts g props) = refl
same_move q flow top mapping_ends = refl
same_move q flow top (scalar_node props style text) = refl
same_move q flow top (alias_node name) = refl

same_follow : (m : Move) (room : ℕ) (below : List NestingState) (f g : ℕ → NestingState → List NestingState → Bool)
    → ((r : ℕ) (t : NestingState) (b : List NestingState) → f r t b ≡ g r t b) → follow m room below f ≡ follow m room below g
same_follow Refuse room below f g h = refl
same_follow (Stay next) room below f g h = h room next below
same_follow (Open follows within) zero below f g h = refl
same_follow (Open follows within) (suc r) below f g h = h r within (follows ∷ below)
same_follow Close room [] f g h = refl
same_follow Close room (t ∷ b) f g h = h (suc room) t b

same_run : {q : Style} {es fs : List EventInText} → SameButStyles q es fs → (room : ℕ) (top : NestingState) (below : List NestingState)
    → run room top below (map (λ e. e.event) es) ≡ run room top below (map (λ e. e.event) fs)
unfolding run
same_run none_left room top below = refl
same_run {q} (one_more {e} {es} {fs} flow r) room top below =
    same_follow (move_at top e.event) room below _ _ (same_run r)
    ∙ ap (λ m. follow m room below (λ w t b. run w t b (map (λ e. e.event) fs))) (sym (same_move q flow top e.event))

-- if one list is a stream, the other is too
pub still_stream : (d : ℕ) {q : Style} {r m : Lists} → IsRestyled q r m → IsStream d (events_of r) → IsStream d (events_of m)
still_stream d s n = is_stream d _ (sym (same_run s.events d Stream []) ∙ complete n)

-- content

quoted_kind : (t : List ℕ) (q : Style) → kind_of None (quoted_in t q) t ≡ untagged
quoted_kind t q = by_quotes (quotes_in q.invisible (chars t) q.quotes) where
  by_quotes : (q : Quotes) → kind_of None (style_in q) t ≡ untagged
  by_quotes Quotes.Single = refl
  by_quotes Quotes.Double = refl

plain_kind : (t : List ℕ) (q : Style) (b : Bool) → is_steady t ≡ b → kind_of None (if b then Plain else quoted_in t q) t ≡ untagged_kind (is_steady t)
plain_kind t q true e = refl
plain_kind t q false e = quoted_kind t q ∙ ap untagged_kind (sym e)

literal_kind : (t : List ℕ) (q : Style) (b : Bool) → kind_of None (if b then Literal else quoted_in t q) t ≡ untagged
literal_kind t q true = refl
literal_kind t q false = quoted_kind t q

folded_kind : (t : List ℕ) (q : Style) (b : Bool) → kind_of None (if b then Folded else quoted_in t q) t ≡ untagged
folded_kind t q true = refl
folded_kind t q false = quoted_kind t q

same_kind : (tag : Option (List ℕ)) (style : ScalarStyle) (t : List ℕ) (q : Style) → kind_of tag (wanted style t q) t ≡ kind_of tag style t
same_kind (Some tag) style t q = refl
same_kind None Plain t q = plain_kind t q (is_steady t) refl
same_kind None Single t q = quoted_kind t q
same_kind None Double t q = quoted_kind t q
same_kind None Literal t q = literal_kind t q (has_block_content t)
same_kind None Folded t q = folded_kind t q (has_block_content t)

same_items : (q : Style) (flow : Bool) (e : EventValue) (tag : Option (List ℕ)) → items_of_event (restyled_event q flow e) tag ≡ items_of_event e tag
same_items q flow stream_starts tag = refl
same_items q flow stream_ends tag = refl
same_items q flow (document_starts marked) tag = refl
same_items q flow (document_ends marked) tag = refl
same_items q flow (sequence_starts g props) tag = refl
same_items q flow sequence_ends tag = refl
same_items q flow (mapping_starts g props) tag = refl
same_items q flow mapping_ends tag = refl
same_items q flow (scalar_node props style text) tag = ap (λ k. a_scalar props.anchor k text ∷ []) (same_kind tag style text q)
same_items q flow (alias_node name) tag = refl

same_nodes : {q : Style} {es fs : List EventInText} → SameButStyles q es fs → (tags : List (Option (List ℕ)))
    → flat_map (λ e. items_of_event e.0 e.1) (zip (map (λ e. e.event) fs) tags)
    ≡ flat_map (λ e. items_of_event e.0 e.1) (zip (map (λ e. e.event) es) tags)
same_nodes none_left tags = refl
same_nodes (one_more flow r) [] = refl
same_nodes {q} (one_more {e} flow r) (tag ∷ tags) = rw (same_items q flow e.event tag, same_nodes r tags) refl

-- a restyled reading has the content of the reading
pub same_content : {q : Style} {r m : Lists} → IsRestyled q r m → content_of m ≡ content_of r
unfolding content_of nodes_of
same_content {q} {r} {m} s = ap content_of s.rest ∙ ap (λ w. record { directives = (content_of r).directives; nodes = w }) (same_nodes s.events r.resolved)
