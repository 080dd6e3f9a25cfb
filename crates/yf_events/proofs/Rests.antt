-- The one-pass test accepts only well nested streams.
use Rattle.std.proofs.Common.{ℕ, suc, zero, ◌≡◌, Bool, true, List, [], ◌∷◌, ◌++◌, Option, Some, None, refl, sym, subst, append_assoc}
use Rattle.std.proofs.lemmas.Option.{same_Some}
use Rattle.yf_props.specs.Props.{PropsValue}
use Rattle.yf_events.specs.Event.{EventValue, stream_starts, stream_ends, document_starts, document_ends, sequence_starts, sequence_ends, mapping_starts, mapping_ends, scalar_node, alias_node}
use Rattle.yf_events.specs.Nested.{one_node, many_nodes, many_pairs, many_documents, NestsWithin, a_scalar, an_alias, a_sequence, a_mapping, no_nodes, more_nodes, no_pairs, more_pairs, no_documents, more_documents, IsStream, a_stream}
use Rattle.yf_events.specs.Nesting.{after_node, run, stay_if, open_if, at_stream, at_documents, at_closing, at_items, at_keys, follow, is_over}
use Rattle.yf_events.specs.declared.event.ScalarStyle.{ScalarStyle}
use Rattle.yf_events.specs.declared.nesting.NestingState.{NestingState}
use Rattle.yf_events.specs.declared.nesting.NestingState.TheVariants.{Stream, Documents, Root, Closing, Items, Keys, Values, Nothing}

-- the rest of the events: first those awaited here, and then those of the collections around
data Rest : ℕ → NestingState → List NestingState → List EventValue → Type 0 where
  over : {r : ℕ} → Rest r Nothing [] []
  stream_left : {r : ℕ} {b : List NestingState} {y : List EventValue} → Rest r Documents b y → Rest r Stream b (stream_starts ∷ y)
  documents_left : {r : ℕ} {b : List NestingState} {x y : List EventValue}
      → NestsWithin many_documents r x → Rest r Nothing b y → Rest r Documents b (x ++ (stream_ends ∷ y))
  root_left : {r : ℕ} {b : List NestingState} {x y : List EventValue} → NestsWithin one_node r x → Rest r Closing b y → Rest r Root b (x ++ y)
  closing_left : {r : ℕ} {b : List NestingState} {y : List EventValue} (marked : Bool) → Rest r Documents b y → Rest r Closing b (document_ends marked ∷ y)
  items_left : {r : ℕ} {t : NestingState} {b : List NestingState} {x y : List EventValue}
      → NestsWithin many_nodes r x → Rest (suc r) t b y → Rest r Items (t ∷ b) (x ++ (sequence_ends ∷ y))
  keys_left : {r : ℕ} {t : NestingState} {b : List NestingState} {x y : List EventValue}
      → NestsWithin many_pairs r x → Rest (suc r) t b y → Rest r Keys (t ∷ b) (x ++ (mapping_ends ∷ y))
  values_left : {r : ℕ} {b : List NestingState} {x y : List EventValue} → NestsWithin one_node r x → Rest r Keys b y → Rest r Values b (x ++ y)

more_items : {r : ℕ} {b : List NestingState} {x z : List EventValue} → NestsWithin one_node r x → Rest r Items b z → Rest r Items b (x ++ z)
more_items {x = x} n (items_left {x = w} {y = y} m rest) =
    rw (← append_assoc {A = EventValue} x w (sequence_ends ∷ y)) (items_left (more_nodes n m) rest)

more_keys : {r : ℕ} {b : List NestingState} {k v z : List EventValue} → NestsWithin one_node r k → NestsWithin one_node r v → Rest r Keys b z
    → Rest r Keys b (k ++ (v ++ z))
more_keys {k = k} {v = v} n m (keys_left {x = w} {y = y} o rest) =
    rw (← append_assoc {A = EventValue} v w (mapping_ends ∷ y), ← append_assoc {A = EventValue} k (v ++ w) (mapping_ends ∷ y)) (keys_left (more_pairs n m o) rest)

key_first : {r : ℕ} {b : List NestingState} {x z : List EventValue} → NestsWithin one_node r x → Rest r Values b z → Rest r Keys b (x ++ z)
key_first n (values_left m rest) = more_keys n m rest

-- a node, if one is awaited
node_first : {r : ℕ} {b : List NestingState} {x y : List EventValue} (f g : NestingState) → NestsWithin one_node r x → after_node f ≡ Some g
    → Rest r g b y → Rest r f b (x ++ y)
node_first Stream g n h rest = cc
node_first Documents g n h rest = cc
node_first Closing g n h rest = cc
node_first Nothing g n h rest = cc
node_first {r} {b} {y = y} Root g n h rest = root_left n (subst (λ w. Rest r w b y) (sym (same_Some _ _ h)) rest)
node_first {r} {b} {y = y} Items g n h rest = more_items n (subst (λ w. Rest r w b y) (sym (same_Some _ _ h)) rest)
node_first {r} {b} {y = y} Keys g n h rest = key_first n (subst (λ w. Rest r w b y) (sym (same_Some _ _ h)) rest)
node_first {r} {b} {y = y} Values g n h rest = values_left n (subst (λ w. Rest r w b y) (sym (same_Some _ _ h)) rest)

sequence_first : {r : ℕ} {b : List NestingState} {z : List EventValue} (f g : NestingState) (flow : Bool) (props : PropsValue) → after_node f ≡ Some g
    → Rest r Items (g ∷ b) z → Rest (suc r) f b (sequence_starts flow props ∷ z)
sequence_first {b = b} f g flow props h (items_left {r = r} {x = x} {y = y} n rest) =
    let whole = node_first f g (a_sequence {flow = flow} {props = props} n) h rest in
    rw (append_assoc {A = EventValue} x (sequence_ends ∷ []) y) at whole

mapping_first : {r : ℕ} {b : List NestingState} {z : List EventValue} (f g : NestingState) (flow : Bool) (props : PropsValue) → after_node f ≡ Some g
    → Rest r Keys (g ∷ b) z → Rest (suc r) f b (mapping_starts flow props ∷ z)
mapping_first {b = b} f g flow props h (keys_left {r = r} {x = x} {y = y} n rest) =
    let whole = node_first f g (a_mapping {flow = flow} {props = props} n) h rest in
    rw (append_assoc {A = EventValue} x (mapping_ends ∷ []) y) at whole

-- a whole document, if one is awaited
closed_document : {r : ℕ} {b : List NestingState} {x z : List EventValue} (marked closed : Bool) → NestsWithin one_node r x → Rest r Documents b z
    → Rest r Documents b (document_starts marked ∷ (x ++ (document_ends closed ∷ z)))
closed_document {x = x} marked closed n (documents_left {x = w} {y = y} m rest) =
    rw (← append_assoc {A = EventValue} x (document_ends closed ∷ w) (stream_ends ∷ y)) (documents_left (more_documents {marked = marked} closed n m) rest)

root_document : {r : ℕ} {b : List NestingState} {x z : List EventValue} (marked : Bool) → NestsWithin one_node r x → Rest r Closing b z
    → Rest r Documents b (document_starts marked ∷ (x ++ z))
root_document marked n (closing_left closed rest) = closed_document marked closed n rest

document_first : {r : ℕ} {b : List NestingState} {z : List EventValue} (marked : Bool) → Rest r Root b z
    → Rest r Documents b (document_starts marked ∷ z)
document_first marked (root_left n rest) = root_document marked n rest

-- Sound: by the first event

over_left : (r : ℕ) (f : NestingState) (b : List NestingState) → is_over f b ≡ true → Rest r f b []
over_left r Nothing [] h = over
over_left r Nothing (x ∷ b) h = cc
over_left r Stream b h = cc
over_left r Documents b h = cc
over_left r Root b h = cc
over_left r Closing b h = cc
over_left r Items b h = cc
over_left r Keys b h = cc
over_left r Values b h = cc

-- soundness for the events after the first
abbrev Sound : List EventValue → Type 0
Sound es = (r : ℕ) (f : NestingState) (b : List NestingState) → run r f b es ≡ true → Rest r f b es

abbrev Runs : List EventValue → ℕ → NestingState → List NestingState → Bool
Runs es r f b = run r f b es

scalar_left : (es : List EventValue) → Sound es → (r : ℕ) (f : NestingState) (b : List NestingState) {props : PropsValue} {style : ScalarStyle} {text : List ℕ} (o : Option NestingState)
    → after_node f ≡ o → follow (stay_if o) r b (Runs es) ≡ true → Rest r f b (scalar_node props style text ∷ es)
scalar_left es ih r f b None e h = cc
scalar_left es ih r f b (Some g) e h = node_first f g a_scalar e (ih r g b h)

alias_left : (es : List EventValue) → Sound es → (r : ℕ) (f : NestingState) (b : List NestingState) {name : List ℕ} (o : Option NestingState)
    → after_node f ≡ o → follow (stay_if o) r b (Runs es) ≡ true → Rest r f b (alias_node name ∷ es)
alias_left es ih r f b None e h = cc
alias_left es ih r f b (Some g) e h = node_first f g an_alias e (ih r g b h)

sequence_left : (es : List EventValue) → Sound es → (r : ℕ) (f : NestingState) (b : List NestingState) (flow : Bool) (props : PropsValue) (o : Option NestingState)
    → after_node f ≡ o → follow (open_if o Items) r b (Runs es) ≡ true → Rest r f b (sequence_starts flow props ∷ es)
sequence_left es ih r f b flow props None e h = cc
sequence_left es ih zero f b flow props (Some g) e h = cc
sequence_left es ih (suc r) f b flow props (Some g) e h = sequence_first f g flow props e (ih r Items (g ∷ b) h)

mapping_left : (es : List EventValue) → Sound es → (r : ℕ) (f : NestingState) (b : List NestingState) (flow : Bool) (props : PropsValue) (o : Option NestingState)
    → after_node f ≡ o → follow (open_if o Keys) r b (Runs es) ≡ true → Rest r f b (mapping_starts flow props ∷ es)
mapping_left es ih r f b flow props None e h = cc
mapping_left es ih zero f b flow props (Some g) e h = cc
mapping_left es ih (suc r) f b flow props (Some g) e h = mapping_first f g flow props e (ih r Keys (g ∷ b) h)

sequence_end_left : (es : List EventValue) → Sound es → (r : ℕ) (f : NestingState) (b : List NestingState)
    → follow (at_items f) r b (Runs es) ≡ true → Rest r f b (sequence_ends ∷ es)
sequence_end_left es ih r Items [] h = cc
sequence_end_left es ih r Items (t ∷ b) h = items_left no_nodes (ih (suc r) t b h)
sequence_end_left es ih r Stream b h = cc
sequence_end_left es ih r Documents b h = cc
sequence_end_left es ih r Root b h = cc
sequence_end_left es ih r Closing b h = cc
sequence_end_left es ih r Keys b h = cc
sequence_end_left es ih r Values b h = cc
sequence_end_left es ih r Nothing b h = cc

mapping_end_left : (es : List EventValue) → Sound es → (r : ℕ) (f : NestingState) (b : List NestingState)
    → follow (at_keys f) r b (Runs es) ≡ true → Rest r f b (mapping_ends ∷ es)
mapping_end_left es ih r Keys [] h = cc
mapping_end_left es ih r Keys (t ∷ b) h = keys_left no_pairs (ih (suc r) t b h)
mapping_end_left es ih r Stream b h = cc
mapping_end_left es ih r Documents b h = cc
mapping_end_left es ih r Root b h = cc
mapping_end_left es ih r Closing b h = cc
mapping_end_left es ih r Items b h = cc
mapping_end_left es ih r Values b h = cc
mapping_end_left es ih r Nothing b h = cc

stream_start_left : (es : List EventValue) → Sound es → (r : ℕ) (f : NestingState) (b : List NestingState)
    → follow (at_stream f) r b (Runs es) ≡ true → Rest r f b (stream_starts ∷ es)
stream_start_left es ih r Stream b h = stream_left (ih r Documents b h)
stream_start_left es ih r Documents b h = cc
stream_start_left es ih r Root b h = cc
stream_start_left es ih r Closing b h = cc
stream_start_left es ih r Items b h = cc
stream_start_left es ih r Keys b h = cc
stream_start_left es ih r Values b h = cc
stream_start_left es ih r Nothing b h = cc

stream_end_left : (es : List EventValue) → Sound es → (r : ℕ) (f : NestingState) (b : List NestingState)
    → follow (at_documents Nothing f) r b (Runs es) ≡ true → Rest r f b (stream_ends ∷ es)
stream_end_left es ih r Documents b h = documents_left no_documents (ih r Nothing b h)
stream_end_left es ih r Stream b h = cc
stream_end_left es ih r Root b h = cc
stream_end_left es ih r Closing b h = cc
stream_end_left es ih r Items b h = cc
stream_end_left es ih r Keys b h = cc
stream_end_left es ih r Values b h = cc
stream_end_left es ih r Nothing b h = cc

document_start_left : (es : List EventValue) → Sound es → (r : ℕ) (f : NestingState) (b : List NestingState) (marked : Bool)
    → follow (at_documents Root f) r b (Runs es) ≡ true → Rest r f b (document_starts marked ∷ es)
document_start_left es ih r Documents b marked h = document_first marked (ih r Root b h)
document_start_left es ih r Stream b marked h = cc
document_start_left es ih r Root b marked h = cc
document_start_left es ih r Closing b marked h = cc
document_start_left es ih r Items b marked h = cc
document_start_left es ih r Keys b marked h = cc
document_start_left es ih r Values b marked h = cc
document_start_left es ih r Nothing b marked h = cc

document_end_left : (es : List EventValue) → Sound es → (r : ℕ) (f : NestingState) (b : List NestingState) (marked : Bool)
    → follow (at_closing f) r b (Runs es) ≡ true → Rest r f b (document_ends marked ∷ es)
document_end_left es ih r Closing b marked h = closing_left marked (ih r Documents b h)
document_end_left es ih r Stream b marked h = cc
document_end_left es ih r Documents b marked h = cc
document_end_left es ih r Root b marked h = cc
document_end_left es ih r Items b marked h = cc
document_end_left es ih r Keys b marked h = cc
document_end_left es ih r Values b marked h = cc
document_end_left es ih r Nothing b marked h = cc

sound : (es : List EventValue) → Sound es
unfolding run
sound [] = λ r f b h. over_left r f b h
sound (stream_starts ∷ es) = λ r f b h. stream_start_left es (sound es) r f b h
sound (stream_ends ∷ es) = λ r f b h. stream_end_left es (sound es) r f b h
sound (document_starts marked ∷ es) = λ r f b h. document_start_left es (sound es) r f b marked h
sound (document_ends marked ∷ es) = λ r f b h. document_end_left es (sound es) r f b marked h
sound (sequence_starts flow props ∷ es) = λ r f b h. sequence_left es (sound es) r f b flow props (after_node f) refl h
sound (sequence_ends ∷ es) = λ r f b h. sequence_end_left es (sound es) r f b h
sound (mapping_starts flow props ∷ es) = λ r f b h. mapping_left es (sound es) r f b flow props (after_node f) refl h
sound (mapping_ends ∷ es) = λ r f b h. mapping_end_left es (sound es) r f b h
sound (scalar_node props style text ∷ es) = λ r f b h. scalar_left es (sound es) r f b (after_node f) refl h
sound (alias_node name ∷ es) = λ r f b h. alias_left es (sound es) r f b (after_node f) refl h

nothing_left : {r : ℕ} {b : List NestingState} {y : List EventValue} → Rest r Nothing b y → y ≡ []
nothing_left over = refl

documents_stream : {r : ℕ} {b : List NestingState} {y : List EventValue} → Rest r Documents b y → IsStream r (stream_starts ∷ y)
documents_stream {r} (documents_left {x = x} n rest) = rw (nothing_left rest) (a_stream n)

whole_stream : {r : ℕ} {b : List NestingState} {y : List EventValue} → Rest r Stream b y → IsStream r y
whole_stream (stream_left rest) = documents_stream rest

pub is_stream : (d : ℕ) (es : List EventValue) → run d Stream [] es ≡ true → IsStream d es
is_stream d es h = whole_stream (sound es d Stream [] h)
