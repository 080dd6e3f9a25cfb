-- A statement that cannot be refuted holds if it says that two numbers, two lists, two events or two meanings are
-- equal.
use Rattle.std.proofs.Common.{◌≡◌, ℕ, suc, zero, Bool, true, false, List, [], ◌∷◌, Option, Some, None, refl, sym, ap, ◌∙◌, ⊎_elim}
use Rattle.std.proofs.lemmas.Bool.{cases_eq}
use Rattle.yf_chars.proofs.Tests.{no_cons}
use Rattle.yf_comments.specs.Comment.{CommentValue}
use Rattle.yf_props.specs.Props.{PropsValue, TagValue, no_props}
use Rattle.yf_props.specs.Props.TagValue.{IsVerbatim, IsShort, IsNonSpecific}
use Rattle.yf_events.specs.Event.{EventValue, EventInText, stream_starts, stream_ends, document_starts, document_ends, sequence_starts, sequence_ends, mapping_starts, mapping_ends, scalar_node, alias_node}
use Rattle.yf_events.specs.declared.event.Entry.{Entry}
use Rattle.yf_events.specs.declared.event.ScalarStyle.{ScalarStyle}
use Rattle.yf_events.specs.declared.event.ScalarStyle.TheVariants.{Plain, Single, Double, Literal, Folded}
use Rattle.yf_events.specs.declared.event.Span.{Span}
use Rattle.yf_grammar.specs.Productions.Meaning.{Meaning}
use Rattle.yf_grammar.proofs.Ends.Irrefutable.{Irrefutable}

pub record Stable (A : Type 0) : Type 0 where
  pub same : (x y : A) → Irrefutable (x ≡ y) → x ≡ y

record Both (A B : Type 0) : Type 0 where
  first : A
  second : B

-- consequences of an equation
follows : {A B : Type 0} → Irrefutable A → (A → B) → Irrefutable B
follows a f = record { held = λ n. a.held (λ x. n (f x)) }

never : {A : Type 0} → Irrefutable A → (A → ⊥) → ⊥
never a n = a.held n

pub stable_nat : Stable ℕ
stable_nat = record { same = λ x y e. ⊎_elim (λ (q : x ≡ y). q) (λ (q : x ≡ y → ⊥). absurd (never e q)) (cases_eq x y) }

abbrev number_of : Bool → ℕ
number_of true = 1
number_of false = 0

-- a type that can be encoded in a stable one is stable
module _ {A B : Type 0} (f : A → B) (g : B → A) (back : (a : A) → g (f a) ≡ a) where
  stable_by : Stable B → Stable A
  stable_by s = record { same = λ x y e. sym (back x) ∙ ap g (s.same (f x) (f y) (follows e (λ q. ap f q))) ∙ back y }

stable_both : {A B : Type 0} → Stable A → Stable B → Stable (Both A B)
stable_both a b = record {
  same = λ x y e.
      let p = a.same x.first y.first (follows e (λ q. ap (λ w. w.first) q)) in
      let q = b.same x.second y.second (follows e (λ q. ap (λ w. w.second) q)) in
      ap (λ w. record { first = w; second = x.second }) p ∙ ap (λ w. record { first = y.first; second = w }) q;
}

abbrev head_or : {A : Type 0} → A → List A → A
head_or d [] = d
head_or d (x ∷ xs) = x

abbrev tail : {A : Type 0} → List A → List A
tail [] = []
tail (x ∷ xs) = xs

pub stable_list : {A : Type 0} → Stable A → Stable (List A)
stable_list {A} s = record { same = go } where
  go : (x y : List A) → Irrefutable (x ≡ y) → x ≡ y
  go [] [] e = refl
  go [] (y ∷ ys) e = absurd (never e (λ q. no_cons q))
  go (x ∷ xs) [] e = absurd (never e (λ q. no_cons (sym q)))
  go (x ∷ xs) (y ∷ ys) e =
      let p = s.same x y (follows e (λ q. ap (head_or x) q)) in
      let q = go xs ys (follows e (λ r. ap tail r)) in
      ap (λ w. w ∷ xs) p ∙ ap (λ w. y ∷ w) q

abbrev to_list : {A : Type 0} → Option A → List A
to_list None = []
to_list (Some x) = x ∷ []

abbrev from_list : {A : Type 0} → List A → Option A
from_list [] = None
from_list (x ∷ xs) = Some x

list_back : {A : Type 0} (o : Option A) → from_list (to_list o) ≡ o
list_back None = refl
list_back (Some x) = refl

pub stable_option : {A : Type 0} → Stable A → Stable (Option A)
stable_option s = stable_by to_list from_list list_back (stable_list s)

abbrev flag_of : ℕ → Bool
flag_of zero = false
flag_of n = true

flag_back : (b : Bool) → flag_of (number_of b) ≡ b
flag_back true = refl
flag_back false = refl

pub stable_bool : Stable Bool
stable_bool = stable_by number_of flag_of flag_back stable_nat

stable_text : Stable (List ℕ)
stable_text = stable_list stable_nat

-- comments
abbrev to_comment : CommentValue → Both (List ℕ) (Both ℕ Bool)
to_comment v = record { first = v.text; second = record { first = v.offset; second = v.blank_before } }

abbrev from_comment : Both (List ℕ) (Both ℕ Bool) → CommentValue
from_comment p = record { text = p.first; offset = p.second.first; blank_before = p.second.second }

pub stable_comment : Stable CommentValue
stable_comment = stable_by to_comment from_comment (λ v. refl) (stable_both stable_text (stable_both stable_nat stable_bool))

-- spans and entries
abbrev to_span : Span → Both ℕ ℕ
to_span v = record { first = v.start; second = v.end }

abbrev from_span : Both ℕ ℕ → Span
from_span p = record { start = p.first; end = p.second }

stable_span : Stable Span
stable_span = stable_by to_span from_span (λ v. refl) (stable_both stable_nat stable_nat)

abbrev to_entry : Entry → Both ℕ (Both (Option ℕ) Bool)
to_entry v = record { first = v.start; second = record { first = v.colon; second = v.blank_before } }

abbrev from_entry : Both ℕ (Both (Option ℕ) Bool) → Entry
from_entry p = record { start = p.first; colon = p.second.first; blank_before = p.second.second }

stable_entry : Stable Entry
stable_entry = stable_by to_entry from_entry (λ v. refl) (stable_both stable_nat (stable_both (stable_option stable_nat) stable_bool))

-- styles, tags, properties
abbrev style_number : ScalarStyle → ℕ
style_number Plain = 0
style_number Single = 1
style_number Double = 2
style_number Literal = 3
style_number Folded = 4

abbrev style_at : ℕ → ScalarStyle
style_at zero = Plain
style_at (suc zero) = Single
style_at (suc (suc zero)) = Double
style_at (suc (suc (suc zero))) = Literal
style_at n = Folded

style_back : (s : ScalarStyle) → style_at (style_number s) ≡ s
style_back Plain = refl
style_back Single = refl
style_back Double = refl
style_back Literal = refl
style_back Folded = refl

stable_style : Stable ScalarStyle
stable_style = stable_by style_number style_at style_back stable_nat

abbrev tag_texts : TagValue → List (List ℕ)
tag_texts (IsVerbatim x) = x ∷ []
tag_texts (IsShort x y) = x ∷ y ∷ []
tag_texts IsNonSpecific = []

abbrev tag_from : List (List ℕ) → TagValue
tag_from [] = IsNonSpecific
tag_from (x ∷ []) = IsVerbatim x
tag_from (x ∷ y ∷ rest) = IsShort x y

tag_back : (v : TagValue) → tag_from (tag_texts v) ≡ v
tag_back (IsVerbatim x) = refl
tag_back (IsShort x y) = refl
tag_back IsNonSpecific = refl

abbrev to_props : PropsValue → Both (Option (List ℕ)) (Option TagValue)
to_props v = record { first = v.anchor; second = v.tag }

abbrev from_props : Both (Option (List ℕ)) (Option TagValue) → PropsValue
from_props p = record { anchor = p.first; tag = p.second }

stable_props : Stable PropsValue
stable_props = stable_by to_props from_props (λ v. refl) (stable_both (stable_option stable_text) (stable_option (stable_by tag_texts tag_from tag_back (stable_list stable_text))))

-- events: a number for the kind, a flag, properties, a style and a text
record Parts : Type 0 where
  kind : ℕ
  flag : Bool
  props : PropsValue
  style : ScalarStyle
  text : List ℕ

abbrev parts : ℕ → Bool → PropsValue → ScalarStyle → List ℕ → Parts
parts kind flag props style text = record { kind = kind; flag = flag; props = props; style = style; text = text }

abbrev to_parts : Parts → Both ℕ (Both Bool (Both PropsValue (Both ScalarStyle (List ℕ))))
to_parts v = record { first = v.kind; second = record { first = v.flag; second = record { first = v.props; second = record { first = v.style; second = v.text } } } }

abbrev from_parts : Both ℕ (Both Bool (Both PropsValue (Both ScalarStyle (List ℕ)))) → Parts
from_parts p = record { kind = p.first; flag = p.second.first; props = p.second.second.first; style = p.second.second.second.first; text = p.second.second.second.second }

stable_parts : Stable Parts
stable_parts = stable_by to_parts from_parts (λ v. refl) (stable_both stable_nat (stable_both stable_bool (stable_both stable_props (stable_both stable_style stable_text))))

abbrev event_parts : EventValue → Parts
event_parts stream_starts = parts 0 false no_props Plain []
event_parts stream_ends = parts 1 false no_props Plain []
event_parts (document_starts b) = parts 2 b no_props Plain []
event_parts (document_ends b) = parts 3 b no_props Plain []
event_parts (sequence_starts b p) = parts 4 b p Plain []
event_parts sequence_ends = parts 5 false no_props Plain []
event_parts (mapping_starts b p) = parts 6 b p Plain []
event_parts mapping_ends = parts 7 false no_props Plain []
event_parts (scalar_node p s x) = parts 8 false p s x
event_parts (alias_node x) = parts 9 false no_props Plain x

abbrev event_at : ℕ → Bool → PropsValue → ScalarStyle → List ℕ → EventValue
event_at zero b p s x = stream_starts
event_at (suc zero) b p s x = stream_ends
event_at (suc (suc zero)) b p s x = document_starts b
event_at (suc (suc (suc zero))) b p s x = document_ends b
event_at (suc (suc (suc (suc zero)))) b p s x = sequence_starts b p
event_at (suc (suc (suc (suc (suc zero))))) b p s x = sequence_ends
event_at (suc (suc (suc (suc (suc (suc zero)))))) b p s x = mapping_starts b p
event_at (suc (suc (suc (suc (suc (suc (suc zero))))))) b p s x = mapping_ends
event_at (suc (suc (suc (suc (suc (suc (suc (suc zero)))))))) b p s x = scalar_node p s x
event_at n b p s x = alias_node x

abbrev event_from : Parts → EventValue
event_from p = event_at p.kind p.flag p.props p.style p.text

event_back : (e : EventValue) → event_from (event_parts e) ≡ e
event_back stream_starts = refl
event_back stream_ends = refl
event_back (document_starts b) = refl
event_back (document_ends b) = refl
event_back (sequence_starts b p) = refl
event_back sequence_ends = refl
event_back (mapping_starts b p) = refl
event_back mapping_ends = refl
event_back (scalar_node p s x) = refl
event_back (alias_node x) = refl

stable_event : Stable EventValue
stable_event = stable_by event_parts event_from event_back stable_parts

abbrev to_placed : EventInText → Both EventValue (Both (Option Span) (Both (Option ℕ) (Both (Option Entry) (List (List ℕ)))))
to_placed v = record { first = v.event; second = record { first = v.span; second = record { first = v.tag_offset; second = record { first = v.entry; second = v.folded } } } }

abbrev from_placed : Both EventValue (Both (Option Span) (Both (Option ℕ) (Both (Option Entry) (List (List ℕ))))) → EventInText
from_placed p = record { event = p.first; span = p.second.first; tag_offset = p.second.second.first; entry = p.second.second.second.first; folded = p.second.second.second.second }

pub stable_placed : Stable EventInText
stable_placed = stable_by to_placed from_placed (λ v. refl) (stable_both stable_event (stable_both (stable_option stable_span) (stable_both (stable_option stable_nat) (stable_both (stable_option stable_entry) (stable_list stable_text)))))

abbrev to_meaning : Meaning → Both (List EventInText) (Both (List CommentValue) (Both (List ℕ) ℕ))
to_meaning v = record { first = v.events; second = record { first = v.comments; second = record { first = v.escapes; second = v.finish } } }

abbrev from_meaning : Both (List EventInText) (Both (List CommentValue) (Both (List ℕ) ℕ)) → Meaning
from_meaning p = record { events = p.first; comments = p.second.first; escapes = p.second.second.first; finish = p.second.second.second }

pub stable_meaning : Stable Meaning
stable_meaning = stable_by to_meaning from_meaning (λ v. refl) (stable_both (stable_list stable_placed) (stable_both (stable_list stable_comment) (stable_both stable_text stable_nat)))
