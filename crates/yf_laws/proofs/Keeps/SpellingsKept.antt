-- Formatting leaves spellings and types unchanged.
use Rattle.std.proofs.Common.{◌≡◌, ℕ, Bool, true, false, List, [], ◌∷◌, ◌++◌, map, flat_map, zip, Option, refl, sym, ap, ◌∙◌}
use Rattle.std.specs.Prelude.{◌&&◌, if◌then◌else◌, chars}
use Rattle.std.specs.Str.{IsUtf8}
use Rattle.yf_comments.specs.Comment.{CommentValue}
use Rattle.yf_lines.proofs.CoreSteady.{core_is_steady}
use Rattle.yf_lines.specs.Steady.{is_steady}
use Rattle.yf_lines.specs.declared.quotes.Quotes.{Quotes}
use Rattle.yf_events.specs.Tree.{DocumentTree}
use Rattle.yf_events.specs.declared.document.Doc.{Doc}
use Rattle.yf_events.specs.Event.{EventValue, EventInText, stream_starts, stream_ends, document_starts, document_ends, sequence_starts, sequence_ends, mapping_starts, mapping_ends, scalar_node, alias_node}
use Rattle.yf_events.specs.Reading.{events_of}
use Rattle.yf_events.specs.declared.event.ScalarStyle.{ScalarStyle}
use Rattle.yf_events.specs.declared.event.ScalarStyle.TheVariants.{Plain, Single, Double, Literal, Folded}
use Rattle.yf_events.specs.declared.lists.Lists.{Lists}
use Rattle.yf_quoted.specs.Written.{quotes_in}
use Rattle.yf_stream.proofs.Existence.BreachLemmas.{values}
use Rattle.yf_stream.proofs.LawsHold.{readings_are_one}
use Rattle.yf_stream.specs.ReadingOf.{ReadingOf}
use Rattle.yf_forms.specs.declared.style.Style.{Style}
use Rattle.yf_laws.specs.Format.{IsFormatting}
use Rattle.yf_laws.specs.Preservation.FoundTrees.{FoundTrees, none_found, one_found, words_of}
use Rattle.yf_forms.specs.NormalForms.Restyled.{lines_of, restyled_event, SameButStyles, none_left, one_more}
use Rattle.yf_laws.specs.Preservation.Spellings.{SameSpellings, directive_words, folded_lines, style_of_event, unstyled}
use Rattle.yf_laws.specs.Types.{SameTypes, TypedNode, typed_scalar, is_plain, typed_of_event}
use Rattle.yf_forms.specs.Nodes.ScalarStyles.{has_block_content, quoted_in, style_in, wanted, wanted_of_event}
use Rattle.yf_laws.proofs.SecondRun.FixedLawsHold.{found_reading}
use Rattle.yf_laws.proofs.NormalForms.NormalRestyled.{normal_restyled}
use Rattle.yf_laws.proofs.SameReading.EventsTold.{events_told, folded_in, told_folded}
use Rattle.yf_laws.proofs.SameReading.SameContent.{formats_tags, formats_values, unmarked, unmarked_value}

-- The condition on each event: g for the formatted text's, h for the text's.

module _ {X : Type 0} (s : Style) (g h : EventValue → X) (bare : (v : EventValue) → g (unmarked_value v) ≡ g v) (styled : (flow : Bool) (v : EventValue) → g (restyled_event s flow v) ≡ h v) where
  asked_unmarked : (vs : List EventValue) → map g (unmarked vs) ≡ map g vs
  asked_unmarked [] = refl
  asked_unmarked (v ∷ vs) = ap (λ w. w ∷ map g (unmarked vs)) (bare v) ∙ ap (λ w. g v ∷ w) (asked_unmarked vs)

  asked_styled : {es fs : List EventInText} → SameButStyles s es fs → map g (values fs) ≡ map h (values es)
  asked_styled none_left = refl
  asked_styled (one_more {e = e} {es = es} {fs = fs} flow more) =
      ap (λ w. w ∷ map g (values fs)) (styled flow e.event) ∙ ap (λ w. h e.event ∷ w) (asked_styled more)

  asked : {t u : List ℕ} {r q : Lists} → IsUtf8 t → (f : IsFormatting t s u) → ReadingOf t r → ReadingOf u q → map g (events_of q) ≡ map h (events_of r)
  asked {t} {u} {r} {q} utf8 f a b =
      sym (asked_unmarked (values q.events))
      ∙ (ap (map g) (formats_values utf8 f b)
      ∙ (asked_unmarked (values f.normal.events)
      ∙ (asked_styled (normal_restyled f.is_normal).events ∙ sym (ap (λ (w : Lists). map h (events_of w)) (readings_are_one t f.reading r f.reads a)))))

-- Spellings.

unstyled_bare : (v : EventValue) → unstyled (unmarked_value v) ≡ unstyled v
unstyled_bare stream_starts = refl
unstyled_bare stream_ends = refl
unstyled_bare (document_starts marked) = refl
unstyled_bare (document_ends marked) = refl
unstyled_bare (sequence_starts flow props) = refl
unstyled_bare sequence_ends = refl
unstyled_bare (mapping_starts flow props) = refl
unstyled_bare mapping_ends = refl
unstyled_bare (scalar_node props style text) = refl
unstyled_bare (alias_node name) = refl

unstyled_styled : (house : Style) (flow : Bool) (v : EventValue) → unstyled (restyled_event house flow v) ≡ unstyled v
unstyled_styled house flow stream_starts = refl
unstyled_styled house flow stream_ends = refl
unstyled_styled house flow (document_starts marked) = refl
unstyled_styled house flow (document_ends marked) = refl
unstyled_styled house flow (sequence_starts g props) = refl
unstyled_styled house flow sequence_ends = refl
unstyled_styled house flow (mapping_starts g props) = refl
unstyled_styled house flow mapping_ends = refl
unstyled_styled house flow (scalar_node props style text) = refl
unstyled_styled house flow (alias_node name) = refl

style_bare : (v : EventValue) → style_of_event (unmarked_value v) ≡ style_of_event v
style_bare stream_starts = refl
style_bare stream_ends = refl
style_bare (document_starts marked) = refl
style_bare (document_ends marked) = refl
style_bare (sequence_starts flow props) = refl
style_bare sequence_ends = refl
style_bare (mapping_starts flow props) = refl
style_bare mapping_ends = refl
style_bare (scalar_node props style text) = refl
style_bare (alias_node name) = refl

style_styled : (house : Style) (flow : Bool) (v : EventValue) → style_of_event (restyled_event house flow v) ≡ wanted_of_event v house
style_styled house flow stream_starts = refl
style_styled house flow stream_ends = refl
style_styled house flow (document_starts marked) = refl
style_styled house flow (document_ends marked) = refl
style_styled house flow (sequence_starts g props) = refl
style_styled house flow sequence_ends = refl
style_styled house flow (mapping_starts g props) = refl
style_styled house flow mapping_ends = refl
style_styled house flow (scalar_node props style text) = refl
style_styled house flow (alias_node name) = refl

-- Lines of folded scalars.

brackets_free : (house : Style) (flow : Bool) (v : EventValue) (lines : List (List ℕ)) → lines_of (restyled_event house flow v) lines ≡ lines_of (restyled_event house false v) lines
brackets_free house flow stream_starts lines = refl
brackets_free house flow stream_ends lines = refl
brackets_free house flow (document_starts marked) lines = refl
brackets_free house flow (document_ends marked) lines = refl
brackets_free house flow (sequence_starts g props) lines = refl
brackets_free house flow sequence_ends lines = refl
brackets_free house flow (mapping_starts g props) lines = refl
brackets_free house flow mapping_ends lines = refl
brackets_free house flow (scalar_node props style text) lines = refl
brackets_free house flow (alias_node name) lines = refl

restyled_folded : {house : Style} {es fs : List EventInText} → SameButStyles house es fs → folded_in fs ≡ map (folded_lines house) es
restyled_folded none_left = refl
restyled_folded {house} (one_more {e = e} {es = es} {fs = fs} flow more) =
    ap (λ w. w ∷ folded_in fs) (brackets_free house flow e.event e.folded) ∙ ap (λ w. folded_lines house e ∷ w) (restyled_folded more)

-- Words of directives.

found_words : {s : Style} {cs es : List CommentValue} {u : List ℕ} {ds fs : List Doc} {xs ys : List DocumentTree} → FoundTrees s cs u es ds xs fs ys
    → map (λ (d : Doc). words_of d.directives) fs ≡ map (λ (d : Doc). words_of d.directives) ds
found_words none_found = refl
found_words (one_found {d = d} {e = e} {ds = ds} {fs = fs} w a f more) =
    ap (λ z. z ∷ map (λ (d : Doc). words_of d.directives) fs) (sym w) ∙ ap (λ z. words_of d.directives ∷ z) (found_words more)

pub spellings_kept : (t u : List ℕ) (s : Style) → IsUtf8 t → IsFormatting t s u → SameSpellings s t u
spellings_kept t u s utf8 f = record {
  events = λ r q a b. asked s unstyled unstyled unstyled_bare (unstyled_styled s) utf8 f a b;
  styles = λ r q a b. asked s style_of_event (λ e. wanted_of_event e s) style_bare (style_styled s) utf8 f a b;
  lines = λ r q a b.
      sym (told_folded f.normal.events q.events (events_told utf8 f b))
      ∙ (restyled_folded (normal_restyled f.is_normal).events ∙ sym (ap (λ (w : Lists). map (folded_lines s) w.events) (readings_are_one t f.reading r f.reads a)));
  words = λ r q a b.
      found_words (found_reading t u s q utf8 f b).alike
      ∙ (ap directive_words f.is_normal.is ∙ sym (ap directive_words (readings_are_one t f.reading r f.reads a)));
}

-- Types.

never_plain : (x : List ℕ) (house : Style) → is_plain (quoted_in x house) ≡ false
never_plain x house = by (quotes_in house.invisible (chars x) house.quotes) where
  by : (q : Quotes) → is_plain (style_in q) ≡ false
  by Quotes.Single = refl
  by Quotes.Double = refl

block_or_quoted : (style : ScalarStyle) (x : List ℕ) (house : Style) (b : Bool) → is_plain style ≡ false → is_plain (if b then style else quoted_in x house) ≡ false
block_or_quoted style x house true e = e
block_or_quoted style x house false e = never_plain x house

plain_stays : (x : List ℕ) (house : Style) (b : Bool) → is_steady x ≡ b → (is_plain (if b then Plain else quoted_in x house) && is_steady x) ≡ is_steady x
plain_stays x house true e = refl
plain_stays x house false e = ap (λ w. w && is_steady x) (never_plain x house) ∙ sym e

steady_stays : (style : ScalarStyle) (x : List ℕ) (house : Style) → (is_plain (wanted style x house) && is_steady x) ≡ (is_plain style && is_steady x)
steady_stays Plain x house = plain_stays x house (is_steady x) refl
steady_stays Single x house = ap (λ w. w && is_steady x) (never_plain x house)
steady_stays Double x house = ap (λ w. w && is_steady x) (never_plain x house)
steady_stays Literal x house = ap (λ w. w && is_steady x) (block_or_quoted Literal x house (has_block_content x) refl)
steady_stays Folded x house = ap (λ w. w && is_steady x) (block_or_quoted Folded x house (has_block_content x) refl)

typed_bare : (v : EventValue) → typed_of_event (unmarked_value v) ≡ typed_of_event v
typed_bare stream_starts = refl
typed_bare stream_ends = refl
typed_bare (document_starts marked) = refl
typed_bare (document_ends marked) = refl
typed_bare (sequence_starts flow props) = refl
typed_bare sequence_ends = refl
typed_bare (mapping_starts flow props) = refl
typed_bare mapping_ends = refl
typed_bare (scalar_node props style text) = refl
typed_bare (alias_node name) = refl

typed_styled : (house : Style) (flow : Bool) (v : EventValue) → typed_of_event (restyled_event house flow v) ≡ typed_of_event v
typed_styled house flow stream_starts = refl
typed_styled house flow stream_ends = refl
typed_styled house flow (document_starts marked) = refl
typed_styled house flow (document_ends marked) = refl
typed_styled house flow (sequence_starts g props) = refl
typed_styled house flow sequence_ends = refl
typed_styled house flow (mapping_starts g props) = refl
typed_styled house flow mapping_ends = refl
typed_styled house flow (scalar_node props style text) = ap (λ (b : Bool). λ (tag : Option (List ℕ)). typed_scalar tag b text ∷ []) (steady_stays style text house)
typed_styled house flow (alias_node name) = refl

-- what each event adds, with its tag
abbrev with_tags : List (Option (List ℕ) → List TypedNode) → List (Option (List ℕ)) → List TypedNode
with_tags [] tags = []
with_tags (f ∷ fs) [] = []
with_tags (f ∷ fs) (tag ∷ tags) = f tag ++ with_tags fs tags

tagged_so : (vs : List EventValue) (tags : List (Option (List ℕ))) → flat_map (λ e. typed_of_event e.0 e.1) (zip vs tags) ≡ with_tags (map typed_of_event vs) tags
tagged_so [] tags = refl
tagged_so (v ∷ vs) [] = refl
tagged_so (v ∷ vs) (tag ∷ tags) = ap (λ w. typed_of_event v tag ++ w) (tagged_so vs tags)

pub types_kept : (t u : List ℕ) (s : Style) → IsUtf8 t → IsFormatting t s u → SameTypes t u
types_kept t u s utf8 f = record {
  nodes = λ r q a b.
      let tags : q.resolved ≡ r.resolved =
      formats_tags utf8 f b ∙ (ap (λ (w : Lists). w.resolved) f.is_normal.is ∙ sym (ap (λ (w : Lists). w.resolved) (readings_are_one t f.reading r f.reads a))) in
      tagged_so (events_of q) q.resolved
      ∙ (ap (λ w. with_tags w q.resolved) (asked s typed_of_event typed_of_event typed_bare (typed_styled s) utf8 f a b)
      ∙ (ap (λ w. with_tags (map typed_of_event (events_of r)) w) tags ∙ sym (tagged_so (events_of r) r.resolved)));
  core = core_is_steady;
}
