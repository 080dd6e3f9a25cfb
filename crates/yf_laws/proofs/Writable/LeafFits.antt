-- Leaves on one line that read back: plain and quoted scalars, aliases, and nodes that have only properties.
use Rattle.std.proofs.Common.{◌≡◌, ◌≢◌, ℕ, ◌+◌, ◌<◌, ◌≤◌, Bool, true, false, true≢false, List, [], ◌∷◌, ◌++◌, length, flat_map, Option, None, refl, sym, ap, ◌∙◌, subst, arith, encode_utf8_all}
use Rattle.std.specs.Prelude.{is_some}
use Rattle.std.specs.Str.{IsUtf8, chars}
use Rattle.std.proofs.lemmas.Str.{encodes-chars, scalars-chars}
use Rattle.yf_chars.specs.declared.context.Ctx.{Ctx}
use Rattle.yf_lines.specs.Basic.{is_block}
use Rattle.yf_lines.specs.Rest.{Rest}
use Rattle.yf_props.specs.Props.{PropsValue, no_props}
use Rattle.yf_props.specs.Written.{IsName, IsProps, props_bytes, tag_offset_at}
use Rattle.yf_quoted.specs.Written.{all_nb, double_bytes_in, single_bytes, spelled_in, twice}
use Rattle.yf_quoted.proofs.QuotedBack.{double_in_line}
use Rattle.yf_quoted.proofs.WriteLemmas.{double_in_back}
use Rattle.yf_events.specs.Alike.{Alike, alike_scalars, alike_aliases}
use Rattle.yf_events.specs.declared.event.ScalarStyle.{ScalarStyle}
use Rattle.yf_events.specs.declared.event.ScalarStyle.TheVariants.{Plain, Single, Double}
use Rattle.yf_events.specs.Tree.{NodeOffsets, Node, scalar as scalar_tree, alias as alias_tree}
use Rattle.yf_grammar.specs.Productions.OneLineTexts.{Back, JsonBack}
use Rattle.yf_grammar.specs.Productions.Meaning.{Meaning, scalar, alias_to, empty_node, plain_event, from_to, with_props}
use Rattle.yf_grammar.specs.Productions.TreesOfMeaning.{Anywhere, MeansTrees, tall}
use Rattle.yf_grammar.proofs.WrittenTexts.LeafBack.{alias_node_back, single_json_back, double_json_back, json_back, props_node_back, json_props_back}
use Rattle.yf_forms.specs.declared.style.Style.{Style}
use Rattle.yf_laws.specs.Layouts.ReadableTrees.{IsNoMarker, ColonFits, colon_at_once, colon_apart, InlineNode}
use Rattle.yf_laws.specs.Layouts.WrittenQuotes.{QuotesWritten}
use Rattle.yf_forms.specs.Nodes.OneLine.{spaced, props_text, written, colon_after, colon_after_props}
use Rattle.yf_forms.specs.Nodes.Lines.{is_empty_text}
use Rattle.yf_laws.proofs.Derived.ClearRows.{space_is_after, unmarked_first, unmarked_more}
use Rattle.yf_laws.proofs.Derived.CollectionsMade.{same_props, some_props}
use Rattle.yf_laws.proofs.Derived.RowTexts.{props_unmarked}
use Rattle.yf_laws.proofs.Derived.ScalarsMade.{spaced_some}
use Rattle.yf_laws.proofs.OutputLines.HeldLemmas.{empty_silent}
use Rattle.yf_laws.proofs.Writable.WrittenQuotes.{alias_quotes, content_after, content_first, empty_with_quotes, plain_quotes, plain_with_quotes, scalar_quotes, scalar_with_quotes}

-- Texts.

-- with properties before it
pub props_before : {p : PropsValue} (w : List ℕ) → IsProps p → p ≢ no_props → is_empty_text w ≡ false → spaced (props_text p) w ≡ props_bytes p ++ (32 ∷ w)
props_before {p} w k n e = ap (λ z. spaced z w) (same_props k) ∙ spaced_some (props_bytes p) w (some_props k n) e

pub props_alone : {p : PropsValue} → IsProps p → spaced (props_text p) [] ≡ props_bytes p
props_alone {p} k = without (props_text p) ∙ same_props k where
  without : (w : List ℕ) → spaced w [] ≡ w
  without [] = refl
  without (b ∷ w) = refl

pub unmarked_with : {p : PropsValue} (w : List ℕ) → IsProps p → p ≢ no_props → IsNoMarker (props_bytes p ++ (32 ∷ w))
unmarked_with w k n = unmarked_more 32 w (props_unmarked k n) (omega arith) space_is_after

-- Meanings.

pub scalar_meant : {at : NodeOffsets} {style : ScalarStyle} {text : List ℕ} (v : List ℕ) (i j : ℕ) → is_some at.span ≡ true → v ≡ text → MeansTrees (scalar_tree at no_props style text []) (scalar style v [] i j)
unfolding scalar plain_event from_to
scalar_meant {at} {style} {text} v i j e same = record {
  node = scalar_tree (record { span = from_to i j; tag_offset = None; entry = None }) no_props style v [];
  alike = subst (λ z. Alike Anywhere (scalar_tree at no_props style text []) (scalar_tree (record { span = from_to i j; tag_offset = None; entry = None }) no_props style z [])) (sym same) (alike_scalars e);
  events = refl;
  escapes = refl;
}

pub scalar_with_meant : {at : NodeOffsets} {style : ScalarStyle} {text : List ℕ} (v : List ℕ) (p : PropsValue) (o : Option ℕ) (f g i j : ℕ) → is_some at.span ≡ true → v ≡ text
    → MeansTrees (scalar_tree at p style text []) (with_props p o f g (scalar style v [] i j))
unfolding scalar plain_event from_to with_props
scalar_with_meant {at} {style} {text} v p o f g i j e same = record {
  node = scalar_tree (record { span = from_to f j; tag_offset = o; entry = None }) p style v [];
  alike = subst (λ z. Alike Anywhere (scalar_tree at p style text []) (scalar_tree (record { span = from_to f j; tag_offset = o; entry = None }) p style z [])) (sym same) (alike_scalars e);
  events = refl;
  escapes = refl;
}

pub alias_meant : {at : NodeOffsets} {name : List ℕ} (i j : ℕ) → is_some at.span ≡ true → MeansTrees (alias_tree at name) (alias_to name i j)
unfolding alias_to plain_event from_to
alias_meant {name = name} i j e = record { node = alias_tree (record { span = from_to i j; tag_offset = None; entry = None }) name; alike = alike_aliases e; events = refl; escapes = refl }

pub props_alone_meant : {at : NodeOffsets} (p : PropsValue) (o : Option ℕ) (f g i : ℕ) → is_some at.span ≡ true → MeansTrees (scalar_tree at p Plain [] []) (with_props p o f g (empty_node i))
unfolding empty_node plain_event from_to with_props
props_alone_meant p o f g i e = record { node = scalar_tree (record { span = from_to f g; tag_offset = o; entry = None }) p Plain [] []; alike = alike_scalars e; events = refl; escapes = refl }

pub no_comments : (style : ScalarStyle) (v : List ℕ) (i j : ℕ) → (scalar style v [] i j).comments ≡ []
unfolding scalar
no_comments style v i j = refl

pub no_comments_with : (p : PropsValue) (o : Option ℕ) (f g : ℕ) (m : Meaning) → m.comments ≡ [] → (with_props p o f g m).comments ≡ []
unfolding with_props
no_comments_with p o f g m e = e

no_alias_comments : (name : List ℕ) (i j : ℕ) → (alias_to name i j).comments ≡ []
unfolding alias_to
no_alias_comments name i j = refl

-- Nodes.

pub line_node : (house : Style) {c : Ctx} {x : Node} {json colon : Bool} {height : ℕ} {mean : ℕ → Meaning} (w : List ℕ) → written house x ≡ w → Back json colon c w height mean → IsNoMarker w → height ≤ tall x
    → ((q : ℕ) → MeansTrees x (mean q)) → ((q : ℕ) → (mean q).comments ≡ []) → ((t : List ℕ) (q : ℕ) (r : List ℕ) → IsUtf8 t → Rest t q (w ++ r) → QuotesWritten house t (mean q).events)
    → ColonFits colon (colon_after x) → InlineNode house c x
line_node house {c} {x} {json} {colon} {height} {mean} w e back n low meant silent quoted fits = record {
  node = record {
    json = json;
    colon = colon;
    height = height;
    mean = mean;
    back = subst (λ v. Back json colon c v height mean) (sym e) back;
    unmarked = subst (λ v. IsNoMarker v) (sym e) n;
    low = low;
    meant = meant;
    silent = silent;
    quoted = λ t q r u z. quoted t q r u (subst (λ v. Rest t q (v ++ r)) e z);
  };
  colon = fits;
}

-- a plain scalar that has characters
pub plain_inline : (house : Style) {c : Ctx} {at : NodeOffsets} (b : ℕ) (w : List ℕ) → is_some at.span ≡ true → Back false true c (b ∷ w) 0 (λ q. scalar Plain (b ∷ w) [] q (q + length (b ∷ w))) → IsNoMarker (b ∷ w)
    → InlineNode house c (scalar_tree at no_props Plain (b ∷ w) [])
plain_inline house b w e back n =
    line_node house (b ∷ w) refl back n (omega arith) (λ q. scalar_meant (b ∷ w) q (q + length (b ∷ w)) e refl) (λ q. no_comments Plain (b ∷ w) q (q + length (b ∷ w)))
    (λ t q r u z. plain_quotes house t (b ∷ w) q (q + length (b ∷ w))) (colon_at_once refl)

pub plain_with_inline : (house : Style) {c : Ctx} {at : NodeOffsets} {p : PropsValue} (b : ℕ) (w : List ℕ) → is_some at.span ≡ true → IsProps p → p ≢ no_props
    → Back false true c (props_bytes p ++ (32 ∷ b ∷ w)) 0
    (λ q. with_props p (tag_offset_at q p.anchor p.tag) q (q + length (props_bytes p)) (scalar Plain (b ∷ w) [] (q + length (props_bytes p) + 1) (q + length (props_bytes p ++ (32 ∷ b ∷ w)))))
    → InlineNode house c (scalar_tree at p Plain (b ∷ w) [])
plain_with_inline house {p = p} b w e props some back =
    line_node house (props_bytes p ++ (32 ∷ b ∷ w)) (props_before (b ∷ w) props some refl) back (unmarked_with (b ∷ w) props some) (omega arith)
    (λ q. scalar_with_meant (b ∷ w) p (tag_offset_at q p.anchor p.tag) q (q + length (props_bytes p)) (q + length (props_bytes p) + 1) (q + length (props_bytes p ++ (32 ∷ b ∷ w))) e refl)
    (λ q. no_comments_with p (tag_offset_at q p.anchor p.tag) q (q + length (props_bytes p)) (scalar Plain (b ∷ w) [] (q + length (props_bytes p) + 1) (q + length (props_bytes p ++ (32 ∷ b ∷ w))))
    (no_comments Plain (b ∷ w) (q + length (props_bytes p) + 1) (q + length (props_bytes p ++ (32 ∷ b ∷ w)))))
    (λ t q r u z. plain_with_quotes house t (b ∷ w) p _ q _ _ _) (colon_at_once refl)

pub alias_inline : (house : Style) {c : Ctx} {at : NodeOffsets} {name : List ℕ} → is_block c ≡ false → is_some at.span ≡ true → IsName name → InlineNode house c (alias_tree at name)
alias_inline house {c} {at} {name} k e n =
    line_node house (42 ∷ name) refl (alias_node_back c k n) (unmarked_first 42 name (omega arith) (λ e. omega arith) (λ e. omega arith) (λ e. omega arith)) (omega arith)
    (λ q. alias_meant q _ e) (λ q. no_alias_comments name q _) (λ t q r u z. alias_quotes house t name q _) colon_apart

-- an empty node with properties
pub props_inline : (house : Style) {c : Ctx} {at : NodeOffsets} {p : PropsValue} → is_block c ≡ false → is_some at.span ≡ true → IsProps p → p ≢ no_props → InlineNode house c (scalar_tree at p Plain [] [])
props_inline house {c} {at} {p} k e props some =
    line_node house (props_bytes p) (props_alone props) (props_node_back c k props some) (props_unmarked props some) (omega arith)
    (λ q. props_alone_meant p _ q _ _ e) (λ q. no_comments_with p _ q _ _ (empty_silent _)) (λ t q r u z. empty_with_quotes house t p _ q _ _) (apart (props_text p) (ap is_empty_text (same_props props) ∙ some_props props some)) where
      apart : (w : List ℕ) → is_empty_text w ≡ false → ColonFits false (colon_after_props w)
      apart [] e = absurd (true≢false e)
      apart (b ∷ w) e = colon_apart

-- quoted scalars
quote_unmarked : (b : ℕ) (w : List ℕ) → 33 ≤ b → b < 40 → IsNoMarker (b ∷ w)
quote_unmarked b w l h = unmarked_first b w (omega arith) (λ e. omega arith) (λ e. omega arith) (λ e. omega arith)

pub single_inline : (house : Style) {c : Ctx} {at : NodeOffsets} {text : List ℕ} → is_block c ≡ false → is_some at.span ≡ true → IsUtf8 text → all_nb (chars text) ≡ true → InlineNode house c (scalar_tree at no_props Single text [])
single_inline house {c} {at} {text} k e u n =
    line_node house (single_bytes (chars text)) refl (json_back (single_json_back c (chars text) k n)) (quote_unmarked 39 _ (omega arith) (omega arith)) (omega arith)
    (λ q. scalar_meant (encode_utf8_all (chars text)) q _ e (encodes-chars text u)) (λ q. no_comments Single (encode_utf8_all (chars text)) q _)
    (λ t q r v z. scalar_quotes house t Single (encode_utf8_all (chars text)) text q _ u (encodes-chars text u) (content_first 39 (encode_utf8_all (flat_map twice (chars text)) ++ 39 ∷ []) r v z)) (colon_at_once refl)

pub single_with_inline : (house : Style) {c : Ctx} {at : NodeOffsets} {p : PropsValue} {text : List ℕ} → is_block c ≡ false → is_some at.span ≡ true → IsProps p → p ≢ no_props → IsUtf8 text → all_nb (chars text) ≡ true
    → InlineNode house c (scalar_tree at p Single text [])
single_with_inline house {c} {at} {p} {text} k e props some u n =
    line_node house (props_bytes p ++ (32 ∷ single_bytes (chars text))) (props_before (single_bytes (chars text)) props some refl) (json_props_back props some (single_json_back c (chars text) k n))
    (unmarked_with (single_bytes (chars text)) props some) (omega arith)
    (λ q. scalar_with_meant (encode_utf8_all (chars text)) p _ q _ _ _ e (encodes-chars text u)) (λ q. no_comments_with p _ q _ _ (no_comments Single (encode_utf8_all (chars text)) _ _))
    (λ t q r v z. scalar_with_quotes house t Single (encode_utf8_all (chars text)) text p _ q _ _ _ u (encodes-chars text u)
    (content_after 39 (encode_utf8_all (flat_map twice (chars text)) ++ 39 ∷ []) r v props some (omega arith) (omega arith) (λ e. omega (arith, e)) (λ e. omega (arith, e)) z)) (colon_at_once refl)

double_text_back : (house : Style) (c : Ctx) (text : List ℕ) → is_block c ≡ false → IsUtf8 text
    → JsonBack c (double_bytes_in house.invisible (chars text)) 0 (λ q. scalar Double (encode_utf8_all (chars text)) [] q (q + length (double_bytes_in house.invisible (chars text))))
double_text_back house c text k u =
    let a = scalars-chars text u in
    double_json_back c (chars text) k (double_in_line house.invisible (chars text) a) (double_in_back house.invisible (chars text) a)

pub double_inline : (house : Style) {c : Ctx} {at : NodeOffsets} {text : List ℕ} → is_block c ≡ false → is_some at.span ≡ true → IsUtf8 text → InlineNode house c (scalar_tree at no_props Double text [])
double_inline house {c} {at} {text} k e u =
    line_node house (double_bytes_in house.invisible (chars text)) refl (json_back (double_text_back house c text k u)) (quote_unmarked 34 _ (omega arith) (omega arith)) (omega arith)
    (λ q. scalar_meant (encode_utf8_all (chars text)) q _ e (encodes-chars text u)) (λ q. no_comments Double (encode_utf8_all (chars text)) q _)
    (λ t q r v z. scalar_quotes house t Double (encode_utf8_all (chars text)) text q _ u (encodes-chars text u) (content_first 34 (encode_utf8_all (flat_map (spelled_in house.invisible) (chars text)) ++ 34 ∷ []) r v z)) (colon_at_once refl)

pub double_with_inline : (house : Style) {c : Ctx} {at : NodeOffsets} {p : PropsValue} {text : List ℕ} → is_block c ≡ false → is_some at.span ≡ true → IsProps p → p ≢ no_props → IsUtf8 text
    → InlineNode house c (scalar_tree at p Double text [])
double_with_inline house {c} {at} {p} {text} k e props some u =
    line_node house (props_bytes p ++ (32 ∷ double_bytes_in house.invisible (chars text))) (props_before (double_bytes_in house.invisible (chars text)) props some refl) (json_props_back props some (double_text_back house c text k u))
    (unmarked_with (double_bytes_in house.invisible (chars text)) props some) (omega arith)
    (λ q. scalar_with_meant (encode_utf8_all (chars text)) p _ q _ _ _ e (encodes-chars text u)) (λ q. no_comments_with p _ q _ _ (no_comments Double (encode_utf8_all (chars text)) _ _))
    (λ t q r v z. scalar_with_quotes house t Double (encode_utf8_all (chars text)) text p _ q _ _ _ u (encodes-chars text u)
    (content_after 34 (encode_utf8_all (flat_map (spelled_in house.invisible) (chars text)) ++ 34 ∷ []) r v props some (omega arith) (omega arith) (λ e. omega (arith, e)) (λ e. omega (arith, e)) z)) (colon_at_once refl)
