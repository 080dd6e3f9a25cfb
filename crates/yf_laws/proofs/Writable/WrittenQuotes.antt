-- The meaning of a node on one line: its quoted scalars are there as they are written.
use Rattle.std.proofs.Common.{◌≡◌, ◌≢◌, ℕ, ◌+◌, ◌<◌, pos, Bool, true, false, true≢false, List, [], ◌∷◌, ◌++◌, length, Option, Some, sym, ap, ◌∙◌, subst, arith, append_assoc}
use Rattle.std.specs.Prelude.{slice_range}
use Rattle.std.specs.Str.{IsUtf8}
use Rattle.yf_chars.specs.declared.context.Ctx.TheVariants.{FlowOut}
use Rattle.yf_chars.specs.Text.{code}
use Rattle.yf_lines.specs.LineText.{IsLineText}
use Rattle.yf_lines.specs.Rest.{Rest}
use Rattle.yf_lines.proofs.RestLemmas.{rest_ascii, rest_is_at, rest_text, slice_back}
use Rattle.yf_props.specs.Props.{PropsValue, no_props}
use Rattle.yf_props.specs.Written.{IsProps, props_at, props_bytes}
use Rattle.yf_events.specs.Event.{EventInText}
use Rattle.yf_events.specs.declared.event.Entry.{Entry}
use Rattle.yf_events.specs.declared.event.ScalarStyle.{ScalarStyle}
use Rattle.yf_events.specs.declared.event.ScalarStyle.TheVariants.{Plain}
use Rattle.yf_grammar.specs.Productions.Meaning.{Meaning, ◌⊕◌, alias_to, collection, empty_node, entering, first_entering, from_to, plain_event, scalar, with_props}
use Rattle.yf_grammar.proofs.NodesInText.NodePlaces.{content_alone}
use Rattle.yf_grammar.proofs.WrittenTexts.LeafBack.{propertied}
use Rattle.yf_stream.proofs.Uniqueness.OneDirective.{ascii_ns}
use Rattle.yf_forms.specs.Nodes.ContentStart.{content_start}
use Rattle.yf_forms.specs.Nodes.OneLine.{scalar_text}
use Rattle.yf_forms.specs.declared.style.Style.{Style}
use Rattle.yf_laws.specs.Layouts.WrittenQuotes.{QuotesWritten, no_quotes, one_quote}
use Rattle.yf_laws.proofs.Writable.ContentFound.{content_found, content_starts_are_found}

-- Contents.

-- a text that begins with a sign, without properties and after some
pub content_first : {t : List ℕ} {q : ℕ} (c : ℕ) (w r : List ℕ) → IsUtf8 t → Rest t q ((c ∷ w) ++ r)
    → slice_range t (content_start t (record { start = q; end = q + length (c ∷ w) }) no_props) (q + length (c ∷ w)) ≡ c ∷ w
content_first {t} {q} c w r u s =
    let begins : content_start t (record { start = q; end = q + length (c ∷ w) }) no_props ≡ q = content_found u (q + length (c ∷ w)) content_alone (omega arith) in
    ap (λ k. slice_range t k (q + length (c ∷ w))) begins ∙ slice_back (c ∷ w) r (rest_is_at s)

pub content_after : {t : List ℕ} {q : ℕ} {p : PropsValue} (c : ℕ) (w r : List ℕ) → IsUtf8 t → IsProps p → p ≢ no_props → 33 < c → c < 127 → c ≢ 35 → c ≢ 38 → Rest t q ((props_bytes p ++ (32 ∷ c ∷ w)) ++ r)
    → slice_range t (content_start t (record { start = q; end = q + length (props_bytes p) + 1 + length (c ∷ w) }) p) (q + length (props_bytes p) + 1 + length (c ∷ w)) ≡ c ∷ w
content_after {t} {q} {p} c w r u k n low high hash anchor s =
    let here : Rest t q (props_bytes p ++ (32 ∷ ((c ∷ w) ++ r))) = subst (λ z. Rest t q z) (append_assoc (props_bytes p) (32 ∷ c ∷ w) r) s in
    let at = propertied (pos 0) FlowOut ((c ∷ w) ++ r) u k n here in
    let g : ℕ = q + length (props_bytes p) in
    let end : ℕ = g + 1 + length (c ∷ w) in
    let sign : code t (g + 1) ≡ c = (rest_ascii c u (omega (arith, high)) (λ e. omega (arith, low, e)) at.rest).0.char in
    let begins : content_start t (record { start = q; end = end }) p ≡ g + 1 =
    content_starts_are_found t (pos 0) FlowOut q g (g + 1) end (props_at q p) [] u at.properties at.separate (ascii_ns (code t (g + 1)) (omega (arith, low, sign)) (omega (arith, high, sign)))
    (λ e. hash (sym sign ∙ e)) (λ e. anchor (sym sign ∙ e)) (λ e. omega (arith, low, sign, e)) (omega arith) in
    ap (λ z. slice_range t z end) begins ∙ slice_back (c ∷ w) r (rest_is_at at.rest)

-- after some text of one line and two signs
pub past_two : {t : List ℕ} {q : ℕ} (w : List ℕ) (a b : ℕ) (x r : List ℕ) → IsUtf8 t → IsLineText w → 13 < a → a < 128 → 13 < b → b < 128 → Rest t q ((w ++ (a ∷ b ∷ x)) ++ r) → Rest t (q + length w + 2) (x ++ r)
past_two {t} {q} w a b x r u line la ha lb hb s =
    let here : Rest t q (w ++ ((a ∷ b ∷ x) ++ r)) = subst (λ z. Rest t q z) (append_assoc w (a ∷ b ∷ x) r) s in
    let one = (rest_ascii a u ha (λ e. omega (arith, la, e)) (rest_text w u line here).rest).1 in
    let two = (rest_ascii b u hb (λ e. omega (arith, lb, e)) one).1 in
    subst (λ k. Rest t k (x ++ r)) (omega arith) two

-- Leaves.

pub scalar_quotes : (house : Style) (t : List ℕ) (style : ScalarStyle) (v text : List ℕ) (i j : ℕ) → IsUtf8 text → v ≡ text
    → slice_range t (content_start t (record { start = i; end = j }) no_props) j ≡ scalar_text house style text → QuotesWritten house t (scalar style v [] i j).events
unfolding scalar plain_event from_to
scalar_quotes house t style v text i j u e a = one_quote _ (λ f. (subst (λ w. IsUtf8 w) (sym e) u, a ∙ ap (scalar_text house style) (sym e))) no_quotes

pub scalar_with_quotes : (house : Style) (t : List ℕ) (style : ScalarStyle) (v text : List ℕ) (p : PropsValue) (o : Option ℕ) (f g i j : ℕ) → IsUtf8 text → v ≡ text
    → slice_range t (content_start t (record { start = f; end = j }) p) j ≡ scalar_text house style text → QuotesWritten house t (with_props p o f g (scalar style v [] i j)).events
unfolding scalar plain_event from_to with_props
scalar_with_quotes house t style v text p o f g i j u e a = one_quote _ (λ k. (subst (λ w. IsUtf8 w) (sym e) u, a ∙ ap (scalar_text house style) (sym e))) no_quotes

pub plain_quotes : (house : Style) (t v : List ℕ) (i j : ℕ) → QuotesWritten house t (scalar Plain v [] i j).events
unfolding scalar plain_event from_to
plain_quotes house t v i j = one_quote _ (λ f. absurd (true≢false (sym f))) no_quotes

pub plain_with_quotes : (house : Style) (t v : List ℕ) (p : PropsValue) (o : Option ℕ) (f g i j : ℕ) → QuotesWritten house t (with_props p o f g (scalar Plain v [] i j)).events
unfolding scalar plain_event from_to with_props
plain_with_quotes house t v p o f g i j = one_quote _ (λ k. absurd (true≢false (sym k))) no_quotes

pub empty_with_quotes : (house : Style) (t : List ℕ) (p : PropsValue) (o : Option ℕ) (f g i : ℕ) → QuotesWritten house t (with_props p o f g (empty_node i)).events
unfolding empty_node plain_event from_to with_props
empty_with_quotes house t p o f g i = one_quote _ (λ k. absurd (true≢false (sym k))) no_quotes

pub alias_quotes : (house : Style) (t name : List ℕ) (i j : ℕ) → QuotesWritten house t (alias_to name i j).events
unfolding alias_to plain_event
alias_quotes house t name i j = one_quote _ tt no_quotes

-- Collections.

pub quotes_both : {house : Style} {t : List ℕ} {xs ys : List EventInText} → QuotesWritten house t xs → QuotesWritten house t ys → QuotesWritten house t (xs ++ ys)
quotes_both no_quotes b = b
quotes_both (one_quote e a more) b = one_quote e a (quotes_both more b)

pub meanings_quotes : {house : Style} {t : List ℕ} (x y : Meaning) → QuotesWritten house t x.events → QuotesWritten house t y.events → QuotesWritten house t (x ⊕ y).events
unfolding ◌⊕◌
meanings_quotes x y a b = quotes_both a b

pub first_quotes : {house : Style} {t : List ℕ} {es : List EventInText} (entry : Entry) → QuotesWritten house t es → QuotesWritten house t (first_entering entry es)
first_quotes entry no_quotes = no_quotes
first_quotes entry (one_quote e a more) = one_quote (record e { entry = Some entry }) a more

pub entering_quotes : {house : Style} {t : List ℕ} (q : ℕ) (colon : Option ℕ) (x : Meaning) → QuotesWritten house t x.events → QuotesWritten house t (entering q colon x).events
unfolding entering
entering_quotes q colon x a = first_quotes _ a

pub collection_quotes : {house : Style} {t : List ℕ} (sequence flow : Bool) (i j : ℕ) (x : Meaning) → QuotesWritten house t x.events → QuotesWritten house t (collection sequence flow i j x).events
unfolding collection plain_event
collection_quotes true flow i j x a = one_quote _ tt (quotes_both a (one_quote _ tt no_quotes))
collection_quotes false flow i j x a = one_quote _ tt (quotes_both a (one_quote _ tt no_quotes))

pub collection_with_quotes : {house : Style} {t : List ℕ} (p : PropsValue) (o : Option ℕ) (f g : ℕ) (sequence flow : Bool) (i j : ℕ) (x : Meaning) → QuotesWritten house t x.events
    → QuotesWritten house t (with_props p o f g (collection sequence flow i j x)).events
unfolding collection plain_event with_props
collection_with_quotes p o f g true flow i j x a = one_quote _ tt (quotes_both a (one_quote _ tt no_quotes))
collection_with_quotes p o f g false flow i j x a = one_quote _ tt (quotes_both a (one_quote _ tt no_quotes))
