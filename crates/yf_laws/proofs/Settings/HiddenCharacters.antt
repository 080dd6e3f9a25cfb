-- If hidden characters are to be escaped, no quoted scalar of a formatted text holds one unescaped.
use Rattle.std.proofs.Common.{◌≡◌, ℕ, ◌+◌, ◌-◌, ◌<◌, ◌≤◌, Bool, true, false, true≢false, List, [], ◌∷◌, ◌++◌, length, drop, get_or, flat_map, refl, sym, ap, ◌∙◌, subst, arith, take-append-drop, encode_utf8_all}
use Rattle.std.specs.Prelude.{slice_range, chars, if◌then◌else◌}
use Rattle.std.specs.List.{list_any}
use Rattle.std.specs.Str.{IsUtf8}
use Rattle.std.proofs.lemmas.List.{get_or-drop, length-append, length-drop}
use Rattle.std.proofs.lemmas.Str.{IsCharBoundary-before_ascii, encode_ascii, encodes-append, scalars-chars}
use lib.Utf8.{encodes}
use Rattle.yf_chars.specs.Hidden.{is_hidden, spelled_out}
use Rattle.yf_chars.specs.Text.{code, no_char}
use Rattle.yf_chars.proofs.TextLemmas.{within_from_code}
use Rattle.yf_lines.specs.declared.invisible.Invisible.TheVariants.{Escaped}
use Rattle.yf_lines.specs.declared.quotes.Quotes.{Quotes}
use Rattle.yf_quoted.specs.Written.{double_bytes_in, quotes_for, quotes_in, twice}
use Rattle.yf_events.specs.declared.event.ScalarStyle.{ScalarStyle}
use Rattle.yf_events.specs.declared.event.ScalarStyle.TheVariants.{Plain, Single, Double, Literal, Folded}
use Rattle.yf_forms.specs.Nodes.ContentStart.{content_start}
use Rattle.yf_forms.specs.Nodes.OneLine.{scalar_text}
use Rattle.yf_forms.specs.Nodes.ScalarStyles.{style_in, wanted}
use Rattle.yf_forms.specs.declared.style.Style.{Style}
use Rattle.yf_rule_sets.specs.RuleSets.HiddenCharacters.{is_quoted}
use Rattle.yf_rule_sets.specs.RuleSets.HiddenCharacters.HiddenCharacter.{in_no_quotes}
use Rattle.yf_rule_sets.specs.RuleSets.HiddenCharacters.QuotedPart.{of_quoted}
use Rattle.yf_laws.specs.Settings.HiddenCharacters.{HiddenAreEscaped, HiddenAreFound, QuotesAreSpelled}
use Rattle.yf_laws.proofs.Derived.FormatsRead.{formats_well}
use Rattle.yf_laws.proofs.Formatted.MendedQuoting.{styled_scalar}
use Rattle.yf_laws.proofs.Settings.QuotesFound.{quote_written}
use Rattle.yf_laws.proofs.Settings.ShownCharacters.{AllShown, all_out_shown, all_twice_shown, ascii_shown, both_shown, shown_there}

-- a text between two quotes, of characters that are shown as they are
record InQuotes (w : List ℕ) : Type 0 where
  quote : ℕ
  inner : List ℕ
  is : w ≡ quote ∷ (encode_utf8_all inner ++ quote ∷ [])
  low : quote < 128
  shown : AllShown inner

-- single quotes are only for texts without hidden characters
none_hidden : (cs : List ℕ) (q : Quotes) (b : Bool) → style_in (if b then Quotes.Double else quotes_for cs q) ≡ Single → b ≡ false
none_hidden cs q true e = absurd (apart e) where
  apart : Double ≡ Single → ⊥
  apart e = cc
none_hidden cs q false e = refl

in_quotes : (house : Style) (style : ScalarStyle) (text : List ℕ) → is_quoted style ≡ true → IsUtf8 text → house.invisible ≡ Escaped → wanted style text house ≡ style → InQuotes (scalar_text house style text)
in_quotes house Plain text q u e w = absurd (true≢false (sym q))
in_quotes house Literal text q u e w = absurd (true≢false (sym q))
in_quotes house Folded text q u e w = absurd (true≢false (sym q))
in_quotes house Single text q u e w =
    let chosen : style_in (quotes_in Escaped (chars text) house.quotes) ≡ Single = subst (λ i. style_in (quotes_in i (chars text) house.quotes) ≡ Single) e w in
    record {
      quote = 39;
      inner = flat_map twice (chars text);
      is = refl;
      low = omega arith;
      shown = all_twice_shown (chars text) (none_hidden (chars text) house.quotes (list_any is_hidden (chars text)) chosen);
    }
in_quotes house Double text q u e w = record {
  quote = 34;
  inner = flat_map spelled_out (chars text);
  is = ap (λ i. double_bytes_in i (chars text)) e;
  low = omega arith;
  shown = all_out_shown (chars text) (scalars-chars text u);
}

-- If such a text is between two offsets, no character that begins between them is hidden.

quoted_chars : (quote : ℕ) (inner : List ℕ) → quote < 128 → quote ∷ (encode_utf8_all inner ++ quote ∷ []) ≡ encodes (quote ∷ (inner ++ quote ∷ []))
quoted_chars quote inner l =
    let one : quote ∷ [] ≡ encodes (quote ∷ []) = ap (λ z. z ++ []) (sym (encode_ascii quote l)) in
    ap (λ z. quote ∷ (encode_utf8_all inner ++ z)) one ∙ (ap (λ z. quote ∷ z) (sym (encodes-append inner (quote ∷ [])))
    ∙ ap (λ z. z ++ encodes (inner ++ quote ∷ [])) (sym (encode_ascii quote l)))

shown_between : {u : List ℕ} (a b k : ℕ) (w : List ℕ) → IsUtf8 u → InQuotes w → slice_range u a b ≡ w → a ≤ k → k < b → code u k < no_char → is_hidden (code u k) ≡ false
shown_between {u} a b k w utf8 q e l m n =
    let cs : List ℕ = q.quote ∷ (q.inner ++ q.quote ∷ []) in
    let rest : List ℕ = drop (b - a) (drop a u) in
    let is : w ≡ encodes cs = q.is ∙ quoted_chars q.quote q.inner q.low in
    let here : drop a u ≡ w ++ rest = sym (take-append-drop (b - a) (drop a u)) ∙ ap (λ z. z ++ rest) e in
    let within : k < length u = within_from_code u k n in
    let first : q.quote ≡ get_or u (a + 0) 0 = sym (ap (λ z. get_or z 0 0) (here ∙ ap (λ z. z ++ rest) q.is)) ∙ get_or-drop a u 0 0 in
    let place : a + 0 ≡ a = omega arith in
    let byte : q.quote ≡ get_or u a 0 = first ∙ ap (λ z. get_or u z 0) place in
    let small : q.quote < 128 = q.low in
    let boundary = IsCharBoundary-before_ascii u a (omega (arith, l, within)) (omega (arith, byte, small)) in
    let long : length (drop a u) ≡ length w + length rest = ap length here ∙ length-append w rest in
    let size : length w ≡ length (encodes cs) = ap length is in
    let short : k < a + length (encodes cs) = omega (arith, length-drop a u, length-drop (b - a) (drop a u), long, size, l, m, within) in
    let quote = ascii_shown q.quote q.low in
    shown_there cs rest k utf8 (quote, both_shown q.inner (q.quote ∷ []) q.shown (quote, tt)) (record { bytes = here ∙ ap (λ z. z ++ rest) is; boundary = boundary }) l short n

pub quotes_are_spelled : QuotesAreSpelled
quotes_are_spelled t u s q utf8 f a i props style text span w e = (quote_written t u s q utf8 f a i props style text span w e).1

pub hidden_are_escaped : HiddenAreEscaped
hidden_are_escaped t u s q utf8 f a escaped i k part (of_quoted {props = props} {style = style} {text = text} {s = span} w g) within below =
    let written = quote_written t u s q utf8 f a i props style text span w g in
    let quotes = in_quotes s style text g written.0 escaped (styled_scalar utf8 f a i props style text w.event) in
    shown_between (content_start u span props) span.end k (scalar_text s style text) (formats_well t u s utf8 f).utf8 quotes written.1 within.from within.to below

pub hidden_are_found : HiddenAreFound
hidden_are_found t u s q utf8 f a escaped k below hidden other =
    in_no_quotes escaped below hidden other (λ i part w within. true≢false (sym hidden ∙ hidden_are_escaped t u s q utf8 f a escaped i k part w within below))
