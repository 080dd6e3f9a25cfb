-- Names, tags, properties and texts in double quotes have no tab.
use Rattle.std.proofs.Common.{◌≡◌, ◌≢◌, ℕ, ◌<◌, ◌≤◌, ◌/◌, ◌%◌, ⊎_elim, Bool, true, false, true≢false, List, [], ◌∷◌, ◌++◌, Option, Some, None, flat_map, refl, sym, ap, ◌∙◌, subst, arith, append-nil}
use Rattle.std.specs.Prelude.{encode_utf8_all}
use Rattle.std.proofs.lemmas.Bool.{cases_Bool, cases_lt}
use Rattle.std.proofs.lemmas.Bool.Decides.{nat_tests}
use Rattle.std.proofs.lemmas.Str.{encode_ascii}
use lib.Utf8.{encode}
use Rattle.yf_chars.specs.Class.{is_anchor_char, is_between, is_break_char, is_flow_indicator, is_nb_char, is_ns_char, is_printable, is_white, is_word_char}
use Rattle.yf_chars.specs.Hidden.{is_spelled_out}
use Rattle.yf_chars.proofs.HiddenLemmas.{spelled_alike, spelled_apart}
use Rattle.yf_lines.specs.declared.invisible.Invisible.{Invisible}
use Rattle.yf_lines.specs.declared.invisible.Invisible.TheVariants.{Plain, Escaped}
use Rattle.yf_chars.specs.Escape.{by_number, is_by_four, is_by_two, short_name, spelled, spelled_long, two_digits, upper_digit}
use Rattle.yf_chars.proofs.EscapeLemmas.{few_digits, many_digits, spelled_four, spelled_letter, spelled_none, spelled_self, spelled_two}
use Rattle.yf_props.specs.Props.{PropsValue, TagValue}
use Rattle.yf_props.specs.Written.{AllOf, IsName, IsSpelled, nothing_spelled, itself_spelled, escape_spelled, IsHandle, primary_form, secondary_form, named_form, IsTag, verbatim_form, short_form, lone_form, IsProps, tag_bytes, parts_bytes, props_bytes}
use Rattle.yf_props.proofs.SeparationEnds.{Solid}
use Rattle.yf_props.proofs.SolidLemmas.{hex_solid, tag_solid, uri_solid, word_solid}
use Rattle.yf_quoted.specs.Written.{double_bytes_in, spelled_in}
use Rattle.yf_laws.specs.Preservation.Tokens.{TabsWithin, a_token, at_end, no_tab}
use Rattle.yf_laws.proofs.Texts.HighBytes.{AllHigh, all_high}
use Rattle.yf_laws.proofs.Tabs.RowTokens.{sign, tabs_append}

-- characters other than the tab
abbrev pub Tabless : List ℕ → Type 0
Tabless [] = Unit {0}
Tabless (c ∷ cs) = (c ≢ 9) × Tabless cs

tabless_append : (cs ds : List ℕ) → Tabless cs → Tabless ds → Tabless (cs ++ ds)
tabless_append [] ds a b = b
tabless_append (c ∷ cs) ds a b = (a.0, tabless_append cs ds a.1 b)

module _ (Token : List ℕ → Type 0) where
  abbrev Tabs : List ℕ → Type 0
  Tabs x = TabsWithin Token x

  pub one_token : {w : List ℕ} → Token w → Tabs w
  one_token {w} t = subst (λ z. Tabs z) (append-nil w) (a_token t at_end)

  high_tabs : (bs : List ℕ) → AllHigh bs → Tabs bs
  high_tabs [] a = at_end
  high_tabs (b ∷ bs) a = let l : 128 ≤ b = a.0 in sign Token b (omega (arith, l)) (high_tabs bs a.1)

  char_tabs : (c : ℕ) → c ≢ 9 → Tabs (encode c)
  char_tabs c n = ⊎_elim (λ (l : c < 128). subst (λ z. Tabs z) (sym (encode_ascii c l)) (no_tab n at_end)) (λ (l : 128 ≤ c). high_tabs (encode c) (all_high c l)) (cases_lt c 128)

  pub chars_tabs : (cs : List ℕ) → Tabless cs → Tabs (encode_utf8_all cs)
  chars_tabs [] a = at_end
  chars_tabs (c ∷ cs) a = tabs_append Token (char_tabs c a.0) (chars_tabs cs a.1)

  -- Names and tags.

  no_anchor : (c : ℕ) → is_anchor_char c ≡ true → c ≢ 9
  unfolding is_anchor_char is_ns_char is_nb_char is_printable is_between is_break_char is_white is_flow_indicator
  no_anchor c e f = true≢false (sym e ∙ ap is_anchor_char f)

  anchors : (cs : List ℕ) → AllOf is_anchor_char cs → Tabless cs
  anchors [] a = tt
  anchors (c ∷ cs) a = (no_anchor c a.0, anchors cs a.1)

  pub name_tabs : {x : List ℕ} → IsName x → Tabs x
  name_tabs n = subst (λ z. Tabs z) n.bytes (chars_tabs n.chars (anchors n.chars n.each))

  pub solid_tabs : (c : ℕ) {x : List ℕ} → Solid c → Tabs x → Tabs (c ∷ x)
  solid_tabs c s a = let l : 33 ≤ c = s.low in sign Token c (omega (arith, l)) a

  pub spelled_tabs : {p : ℕ → Bool} {x : List ℕ} → ((c : ℕ) → p c ≡ true → Solid c) → IsSpelled p x → Tabs x
  spelled_tabs S nothing_spelled = at_end
  spelled_tabs S (itself_spelled {c = c} e k) = solid_tabs c (S c e) (spelled_tabs S k)
  spelled_tabs S (escape_spelled {a = a} {b = b} e f k) = sign Token 37 (omega arith) (solid_tabs a (hex_solid a e) (solid_tabs b (hex_solid b f) (spelled_tabs S k)))

  words_tabs : (x : List ℕ) → AllOf is_word_char x → Tabs x
  words_tabs [] a = at_end
  words_tabs (c ∷ x) a = solid_tabs c (word_solid c a.0) (words_tabs x a.1)

  pub handle_tabs : {h : List ℕ} → IsHandle h → Tabs h
  handle_tabs primary_form = sign Token 33 (omega arith) at_end
  handle_tabs secondary_form = sign Token 33 (omega arith) (sign Token 33 (omega arith) at_end)
  handle_tabs (named_form {x = x} a n) = sign Token 33 (omega arith) (tabs_append Token (words_tabs x a) (sign Token 33 (omega arith) at_end))

  tag_tabs : {v : TagValue} → IsTag v → Tabs (tag_bytes v)
  tag_tabs (verbatim_form k n) = sign Token 33 (omega arith) (sign Token 60 (omega arith) (tabs_append Token (spelled_tabs uri_solid k) (sign Token 62 (omega arith) at_end)))
  tag_tabs (short_form a k n) = tabs_append Token (handle_tabs a) (spelled_tabs tag_solid k)
  tag_tabs lone_form = sign Token 33 (omega arith) at_end

  pub props_tabless : {p : PropsValue} → IsProps p → Tabs (props_bytes p)
  props_tabless {p} k = go p.anchor p.tag refl refl where
    go : (a : Option (List ℕ)) (v : Option TagValue) → p.anchor ≡ a → p.tag ≡ v → Tabs (parts_bytes a v)
    go None None e g = at_end
    go None (Some v) e g = tag_tabs (k.tag v g)
    go (Some a) None e g = sign Token 38 (omega arith) (name_tabs (k.anchor a e))
    go (Some a) (Some v) e g = sign Token 38 (omega arith) (tabs_append Token (name_tabs (k.anchor a e)) (sign Token 32 (omega arith) (tag_tabs (k.tag v g))))

  -- Double quotes.

  no_letter : (c l : ℕ) → short_name c ≡ Some l → l ≢ 9
  unfolding short_name
  no_letter c l e f = grind (arith, nat_tests)

  no_digit : (d : ℕ) → upper_digit d ≢ 9
  unfolding upper_digit
  no_digit d e = grind (arith, nat_tests)

  digits : (v : ℕ) → Tabless (two_digits v)
  unfolding two_digits
  digits v = (no_digit (v / 16), (no_digit (v % 16), tt))

  no_long : (c : ℕ) → is_by_two c ≡ false → c ≢ 9
  unfolding is_by_two is_between
  no_long c e f = true≢false (sym (ap is_by_two f) ∙ e)

  long_tabless : (c : ℕ) → Tabless (spelled_long c)
  long_tabless c =
      ⊎_elim (λ (e : is_by_two c ≡ true). subst (λ z. Tabless z) (sym (spelled_two c e)) ((λ z. omega (arith, z)), ((λ z. omega (arith, z)), digits c)))
      (λ (e : is_by_two c ≡ false).
      ⊎_elim (λ (f : is_by_four c ≡ true).
      subst (λ z. Tabless z) (sym (spelled_four c e f))
      (tabless_append (92 ∷ 117 ∷ two_digits (c / 256)) (two_digits (c % 256)) ((λ z. omega (arith, z)), ((λ z. omega (arith, z)), digits (c / 256))) (digits (c % 256))))
      (λ (f : is_by_four c ≡ false). subst (λ z. Tabless z) (sym (spelled_self c e f)) (no_long c e, tt)) (cases_Bool (is_by_four c)))
      (cases_Bool (is_by_two c))

  spelled_tabless : (c : ℕ) → Tabless (spelled c)
  spelled_tabless c = go (short_name c) refl where
    go : (o : Option ℕ) → short_name c ≡ o → Tabless (spelled c)
    go (Some l) e = subst (λ z. Tabless z) (sym (spelled_letter c l e)) ((λ z. omega (arith, z)), (no_letter c l e, tt))
    go None e = subst (λ z. Tabless z) (sym (spelled_none c e)) (long_tabless c)

  number_tabless : (c : ℕ) → Tabless (by_number c)
  number_tabless c =
      ⊎_elim (λ (l : c < 0x10000). subst (λ z. Tabless z) (sym (few_digits c l))
      (tabless_append (92 ∷ 117 ∷ two_digits (c / 256)) (two_digits (c % 256)) ((λ z. omega (arith, z)), ((λ z. omega (arith, z)), digits (c / 256))) (digits (c % 256))))
      (λ (l : 0x10000 ≤ c). subst (λ z. Tabless z) (sym (many_digits c l))
      (tabless_append (92 ∷ 85 ∷ two_digits 0) _ ((λ z. omega (arith, z)), ((λ z. omega (arith, z)), digits 0))
      (tabless_append (two_digits (c / 65536)) _ (digits (c / 65536)) (tabless_append (two_digits (c / 256 % 256)) _ (digits (c / 256 % 256)) (digits (c % 256))))))
      (cases_lt c 0x10000)

  spelled_in_tabless : (i : Invisible) (c : ℕ) → Tabless (spelled_in i c)
  spelled_in_tabless Plain c = spelled_tabless c
  spelled_in_tabless Escaped c =
      ⊎_elim (λ (e : is_spelled_out c ≡ true). subst (λ z. Tabless z) (sym (spelled_apart c e)) (number_tabless c))
      (λ (e : is_spelled_out c ≡ false). subst (λ z. Tabless z) (sym (spelled_alike c e)) (spelled_tabless c)) (cases_Bool (is_spelled_out c))

  all_spelled : (i : Invisible) (cs : List ℕ) → Tabless (flat_map (spelled_in i) cs)
  all_spelled i [] = tt
  all_spelled i (c ∷ cs) = tabless_append (spelled_in i c) (flat_map (spelled_in i) cs) (spelled_in_tabless i c) (all_spelled i cs)

  pub double_tabs : (i : Invisible) (cs : List ℕ) → Tabs (double_bytes_in i cs)
  double_tabs i cs = sign Token 34 (omega arith) (tabs_append Token (chars_tabs (flat_map (spelled_in i) cs) (all_spelled i cs)) (sign Token 34 (omega arith) at_end))
