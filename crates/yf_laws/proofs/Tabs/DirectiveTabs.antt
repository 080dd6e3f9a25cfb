-- The words of directives have no tab.
use Rattle.std.proofs.Common.{◌≡◌, ◌≢◌, ℕ, ⊎_elim, Bool, true, true≢false, List, [], ◌∷◌, ◌++◌, flat_map, sym, ap, ◌∙◌, subst, arith}
use Rattle.std.specs.Str.{IsUtf8}
use Rattle.yf_chars.specs.Class.{is_between, is_break_char, is_digit, is_nb_char, is_ns_char, is_printable, is_white}
use Rattle.yf_lines.specs.LineText.Follows.{nothing_follows}
use Rattle.yf_lines.proofs.RestLemmas.{line_append, line_nothing, rest_start}
use Rattle.yf_lines.proofs.VisibleLines.{visible_line}
use Rattle.yf_props.specs.Written.{AllOf}
use Rattle.yf_props.proofs.NamesMade.{RunText}
use Rattle.yf_props.proofs.SolidLemmas.{hex_solid, tag_solid, uri_solid}
use Rattle.yf_events.specs.declared.directive.Directive.{Directive}
use Rattle.yf_events.specs.declared.document.Doc.{Doc}
use Rattle.yf_events.specs.Tree.{DocumentTree}
use Rattle.yf_forms.specs.declared.style.Style.{Style}
use Rattle.yf_laws.specs.Layouts.FitDocuments.{FitDirective, FitDirectives, fit_no_directives, fit_directive, FitDocuments, fit_no_documents, fit_document}
use Rattle.yf_print.specs.Layouts.Rows.{joined_words}
use Rattle.yf_laws.specs.Preservation.Tokens.{HasText, first_text, later_text, TabsWithin}
use Rattle.yf_laws.proofs.Writable.DirectivesFit.{AreParameters, no_parameters, a_parameter, AreWords, version_words, tag_words, other_words, IsPrefix, local_text, itself_text, escape_text, IsVersion, word_made, words_made}
use Rattle.yf_laws.proofs.Texts.LineUtf8.{line_utf8}
use Rattle.yf_laws.proofs.Tabs.PiecesRead.{either_text, none_text}
use Rattle.yf_laws.proofs.Tabs.RowTokens.{AreTabless, sign, tabs_append, words_in}
use Rattle.yf_laws.proofs.Tabs.TokenTabs.{Tabless, chars_tabs, handle_tabs, solid_tabs, spelled_tabs}

no_ns : (c : ℕ) → is_ns_char c ≡ true → c ≢ 9
unfolding is_ns_char is_nb_char is_printable is_between is_break_char is_white
no_ns c e f = true≢false (sym e ∙ ap is_ns_char f)

no_digit : (c : ℕ) → is_digit c ≡ true → c ≢ 9
unfolding is_digit is_between
no_digit c e f = true≢false (sym e ∙ ap is_digit f)

of_class : {p : ℕ → Bool} → ((c : ℕ) → p c ≡ true → c ≢ 9) → (cs : List ℕ) → AllOf p cs → Tabless cs
of_class f [] a = tt
of_class f (c ∷ cs) a = (f c a.0, of_class f cs a.1)

module _ (Token : List ℕ → Type 0) where
  abbrev Tabs : List ℕ → Type 0
  Tabs x = TabsWithin Token x

  run_tabs : {p : ℕ → Bool} {w : List ℕ} → ((c : ℕ) → p c ≡ true → c ≢ 9) → RunText p w → Tabs w
  run_tabs f a = subst (λ z. Tabs z) a.bytes (chars_tabs Token a.chars (of_class f a.chars a.each))

  prefix_tabs : {w : List ℕ} → IsPrefix w → Tabs w
  prefix_tabs (local_text k) = sign Token 33 (omega arith) (spelled_tabs Token uri_solid k)
  prefix_tabs (itself_text {c = c} e k) = solid_tabs Token c (tag_solid c e) (spelled_tabs Token uri_solid k)
  prefix_tabs (escape_text {a = a} {b = b} e f k) = sign Token 37 (omega arith) (solid_tabs Token a (hex_solid a e) (solid_tabs Token b (hex_solid b f) (spelled_tabs Token uri_solid k)))

  version_tabs : {w : List ℕ} → IsVersion w → Tabs w
  version_tabs a = subst (λ z. Tabs z) (sym a.bytes) (tabs_append Token (run_tabs no_digit a.major_is) (sign Token 46 (omega arith) (run_tabs no_digit a.minor_is)))

  no_words : AreTabless Token []
  no_words = λ w h. none_text h

  one_word : {w : List ℕ} {ws : List (List ℕ)} → Tabs w → AreTabless Token ws → AreTabless Token (w ∷ ws)
  one_word {w} {ws} a more = by where
    by : (v : List ℕ) → HasText v (w ∷ ws) → Tabs v
    by v (first_text e) = subst (λ z. Tabs z) (sym e) a
    by v (later_text h) = more v h

  joined_tabless : (vs ws : List (List ℕ)) → AreTabless Token vs → AreTabless Token ws → AreTabless Token (vs ++ ws)
  joined_tabless vs ws a b = λ w h. ⊎_elim (λ (k : HasText w vs). a w k) (λ (k : HasText w ws). b w k) (either_text vs ws h)

  parameters_tabs : {ws : List (List ℕ)} → AreParameters ws → AreTabless Token ws
  parameters_tabs no_parameters = no_words
  parameters_tabs (a_parameter a more) = one_word (run_tabs no_ns a.text) (parameters_tabs more)

  others_tabs : {name : List ℕ} {ws : List (List ℕ)} → AreWords name ws → AreTabless Token ws
  others_tabs (version_words e a) = one_word (version_tabs a) no_words
  others_tabs (tag_words e a b) = one_word (handle_tabs Token a) (one_word (prefix_tabs b) no_words)
  others_tabs (other_words e f a) = parameters_tabs a

  -- a directive reads back, so its words are words of a directive
  directive_tabs : {ws : List (List ℕ)} → FitDirective ws → AreTabless Token ws
  directive_tabs {ws} f =
      let u : IsUtf8 (37 ∷ (joined_words ws ++ [])) = line_utf8 (visible_line 37 (omega arith) (omega arith) (line_append f.line line_nothing)) in
      let at = f.made 0 [] u nothing_follows (rest_start (37 ∷ (joined_words ws ++ [])) u) in
      subst (λ z. AreTabless Token z) at.are (one_word (run_tabs no_ns (word_made u at.name)) (others_tabs (words_made u at.parameters)))

  directives_tabs : {ds : List Directive} → FitDirectives ds → AreTabless Token (flat_map (λ (e : Directive). e.words) ds)
  directives_tabs fit_no_directives = no_words
  directives_tabs (fit_directive {d = d} {ds = ds} f fs) = joined_tabless d.words (flat_map (λ (e : Directive). e.words) ds) (directive_tabs f) (directives_tabs fs)

  pub words_tabless : {house : Style} {ds : List Doc} {xs : List DocumentTree} → FitDocuments house ds xs → AreTabless Token (words_in ds)
  words_tabless fit_no_documents = no_words
  words_tabless (fit_document {d = d} {ds = ds} f fit more) = joined_tabless (flat_map (λ (e : Directive). e.words) d.directives) (words_in ds) (directives_tabs f) (words_tabless more)
