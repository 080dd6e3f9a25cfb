-- Directives and streams (6.8, 9): from the relations of `Stream` to the standard's productions.
use Rattle.std.proofs.Common.{◌≡◌, ◌≢◌, ℕ, ◌+◌, ◌<◌, ◌≤◌, Bool, true, false, true≢false, ◌&&◌, ◌==◌, List, [], ◌∷◌, length, codes, slice_range, refl, sym, ap, ◌∙◌, subst, ⊎_elim, arith}
use Rattle.std.proofs.lemmas.Bool.{cases_lt, cases_Bool, and_parts, eqb-true, eq-eqb, or_cases}
use Rattle.std.specs.Str.{IsUtf8}
use Rattle.yf_chars.specs.Text.{code, next}
use Rattle.yf_chars.specs.Class.{is_ns_char, is_break_char, is_white, is_digit, is_white_or_end}
use Rattle.yf_chars.specs.Chain.{One}
use Rattle.yf_chars.specs.Chain.One.{one}
use Rattle.yf_lines.specs.Basic.{SeparateInLine, is_three}
use Rattle.yf_comments.specs.Comment.{CommentValue}
use Rattle.yf_comments.specs.Comments.{LineEnd}
use Rattle.yf_props.specs.Names.{Run}
use Rattle.yf_grammar.specs.Productions.Meaning.{Meaning}
use Rattle.yf_stream.specs.Stream.{ReservedParameter, Parameters, Directives, DirectiveLines, Document, Documents, RootNode, ExplicitNode, AnyDocument, PrefixPart, Prefixes, Suffixes, StreamRest, Stream}
use Rattle.yf_stream.specs.Stream.ReservedParameter.{reserved_parameter}
use Rattle.yf_stream.specs.Stream.Parameters.{version_parameter, tag_parameters, reserved_parameters}
use Rattle.yf_stream.specs.Stream.DirectiveLines.{last_directive, more_directives}
use Rattle.yf_stream.specs.Stream.ExplicitNode.{marked_node, marked_nothing}
use Rattle.yf_stream.specs.Stream.AnyDocument.{bare_document, explicit_document, directive_document}
use Rattle.yf_stream.specs.Stream.PrefixPart.{order_mark, prefix_comment}
use Rattle.yf_stream.specs.Stream.Suffixes.{last_suffix, more_suffixes}
use Rattle.yf_stream.specs.Stream.StreamRest.{stream_ended, past_prefix, past_suffixes, past_suffixes_and_document, past_explicit}
use Rattle.yf_stream.specs.Stream.Stream.{begins_with_document, without_document}
use Rattle.yf_standard.specs.Characters.{x, c-directive, c-byte-order-mark}
use Rattle.yf_standard.specs.Notation.{Form}
use Rattle.yf_standard.specs.Notation.Condition.{end-of-input}
use Rattle.yf_standard.specs.Characters.{b-char, s-white}
use Rattle.yf_standard.proofs.Sets.{white_is, break_char_is}
use Rattle.yf_chars.proofs.TextLemmas.{reads_byte, code_at_boundary}
use Rattle.std.specs.Str.{IsCharBoundary}
use Rattle.yf_chars.specs.Text.{no_char}
use Rattle.yf_lines.specs.Basic.{ForbiddenLine, is_marker}
use Rattle.std.proofs.Common.{◌||◌, ◌⊎◌, inl, inr}
use Rattle.yf_standard.specs.Notation.Form.{⟨◌⟩, c-forbidden, ε, ‹◌›, ◌∣◌, ◌⁇, ◌⋆, ◌⁺, ◌∙◌ as ◌then◌, s-separate-in-line, l-comment, l-directive, ns-reserved-directive, ns-directive-parameter, ns-yaml-directive, ns-tag-directive, l-document-prefix, l-document-suffix, l-bare-document, l-explicit-document, l-any-document, l-yaml-stream}
use Rattle.yf_standard.specs.Productions.{rule}
use Rattle.yf_standard.specs.Rules.{read, is_name_yaml, is_name_tag}
use Rattle.yf_standard.specs.Literal.{kind}
use Rattle.yf_standard.specs.Literal.Derived.{by_rule, nothing, one_of, one_then, in_left, in_right, absent, present, no_more, one_more, at_least_one, where_holds, clear_of_markers}
use Rattle.yf_standard.proofs.BasicsMade.{Read, one_char, many_made, some_chars_made, in_line_made, l_comment_made, comments_made}
use Rattle.yf_standard.proofs.PropertiesMade.{handle_made, prefix_made}
use Rattle.yf_standard.proofs.QuotedMade.{star_then}
use Rattle.yf_standard.proofs.NodesMade.{made}
use Rattle.yf_standard.proofs.Sets.{ns_char_is, dec_digit_is}
use Rattle.yf_standard.proofs.Texts.{some_first}
use Rattle.yf_standard.proofs.DirectiveNames.{many_tail, yaml_name, tag_name, yaml_slice, tag_slice}
use Rattle.yf_grammar.proofs.BlockOutcomes.BlockKeys.{end_not_ns}
use Rattle.yf_standard.proofs.DirectivesRead.{ns_65, ns_77, ns_76, ns_71}

-- the rest of a run
run_tail : {t : List ℕ} {p : ℕ → Bool} {a k : ℕ} → Run (One t p) a k → code t a < 128 → p (code t (a + 1)) ≡ true → Run (One t p) (a + 1) k
run_tail {t} {p} {a} {k} r l e =
    let m = many_tail r.chain r.some l in
    record { characters = m.0; chain = m.1; some = ⊎_elim (λ (b : a + 1 < k). b) (λ (b : k ≤ a + 1). absurd (ends (later b))) (cases_lt (a + 1) k); all = r.all }
  where
    later : k ≤ a + 1 → k ≡ a + 1
    later b = let s = r.some in omega (arith, s, b)

    ends : k ≡ a + 1 → ⊥
    ends q = r.all.none (next t k) (code t k ∷ []) (one (ap (λ z. p (code t z)) q ∙ e))

run_last : {t : List ℕ} {p : ℕ → Bool} {a k : ℕ} → Run (One t p) a k → code t a < 128 → p (code t (a + 1)) ≡ false → k ≡ a + 1
run_last {t} {p} {a} {k} r l e =
    let m = many_tail r.chain r.some l in
    let s = r.some in
    ⊎_elim (λ (b : a + 1 < k). absurd (true≢false (sym (some_first m.1 b) ∙ e))) (λ (b : k ≤ a + 1). omega (arith, s, b)) (cases_lt (a + 1) k)

ns_at : (t : List ℕ) (a b c : ℕ) → a + 1 ≡ b → code t b ≡ c → is_ns_char c ≡ true → is_ns_char (code t (a + 1)) ≡ true
ns_at t a b c q e v = ap (λ z. is_ns_char (code t z)) q ∙ ap is_ns_char e ∙ v

-- N3
no_yaml : (t : List ℕ) (a k : ℕ) → IsUtf8 t → Run (One t is_ns_char) a k → slice_range t a k ≢ codes "YAML" → is_name_yaml t a ≡ false
unfolding is_name_yaml
no_yaml t a k u r n =
    ⊎_elim (λ (e : is_name_yaml t a ≡ true). absurd (go e)) (λ (e : is_name_yaml t a ≡ false). e) (cases_Bool (is_name_yaml t a))
  where
    go : is_name_yaml t a ≡ true → ⊥
    go e =
        let p = and_parts (code t a == 89) ((code t (a + 1) == 65) && ((code t (a + 2) == 77) && ((code t (a + 3) == 76) && is_white_or_end (code t (a + 4))))) e in
        let q = and_parts (code t (a + 1) == 65) ((code t (a + 2) == 77) && ((code t (a + 3) == 76) && is_white_or_end (code t (a + 4)))) p.1 in
        let s = and_parts (code t (a + 2) == 77) ((code t (a + 3) == 76) && is_white_or_end (code t (a + 4))) q.1 in
        let w = and_parts (code t (a + 3) == 76) (is_white_or_end (code t (a + 4))) s.1 in
        let c0 : code t a ≡ 89 = eqb-true (code t a) 89 p.0 in
        let c1 : code t (a + 1) ≡ 65 = eqb-true (code t (a + 1)) 65 q.0 in
        let c2 : code t (a + 2) ≡ 77 = eqb-true (code t (a + 2)) 77 s.0 in
        let c3 : code t (a + 3) ≡ 76 = eqb-true (code t (a + 3)) 76 w.0 in
        let two : a + 1 + 1 ≡ a + 2 = omega arith in
        let three : a + 2 + 1 ≡ a + 3 = omega arith in
        let four : a + 3 + 1 ≡ a + 4 = omega arith in
        let r1 : Run (One t is_ns_char) (a + 1) k = run_tail r (omega arith) (ap is_ns_char c1 ∙ ns_65) in
        let r2 : Run (One t is_ns_char) (a + 2) k = subst (λ z. Run (One t is_ns_char) z k) two (run_tail r1 (omega arith) (ns_at t (a + 1) (a + 2) 77 two c2 ns_77)) in
        let r3 : Run (One t is_ns_char) (a + 3) k = subst (λ z. Run (One t is_ns_char) z k) three (run_tail r2 (omega arith) (ns_at t (a + 2) (a + 3) 76 three c3 ns_76)) in
        let k4 : k ≡ a + 4 = run_last r3 (omega arith) (ap (λ z. is_ns_char (code t z)) four ∙ end_not_ns (code t (a + 4)) w.1) ∙ four in
        n (ap (slice_range t a) k4 ∙ yaml_slice t a u c0 c1 c2 c3)

no_tag : (t : List ℕ) (a k : ℕ) → IsUtf8 t → Run (One t is_ns_char) a k → slice_range t a k ≢ codes "TAG" → is_name_tag t a ≡ false
unfolding is_name_tag
no_tag t a k u r n =
    ⊎_elim (λ (e : is_name_tag t a ≡ true). absurd (go e)) (λ (e : is_name_tag t a ≡ false). e) (cases_Bool (is_name_tag t a))
  where
    go : is_name_tag t a ≡ true → ⊥
    go e =
        let p = and_parts (code t a == 84) ((code t (a + 1) == 65) && ((code t (a + 2) == 71) && is_white_or_end (code t (a + 3)))) e in
        let q = and_parts (code t (a + 1) == 65) ((code t (a + 2) == 71) && is_white_or_end (code t (a + 3))) p.1 in
        let s = and_parts (code t (a + 2) == 71) (is_white_or_end (code t (a + 3))) q.1 in
        let c0 : code t a ≡ 84 = eqb-true (code t a) 84 p.0 in
        let c1 : code t (a + 1) ≡ 65 = eqb-true (code t (a + 1)) 65 q.0 in
        let c2 : code t (a + 2) ≡ 71 = eqb-true (code t (a + 2)) 71 s.0 in
        let two : a + 1 + 1 ≡ a + 2 = omega arith in
        let three : a + 2 + 1 ≡ a + 3 = omega arith in
        let r1 : Run (One t is_ns_char) (a + 1) k = run_tail r (omega arith) (ap is_ns_char c1 ∙ ns_65) in
        let r2 : Run (One t is_ns_char) (a + 2) k = subst (λ z. Run (One t is_ns_char) z k) two (run_tail r1 (omega arith) (ns_at t (a + 1) (a + 2) 71 two c2 ns_71)) in
        let k3 : k ≡ a + 3 = run_last r2 (omega arith) (ap (λ z. is_ns_char (code t z)) three ∙ end_not_ns (code t (a + 3)) s.1) ∙ three in
        n (ap (slice_range t a) k3 ∙ tag_slice t a u c0 c1 c2)

-- [84] and [85]
parameter_made : {t : List ℕ} {room : ℕ} (i j : ℕ) (w : List (List ℕ)) → ReservedParameter t i j w → Read t room (s-separate-in-line then ns-directive-parameter) i j
unfolding rule kind read
parameter_made i j w (reserved_parameter s n r) = one_then (in_line_made s) (by_rule refl (one_then (where_holds n) (some_chars_made ns_char_is r.chain r.some)))

char_to : {t : List ℕ} {room : ℕ} (i j d : ℕ) → i + 1 ≡ j → d < 128 → code t i ≡ d → Read t room (‹ x d ›) i j
char_to {t} {room} i j d q l e = subst (λ z. Read t room (‹ x d ›) i z) q (one_char t i d l e)

-- [83], [86] to [88]
module _ (t : List ℕ) (room : ℕ) (u : IsUtf8 t) where
  yaml_made : {a k j : ℕ} → Run (One t is_ns_char) a k → slice_range t a k ≡ codes "YAML" → (p d : ℕ) → SeparateInLine t k p → Run (One t is_digit) p d → code t d ≡ 46
      → Run (One t is_digit) (d + 1) j → Read t room ns-yaml-directive a j
  unfolding rule kind
  yaml_made {a} {k} r e p d s v o f =
      let n = yaml_name t a k u r e in
      let two : a + 1 + 1 ≡ a + 2 = omega arith in
      let three : a + 2 + 1 ≡ a + 3 = omega arith in
      let four : a + 3 + 1 ≡ k = omega (arith, n.end) in
      by_rule refl (one_then (one_char t a 89 (omega arith) n.y) (one_then (char_to (a + 1) (a + 2) 65 two (omega arith) n.a1) (one_then (char_to (a + 2) (a + 3) 77 three (omega arith) n.m)
      (one_then (char_to (a + 3) k 76 four (omega arith) n.l) (one_then (in_line_made s)
      (by_rule refl (one_then (some_chars_made dec_digit_is v.chain v.some) (one_then (one_char t d 46 (omega arith) o) (some_chars_made dec_digit_is f.chain f.some)))))))))

  parameters_made : {a k j : ℕ} {w : List (List ℕ)} → Run (One t is_ns_char) a k → Parameters t (slice_range t a k) k j w
      → Read t room (ns-yaml-directive ∣ ns-tag-directive ∣ ns-reserved-directive) a j
  unfolding rule kind read
  parameters_made r (version_parameter {k = p} {d = d} e s v o f) = in_left (yaml_made r e p d s v o f)
  parameters_made {a} {k} r (tag_parameters e s h q p) =
      let n = tag_name t a k u r e in
      let two : a + 1 + 1 ≡ a + 2 = omega arith in
      let three : a + 2 + 1 ≡ k = omega (arith, n.end) in
      in_right (in_left (by_rule refl (one_then (one_char t a 84 (omega arith) n.t1) (one_then (char_to (a + 1) (a + 2) 65 two (omega arith) n.a1) (one_then (char_to (a + 2) k 71 three (omega arith) n.g)
      (one_then (in_line_made s) (one_then (handle_made h) (one_then (in_line_made q) (prefix_made p)))))))))
  parameters_made {a} {k} r (reserved_parameters y g c) =
      in_right (in_right (by_rule refl (one_then (where_holds (no_yaml t a k u r y, no_tag t a k u r g)) (one_then (by_rule refl (some_chars_made ns_char_is r.chain r.some)) (many_made parameter_made c)))))

  -- [82], one or more
  record Lines (i j : ℕ) : Type 0 where
    at : ℕ
    first : Read t room l-directive i at
    rest : Read t room (l-directive ⋆) at j

  directives_made : {i j : ℕ} {w : Directives} → DirectiveLines t i j w → Lines i j
  unfolding rule kind c-directive
  directives_made {j = j} (last_directive {i = i} e r p d) = record { at = j; first = by_rule refl (one_then (one_char t i 37 (omega arith) e) (one_then (parameters_made r p) (comments_made d))); rest = no_more }
  directives_made (more_directives a b) = let p = directives_made a in let q = directives_made b in record { at = p.at; first = p.first; rest = star_then p.rest (one_more q.first q.rest) }

  -- [203] and [204]
  three_made : (i c : ℕ) → c < 128 → is_three t i c ≡ true → Read t room (‹ x c › then ‹ x c › then ‹ x c › then ε) i (i + 3)
  unfolding is_three
  three_made i c l e =
      let p = and_parts (code t i == c) ((code t (i + 1) == c) && (code t (i + 2) == c)) e in
      let q = and_parts (code t (i + 1) == c) (code t (i + 2) == c) p.1 in
      let two : i + 1 + 1 ≡ i + 2 = omega arith in
      let three : i + 2 + 1 ≡ i + 3 = omega arith in
      one_then (one_char t i c l (eqb-true (code t i) c p.0)) (one_then (char_to (i + 1) (i + 2) c two l (eqb-true (code t (i + 1)) c q.0)) (one_then (char_to (i + 2) (i + 3) c three l (eqb-true (code t (i + 2)) c q.1)) nothing))

  -- [206]
  after_three : (i c : ℕ) → c < 128 → is_three t i c ≡ true → code t (i + 3) ≡ no_char → i + 3 ≡ length t
  unfolding is_three
  after_three i c l e n =
      let p = and_parts (code t i == c) ((code t (i + 1) == c) && (code t (i + 2) == c)) e in
      let q = and_parts (code t (i + 1) == c) (code t (i + 2) == c) p.1 in
      let r = reads_byte t (i + 2) c u (eqb-true (code t (i + 2)) c q.1) l in
      let three : i + 2 + 1 ≡ i + 3 = omega arith in
      let b : IsCharBoundary t (i + 3) = subst (λ z. IsCharBoundary t z) three r.boundary in
      let w = r.within in
      ⊎_elim (λ (f : i + 3 < length t). let z = code_at_boundary t (i + 3) u b f in absurd (omega (arith, z, n))) (λ (f : length t ≤ i + 3). omega (arith, f, w)) (cases_lt (i + 3) (length t))

  marker_end : (i c : ℕ) → c < 128 → is_three t i c ≡ true → is_white_or_end (code t (i + 3)) ≡ true → (j : ℕ) × Read t room (‹ b-char › ∣ ‹ s-white › ∣ ⟨ end-of-input ⟩) (i + 3) j
  unfolding is_white_or_end read
  marker_end i c l e n = go (or_cases (is_white (code t (i + 3)) || is_break_char (code t (i + 3))) (code t (i + 3) == no_char) n) where
    go : ((is_white (code t (i + 3)) || is_break_char (code t (i + 3))) ≡ true) ⊎ ((code t (i + 3) == no_char) ≡ true) → (j : ℕ) × Read t room (‹ b-char › ∣ ‹ s-white › ∣ ⟨ end-of-input ⟩) (i + 3) j
    go (inl a) =
        ⊎_elim (λ (w : is_white (code t (i + 3)) ≡ true). (next t (i + 3), in_right (in_left (one_of (white_is (code t (i + 3)) ∙ w)))))
        (λ (w : is_break_char (code t (i + 3)) ≡ true). (next t (i + 3), in_left (one_of (break_char_is (code t (i + 3)) ∙ w))))
        (or_cases (is_white (code t (i + 3))) (is_break_char (code t (i + 3))) a)
    go (inr a) = (i + 3, in_right (in_right (where_holds (after_three i c l e (eqb-true (code t (i + 3)) no_char a)))))

  pub forbidden_made : (i : ℕ) → ForbiddenLine t i → (j : ℕ) × Read t room c-forbidden i j
  unfolding rule kind read is_marker
  forbidden_made i f = go (or_cases (is_three t i 45) (is_three t i 46) p.0) where
    p : ((is_three t i 45 || is_three t i 46) ≡ true) × (is_white_or_end (code t (i + 3)) ≡ true)
    p = and_parts (is_three t i 45 || is_three t i 46) (is_white_or_end (code t (i + 3))) f.marker

    go : (is_three t i 45 ≡ true) ⊎ (is_three t i 46 ≡ true) → (j : ℕ) × Read t room c-forbidden i j
    go (inl a) =
        let e = marker_end i 45 (omega arith) a p.1 in
        (e.0, by_rule refl (one_then (where_holds f.start) (one_then (in_left (by_rule refl (three_made i 45 (omega arith) a))) e.1)))
    go (inr a) =
        let e = marker_end i 46 (omega arith) a p.1 in
        (e.0, by_rule refl (one_then (where_holds f.start) (one_then (in_right (by_rule refl (three_made i 46 (omega arith) a))) e.1)))

  -- [202]
  mark_made : (i : ℕ) → code t i ≡ 0xFEFF → Read t room (‹ c-byte-order-mark ›) i (next t i)
  unfolding c-byte-order-mark x
  mark_made i e = one_of (eq-eqb (code t i) 0xFEFF e)

  prefix_part : (i j : ℕ) (w : List CommentValue) → PrefixPart t i j w → Read t room l-document-prefix i j
  unfolding rule kind
  prefix_part i j w (order_mark e) = by_rule refl (one_then (present (mark_made i e)) no_more)
  prefix_part i j w (prefix_comment c) = by_rule refl (one_then absent (one_more (l_comment_made i j w c) no_more))

  prefixes_made : {i j : ℕ} {w : List CommentValue} → Prefixes t i j w → Read t room (l-document-prefix ⋆) i j
  prefixes_made c = many_made prefix_part c

  -- [205]
  suffix_made : {i j : ℕ} {w : List CommentValue} → is_three t i 46 ≡ true → LineEnd t (i + 3) j w → Read t room l-document-suffix i j
  unfolding rule kind
  suffix_made {i} e l = by_rule refl (one_then (by_rule refl (three_made i 46 (omega arith) e)) (comments_made l))

  suffix_star : {i j : ℕ} {w : List CommentValue} → Suffixes t i j w → Read t room (l-document-suffix ⋆) i j
  suffix_star (last_suffix e l) = one_more (suffix_made e l) no_more
  suffix_star (more_suffixes e l s) = one_more (suffix_made e l) (suffix_star s)

  suffixes_made : {i j : ℕ} {w : List CommentValue} → Suffixes t i j w → Read t room (l-document-suffix ⁺) i j
  suffixes_made (last_suffix e l) = at_least_one (suffix_made e l) no_more
  suffixes_made (more_suffixes e l s) = at_least_one (suffix_made e l) (suffix_star s)

  -- [207] to [210]
  root_made : {h i j : ℕ} {w : Meaning} → h ≤ room → RootNode t h i j w → Read t room l-bare-document i j
  unfolding rule kind
  root_made l r = by_rule refl (clear_of_markers (made t r.derived l) r.clear)

  explicit_made : {h i j : ℕ} {w : Meaning} → h ≤ room → ExplicitNode t h i j w → Read t room l-explicit-document i j
  unfolding rule kind
  explicit_made l (marked_node {i = i} e r) = by_rule refl (one_then (by_rule refl (three_made i 45 (omega arith) e)) (in_left (root_made l r)))
  explicit_made l (marked_nothing {i = i} e c) = by_rule refl (one_then (by_rule refl (three_made i 45 (omega arith) e)) (in_right (one_then (by_rule refl (by_rule refl nothing)) (comments_made c))))

  any_made : {h i j : ℕ} {d : Document} {w : List CommentValue} → h ≤ room → AnyDocument t h i j d w → Read t room l-any-document i j
  unfolding rule kind
  any_made l (bare_document r c) = by_rule refl (in_right (in_right (root_made l r)))
  any_made l (explicit_document r) = by_rule refl (in_right (in_left (explicit_made l r)))
  any_made l (directive_document d r) = let p = directives_made d in by_rule refl (in_left (by_rule refl (one_then (at_least_one p.first p.rest) (explicit_made l r))))

  -- [211]
  abbrev Round : Form
  Round = l-document-suffix ⁺ then l-document-prefix ⋆ then l-any-document ⁇ ∣ ‹ c-byte-order-mark › ∣ l-comment ∣ l-explicit-document

  rest_made : {h i : ℕ} {w : Documents} → h ≤ room → StreamRest t h i w → Read t room (Round ⋆) i (length t)
  rest_made l stream_ended = no_more
  rest_made l (past_prefix {i = i} (order_mark e) r) = one_more (in_right (in_left (mark_made i e))) (rest_made l r)
  rest_made l (past_prefix {i = i} {k = k} {cs = w} (prefix_comment c) r) = one_more (in_right (in_right (in_left (l_comment_made i k w c)))) (rest_made l r)
  rest_made l (past_suffixes s p r) = one_more (in_left (one_then (suffixes_made s) (one_then (prefixes_made p) absent))) (rest_made l r)
  rest_made l (past_suffixes_and_document s p d r) =
      one_more (in_left (one_then (suffixes_made s) (one_then (prefixes_made p) (present (any_made (omega (arith, l)) d))))) (rest_made (omega (arith, l)) r)
  rest_made l (past_explicit d r) = one_more (in_right (in_right (in_right (explicit_made (omega (arith, l)) d)))) (rest_made (omega (arith, l)) r)

  pub stream_made : {h : ℕ} {w : Documents} → h ≤ room → Stream t h w → Read t room l-yaml-stream 0 (length t)
  unfolding rule kind
  stream_made l (begins_with_document p d r) = by_rule refl (one_then (prefixes_made p) (one_then (present (any_made (omega (arith, l)) d)) (rest_made (omega (arith, l)) r)))
  stream_made l (without_document p r) = by_rule refl (one_then (prefixes_made p) (one_then absent (rest_made l r)))
