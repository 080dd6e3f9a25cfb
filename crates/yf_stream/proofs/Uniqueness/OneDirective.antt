-- Directives before a `---` have one reading.
use Rattle.std.proofs.Common.{◌≡◌, ◌≢◌, ℕ, ◌+◌, ◌<◌, ◌≤◌, Bool, true, false, List, [], ◌∷◌, ◌++◌, length, slice_range, codes, refl, sym, ap, ◌∙◌, subst, arith, true≢false, append_assoc, append-nil}
use Rattle.std.proofs.lemmas.Bool.Decides.{nat_tests}
use Rattle.std.specs.Str.{IsUtf8}
use Rattle.yf_chars.specs.Text.{code, next}
use Rattle.yf_chars.specs.Class.{is_white, is_digit, is_ns_char, is_nb_char, is_printable, is_between, is_break_char, is_word_char, is_uri_char, is_tag_char}
use Rattle.yf_chars.specs.Chain.{Chain, Functional, Many, One, Stuck}
use Rattle.yf_chars.specs.Chain.One.{one}
use Rattle.yf_chars.specs.Chain.Chain.{done, step}
use Rattle.yf_chars.proofs.ChainLemmas.{chain_forward, chain_meet, many_unique, Meets, one_functional}
use Rattle.yf_chars.proofs.ChainLemmas.Meets.{goes_on, falls_short}
use Rattle.yf_chars.proofs.TextLemmas.{reads_real}
use Rattle.yf_lines.specs.Basic.{SeparateInLine}
use Rattle.yf_lines.specs.Basic.SeparateInLine.{by_whites, at_start}
use Rattle.yf_comments.specs.Comment.{CommentValue}
use Rattle.yf_comments.specs.Comments.{LineEnd, Row}
use Rattle.yf_comments.proofs.RowLemmas.{row_functional, separate_whites, stuck_at_solid}
use Rattle.yf_comments.proofs.LineEndLemmas.{line_end_rows, line_end_stuck, row_stuck}
use Rattle.yf_chars.proofs.ChainLemmas.{stuck_unique}
use Rattle.yf_plain.proofs.PlainLemmas.{ns_below, ns_not_white}
use Rattle.yf_props.specs.Names.{Handle, Run, SpelledChar, TagChar, TagPrefix, UriChar}
use Rattle.yf_props.specs.Names.Handle.{primary_handle, secondary_handle, named_handle}
use Rattle.yf_props.specs.Names.SpelledChar.{as_itself, as_escape}
use Rattle.yf_props.specs.Names.TagPrefix.{local_prefix, global_prefix}
use Rattle.yf_props.proofs.NameLemmas.{run_unique}
use Rattle.yf_props.proofs.SeparationEnds.{Solid}
use Rattle.yf_props.proofs.SolidLemmas.{hex_solid, tag_solid, uri_solid, word_solid}
use Rattle.yf_props.proofs.TagLemmas.{percent_tag, percent_uri, spelled_functional, spelled_stuck, tag_functional}
use Rattle.yf_events.specs.declared.directive.Directive.{Directive}
use Rattle.yf_grammar.proofs.Ends.BlankRuns.{ContentBefore, after_byte, no_start_past}
use Rattle.yf_grammar.proofs.FlowReader.FlowStarts.{no_end_there}
use Rattle.yf_grammar.proofs.Ends.GapLemmas.{Visible, visible_solid}
use Rattle.yf_grammar.proofs.BlockOutcomes.NodesAfter.{solid_ns}
use Rattle.yf_stream.specs.DirectiveReaders.{IsDirective}
use Rattle.yf_stream.specs.Stream.{DirectiveLines, Directives, Parameters, ReservedParameter}
use Rattle.yf_stream.specs.Stream.DirectiveLines.{last_directive, more_directives}
use Rattle.yf_stream.specs.Stream.Parameters.{version_parameter, tag_parameters, reserved_parameters}
use Rattle.yf_stream.specs.Stream.ReservedParameter.{reserved_parameter}
use Rattle.yf_chars.proofs.CharFacts.{exclamation_no_word, exclamation_no_tag}

pub ascii_ns : (c : ℕ) → 33 ≤ c → c < 127 → is_ns_char c ≡ true
unfolding is_ns_char is_nb_char is_printable is_between is_break_char is_white
ascii_ns c l h = grind (arith, nat_tests)

digit_bounds : (c : ℕ) → is_digit c ≡ true → (48 ≤ c) × (c < 58)
unfolding is_digit is_between
digit_bounds c e = (grind (arith, nat_tests), grind (arith, nat_tests))

pub digit_ns : (c : ℕ) → is_digit c ≡ true → is_ns_char c ≡ true
digit_ns c e = let b = digit_bounds c e in ascii_ns c (omega (arith, b.0)) (omega (arith, b.1))

pub yaml_no_tag : codes "YAML" ≡ codes "TAG" → ⊥
yaml_no_tag e = let f = ap length e in absurd (omega arith)

module _ {t : List ℕ} (u : IsUtf8 t) where
  after_next : (i : ℕ) → is_ns_char (code t i) ≡ true → ContentBefore t (next t i)
  after_next i e = record { at = i; char = code t i; reads = reads_real t i u (ns_below (code t i) e); ns = e }

  -- a run of visible characters ends after one
  many_after : {p : ℕ → Bool} {i j : ℕ} {x : List ℕ} → ((c : ℕ) → p c ≡ true → is_ns_char c ≡ true) → Many t p i j x → ContentBefore t i → ContentBefore t j
  many_after f done b = b
  many_after f (step (one {i = i} e) c) b = many_after f c (after_next i (f (code t i) e))

  pub run_first : {p : ℕ → Bool} {i j : ℕ} {x : List ℕ} → Many t p i j x → i < j → p (code t i) ≡ true
  run_first done l = absurd (omega arith)
  run_first (step (one e) c) l = e

  pub run_after : {p : ℕ → Bool} {i j : ℕ} {x : List ℕ} → ((c : ℕ) → p c ≡ true → is_ns_char c ≡ true) → Many t p i j x → i < j → ContentBefore t j
  run_after f done l = absurd (omega arith)
  run_after f (step (one {i = i} e) c) l = many_after f c (after_next i (f (code t i) e))

  pub spelled_after : {p : ℕ → Bool} {i j : ℕ} {x : List ℕ} → ((c : ℕ) → p c ≡ true → Solid c) → SpelledChar t p i j x → ContentBefore t j
  spelled_after f (as_itself {i = i} e) = after_next i (solid_ns _ (f (code t i) e))
  spelled_after f (as_escape {i = i} a b d) =
      let s = hex_solid (code t (i + 2)) d in
      let e : i + 2 + 1 ≡ i + 3 = omega arith in
      subst (λ w. ContentBefore t w) e (after_byte (i + 2) u refl (omega (arith, s.high)) (solid_ns _ s))

  pub chain_after : {p : ℕ → Bool} {i j : ℕ} {x : List ℕ} → ((c : ℕ) → p c ≡ true → Solid c) → Chain (SpelledChar t p) i j x → ContentBefore t i → ContentBefore t j
  chain_after f done b = b
  chain_after f (step s c) b = chain_after f c (spelled_after f s)

  pub spelled_ns : {p : ℕ → Bool} {i j : ℕ} {x : List ℕ} → ((c : ℕ) → p c ≡ true → Solid c) → SpelledChar t p i j x → is_ns_char (code t i) ≡ true
  spelled_ns f (as_itself {i = i} e) = solid_ns _ (f (code t i) e)
  spelled_ns f (as_escape {i = i} a b d) = ascii_ns (code t i) (omega arith) (omega arith)

  -- white space up to another character has one end
  pub in_line_one : {i j k : ℕ} → SeparateInLine t i j → is_white (code t j) ≡ false → SeparateInLine t i k → is_white (code t k) ≡ false → j ≡ k
  in_line_one a e b f = (many_unique t is_white (separate_whites a).1 e (separate_whites b).1 f).0

  pub no_ns_white : (i : ℕ) → is_ns_char (code t i) ≡ true → is_white (code t i) ≡ false
  no_ns_white i e = ns_not_white (code t i) e

  pub byte_no_white : (i : ℕ) {b : ℕ} → code t i ≡ b → 33 ≤ b → b < 127 → is_white (code t i) ≡ false
  byte_no_white i e l h = no_ns_white i (ascii_ns (code t i) (omega arith) (omega arith))

  -- after a !, and after a character of a tag
  pub mark_after : (i : ℕ) → code t i ≡ 33 → ContentBefore t (i + 1)
  mark_after i e = after_byte i u e (omega arith) (ascii_ns 33 (omega arith) (omega arith))

  pub tag_after : {i j : ℕ} {x : List ℕ} → TagChar t i j x → ContentBefore t j
  tag_after s = spelled_after tag_solid s

  -- a handle before white space
  pub handle_after : {i h : ℕ} → Handle t i h → ContentBefore t h
  handle_after (primary_handle {i = i} a) = after_byte i u a (omega arith) (ascii_ns 33 (omega arith) (omega arith))
  handle_after (secondary_handle {i = i} a b) =
      let e : i + 1 + 1 ≡ i + 2 = omega arith in
      subst (λ w. ContentBefore t w) e (after_byte (i + 1) u b (omega arith) (ascii_ns 33 (omega arith) (omega arith)))
  handle_after (named_handle {j = j} a r b) = after_byte j u b (omega arith) (ascii_ns 33 (omega arith) (omega arith))

  pub white_after : {h p : ℕ} → ContentBefore t h → SeparateInLine t h p → is_white (code t h) ≡ true
  white_after b (by_whites m l) = run_first m l
  white_after b (at_start s) = absurd (no_start_past u b s)

  not_both : (i : ℕ) → is_white (code t i) ≡ true → is_white (code t i) ≡ false → ⊥
  not_both i e f = true≢false (sym e ∙ f)

  pub word_white : {i j : ℕ} → Run (One t is_word_char) i j → is_white (code t i) ≡ false
  word_white {i} r = no_ns_white i (solid_ns _ (word_solid (code t i) (run_first r.chain r.some)))

  pub word_mark : {i j : ℕ} → Run (One t is_word_char) i j → code t i ≡ 33 → ⊥
  word_mark {i} r e = true≢false (sym (run_first r.chain r.some) ∙ ap is_word_char e ∙ exclamation_no_word)

  pub handle_one : {i h g : ℕ} → Handle t i h → is_white (code t h) ≡ true → Handle t i g → is_white (code t g) ≡ true → h ≡ g
  handle_one (primary_handle a) v (primary_handle b) w = refl
  handle_one {i} (primary_handle a) v (secondary_handle b c) w = absurd (not_both (i + 1) v (byte_no_white (i + 1) c (omega arith) (omega arith)))
  handle_one {i} (primary_handle a) v (named_handle b r c) w = absurd (not_both (i + 1) v (word_white r))
  handle_one {i} (secondary_handle a c) v (primary_handle b) w = absurd (not_both (i + 1) w (byte_no_white (i + 1) c (omega arith) (omega arith)))
  handle_one (secondary_handle a b) v (secondary_handle c d) w = refl
  handle_one (secondary_handle a b) v (named_handle c r d) w = absurd (word_mark r b)
  handle_one {i} (named_handle a r c) v (primary_handle b) w = absurd (not_both (i + 1) w (word_white r))
  handle_one (named_handle a r b) v (secondary_handle c d) w = absurd (word_mark r d)
  handle_one (named_handle a r b) v (named_handle c s d) w = ap (λ k. k + 1) (run_unique (one_functional t is_word_char) r s)

  -- the prefix of a TAG directive before the end of its line
  uris_one : {i j k m n : ℕ} {x y : List ℕ} {a b : List CommentValue} → ContentBefore t i → Chain (UriChar t) i j x → LineEnd t j m a → Chain (UriChar t) i k y → LineEnd t k n b → j ≡ k
  uris_one {j = j} {k = k} {m = m} {n = n} {a = a} {b = b} h c d e f = go (chain_meet (spelled_functional t is_uri_char percent_uri) c e) where
    stays : {j k n : ℕ} {z : List ℕ} {b : List CommentValue} → ContentBefore t j → Chain (UriChar t) j k z → LineEnd t j n b → j ≡ k
    stays o done l = refl
    stays o (step s r) l = absurd (no_end_there u o (spelled_ns uri_solid s) l)

    go : {x y : List ℕ} → Meets (UriChar t) j k x y → j ≡ k
    go (goes_on z r q) = stays (chain_after uri_solid c h) r d
    go (falls_short z r q) = sym (stays (chain_after uri_solid e h) r f)

  pub prefix_ns : {i j : ℕ} {x : List ℕ} → TagPrefix t i j x → is_ns_char (code t i) ≡ true
  prefix_ns (local_prefix {i = i} e c) = ascii_ns (code t i) (omega arith) (omega arith)
  prefix_ns (global_prefix s c) = spelled_ns tag_solid s

  pub no_tag_at_mark : {i j : ℕ} {x : List ℕ} → code t i ≡ 33 → TagChar t i j x → ⊥
  no_tag_at_mark {i} {j} {x} e s = (spelled_stuck t is_tag_char percent_tag i (ap is_tag_char e ∙ exclamation_no_tag) (λ q. absurd (omega arith))).none j x s

  prefix_one : {i j k m n : ℕ} {x y : List ℕ} {a b : List CommentValue} → TagPrefix t i j x → LineEnd t j m a → TagPrefix t i k y → LineEnd t k n b → j ≡ k
  prefix_one (local_prefix {i = i} e c) d (local_prefix g h) f = uris_one (after_byte i u e (omega arith) (ascii_ns 33 (omega arith) (omega arith))) c d h f
  prefix_one (local_prefix e c) d (global_prefix s h) f = absurd (no_tag_at_mark e s)
  prefix_one (global_prefix s c) d (local_prefix e h) f = absurd (no_tag_at_mark e s)
  prefix_one (global_prefix {j = j} {c = v} s c) d (global_prefix {k = k} {j = l} {x = y} r h) f =
      let same = tag_functional.one_end r s in
      uris_one (spelled_after tag_solid s) c d (subst (λ w. Chain (UriChar t) w l y) same h) f

  -- the words of other directives
  word_start : {i k : ℕ} → Run (One t is_ns_char) i k → is_ns_char (code t i) ≡ true
  word_start r = run_first r.chain r.some

  pub reserved_functional : Functional (ReservedParameter t)
  reserved_functional = record { one_end = λ a b. ends a b; one_meaning = λ a b. words a b; forward = λ a. later a } where
    starts : {i k h j l : ℕ} → SeparateInLine t i k → Run (One t is_ns_char) k j → SeparateInLine t i h → Run (One t is_ns_char) h l → (k ≡ h) × (j ≡ l)
    starts {k = k} {h} {j} {l} s r v q =
        let same = in_line_one s (no_ns_white k (word_start r)) v (no_ns_white h (word_start q)) in
        (same, run_unique (one_functional t is_ns_char) r (subst (λ w. Run (One t is_ns_char) w l) (sym same) q))

    ends : {i j k : ℕ} {x y : List (List ℕ)} → ReservedParameter t i j x → ReservedParameter t i k y → j ≡ k
    ends (reserved_parameter s n r) (reserved_parameter v m q) = (starts s r v q).1

    words : {i j k : ℕ} {x y : List (List ℕ)} → ReservedParameter t i j x → ReservedParameter t i k y → x ≡ y
    words (reserved_parameter {j = j} s n r) (reserved_parameter {k = h} v m q) =
        let e = starts s r v q in ap (λ w. slice_range t w j ∷ []) e.0 ∙ ap (λ w. slice_range t h w ∷ []) e.1

    later : {i j : ℕ} {x : List (List ℕ)} → ReservedParameter t i j x → i < j
    later (reserved_parameter s n r) = let f = chain_forward (one_functional t is_white) (separate_whites s).1 in let g = r.some in omega arith

  reserved_after : {i j : ℕ} {x : List (List ℕ)} → ReservedParameter t i j x → ContentBefore t j
  reserved_after (reserved_parameter s n r) = run_after (λ c e. e) r.chain r.some

  pub words_after : {i j : ℕ} {x : List (List ℕ)} → Chain (ReservedParameter t) i j x → ContentBefore t i → ContentBefore t j
  words_after done b = b
  words_after (step s c) b = words_after c (reserved_after s)

  -- no line ends before one more word
  pub no_end_before : {i j n : ℕ} {x : List (List ℕ)} {b : List CommentValue} → ContentBefore t i → ReservedParameter t i j x → LineEnd t i n b → ⊥
  no_end_before {n = n} {b = b} o (reserved_parameter {k = k} s h r) l =
      let v = visible_solid (record { ns = word_start r; no_hash = h }) in
      (line_end_stuck (λ q. no_start_past u o q) (stuck_at_solid (separate_whites s).1 v.not_white v.no_comment v.no_end)).none n b l

  words_one : {i j k m n : ℕ} {x y : List (List ℕ)} {a b : List CommentValue} → ContentBefore t i → Chain (ReservedParameter t) i j x → LineEnd t j m a
      → Chain (ReservedParameter t) i k y → LineEnd t k n b → (j ≡ k) × (x ≡ y)
  words_one {j = j} {k} {m} {n} {x} {y} {a} {b} h c d e f = go (chain_meet reserved_functional c e) where
    stays : {j k n : ℕ} {z : List (List ℕ)} {b : List CommentValue} → ContentBefore t j → Chain (ReservedParameter t) j k z → LineEnd t j n b → (j ≡ k) × (z ≡ [])
    stays o done l = (refl, refl)
    stays o (step s r) l = absurd (no_end_before o s l)

    go : Meets (ReservedParameter t) j k x y → (j ≡ k) × (x ≡ y)
    go (goes_on z r q) = let v = stays (words_after c h) r d in (v.0, sym (q ∙ ap (λ w. x ++ w) v.1 ∙ append-nil x))
    go (falls_short z r q) = let v = stays (words_after e h) r f in (sym v.0, q ∙ ap (λ w. y ++ w) v.1 ∙ append-nil y)

  -- all parameters, before the end of the line
  pub version_one : {i k p d e j l : ℕ} → SeparateInLine t i k → Run (One t is_digit) k d → Run (One t is_digit) (d + 1) j
      → SeparateInLine t i p → Run (One t is_digit) p e → Run (One t is_digit) (e + 1) l → (k ≡ p) × (j ≡ l)
  version_one {k = k} {p} {d} {e} {j} {l} s a b r c f =
      let same = in_line_one s (no_ns_white k (digit_ns (code t k) (run_first a.chain a.some))) r (no_ns_white p (digit_ns (code t p) (run_first c.chain c.some))) in
      let dot = run_unique (one_functional t is_digit) a (subst (λ w. Run (One t is_digit) w e) (sym same) c) in
      (same, run_unique (one_functional t is_digit) b (subst (λ w. Run (One t is_digit) (w + 1) l) (sym dot) f))

  pub parameters_one : {i j k m n : ℕ} {name : List ℕ} {x y : List (List ℕ)} {a b : List CommentValue} → ContentBefore t i → Parameters t name i j x → LineEnd t j m a
      → Parameters t name i k y → LineEnd t k n b → (j ≡ k) × (x ≡ y)
  parameters_one h (version_parameter {k = k} {j = j} e s a q b) d (version_parameter {k = p} {j = l} f r c v g) w =
      let o = version_one s a b r c g in
      (o.1, ap (λ z. slice_range t z j ∷ []) o.0 ∙ ap (λ z. slice_range t p z ∷ []) o.1)
  parameters_one h (version_parameter e s a q b) d (tag_parameters f r c v g) w = absurd (yaml_no_tag (sym e ∙ f))
  parameters_one h (version_parameter e s a q b) d (reserved_parameters f r c) w = absurd (f e)
  parameters_one h (tag_parameters e s a q b) d (version_parameter f r c v g) w = absurd (yaml_no_tag (sym f ∙ e))
  parameters_one h (tag_parameters {k = k} {h = o} {p = p} {j = j} e s a q b) d (tag_parameters {k = l} {h = z} {p = x} {j = y} {x = text} f r c v g) w =
      let first = in_line_one s (handle_no_white a) r (handle_no_white c) in
      let c' : Handle t k z = subst (λ i. Handle t i z) (sym first) c in
      let second = handle_one a (white_after (handle_after a) q) c' (white_after (handle_after c') v) in
      let v' : SeparateInLine t o x = subst (λ i. SeparateInLine t i x) (sym second) v in
      let third = in_line_one q (no_ns_white p (prefix_ns b)) v' (no_ns_white x (prefix_ns g)) in
      let g' : TagPrefix t p y text = subst (λ i. TagPrefix t i y text) (sym third) g in
      let last = prefix_one b d g' w in (
        last,
        ap (λ i. slice_range t i o ∷ slice_range t p j ∷ []) first ∙ ap (λ i. slice_range t l i ∷ slice_range t p j ∷ []) second
            ∙ ap (λ i. slice_range t l z ∷ slice_range t i j ∷ []) third ∙ ap (λ i. slice_range t l z ∷ slice_range t x i ∷ []) last,
      )
    where
      handle_no_white : {i g : ℕ} → Handle t i g → is_white (code t i) ≡ false
      handle_no_white {i} (primary_handle e) = byte_no_white i e (omega arith) (omega arith)
      handle_no_white {i} (secondary_handle e f) = byte_no_white i e (omega arith) (omega arith)
      handle_no_white {i} (named_handle e r f) = byte_no_white i e (omega arith) (omega arith)
  parameters_one h (tag_parameters e s a q b) d (reserved_parameters f r c) w = absurd (r e)
  parameters_one h (reserved_parameters e s a) d (version_parameter f r c v g) w = absurd (e f)
  parameters_one h (reserved_parameters e s a) d (tag_parameters f r c v g) w = absurd (s f)
  parameters_one h (reserved_parameters e s a) d (reserved_parameters f r c) w = words_one h a d c w

-- a directive, its line, and all comment lines after it
pub record LineTo (t : List ℕ) (i l : ℕ) (d : Directive) (cs : List CommentValue) : Type 0 where
  pub line : IsDirective t i l (record { directives = d ∷ []; comments = cs })
  pub last : Stuck (Row t l)

one_of : {d e : Directive} → d ∷ [] ≡ e ∷ [] → d ≡ e
one_of {d} e = ap (first_or d) e where
  first_or : Directive → List Directive → Directive
  first_or d [] = d
  first_or d (x ∷ xs) = x

-- directives from one offset up to a `-`
pub data DirectivesTo (t : List ℕ) : ℕ → ℕ → List Directive → List CommentValue → Type 0 where
  last_to : {i l : ℕ} {d : Directive} {cs : List CommentValue} → LineTo t i l d cs → code t l ≡ 45 → DirectivesTo t i l (d ∷ []) cs
  more_to : {i k l : ℕ} {d : Directive} {ds : List Directive} {cs es : List CommentValue} → LineTo t i k d cs → code t k ≡ 37 → DirectivesTo t k l ds es
      → DirectivesTo t i l (d ∷ ds) (cs ++ es)

module _ {t : List ℕ} where
  pub visible_still : {k : ℕ} → Visible t k → Stuck (Row t k)
  visible_still {k} v = let s = visible_solid v in row_stuck (stuck_at_solid (done {i = k}) s.not_white s.no_comment s.no_end)

  byte_still : {k b : ℕ} → code t k ≡ b → 33 ≤ b → b < 127 → b ≢ 35 → Stuck (Row t k)
  byte_still {k} e l h n = visible_still (record { ns = ascii_ns (code t k) (omega arith) (omega arith); no_hash = λ q. n (sym e ∙ q) })

  pub percent_still : {k : ℕ} → code t k ≡ 37 → Stuck (Row t k)
  percent_still e = byte_still e (omega arith) (omega arith) (λ q. absurd (omega arith))

  pub dash_still : {k : ℕ} → code t k ≡ 45 → Stuck (Row t k)
  dash_still e = byte_still e (omega arith) (omega arith) (λ q. absurd (omega arith))

  pub dot_still : {k : ℕ} → code t k ≡ 46 → Stuck (Row t k)
  dot_still e = byte_still e (omega arith) (omega arith) (λ q. absurd (omega arith))

  pub lines_begin : {i k : ℕ} {x : Directives} → DirectiveLines t i k x → code t i ≡ 37
  lines_begin (last_directive e r p l) = e
  lines_begin (more_directives a b) = lines_begin a

  pub directives_begin : {i l : ℕ} {ds : List Directive} {cs : List CommentValue} → DirectivesTo t i l ds cs → code t i ≡ 37
  directives_begin (last_to d e) = d.line.percent
  directives_begin (more_to d e r) = d.line.percent

  moved_to : {i l : ℕ} {ds : List Directive} {cs : List CommentValue} {es : List Directive} {fs : List CommentValue} → ds ≡ es → cs ≡ fs → DirectivesTo t i l ds cs → DirectivesTo t i l es fs
  moved_to {i} {l} {cs = cs} {es = es} e f d = subst (λ w. DirectivesTo t i l es w) f (subst (λ w. DirectivesTo t i l w cs) e d)

  lines_then : {i k l : ℕ} {x : Directives} {ds : List Directive} {es : List CommentValue} → DirectiveLines t i k x → DirectivesTo t k l ds es → DirectivesTo t i l (x.directives ++ ds) (x.comments ++ es)
  lines_then (last_directive {k = n} {l = p} {words = w} e r q m) d =
      more_to (record { line = record { name_end = n; words_end = p; words = w; percent = e; name = r; parameters = q; ends = m; is = refl }; last = percent_still (directives_begin d) }) (directives_begin d) d
  lines_then {ds = ds} {es = es} (more_directives {x = x} {y = y} a b) d =
      moved_to (sym (append_assoc x.directives y.directives ds)) (sym (append_assoc x.comments y.comments es)) (lines_then a (lines_then b d))

  pub lines_to : {i k : ℕ} {x : Directives} → DirectiveLines t i k x → code t k ≡ 45 → DirectivesTo t i k x.directives x.comments
  lines_to (last_directive {k = n} {l = p} {words = w} e r q m) f =
      last_to (record { line = record { name_end = n; words_end = p; words = w; percent = e; name = r; parameters = q; ends = m; is = refl }; last = dash_still f }) f
  lines_to (more_directives a b) f = lines_then a (lines_to b f)

module _ {t : List ℕ} (u : IsUtf8 t) where
  pub line_one : {i k l : ℕ} {d e : Directive} {cs es : List CommentValue} → LineTo t i k d cs → LineTo t i l e es → (k ≡ l) × (d ≡ e) × (cs ≡ es)
  line_one {i} {k} {l} {d} {e} {cs} {es} a b =
      let x = a.line in
      let y = b.line in
      let n = run_unique (one_functional t is_ns_char) x.name y.name in
      let p : Parameters t (slice_range t (i + 1) x.name_end) x.name_end y.words_end y.words =
      subst (λ w. Parameters t (slice_range t (i + 1) w) w y.words_end y.words) (sym n) y.parameters in
      let v = parameters_one u (run_after u (λ c q. q) x.name.chain x.name.some) x.parameters x.ends p y.ends in
      let m : LineEnd t x.words_end l es = subst (λ w. LineEnd t w l es) (sym v.0) y.ends in
      let r = stuck_unique row_functional (line_end_rows x.ends) a.last (line_end_rows m) b.last in
      let words : slice_range t (i + 1) x.name_end ∷ x.words ≡ slice_range t (i + 1) y.name_end ∷ y.words =
      ap (λ w. slice_range t (i + 1) w ∷ x.words) n ∙ ap (λ w. slice_range t (i + 1) y.name_end ∷ w) v.1 in
      (r.0, one_of (x.is ∙ ap (λ w. record { offset = i; words = w } ∷ []) words ∙ sym y.is), r.1)

  pub directives_one : {i k l : ℕ} {ds es : List Directive} {cs fs : List CommentValue} → DirectivesTo t i k ds cs → DirectivesTo t i l es fs → (k ≡ l) × (ds ≡ es) × (cs ≡ fs)
  directives_one (last_to a e) (last_to b f) = let r = line_one a b in (r.0, ap (λ w. w ∷ []) r.1, r.2)
  directives_one (last_to a e) (more_to b f g) = let r = line_one a b in let q = ap (code t) r.0 in absurd (omega arith)
  directives_one (more_to a e c) (last_to b f) = let r = line_one a b in let q = ap (code t) r.0 in absurd (omega arith)
  directives_one (more_to {d = d} {ds = ds} {cs = cs} {es = es} a e c) (more_to {l = l} {d = v} {ds = w} {cs = x} {es = y} b f g) =
      let r = line_one a b in
      let s = directives_one c (subst (λ z. DirectivesTo t z l w y) (sym r.0) g) in
      (s.0, ap (λ z. z ∷ ds) r.1 ∙ ap (λ z. v ∷ z) s.1, ap (λ z. z ++ es) r.2 ∙ ap (λ z. x ++ z) s.2)
