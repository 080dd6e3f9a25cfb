-- A key is on one line.
use Rattle.std.proofs.Common.{◌≡◌, ◌≢◌, ℕ, ℤ, ◌+◌, ◌-◌, ◌<◌, ◌≤◌, Bool, true, false, ⊎_elim, List, None, refl, sym, ap, ◌∙◌, subst, arith, true≢false, not}
use Rattle.std.proofs.lemmas.Bool.{cases_eq, cases_lt, and_parts}
use Rattle.std.specs.Str.{IsUtf8}
use Rattle.std.specs.Char.{digit_value}
use Rattle.yf_chars.specs.declared.context.Ctx.{Ctx}
use Rattle.yf_chars.specs.declared.context.Ctx.TheVariants.{BlockOut, BlockIn, FlowOut, FlowIn, BlockKey, FlowKey}
use Rattle.yf_chars.specs.Text.{code, next, no_char}
use Rattle.yf_chars.specs.Class.{is_break_char, is_ns_char, is_white, is_nb_json, is_anchor_char, is_flow_indicator}
use Rattle.yf_chars.specs.Chain.{Chain, Many}
use Rattle.yf_chars.specs.Chain.Chain.{done, step}
use Rattle.yf_chars.specs.Chain.One.{one}
use Rattle.yf_chars.specs.Escape.{Escape, NumericEscape, named}
use Rattle.yf_chars.specs.Escape.Escape.{by_letter, by_two, by_four, by_half, by_pair, by_eight}
use Rattle.yf_chars.proofs.BreakChars.{no_break}
use Rattle.yf_chars.proofs.TextLemmas.{reads_real}
use Rattle.yf_chars.proofs.EscapeLemmas.{no_name}
use Rattle.yf_lines.specs.Basic.{is_key, SeparateInLine}
use Rattle.yf_lines.proofs.ClearLemmas.{code_inside}
use Rattle.yf_lines.proofs.BasicLemmas.{white_cases}
use Rattle.yf_lines.proofs.ContextFacts.{key_not_flow}
use Rattle.yf_comments.specs.Comment.{CommentValue}
use Rattle.yf_comments.specs.Comments.{Separate}
use Rattle.yf_comments.specs.Comments.Separate.{in_key, in_node}
use Rattle.yf_comments.proofs.RowLemmas.{separate_whites}
use Rattle.yf_plain.specs.Plain.{PlainItem, PlainLine, PlainText}
use Rattle.yf_plain.specs.Plain.PlainItem.{set_off}
use Rattle.yf_plain.specs.Plain.PlainLine.{one_line}
use Rattle.yf_plain.specs.Plain.PlainText.{as_key, as_lines}
use Rattle.yf_plain.proofs.PlainLemmas.{plain_is_ns, first_is_ns, ns_cr, ns_below}
use Rattle.yf_props.specs.Names.{Alias, Anchor, AnchorChar, TagProperty, Properties, PropertiesValue}
use Rattle.yf_props.specs.Names.Alias.{asterisk_name}
use Rattle.yf_props.specs.Names.Anchor.{ampersand_name}
use Rattle.yf_props.specs.Names.Properties.{by_tag, by_anchor, tag_first, anchor_first}
use Rattle.yf_props.specs.Props.{TagValue}
use Rattle.yf_props.proofs.SolidLemmas.{tag_all_solid}
use Rattle.yf_quoted.specs.Quoted.{Inside, QuotedScalar, SingleChar, DoubleChar, Piece}
use Rattle.yf_quoted.specs.Quoted.Inside.{as_key as key_inside, as_lines as lines_inside}
use Rattle.yf_quoted.specs.Quoted.SingleChar.{doubled, unquoted}
use Rattle.yf_quoted.specs.Quoted.DoubleChar.{unescaped, escaped, wrong}
use Rattle.yf_quoted.proofs.DoubleLemmas.{json_lf, json_cr}
use Rattle.yf_grammar.specs.Productions.Meaning.{Meaning}
use Rattle.yf_grammar.specs.Productions.Grammar.{Production, FlowNode, NodeOf, JsonContent, Entries, Entry, Pair, Explicit, Implicit, ValueOf, KeyOf, BlockNode, BlockEntries, BlockEntry, BlockIndented, BlockValue, Derives, MaySeparate, MaySeparateInLine, opening, closing, in_flow, ValueSeparate}
use Rattle.yf_grammar.specs.Productions.Grammar.MaySeparate.{unseparated, separated}
use Rattle.yf_grammar.specs.Productions.Grammar.MaySeparateInLine.{unseparated_in_line, separated_in_line}
use Rattle.yf_grammar.specs.Productions.Grammar.Derives.{flow_node, an_alias, a_plain, a_plain_with, properties_alone, a_json, a_json_with, a_single, a_double, an_empty_collection, a_collection, last_entry, last_entry_with_comma, more_entries, a_node_entry, a_pair_entry, an_explicit_entry, an_implicit_entry, an_explicit_pair, a_keyed_pair, an_unkeyed_pair, explicit_with, explicit_without, key_alone, key_and_value, value_alone, empty_value, a_value, a_key, a_block_scalar, a_block_scalar_with, a_block_collection, a_block_collection_with, flow_in_block, a_last_entry, an_entry_before, a_dash_entry, an_explicit_entry_with, an_explicit_key_alone, a_keyed_entry, an_unkeyed_entry, a_block_value, an_empty_block_value, a_compact_collection, an_indented_node, nothing_indented}
use Rattle.yf_grammar.specs.FlowReader.Parser.{OnOneLine}
use Rattle.yf_chars.proofs.CharFacts.{feed_no_ns}
use Rattle.yf_chars.proofs.CharBounds.{json_below}

ns_line : (c : ℕ) → is_ns_char c ≡ true → is_break_char c ≡ false
ns_line c e = no_break c (λ q. true≢false (sym e ∙ ap is_ns_char q ∙ feed_no_ns)) (λ q. true≢false (sym e ∙ ap is_ns_char q ∙ ns_cr))

json_line : (c : ℕ) → is_nb_json c ≡ true → is_break_char c ≡ false
json_line c e = no_break c (λ q. true≢false (sym e ∙ ap is_nb_json q ∙ json_lf)) (λ q. true≢false (sym e ∙ ap is_nb_json q ∙ json_cr))

pub anchor_ns : (c : ℕ) → is_anchor_char c ≡ true → is_ns_char c ≡ true
unfolding is_anchor_char
anchor_ns c e = (and_parts (is_ns_char c) (not (is_flow_indicator c)) e).0

unnamed_breaks : (named 10 ≡ None) × (named 13 ≡ None)
unfolding named
unnamed_breaks = (refl, refl)

digit_line : (c : ℕ) → digit_value c < 16 → is_break_char c ≡ false
digit_line c l = no_break c (λ e. ten (subst (λ w. digit_value w < 16) e l)) (λ e. thirteen (subst (λ w. digit_value w < 16) e l)) where
  ten : digit_value 10 < 16 → ⊥
  ten l = omega arith

  thirteen : digit_value 13 < 16 → ⊥
  thirteen l = omega arith

key_in_flow : (c : Ctx) → is_key c ≡ true → is_key (in_flow c) ≡ true
key_in_flow BlockOut k = k
key_in_flow BlockIn k = k
key_in_flow FlowOut k = absurd (true≢false (sym k))
key_in_flow FlowIn k = absurd (true≢false (sym k))
key_in_flow BlockKey k = refl
key_in_flow FlowKey k = refl

pub line_none : (t : List ℕ) (i : ℕ) → OnOneLine t i i
line_none t i = record { each = λ h l m. absurd (omega arith) }

one_at : (t : List ℕ) (i : ℕ) → is_break_char (code t i) ≡ false → OnOneLine t i (i + 1)
one_at t i e = record { each = λ h l m. let same : i ≡ h = omega arith in ap (λ w. is_break_char (code t w)) (sym same) ∙ e }

pub sign_at : (t : List ℕ) (i d : ℕ) → code t i ≡ d → d ≢ 10 → d ≢ 13 → OnOneLine t i (i + 1)
sign_at t i d e n m = one_at t i (no_break (code t i) (λ q. n (sym e ∙ q)) (λ q. m (sym e ∙ q)))

pub char_at : (t : List ℕ) (i : ℕ) → IsUtf8 t → code t i < no_char → is_break_char (code t i) ≡ false → OnOneLine t i (next t i)
char_at t i u l e = record {
  each = λ h a b. ⊎_elim
      (λ (q : i ≡ h). ap (λ w. is_break_char (code t w)) (sym q) ∙ e)
      (λ (n : i ≢ h). let f = code_inside u (reads_real t i u l) (omega arith) b in no_break (code t h) (λ q. omega arith) (λ q. omega arith))
      (cases_eq i h);
}

module _ {t : List ℕ} where
  pub line_join : {i j k : ℕ} → OnOneLine t i j → OnOneLine t j k → OnOneLine t i k
  line_join {j = j} a b = record { each = λ h l m. ⊎_elim (λ (e : h < j). a.each h l e) (λ (e : j ≤ h). b.each h e m) (cases_lt h j) }

  line_to : {i j k : ℕ} → j ≡ k → OnOneLine t i j → OnOneLine t i k
  line_to {i} e a = subst (λ w. OnOneLine t i w) e a

  whites_line : {i j : ℕ} {x : List ℕ} → IsUtf8 t → Many t is_white i j x → OnOneLine t i j
  whites_line {i} u done = line_none t i
  whites_line u (step (one {i = i} e) c) =
      let w = white_cases (code t i) e in
      line_join (char_at t i u (omega (arith, w)) (no_break (code t i) (λ q. omega (arith, w)) (λ q. omega (arith, w)))) (whites_line u c)

  in_line_line : {i j : ℕ} → IsUtf8 t → SeparateInLine t i j → OnOneLine t i j
  in_line_line u s = whites_line u (separate_whites s).1

  separate_line : {n : ℤ} {c : Ctx} {i j : ℕ} {x : List CommentValue} → IsUtf8 t → is_key c ≡ true → Separate t n c i j x → OnOneLine t i j
  separate_line u k (in_key e s) = in_line_line u s
  separate_line u k (in_node e s) = absurd (true≢false (sym k ∙ e))

  may_line : {n : ℤ} {c : Ctx} {i j : ℕ} {x : List CommentValue} → IsUtf8 t → is_key c ≡ true → MaySeparate t n c i j x → OnOneLine t i j
  may_line u k (unseparated {i = i}) = line_none t i
  may_line u k (separated s) = separate_line u k s

  pub may_in_line : {i j : ℕ} → IsUtf8 t → MaySeparateInLine t i j → OnOneLine t i j
  may_in_line u (unseparated_in_line {i = i}) = line_none t i
  may_in_line u (separated_in_line s) = in_line_line u s

  names_line : {i j : ℕ} {x : List ℕ} → IsUtf8 t → Chain (AnchorChar t) i j x → OnOneLine t i j
  names_line {i} u done = line_none t i
  names_line u (step (one {i = i} e) c) =
      let n = anchor_ns (code t i) e in line_join (char_at t i u (ns_below (code t i) n) (ns_line (code t i) n)) (names_line u c)

  alias_line : {i j : ℕ} {x : List ℕ} → IsUtf8 t → Alias t i j x → OnOneLine t i j
  alias_line u (asterisk_name {i = i} e r) = line_join (sign_at t i 42 e (λ q. omega arith) (λ q. omega arith)) (names_line u r.chain)

  anchor_line : {i j : ℕ} {x : List ℕ} → IsUtf8 t → Anchor t i j x → OnOneLine t i j
  anchor_line u (ampersand_name {i = i} e r) = line_join (sign_at t i 38 e (λ q. omega arith) (λ q. omega arith)) (names_line u r.chain)

  tag_line : {i j : ℕ} {x : TagValue} → TagProperty t i j x → OnOneLine t i j
  tag_line d = let a = tag_all_solid d in record { each = λ h l m. let s = a.each h l m in no_break (code t h) (λ q. omega (arith, s.low)) (λ q. omega (arith, s.low)) }

  properties_line : {n : ℤ} {c : Ctx} {i j : ℕ} {p : PropertiesValue} → IsUtf8 t → is_key c ≡ true → Properties t n c i j p → OnOneLine t i j
  properties_line u k (by_tag d) = tag_line d
  properties_line u k (by_anchor a) = anchor_line u a
  properties_line u k (tag_first d s a) = line_join (tag_line d) (line_join (separate_line u k s) (anchor_line u a))
  properties_line u k (anchor_first a s d) = line_join (anchor_line u a) (line_join (separate_line u k s) (tag_line d))

  items_line : {c : Ctx} {i j : ℕ} {x : List ℕ} → IsUtf8 t → Chain (PlainItem t c) i j x → OnOneLine t i j
  items_line {i = i} u done = line_none t i
  items_line {c} u (step (set_off {h = h} w e) d) =
      let n = plain_is_ns t c h e in
      line_join (whites_line u w) (line_join (char_at t h u (ns_below (code t h) n) (ns_line (code t h) n)) (items_line u d))

  plain_line : {c : Ctx} {i j : ℕ} {x : List ℕ} → IsUtf8 t → PlainLine t c i j x → OnOneLine t i j
  plain_line {c} u (one_line {i = i} e d) =
      let n = first_is_ns t c i e in line_join (char_at t i u (ns_below (code t i) n) (ns_line (code t i) n)) (items_line u d)

  text_line : {n : ℤ} {c : Ctx} {i j : ℕ} {x : List ℕ} → IsUtf8 t → is_key c ≡ true → PlainText t n c i j x → OnOneLine t i j
  text_line u k (as_key e l) = plain_line u l
  text_line {c = c} u k (as_lines f l d) = absurd (key_not_flow c k f)

  -- quoted scalars
  numbered_line : {i c k v : ℕ} → NumericEscape t i c k v → c ≢ 10 → c ≢ 13 → OnOneLine t i (i + 2 + k)
  numbered_line {i} {c} {k} n a b =
      let first = sign_at t i 92 n.backslash (λ q. omega arith) (λ q. omega arith) in
      let second = sign_at t (i + 1) c n.letter a b in
      let two : OnOneLine t i (i + 2) = line_to (omega arith) (line_join first second) in
      line_join two (record {
        each = λ h l m.
            let q : (i + 2) + (h - (i + 2)) ≡ h = omega arith in
            digit_line (code t h) (subst (λ w. digit_value (code t w) < 16) q (n.digits.each (h - (i + 2)) (omega arith)));
      })

  escape_line : {i j v : ℕ} → Escape t i j v → OnOneLine t i j
  escape_line (by_letter {i = i} b e) =
      let first = sign_at t i 92 b (λ q. omega arith) (λ q. omega arith) in
      let second = one_at t (i + 1) (no_break (code t (i + 1)) (λ q. no_name 10 unnamed_breaks.0 q e) (λ q. no_name 13 unnamed_breaks.1 q e)) in
      line_to (omega arith) (line_join first second)
  escape_line (by_two n) = line_to (omega arith) (numbered_line n (λ e. omega arith) (λ e. omega arith))
  escape_line (by_four n h) = line_to (omega arith) (numbered_line n (λ e. omega arith) (λ e. omega arith))
  escape_line (by_half n h o) = line_to (omega arith) (numbered_line n (λ e. omega arith) (λ e. omega arith))
  escape_line (by_pair {i = i} n h o l) =
      let a : OnOneLine t i (i + 6) = line_to (omega arith) (numbered_line n (λ e. omega arith) (λ e. omega arith)) in
      line_to (omega arith) (line_join a (numbered_line o (λ e. omega arith) (λ e. omega arith)))
  escape_line (by_eight n) = line_to (omega arith) (numbered_line n (λ e. omega arith) (λ e. omega arith))

  json_at : (i : ℕ) → IsUtf8 t → is_nb_json (code t i) ≡ true → OnOneLine t i (next t i)
  json_at i u e = char_at t i u (json_below (code t i) e) (json_line (code t i) e)

  single_char_line : {i j : ℕ} {x : List ℕ} → IsUtf8 t → SingleChar t i j x → OnOneLine t i j
  single_char_line u (doubled {i = i} a b) =
      line_to (omega arith) (line_join (sign_at t i 39 a (λ q. omega arith) (λ q. omega arith)) (sign_at t (i + 1) 39 b (λ q. omega arith) (λ q. omega arith)))
  single_char_line u (unquoted {i = i} e n) = json_at i u e

  double_char_line : {i j : ℕ} {x : List Piece} → IsUtf8 t → DoubleChar t i j x → OnOneLine t i j
  double_char_line u (unescaped {i = i} e n m) = json_at i u e
  double_char_line u (escaped e s) = escape_line e
  double_char_line u (wrong e s) = escape_line e

module _ {A : Type 0} {t : List ℕ} {C : ℕ → ℕ → List A → Type 0} where
  chars_line : {i j : ℕ} {x : List A} → ((g h : ℕ) (z : List A) → C g h z → OnOneLine t g h) → Chain C i j x → OnOneLine t i j
  chars_line {i} f done = line_none t i
  chars_line f (step {i = i} {h = h} {x = x} s d) = line_join (f i h x s) (chars_line f d)

module _ {A : Type 0} {t : List ℕ} {put : List ℕ → List A} {C B : ℕ → ℕ → List A → Type 0} {c : Ctx} where
  inside_line : {i j : ℕ} {x : List A} → ((g h : ℕ) (z : List A) → C g h z → OnOneLine t g h) → is_key c ≡ true → Inside t put C B c i j x → OnOneLine t i j
  inside_line f k (key_inside e d) = chars_line f d
  inside_line f k (lines_inside e d r) = absurd (key_not_flow c k e)

  quoted_line : {quote i j : ℕ} {x : List A} → ((g h : ℕ) (z : List A) → C g h z → OnOneLine t g h) → is_key c ≡ true → quote ≢ 10 → quote ≢ 13
      → QuotedScalar t put C B c quote i j x → OnOneLine t i j
  quoted_line {quote} {i} f k n m q =
      line_join (sign_at t i quote q.opening n m)
      (line_join (inside_line f k q.inside) (line_to q.end (sign_at t q.close quote q.closing n m)))

bracket_at : (t : List ℕ) (i : ℕ) (s : Bool) → code t i ≡ opening s → OnOneLine t i (i + 1)
bracket_at t i true e = sign_at t i 91 e (λ q. omega arith) (λ q. omega arith)
bracket_at t i false e = sign_at t i 123 e (λ q. omega arith) (λ q. omega arith)

closing_at : (t : List ℕ) (i : ℕ) (s : Bool) → code t i ≡ closing s → OnOneLine t i (i + 1)
closing_at t i true e = sign_at t i 93 e (λ q. omega arith) (λ q. omega arith)
closing_at t i false e = sign_at t i 125 e (λ q. omega arith) (λ q. omega arith)

value_line : (t : List ℕ) (n : ℤ) (c : Ctx) (i j : ℕ) (cs : List CommentValue) (json : Bool) → IsUtf8 t → is_key c ≡ true → ValueSeparate json t n c i j cs → OnOneLine t i j
value_line t n c i j cs true u k s = may_line u k s
value_line t n c i j cs false u k s = separate_line u k s

abbrev pub LineClaim : List ℕ → Production → ℕ → ℕ → Type 0
LineClaim t (FlowNode n c) i j = is_key c ≡ true → OnOneLine t i j
LineClaim t (NodeOf json n c) i j = is_key c ≡ true → OnOneLine t i j
LineClaim t (JsonContent n c) i j = is_key c ≡ true → OnOneLine t i j
LineClaim t (Entries s n c) i j = is_key c ≡ true → OnOneLine t i j
LineClaim t (Entry s n c) i j = is_key c ≡ true → OnOneLine t i j
LineClaim t (Pair n c) i j = is_key c ≡ true → OnOneLine t i j
LineClaim t (Explicit n c s) i j = is_key c ≡ true → OnOneLine t i j
LineClaim t (Implicit n c s) i j = is_key c ≡ true → OnOneLine t i j
LineClaim t (ValueOf json n c) i j = is_key c ≡ true → OnOneLine t i j
LineClaim t (KeyOf json c) i j = is_key c ≡ true → OnOneLine t i j
LineClaim t (BlockNode n c) i j = Unit {0}
LineClaim t (BlockEntries s m) i j = Unit {0}
LineClaim t (BlockEntry s m) i j = Unit {0}
LineClaim t (BlockIndented m c) i j = Unit {0}
LineClaim t (BlockValue m) i j = Unit {0}

module _ {t : List ℕ} (u : IsUtf8 t) where
  comma_at : (i : ℕ) → code t i ≡ 44 → OnOneLine t i (i + 1)
  comma_at i e = sign_at t i 44 e (λ q. omega arith) (λ q. omega arith)

  question_at : (i : ℕ) → code t i ≡ 63 → OnOneLine t i (i + 1)
  question_at i e = sign_at t i 63 e (λ q. omega arith) (λ q. omega arith)

  colon_at : (i : ℕ) → code t i ≡ 58 → OnOneLine t i (i + 1)
  colon_at i e = sign_at t i 58 e (λ q. omega arith) (λ q. omega arith)

  pub key_line : {h i j : ℕ} {p : Production} {x : Meaning} → Derives t h p i j x → LineClaim t p i j
  key_line (flow_node d) = λ k. key_line d k
  key_line (an_alias f a) = λ k. alias_line u a
  key_line (a_plain p) = λ k. text_line u k p
  key_line (a_plain_with p s q) = λ k. line_join (properties_line u k p) (line_join (separate_line u k s) (text_line u k q))
  key_line (properties_alone f p) = λ k. properties_line u k p
  key_line (a_json d) = λ k. key_line d k
  key_line (a_json_with p s d) = λ k. line_join (properties_line u k p) (line_join (separate_line u k s) (key_line d k))
  key_line (a_single q) = λ k. quoted_line (λ g h z s. single_char_line u s) k (λ e. omega arith) (λ e. omega arith) q
  key_line (a_double q) = λ k. quoted_line (λ g h z s. double_char_line u s) k (λ e. omega arith) (λ e. omega arith) q
  key_line (an_empty_collection {i = i} {j = j} s f e m g) = λ k. line_join (bracket_at t i s e) (line_join (may_line u k m) (closing_at t j s g))
  key_line (a_collection {i = i} {j = j} s {c = c} f e m d g) = λ k. line_join (bracket_at t i s e) (line_join (may_line u k m) (line_join (key_line d (key_in_flow c k)) (closing_at t j s g)))
  key_line (last_entry d m) = λ k. line_join (key_line d k) (may_line u k m)
  key_line (last_entry_with_comma {l = l} d m e o) = λ k. line_join (key_line d k) (line_join (may_line u k m) (line_join (comma_at l e) (may_line u k o)))
  key_line (more_entries {l = l} d m e o r) = λ k. line_join (key_line d k) (line_join (may_line u k m) (line_join (comma_at l e) (line_join (may_line u k o) (key_line r k))))
  key_line (a_node_entry d) = λ k. key_line d k
  key_line (a_pair_entry d) = λ k. key_line d k
  key_line (an_explicit_entry {i = i} e s d) = λ k. line_join (question_at i e) (line_join (separate_line u k s) (key_line d k))
  key_line (an_implicit_entry d) = λ k. key_line d k
  key_line (an_explicit_pair {i = i} e s d) = λ k. line_join (question_at i e) (line_join (separate_line u k s) (key_line d k))
  key_line (a_keyed_pair d v) = λ k. line_join (key_line d refl) (key_line v k)
  key_line (an_unkeyed_pair v) = λ k. key_line v k
  key_line (explicit_with d) = λ k. key_line d k
  key_line (explicit_without {i = i} f) = λ k. line_none t i
  key_line (key_alone d) = λ k. key_line d k
  key_line (key_and_value d m v) = λ k. line_join (key_line d k) (line_join (may_line u k m) (key_line v k))
  key_line (value_alone v) = λ k. key_line v k
  key_line (empty_value {i = i} f e m) = λ k. colon_at i e
  key_line (a_value {i = i} {k = h} {json = json} {n = n} {c = c} cs e m s d) = λ k. line_join (colon_at i e) (line_join (value_line t n c (i + 1) h cs json u k s) (key_line d k))
  key_line (a_key d s l) = λ k. line_join (key_line d k) (may_in_line u s)
  key_line (a_block_scalar _ _ _) = tt
  key_line (a_block_scalar_with _ _ _ _ _) = tt
  key_line (a_block_collection _ _ _ _ _) = tt
  key_line (a_block_collection_with _ _ _ _ _ _ _) = tt
  key_line (flow_in_block _ _ _ _) = tt
  key_line (a_last_entry _) = tt
  key_line (an_entry_before _ _ _) = tt
  key_line (a_dash_entry _ _ _) = tt
  key_line (an_explicit_entry_with _ _ _ _ _) = tt
  key_line (an_explicit_key_alone _ _ _ _) = tt
  key_line (a_keyed_entry _ _) = tt
  key_line (an_unkeyed_entry _) = tt
  key_line (a_block_value _ _) = tt
  key_line (an_empty_block_value _ _) = tt
  key_line (a_compact_collection _ _ _) = tt
  key_line (an_indented_node _) = tt
  key_line (nothing_indented _ _) = tt
