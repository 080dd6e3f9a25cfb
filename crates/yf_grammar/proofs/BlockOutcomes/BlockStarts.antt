-- The first characters of block productions, and that these are not empty: entries begin with a character that
-- continues no separation, those of a sequence with a `-`, those of a mapping with another one.
use Rattle.std.proofs.Common.{◌≡◌, ◌≢◌, ℕ, ℤ, ◌+◌, ◌<◌, ◌≤◌, Bool, true, false, List, Option, refl, sym, ap, ◌∙◌, arith, true≢false}
use Rattle.std.proofs.lemmas.Bool.Decides.{nat_tests}
use Rattle.yf_chars.specs.declared.context.Ctx.{Ctx}
use Rattle.yf_chars.specs.Text.{code}
use Rattle.yf_chars.specs.Class.{is_ns_char, is_nb_char, is_printable, is_between, is_break_char, is_white}
use Rattle.yf_chars.specs.Chain.Chain.{done}
use Rattle.yf_chars.proofs.ChainLemmas.{chain_forward}
use Rattle.yf_lines.specs.Basic.{is_block}
use Rattle.yf_comments.specs.Comment.{CommentValue}
use Rattle.yf_comments.specs.Comments.{LineEnd, LineRest}
use Rattle.yf_comments.specs.Comments.LineEnd.{past_rest}
use Rattle.yf_comments.proofs.LineEndLemmas.{line_end_rows}
use Rattle.yf_comments.proofs.RowLemmas.{row_functional}
use Rattle.yf_plain.specs.Plain.{is_sign, PlainText}
use Rattle.yf_plain.proofs.PlainLemmas.{first_sign, safe_is_ns}
use Rattle.yf_props.proofs.SeparationEnds.{separate_forward}
use Rattle.yf_block_scalar.specs.declared.header.Header.{Header}
use Rattle.yf_block_scalar.specs.declared.header.Chomp.{Chomp}
use Rattle.yf_block_scalar.specs.Header.{BlockHeader, HeaderValue, Style, Digit, Sign, Indicators}
use Rattle.yf_block_scalar.specs.Header.BlockHeader.{block_header}
use Rattle.yf_block_scalar.specs.Header.Style.{literal_sign, folded_sign}
use Rattle.yf_block_scalar.specs.Header.Digit.{digit}
use Rattle.yf_block_scalar.specs.Header.Sign.{strip_sign, keep_sign}
use Rattle.yf_block_scalar.specs.Header.Indicators.{neither, digit_alone, sign_alone, digit_sign, sign_digit}
use Rattle.yf_block_scalar.specs.Body.{LinesTaken, Trail, Body, BodyValue}
use Rattle.yf_block_scalar.specs.Body.Trail.{comments, no_comment}
use Rattle.yf_block_scalar.specs.Body.Body.{indicated, detected, without_content}
use Rattle.yf_block_scalar.proofs.BodyLemmas.{bare_functional}
use Rattle.yf_block_scalar.proofs.UniqueLemmas.{line_functional, lines_chain}
use Rattle.yf_grammar.specs.Productions.BlockScalar.{BlockScalar}
use Rattle.yf_grammar.specs.Productions.BlockScalar.BlockScalar.{block_scalar}
use Rattle.yf_grammar.specs.BlockReader.BlockParser.{DashAt}
use Rattle.yf_grammar.specs.Productions.Meaning.{Meaning}
use Rattle.yf_grammar.specs.Productions.Grammar.{Production, FlowNode, NodeOf, JsonContent, Entries, Entry, Pair, Explicit, Implicit, ValueOf, KeyOf, BlockNode, BlockEntries, BlockEntry, BlockIndented, BlockValue, Derives}
use Rattle.yf_grammar.specs.Productions.Grammar.Derives.{flow_node, an_alias, a_plain, a_plain_with, properties_alone, a_json, a_json_with, a_single, a_double, an_empty_collection, a_collection, last_entry, last_entry_with_comma, more_entries, a_node_entry, a_pair_entry, an_explicit_entry, an_implicit_entry, an_explicit_pair, a_keyed_pair, an_unkeyed_pair, explicit_with, explicit_without, key_alone, key_and_value, value_alone, empty_value, a_value, a_key, a_block_scalar, a_block_scalar_with, a_block_collection, a_block_collection_with, flow_in_block, a_last_entry, an_entry_before, a_dash_entry, an_explicit_entry_with, an_explicit_key_alone, a_keyed_entry, an_unkeyed_entry, a_block_value, an_empty_block_value, a_compact_collection, an_indented_node, nothing_indented}
use Rattle.yf_grammar.specs.FlowReader.Parser.{begins_alias, begins_properties, begins_content}
use Rattle.yf_grammar.proofs.FlowReader.FlowStarts.{flow_starts}
use Rattle.yf_grammar.proofs.Ends.GapLemmas.{Visible}
use Rattle.yf_grammar.proofs.Ends.NodeExits.{alias_begins}
use Rattle.yf_grammar.proofs.FlowReader.PlainEnds.{plain_leaps}
use Rattle.yf_grammar.proofs.FlowReader.PropertiesEnds.{properties_begin}
use Rattle.yf_props.proofs.NameOrder.{properties_forward}

-- line ends and block scalars never lead back
module _ {t : List ℕ} where
  pub line_end_forward : {i j : ℕ} {x : List CommentValue} → LineEnd t i j x → i ≤ j
  line_end_forward e = chain_forward row_functional (line_end_rows e)

  rest_forward : {i j : ℕ} {x : List CommentValue} → LineRest t i j x → i ≤ j
  rest_forward r = line_end_forward (past_rest r done)

  style_later : {i j : ℕ} {f : Bool} → Style t i j f → i < j
  style_later (literal_sign e) = omega arith
  style_later (folded_sign e) = omega arith

  digit_forward : {i j d : ℕ} → Digit t i j d → i ≤ j
  digit_forward (digit e) = omega arith

  sign_forward : {i j : ℕ} {c : Chomp} → Sign t i j c → i ≤ j
  sign_forward (strip_sign e) = omega arith
  sign_forward (keep_sign e) = omega arith

  marks_forward : {i j : ℕ} {d : Option ℕ} {c : Chomp} → Indicators t i j d c → i ≤ j
  marks_forward neither = omega arith
  marks_forward (digit_alone d) = digit_forward d
  marks_forward (sign_alone s) = sign_forward s
  marks_forward (digit_sign d s) = let f = digit_forward d in let g = sign_forward s in omega arith
  marks_forward (sign_digit s d) = let f = sign_forward s in let g = digit_forward d in omega arith

  pub header_later : {i j : ℕ} {h : HeaderValue} → BlockHeader t i j h → i < j
  header_later (block_header s m r) = let f = style_later s in let g = marks_forward m in let h = rest_forward r in omega arith

  taken_forward : {k i p count : ℕ} {ls : List (List ℕ)} {o : Bool} → LinesTaken t k i ls o count p → i ≤ p
  taken_forward {k} d = let f = chain_forward (line_functional t k) (lines_chain d.lines) in let g = chain_forward (bare_functional t) d.tail.lines in omega arith

  trail_forward : {k i j : ℕ} {x : List CommentValue} → Trail t k i j x → i ≤ j
  trail_forward (comments m l a e c) = line_end_forward c.derived
  trail_forward (no_comment n) = omega arith

  body_forward : {n : ℤ} {h : Header} {i j : ℕ} {v : BodyValue} → Body t n h i j v → i ≤ j
  body_forward (indicated e a b) = let f = taken_forward a in let g = trail_forward b in omega arith
  body_forward (detected e d a b) = let f = taken_forward a in let g = trail_forward b in omega arith
  body_forward (without_content e c d b) = let f = chain_forward (bare_functional t) c in let g = trail_forward b in omega arith

  pub scalar_later : {n : ℤ} {i j : ℕ} {x : Meaning} → BlockScalar t n i j x → i < j
  scalar_later (block_scalar h b l) = let f = header_later h in let g = body_forward b in omega arith

-- a flow node begins with no `-` of an entry
alias_no_dash : (c : ℕ) → begins_alias c ≡ true → c ≢ 45
unfolding begins_alias
alias_no_dash c e q = grind (arith, nat_tests)

properties_no_dash : (c : ℕ) → begins_properties c ≡ true → c ≢ 45
unfolding begins_properties
properties_no_dash c e q = grind (arith, nat_tests)

content_no_dash : (c : ℕ) → begins_content c ≡ true → c ≢ 45
unfolding begins_content
content_no_dash c e q = grind (arith, nat_tests)

sign_dash : is_sign 45 ≡ true
unfolding is_sign
sign_dash = refl

pub sign_visible : (is_ns_char 45 ≡ true) × (is_ns_char 63 ≡ true) × (is_ns_char 58 ≡ true)
unfolding is_ns_char is_nb_char is_printable is_between is_break_char is_white
sign_visible = (refl, refl, refl)

module _ {t : List ℕ} where
  plain_no_dash : {n : ℤ} {c : Ctx} {i j : ℕ} {x : List ℕ} → PlainText t n c i j x → DashAt t i → ⊥
  plain_no_dash {c = c} {i = i} p d =
      let e = sym (first_sign t c i (ap is_sign d.dash ∙ sign_dash)) ∙ (plain_leaps p).0 in
      true≢false (sym (safe_is_ns (code t (i + 1)) c e) ∙ d.follows)

  pub node_no_dash : {h i j : ℕ} {json : Bool} {n : ℤ} {c : Ctx} {x : Meaning} → is_block c ≡ false → Derives t h (NodeOf json n c) i j x → DashAt t i → ⊥
  node_no_dash {i = i} b (an_alias f a) d = alias_no_dash (code t i) (alias_begins a) d.dash
  node_no_dash b (a_plain p) d = plain_no_dash p d
  node_no_dash {i = i} b (a_plain_with p s q) d = properties_no_dash (code t i) (properties_begin p) d.dash
  node_no_dash {i = i} b (properties_alone f p) d = properties_no_dash (code t i) (properties_begin p) d.dash
  node_no_dash {i = i} b (a_json q) d = content_no_dash (code t i) (flow_starts q b).content d.dash
  node_no_dash {i = i} b (a_json_with p s q) d = properties_no_dash (code t i) (properties_begin p) d.dash

-- the first entry of a collection
pub data FirstOf (t : List ℕ) (i : ℕ) : Bool → Type 0 where
  dash_first : DashAt t i → FirstOf t i true
  no_dash_first : (DashAt t i → ⊥) → FirstOf t i false

pub record EntryStarts (t : List ℕ) (sequence : Bool) (i j : ℕ) : Type 0 where
  pub later : i < j
  pub visible : Visible t i
  pub first : FirstOf t i sequence

pub record ColonStarts (t : List ℕ) (i j : ℕ) : Type 0 where
  pub later : i < j
  pub colon : code t i ≡ 58

abbrev pub BlockStarts : List ℕ → Production → ℕ → ℕ → Type 0
BlockStarts t (FlowNode n c) i j = Unit {0}
BlockStarts t (NodeOf json n c) i j = is_block c ≡ false → DashAt t i → ⊥
BlockStarts t (JsonContent n c) i j = Unit {0}
BlockStarts t (Entries s n c) i j = Unit {0}
BlockStarts t (Entry s n c) i j = Unit {0}
BlockStarts t (Pair n c) i j = Unit {0}
BlockStarts t (Explicit n c s) i j = Unit {0}
BlockStarts t (Implicit n c s) i j = Unit {0}
BlockStarts t (ValueOf json n c) i j = Unit {0}
BlockStarts t (KeyOf json c) i j = is_block c ≡ false → DashAt t i → ⊥
BlockStarts t (BlockNode n c) i j = i < j
BlockStarts t (BlockEntries s m) i j = EntryStarts t s i j
BlockStarts t (BlockEntry s m) i j = EntryStarts t s i j
BlockStarts t (BlockIndented m c) i j = i ≤ j
BlockStarts t (BlockValue m) i j = ColonStarts t i j

module _ {t : List ℕ} where
  sign_seen : {i d : ℕ} → code t i ≡ d → is_ns_char d ≡ true → d ≢ 35 → Visible t i
  sign_seen e n f = record { ns = ap is_ns_char e ∙ n; no_hash = λ q. f (sym e ∙ q) }

  dash_starts : {i j : ℕ} → DashAt t i → i + 1 ≤ j → EntryStarts t true i j
  dash_starts d l = record { later = omega arith; visible = sign_seen d.dash sign_visible.0 (λ q. omega arith); first = dash_first d }

  question_starts : {i j : ℕ} → code t i ≡ 63 → i + 1 ≤ j → EntryStarts t false i j
  question_starts e l = record { later = omega arith; visible = sign_seen e sign_visible.1 (λ q. omega arith); first = no_dash_first (λ d. let f = d.dash in absurd (omega arith)) }

  colon_starts : {i j : ℕ} → ColonStarts t i j → EntryStarts t false i j
  colon_starts s = record { later = s.later; visible = sign_seen s.colon sign_visible.2 (λ q. omega arith); first = no_dash_first (λ d. let f = d.dash in let g = s.colon in absurd (omega arith)) }

  entry_further : {s : Bool} {i j k : ℕ} → EntryStarts t s i j → j ≤ k → EntryStarts t s i k
  entry_further e l = record { later = omega (arith, e.later); visible = e.visible; first = e.first }

  pub block_starts : {h i j : ℕ} {p : Production} {x : Meaning} → Derives t h p i j x → BlockStarts t p i j
  block_starts (flow_node _) = tt
  block_starts (an_alias {n = n} f a) = λ b d. node_no_dash {n = n} b (an_alias f a) d
  block_starts (a_plain p) = λ b d. node_no_dash b (a_plain p) d
  block_starts (a_plain_with p s q) = λ b d. node_no_dash b (a_plain_with p s q) d
  block_starts (properties_alone f p) = λ b d. node_no_dash b (properties_alone f p) d
  block_starts (a_json q) = λ b d. node_no_dash b (a_json q) d
  block_starts (a_json_with p s q) = λ b d. node_no_dash b (a_json_with p s q) d
  block_starts (a_single _) = tt
  block_starts (a_double _) = tt
  block_starts (an_empty_collection _ _ _ _ _) = tt
  block_starts (a_collection _ _ _ _ _ _) = tt
  block_starts (last_entry _ _) = tt
  block_starts (last_entry_with_comma _ _ _ _) = tt
  block_starts (more_entries _ _ _ _ _) = tt
  block_starts (a_node_entry _) = tt
  block_starts (a_pair_entry _) = tt
  block_starts (an_explicit_entry _ _ _) = tt
  block_starts (an_implicit_entry _) = tt
  block_starts (an_explicit_pair _ _ _) = tt
  block_starts (a_keyed_pair _ _) = tt
  block_starts (an_unkeyed_pair _) = tt
  block_starts (explicit_with _) = tt
  block_starts (explicit_without _) = tt
  block_starts (key_alone _) = tt
  block_starts (key_and_value _ _ _) = tt
  block_starts (value_alone _) = tt
  block_starts (empty_value _ _ _) = tt
  block_starts (a_value _ _ _ _ _) = tt
  block_starts (a_key d g m) = λ b e. node_no_dash b d e
  block_starts (a_block_scalar b s d) = let f = separate_forward s in let g = scalar_later d in omega arith
  block_starts (a_block_scalar_with b s p q d) =
      let f = separate_forward s in let g = properties_forward p in let h = separate_forward q in let k = scalar_later d in omega arith
  block_starts (a_block_collection b e s l d) = let f = line_end_forward e in let g = (block_starts d).later in omega arith
  block_starts (a_block_collection_with b s p e q l d) =
      let f = separate_forward s in let g = properties_forward p in let h = line_end_forward e in let k = (block_starts d).later in omega arith
  block_starts (flow_in_block b s d e) =
      let f = separate_forward s in let g = (flow_starts d refl).starts.later in let h = line_end_forward e in omega arith
  block_starts (a_last_entry d) = block_starts d
  block_starts (an_entry_before d s e) = let f = (block_starts d).later in let g = (block_starts e).later in entry_further (block_starts d) (omega arith)
  block_starts (a_dash_entry a b d) = dash_starts (record { dash = a; follows = b }) (block_starts d)
  block_starts (an_explicit_entry_with a b d g e) = let f = block_starts d in let h = block_starts e in question_starts a (omega arith)
  block_starts (an_explicit_key_alone a b d g) = question_starts a (block_starts d)
  block_starts (a_keyed_entry d e) =
      let f = flow_starts d refl in
      let g = f.later in
      let h = (block_starts e).later in
      record { later = omega arith; visible = f.visible; first = no_dash_first (block_starts d refl) }
  block_starts (an_unkeyed_entry d) = colon_starts (block_starts d)
  block_starts (a_block_value e d) = let f = block_starts d in record { later = omega arith; colon = e }
  block_starts (an_empty_block_value e g) = let f = line_end_forward g in record { later = omega arith; colon = e }
  block_starts (a_compact_collection b s d) = let f = (block_starts d).later in omega arith
  block_starts (an_indented_node d) = let f = block_starts d in omega arith
  block_starts (nothing_indented b g) = line_end_forward g
