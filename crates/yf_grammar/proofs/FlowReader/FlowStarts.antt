-- The first characters of flow productions, which continue no separation and end no entry; and that these productions
-- are not empty.
use Rattle.std.proofs.Common.{◌≡◌, ◌≢◌, ℕ, ℤ, ◌+◌, ◌<◌, ◌≤◌, Bool, true, false, ◌||◌, ◌==◌, List, refl, sym, ap, ◌∙◌, arith, true≢false, not}
use Rattle.std.proofs.lemmas.Bool.{and_parts}
use Rattle.std.proofs.lemmas.Bool.Decides.{nat_tests}
use Rattle.std.specs.Str.{IsUtf8}
use Rattle.yf_chars.specs.declared.context.Ctx.{Ctx}
use Rattle.yf_chars.specs.declared.context.Ctx.TheVariants.{BlockOut, BlockIn, FlowOut, FlowIn, BlockKey, FlowKey}
use Rattle.yf_chars.specs.Text.{code}
use Rattle.yf_chars.specs.Class.{is_ns_char, is_nb_char, is_printable, is_between, is_break_char, is_white, is_plain_safe, is_flow_indicator}
use Rattle.yf_chars.specs.Chain.{Stuck, Many}
use Rattle.yf_chars.specs.Chain.Chain.{done}
use Rattle.yf_chars.proofs.ChainLemmas.{many_chosen}
use Rattle.yf_lines.specs.Basic.{is_block, SeparateInLine}
use Rattle.yf_lines.specs.Basic.SeparateInLine.{by_whites, at_start}
use Rattle.yf_comments.specs.Comment.{CommentValue}
use Rattle.yf_comments.specs.Comments.{LineRest, LineEnd, SeparateLines, Separate}
use Rattle.yf_comments.specs.Comments.LineRest.{nothing, whites, comment}
use Rattle.yf_comments.specs.Comments.LineEnd.{past_rest, from_start}
use Rattle.yf_comments.specs.Comments.SeparateLines.{in_line, over_lines}
use Rattle.yf_comments.specs.Comments.Separate.{in_key, in_node}
use Rattle.yf_plain.specs.Plain.{PlainText}
use Rattle.yf_plain.proofs.PlainLemmas.{first_is_ns, ns_not_white, safe_is_ns}
use Rattle.yf_props.specs.Names.{Alias, Properties, PropertiesValue}
use Rattle.yf_props.specs.Names.Alias.{asterisk_name}
use Rattle.yf_props.proofs.SeparationEnds.{separate_forward}
use Rattle.yf_grammar.specs.Productions.Meaning.{Meaning}
use Rattle.yf_grammar.specs.Productions.Grammar.{Production, FlowNode, NodeOf, JsonContent, Entries, Entry, Pair, Explicit, Implicit, ValueOf, KeyOf, BlockNode, BlockEntries, BlockEntry, BlockIndented, BlockValue, Derives, MaySeparate, MaySeparateInLine, opening, in_flow, ValueSeparate}
use Rattle.yf_grammar.specs.Productions.Grammar.MaySeparate.{unseparated, separated}
use Rattle.yf_grammar.specs.Productions.Grammar.MaySeparateInLine.{unseparated_in_line, separated_in_line}
use Rattle.yf_grammar.specs.Productions.Grammar.Derives.{flow_node, an_alias, a_plain, a_plain_with, properties_alone, a_json, a_json_with, a_single, a_double, an_empty_collection, a_collection, last_entry, last_entry_with_comma, more_entries, a_node_entry, a_pair_entry, an_explicit_entry, an_implicit_entry, an_explicit_pair, a_keyed_pair, an_unkeyed_pair, explicit_with, explicit_without, key_alone, key_and_value, value_alone, empty_value, a_value, a_key, a_block_scalar, a_block_scalar_with, a_block_collection, a_block_collection_with, flow_in_block, a_last_entry, an_entry_before, a_dash_entry, an_explicit_entry_with, an_explicit_key_alone, a_keyed_entry, an_unkeyed_entry, a_block_value, an_empty_block_value, a_compact_collection, an_indented_node, nothing_indented}
use Rattle.yf_grammar.specs.FlowReader.Parser.{begins_alias, begins_properties, begins_content}
use Rattle.yf_grammar.proofs.Ends.BlankRuns.{ContentBefore, no_start_past}
use Rattle.yf_grammar.proofs.Ends.GapLemmas.{Visible, ends_nowhere}
use Rattle.yf_grammar.proofs.FlowReader.PlainEnds.{plain_leaps, plain_later, is_bar, first_no_bar, first_colon, first_question}
use Rattle.yf_grammar.proofs.FlowReader.PropertiesEnds.{properties_begin}
use Rattle.yf_grammar.proofs.FlowReader.QuotedEnds.{single_later, double_later}
use Rattle.yf_props.proofs.NameOrder.{properties_forward}

-- a comma or a closing bracket
unfoldable pub is_end : ℕ → Bool
is_end c = (c == 44) || (c == 93) || (c == 125)

-- the first characters of nodes that are no plain scalars
unfoldable pub is_mark : ℕ → Bool
is_mark c = begins_alias c || begins_properties c || begins_content c

mark_ns : (c : ℕ) → is_mark c ≡ true → is_ns_char c ≡ true
unfolding is_mark begins_alias begins_properties begins_content is_ns_char is_nb_char is_printable is_between is_break_char is_white
mark_ns c e = grind (arith, nat_tests)

mark_no_hash : (c : ℕ) → is_mark c ≡ true → c ≢ 35
unfolding is_mark begins_alias begins_properties begins_content
mark_no_hash c e q = grind (arith, nat_tests)

mark_no_colon : (c : ℕ) → is_mark c ≡ true → c ≢ 58
unfolding is_mark begins_alias begins_properties begins_content
mark_no_colon c e q = grind (arith, nat_tests)

mark_no_question : (c : ℕ) → is_mark c ≡ true → c ≢ 63
unfolding is_mark begins_alias begins_properties begins_content
mark_no_question c e q = grind (arith, nat_tests)

mark_no_end : (c : ℕ) → is_mark c ≡ true → is_end c ≡ false
unfolding is_mark begins_alias begins_properties begins_content is_end
mark_no_end c e = grind (arith, nat_tests)

bar_no_end : (c : ℕ) → is_bar c ≡ false → is_end c ≡ false
unfolding is_bar is_end
bar_no_end c e = grind (arith, nat_tests)

pub bar_no_hash : (c : ℕ) → is_bar c ≡ false → c ≢ 35
unfolding is_bar
bar_no_hash c e q = grind (arith, nat_tests)

alias_marks : (c : ℕ) → c ≡ 42 → is_mark c ≡ true
unfolding is_mark begins_alias begins_properties begins_content
alias_marks c e = ap is_mark e

properties_mark : (c : ℕ) → begins_properties c ≡ true → is_mark c ≡ true
unfolding is_mark begins_alias begins_properties begins_content
properties_mark c e = grind (arith, nat_tests)

content_mark : (c : ℕ) → begins_content c ≡ true → is_mark c ≡ true
unfolding is_mark begins_alias begins_properties begins_content
content_mark c e = grind (arith, nat_tests)

content_begins : (begins_content 39 ≡ true) × (begins_content 34 ≡ true) × (begins_content 91 ≡ true) × (begins_content 123 ≡ true)
unfolding begins_content
content_begins = (refl, refl, refl, refl)

pub opening_begins : (s : Bool) → begins_content (opening s) ≡ true
opening_begins true = content_begins.2
opening_begins false = content_begins.3

pub sign_facts : (is_ns_char 58 ≡ true) × (is_ns_char 63 ≡ true) × (is_end 58 ≡ false) × (is_end 63 ≡ false)
unfolding is_ns_char is_nb_char is_printable is_between is_break_char is_white is_end
sign_facts = (refl, refl, refl, refl)

pub in_flow_not_block : (c : Ctx) → is_block c ≡ false → is_block (in_flow c) ≡ false
in_flow_not_block BlockOut b = b
in_flow_not_block BlockIn b = b
in_flow_not_block FlowOut b = refl
in_flow_not_block FlowIn b = refl
in_flow_not_block BlockKey b = refl
in_flow_not_block FlowKey b = refl

-- the part is not empty, and its first character is visible and ends no entry
pub record Starts (t : List ℕ) (i j : ℕ) : Type 0 where
  pub later : i < j
  pub visible : Visible t i
  pub no_end : is_end (code t i) ≡ false

-- for a node: a safe character follows a `:` or `?` at its start
pub record NodeStarts (t : List ℕ) (c : Ctx) (i j : ℕ) : Type 0 where
  pub starts : Starts t i j
  pub colon : code t i ≡ 58 → is_plain_safe (code t (i + 1)) c ≡ true
  pub question : code t i ≡ 63 → is_plain_safe (code t (i + 1)) c ≡ true

-- for a quoted scalar or a flow collection
pub record ContentStarts (t : List ℕ) (i j : ℕ) : Type 0 where
  pub later : i < j
  pub content : begins_content (code t i) ≡ true

pub record ValueStarts (t : List ℕ) (i j : ℕ) : Type 0 where
  pub later : i < j
  pub colon : code t i ≡ 58

abbrev pub StartsClaim : List ℕ → Production → ℕ → ℕ → Type 0
StartsClaim t (FlowNode n c) i j = is_block c ≡ false → NodeStarts t c i j
StartsClaim t (NodeOf json n c) i j = is_block c ≡ false → NodeStarts t c i j
StartsClaim t (JsonContent n c) i j = is_block c ≡ false → ContentStarts t i j
StartsClaim t (Entries s n c) i j = is_block c ≡ false → Starts t i j
StartsClaim t (Entry s n c) i j = is_block c ≡ false → Starts t i j
StartsClaim t (Pair n c) i j = is_block c ≡ false → Starts t i j
StartsClaim t (Explicit n c s) i j = is_block c ≡ false → i ≤ j
StartsClaim t (Implicit n c s) i j = is_block c ≡ false → Starts t i j
StartsClaim t (ValueOf json n c) i j = is_block c ≡ false → ValueStarts t i j
StartsClaim t (KeyOf json c) i j = is_block c ≡ false → Starts t i j
StartsClaim t (BlockNode n c) i j = Unit {0}
StartsClaim t (BlockEntries s m) i j = Unit {0}
StartsClaim t (BlockEntry s m) i j = Unit {0}
StartsClaim t (BlockIndented m c) i j = Unit {0}
StartsClaim t (BlockValue m) i j = Unit {0}

mark_starts : (t : List ℕ) (i j : ℕ) → is_mark (code t i) ≡ true → i < j → Starts t i j
mark_starts t i j e l = record { later = l; visible = record { ns = mark_ns (code t i) e; no_hash = mark_no_hash (code t i) e }; no_end = mark_no_end (code t i) e }

mark_node : (t : List ℕ) (c : Ctx) (i j : ℕ) → is_mark (code t i) ≡ true → i < j → NodeStarts t c i j
mark_node t c i j e l = record {
  starts = mark_starts t i j e l;
  colon = λ q. absurd (mark_no_colon (code t i) e q);
  question = λ q. absurd (mark_no_question (code t i) e q);
}

sign_starts : (t : List ℕ) (i j d : ℕ) → code t i ≡ d → is_ns_char d ≡ true → is_end d ≡ false → d ≢ 35 → i < j → Starts t i j
sign_starts t i j d e n f h l = record { later = l; visible = record { ns = ap is_ns_char e ∙ n; no_hash = λ q. h (sym e ∙ q) }; no_end = ap is_end e ∙ f }

pub may_forward : {t : List ℕ} {n : ℤ} {c : Ctx} {i j : ℕ} {cs : List CommentValue} → MaySeparate t n c i j cs → i ≤ j
may_forward unseparated = omega arith
may_forward (separated s) = separate_forward s

pub value_forward : (t : List ℕ) (n : ℤ) (c : Ctx) (i j : ℕ) (cs : List CommentValue) (json : Bool) → ValueSeparate json t n c i j cs → i ≤ j
value_forward t n c i j cs true s = may_forward s
value_forward t n c i j cs false s = separate_forward s

module _ {t : List ℕ} where
  pub may_line_forward : {i j : ℕ} → MaySeparateInLine t i j → i ≤ j
  may_line_forward unseparated_in_line = omega arith
  may_line_forward (separated_in_line (by_whites m l)) = omega arith
  may_line_forward (separated_in_line (at_start s)) = omega arith

  further : {i j k : ℕ} → Starts t i j → j ≤ k → Starts t i k
  further s l = record { later = omega (arith, s.later); visible = s.visible; no_end = s.no_end }

  node_further : {c : Ctx} {i j k : ℕ} → NodeStarts t c i j → j ≤ k → NodeStarts t c i k
  node_further s l = record { starts = further s.starts l; colon = s.colon; question = s.question }

  alias_parts : {i j : ℕ} {x : List ℕ} → Alias t i j x → (code t i ≡ 42) × (i < j)
  alias_parts (asterisk_name e r) = (e, omega (arith, r.some))

  plain_starts : {n : ℤ} {c : Ctx} {i j : ℕ} {x : List ℕ} → PlainText t n c i j x → NodeStarts t c i j
  plain_starts {c = c} {i = i} p =
      let e = (plain_leaps p).0 in
      let b = first_no_bar t c i e in
      record {
        starts = record { later = plain_later p; visible = record { ns = first_is_ns t c i e; no_hash = bar_no_hash (code t i) b }; no_end = bar_no_end (code t i) b };
        colon = λ q. sym (first_colon t c i q) ∙ e;
        question = λ q. sym (first_question t c i q) ∙ e;
      }

  value_starts : {i j : ℕ} → ValueStarts t i j → Starts t i j
  value_starts {i} {j} v = sign_starts t i j 58 v.colon sign_facts.0 sign_facts.2 (λ q. omega arith) v.later

  properties_node : {n : ℤ} {c : Ctx} {i g j : ℕ} {p : PropertiesValue} → Properties t n c i g p → g ≤ j → NodeStarts t c i j
  properties_node {c = c} {i = i} {j = j} p l = let m = properties_forward p in mark_node t c i j (properties_mark (code t i) (properties_begin p)) (omega arith)

  bracket_starts : (s : Bool) {i j : ℕ} → code t i ≡ opening s → i < j → ContentStarts t i j
  bracket_starts s e l = record { later = l; content = ap begins_content e ∙ opening_begins s }

  question_starts : {i j : ℕ} → code t i ≡ 63 → i < j → Starts t i j
  question_starts {i} {j} e l = sign_starts t i j 63 e sign_facts.1 sign_facts.3 (λ q. omega arith) l

  pub flow_starts : {h i j : ℕ} {p : Production} {x : Meaning} → Derives t h p i j x → StartsClaim t p i j
  flow_starts (flow_node d) = λ b. flow_starts d b
  flow_starts (an_alias {i = i} {j = j} {c = c} f a) = λ b. let q = alias_parts a in mark_node t c i j (alias_marks (code t i) q.0) q.1
  flow_starts (a_plain p) = λ b. plain_starts p
  flow_starts (a_plain_with p s q) = λ b. let f = separate_forward s in let g = (plain_starts q).starts.later in properties_node p (omega arith)
  flow_starts (properties_alone f p) = λ b. properties_node p (omega arith)
  flow_starts (a_json {i = i} {j = j} {c = c} d) = λ b. let s = flow_starts d b in mark_node t c i j (content_mark (code t i) s.content) s.later
  flow_starts (a_json_with p s d) = λ b. let f = separate_forward s in let g = (flow_starts d b).later in properties_node p (omega arith)
  flow_starts (a_single q) = λ b. record { later = single_later b q; content = ap begins_content q.opening ∙ content_begins.0 }
  flow_starts (a_double q) = λ b. record { later = double_later b q; content = ap begins_content q.opening ∙ content_begins.1 }
  flow_starts (an_empty_collection s f e m g) = λ b. let l = may_forward m in bracket_starts s e (omega arith)
  flow_starts (a_collection s {c = c} f e m d g) = λ b. let l = may_forward m in let k = (flow_starts d (in_flow_not_block c b)).later in bracket_starts s e (omega arith)
  flow_starts (last_entry d m) = λ b. further (flow_starts d b) (may_forward m)
  flow_starts (last_entry_with_comma d m e o) = λ b. let f = may_forward m in let g = may_forward o in further (flow_starts d b) (omega arith)
  flow_starts (more_entries d m e o r) = λ b. let f = may_forward m in let g = may_forward o in let k = (flow_starts r b).later in further (flow_starts d b) (omega arith)
  flow_starts (a_node_entry d) = λ b. (flow_starts d b).starts
  flow_starts (a_pair_entry d) = λ b. flow_starts d b
  flow_starts (an_explicit_entry e s d) = λ b. let f = separate_forward s in let g = flow_starts d b in question_starts e (omega arith)
  flow_starts (an_implicit_entry d) = λ b. flow_starts d b
  flow_starts (an_explicit_pair e s d) = λ b. let f = separate_forward s in let g = flow_starts d b in question_starts e (omega arith)
  flow_starts (a_keyed_pair d v) = λ b. let g = (flow_starts v b).later in further (flow_starts d refl) (omega arith)
  flow_starts (an_unkeyed_pair v) = λ b. value_starts (flow_starts v b)
  flow_starts (explicit_with d) = λ b. let s = flow_starts d b in omega (arith, s.later)
  flow_starts (explicit_without f) = λ b. omega arith
  flow_starts (key_alone d) = λ b. (flow_starts d b).starts
  flow_starts (key_and_value d m v) = λ b. let f = may_forward m in let g = (flow_starts v b).later in further (flow_starts d b).starts (omega arith)
  flow_starts (value_alone v) = λ b. value_starts (flow_starts v b)
  flow_starts (empty_value f e m) = λ b. record { later = omega arith; colon = e }
  flow_starts (a_value {i = i} {k = k} {json = json} {n = n} {c = c} cs e m s d) = λ b. let f = value_forward t n c (i + 1) k cs json s in let g = (flow_starts d b).starts.later in record { later = omega arith; colon = e }
  flow_starts (a_key d s l) = λ b. further (flow_starts d b).starts (may_line_forward s)
  flow_starts (a_block_scalar _ _ _) = tt
  flow_starts (a_block_scalar_with _ _ _ _ _) = tt
  flow_starts (a_block_collection _ _ _ _ _) = tt
  flow_starts (a_block_collection_with _ _ _ _ _ _ _) = tt
  flow_starts (flow_in_block _ _ _ _) = tt
  flow_starts (a_last_entry _) = tt
  flow_starts (an_entry_before _ _ _) = tt
  flow_starts (a_dash_entry _ _ _) = tt
  flow_starts (an_explicit_entry_with _ _ _ _ _) = tt
  flow_starts (an_explicit_key_alone _ _ _ _) = tt
  flow_starts (a_keyed_entry _ _) = tt
  flow_starts (an_unkeyed_entry _) = tt
  flow_starts (a_block_value _ _) = tt
  flow_starts (an_empty_block_value _ _) = tt
  flow_starts (a_compact_collection _ _ _) = tt
  flow_starts (an_indented_node _) = tt
  flow_starts (nothing_indented _ _) = tt

-- nothing separates two adjacent characters of content
module _ {t : List ℕ} where
  no_whites_there : {k m : ℕ} {w : List ℕ} → is_ns_char (code t k) ≡ true → Many t is_white k m w → k < m → ⊥
  no_whites_there {k} {m} {w} n c l = let f = (many_chosen t is_white (done {i = k}) (ns_not_white (code t k) n)).longest m w c in omega arith

  no_line_there : {k m : ℕ} → IsUtf8 t → ContentBefore t k → is_ns_char (code t k) ≡ true → SeparateInLine t k m → ⊥
  no_line_there u b n (by_whites m l) = no_whites_there n m l
  no_line_there u b n (at_start s) = no_start_past u b s

  no_rest_there : {k m : ℕ} {x : List CommentValue} → IsUtf8 t → ContentBefore t k → is_ns_char (code t k) ≡ true → LineRest t k m x → ⊥
  no_rest_there u b n (nothing e) = ends_nowhere n e
  no_rest_there u b n (whites s e) = no_line_there u b n s
  no_rest_there u b n (comment s d e) = no_line_there u b n s

  pub no_end_there : {k m : ℕ} {x : List CommentValue} → IsUtf8 t → ContentBefore t k → is_ns_char (code t k) ≡ true → LineEnd t k m x → ⊥
  no_end_there u b n (past_rest r c) = no_rest_there u b n r
  no_end_there u b n (from_start s c) = no_start_past u b s

  no_lines_there : {n : ℤ} {k m : ℕ} {x : List CommentValue} → IsUtf8 t → ContentBefore t k → is_ns_char (code t k) ≡ true → SeparateLines t n k m x → ⊥
  no_lines_there u b n (in_line s) = no_line_there u b n s
  no_lines_there u b n (over_lines d p) = no_end_there u b n d

  no_separate_there : {n : ℤ} {c : Ctx} {k m : ℕ} {x : List CommentValue} → IsUtf8 t → ContentBefore t k → is_ns_char (code t k) ≡ true → Separate t n c k m x → ⊥
  no_separate_there u b n (in_key e s) = no_line_there u b n s
  no_separate_there u b n (in_node e s) = no_lines_there u b n s

  pub separate_stuck : {n : ℤ} {c : Ctx} (k : ℕ) → IsUtf8 t → ContentBefore t k → is_ns_char (code t k) ≡ true → Stuck (Separate t n c k)
  separate_stuck k u b n = record { none = λ m x s. no_separate_there u b n s }
