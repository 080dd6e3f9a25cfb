-- No node begins with a `%`. So no directive begins at the start of a document without `---`.
use Rattle.std.proofs.Common.{◌≡◌, ℕ, ◌+◌, ◌<◌, ◌≤◌, ℤ, Bool, true, false, ⊎_elim, List, refl, sym, ap, ◌∙◌, arith, true≢false, add-zero}
use Rattle.std.proofs.lemmas.Bool.{cases_lt}
use Rattle.std.proofs.Math.Bool.{and-false}
use Rattle.yf_chars.specs.declared.context.Ctx.{Ctx}
use Rattle.yf_chars.specs.Text.{code}
use Rattle.yf_chars.specs.Class.{is_white, is_ns_char, is_nb_char, is_printable, is_between, is_break_char, is_indicator, is_flow_indicator}
use Rattle.yf_plain.specs.Plain.{is_plain_first, is_sign}
use Rattle.yf_chars.specs.Chain.{Chain}
use Rattle.yf_chars.specs.Chain.Chain.{done, step}
use Rattle.yf_lines.specs.Basic.{is_block, Spaces}
use Rattle.yf_comments.specs.Comment.{CommentValue}
use Rattle.yf_comments.specs.Comments.{LineEnd, Row}
use Rattle.yf_comments.proofs.LineEndLemmas.{line_end_rows}
use Rattle.yf_grammar.specs.Productions.Grammar.{BlockEntries, BlockEntry, BlockNode, BlockValue, Derives, NodeOf}
use Rattle.yf_grammar.specs.Productions.Grammar.Derives.{flow_node, an_alias, a_plain, a_plain_with, properties_alone, a_json, a_json_with, a_key, a_block_scalar, a_block_scalar_with, a_block_collection, a_block_collection_with, flow_in_block, a_last_entry, an_entry_before, a_dash_entry, an_explicit_entry_with, an_explicit_key_alone, a_keyed_entry, an_unkeyed_entry, a_block_value, an_empty_block_value}
use Rattle.yf_grammar.specs.Productions.Meaning.{Meaning}
use Rattle.yf_grammar.specs.FlowReader.Parser.{begins_alias, begins_content, begins_properties}
use Rattle.yf_grammar.proofs.BlockContent.BlockScalars.{is_bar_sign, scalar_sign}
use Rattle.yf_grammar.proofs.FlowReader.FlowStarts.{flow_starts}
use Rattle.yf_grammar.proofs.Ends.NodeExits.{alias_begins}
use Rattle.yf_grammar.proofs.FlowReader.PlainEnds.{plain_leaps}
use Rattle.yf_grammar.proofs.FlowReader.PropertiesEnds.{properties_begin}
use Rattle.yf_grammar.proofs.Ends.GapLemmas.{Visible, separate_still}
use Rattle.yf_stream.proofs.Uniqueness.OneDirective.{percent_still}

percent_ns : is_ns_char 37 ≡ true
unfolding is_ns_char is_nb_char is_printable is_between is_break_char is_white
percent_ns = refl

percent_bars : (is_bar_sign 37 ≡ false) × (begins_properties 37 ≡ false) × (begins_content 37 ≡ false) × (begins_alias 37 ≡ false)
unfolding is_bar_sign begins_properties begins_content begins_alias
percent_bars = (refl, refl, refl, refl)

percent_first : (t : List ℕ) (c : Ctx) (i : ℕ) → code t i ≡ 37 → is_plain_first t c i ≡ false
unfolding is_plain_first is_indicator is_sign is_flow_indicator is_ns_char is_nb_char is_white is_printable is_break_char is_between
percent_first t c i e = rw e (and-false (is_ns_char 37))

apart : (b : ℕ → Bool) (c : ℕ) → c ≡ 37 → b 37 ≡ false → b c ≡ true → ⊥
apart b c e f g = true≢false (sym g ∙ ap b e ∙ f)

moved_code : (t : List ℕ) (k l : ℕ) → l ≡ k → code t k ≡ 37 → code t l ≡ 37
moved_code t k l e f = ap (code t) e ∙ f

module _ {t : List ℕ} where
  percent_visible : {k : ℕ} → code t k ≡ 37 → Visible t k
  percent_visible e = record { ns = ap is_ns_char e ∙ percent_ns; no_hash = λ q. absurd (omega arith) }

  pub no_percent_flow : {h i j : ℕ} {json : Bool} {n : ℤ} {c : Ctx} {x : Meaning} → is_block c ≡ false → code t i ≡ 37 → Derives t h (NodeOf json n c) i j x → ⊥
  no_percent_flow {i = i} b e (an_alias f a) = apart begins_alias (code t i) e percent_bars.3 (alias_begins a)
  no_percent_flow {i = i} {c = c} b e (a_plain p) = true≢false (sym (plain_leaps p).0 ∙ percent_first t c i e)
  no_percent_flow {i = i} b e (a_plain_with p s q) = apart begins_properties (code t i) e percent_bars.1 (properties_begin p)
  no_percent_flow {i = i} b e (properties_alone f p) = apart begins_properties (code t i) e percent_bars.1 (properties_begin p)
  no_percent_flow {i = i} b e (a_json q) = apart begins_content (code t i) e percent_bars.2 (flow_starts q b).content
  no_percent_flow {i = i} b e (a_json_with p s q) = apart begins_properties (code t i) e percent_bars.1 (properties_begin p)

  no_percent_value : {h m i j : ℕ} {x : Meaning} → code t i ≡ 37 → Derives t h (BlockValue m) i j x → ⊥
  no_percent_value e (a_block_value f d) = omega arith
  no_percent_value e (an_empty_block_value f l) = omega arith

  no_percent_entry : {h m i j : ℕ} {s : Bool} {x : Meaning} → code t i ≡ 37 → Derives t h (BlockEntry s m) i j x → ⊥
  no_percent_entry e (a_dash_entry f n d) = omega arith
  no_percent_entry e (an_explicit_entry_with f w a c b) = omega arith
  no_percent_entry e (an_explicit_key_alone f w a c) = omega arith
  no_percent_entry e (a_keyed_entry (a_key d g m) v) = no_percent_flow refl e d
  no_percent_entry e (an_unkeyed_entry v) = no_percent_value e v

  no_percent_entries : {h m i j : ℕ} {s : Bool} {x : Meaning} → code t i ≡ 37 → Derives t h (BlockEntries s m) i j x → ⊥
  no_percent_entries e (a_last_entry d) = no_percent_entry e d
  no_percent_entries e (an_entry_before d s r) = no_percent_entry e d

  -- only the start of a line ends there
  no_lines : {k l : ℕ} {x : List CommentValue} → code t k ≡ 37 → LineEnd t k l x → l ≡ k
  no_lines {k} e d = go (line_end_rows d) where
    go : {l : ℕ} {x : List CommentValue} → Chain (Row t) k l x → l ≡ k
    go done = refl
    go (step {h = h} {x = x} r c) = absurd ((percent_still e).none h x r)

  no_spaces : {k m : ℕ} → code t k ≡ 37 → Spaces t k m → m ≡ 0
  no_spaces {k} {m} e s = ⊎_elim
      (λ (l : 0 < m).
      let f = s.each 0 l in
      let g : code t k ≡ 32 = ap (code t) (sym (add-zero k)) ∙ f in
      absurd (omega arith))
      (λ (l : m ≤ 0). omega arith)
      (cases_lt 0 m)

  pub no_percent_node : {h k j : ℕ} {n : ℤ} {c : Ctx} {x : Meaning} → code t k ≡ 37 → Derives t h (BlockNode n c) k j x → ⊥
  no_percent_node {k = k} e (a_block_scalar {k = l} b s d) =
      apart is_bar_sign (code t l) (moved_code t k l (separate_still (percent_visible e) s).0 e) percent_bars.0 (scalar_sign d)
  no_percent_node {k = k} e (a_block_scalar_with {f = l} b s p q d) =
      apart begins_properties (code t l) (moved_code t k l (separate_still (percent_visible e) s).0 e) percent_bars.1 (properties_begin p)
  no_percent_node {k = k} e (a_block_collection {k = l} {m = m} b d s o y) =
      let same = no_lines e d in
      let none = no_spaces (moved_code t k l same e) s in
      no_percent_entries (moved_code t k (l + m) (omega arith) e) y
  no_percent_node {k = k} e (a_block_collection_with {f = l} b s p d r o y) =
      apart begins_properties (code t l) (moved_code t k l (separate_still (percent_visible e) s).0 e) percent_bars.1 (properties_begin p)
  no_percent_node {k = k} e (flow_in_block {k = l} b s (flow_node d) m) = no_percent_flow refl (moved_code t k l (separate_still (percent_visible e) s).0 e) d
