-- The first entry of a block mapping: a `?`, a `:`, or a key, which the reader finds as a flow node. No other reading
-- of its first line has these.
use Rattle.std.proofs.Common.{◌≡◌, ℕ, ℤ, pos, ◌+◌, ◌≤◌, Bool, true, false, List, Option, Some, refl, sym, ◌∙◌, subst, arith, true≢false}
use Rattle.std.proofs.lemmas.Bool.Decides.{nat_tests}
use Rattle.std.specs.Str.{IsUtf8}
use Rattle.yf_chars.specs.declared.context.Ctx.{Ctx}
use Rattle.yf_chars.specs.declared.context.Ctx.TheVariants.{FlowOut, FlowKey, BlockKey}
use Rattle.yf_chars.specs.Text.{code}
use Rattle.yf_chars.specs.Class.{is_ns_char, is_white}
use Rattle.yf_chars.specs.Chain.{Many, Chosen}
use Rattle.yf_chars.proofs.ChainLemmas.{many_unique}
use Rattle.yf_lines.specs.Basic.{is_block, SeparateInLine, Clear}
use Rattle.yf_lines.specs.Basic.Indent.{exactly}
use Rattle.yf_lines.specs.Basic.FlowPrefix.{indented}
use Rattle.yf_lines.proofs.BasicLemmas.{clear_front}
use Rattle.yf_comments.specs.Comment.{CommentValue}
use Rattle.yf_comments.specs.Comments.{LineEnd, Separate}
use Rattle.yf_comments.specs.Comments.LineEnd.{past_rest, from_start}
use Rattle.yf_comments.specs.Comments.SeparateLines.{over_lines}
use Rattle.yf_comments.specs.Comments.Separate.{in_key, in_node}
use Rattle.yf_comments.proofs.RowLemmas.{separate_whites, stuck_at_solid}
use Rattle.yf_plain.proofs.PlainLemmas.{ns_not_white, safe_is_ns}
use Rattle.yf_props.specs.Names.{Properties, PropertiesValue}
use Rattle.yf_grammar.specs.BlockReader.BlockParser.{SignAt, Columns, NoSign, KeyBefore}
use Rattle.yf_grammar.specs.Productions.Meaning.{Meaning}
use Rattle.yf_grammar.specs.Productions.Grammar.{NodeOf, KeyOf, BlockEntries, BlockEntry, Derives, MaySeparateInLine}
use Rattle.yf_grammar.specs.Productions.Grammar.Derives.{an_alias, a_plain, a_plain_with, properties_alone, a_json, a_json_with, a_key, a_last_entry, an_entry_before, an_explicit_entry_with, an_explicit_key_alone, a_keyed_entry, an_unkeyed_entry}
use Rattle.yf_grammar.specs.FlowReader.Parser.{ParsedNode, found, ANode, Parses, begins_alias, begins_properties, begins_content}
use Rattle.yf_grammar.proofs.Ends.BlankRuns.{ContentBefore, no_start_past}
use Rattle.yf_grammar.proofs.BlockOutcomes.BlockKeys.{node_before_colon, end_not_ns}
use Rattle.yf_grammar.proofs.BlockOutcomes.BlockSigns.{value_sign}
use Rattle.yf_grammar.proofs.BlockOutcomes.BlockStarts.{block_starts, node_no_dash}
use Rattle.yf_grammar.proofs.FlowReader.CompleteSteps.{stop_of_colon}
use Rattle.yf_grammar.proofs.FlowReader.FlowStarts.{flow_starts, may_line_forward}
use Rattle.yf_grammar.proofs.Ends.GapLemmas.{Visible, visible_solid}
use Rattle.yf_grammar.proofs.FlowReader.KeyLines.{key_line}
use Rattle.yf_grammar.proofs.FlowReader.NodeExact.{stop_visible}
use Rattle.yf_grammar.proofs.Ends.NodeExits.{alias_begins}
use Rattle.yf_grammar.proofs.BlockOutcomes.NodesAfter.{properties_after}
use Rattle.yf_grammar.proofs.FlowReader.PairKeys.{line_run}
use Rattle.yf_grammar.proofs.FlowReader.PlainEnds.{plain_leaps, first_no_bar, no_bar_properties}
use Rattle.yf_grammar.proofs.FlowReader.PropertiesEnds.{properties_upto, properties_alone_upto, properties_upto_line, properties_begin}
use Rattle.yf_grammar.proofs.Ends.WiderLemmas.{key_separate, key_properties, may_line_separate}
use Rattle.yf_grammar.proofs.FlowStack.AwaitEntries.{found_is}
use Rattle.yf_grammar.proofs.FlowReader.Outcome.{content_no_properties}

-- a node begins with no sign of an entry
module _ {t : List ℕ} where
  sign_not_ns : {sign i : ℕ} → SignAt t sign i → is_ns_char (code t (i + 1)) ≡ true → ⊥
  sign_not_ns {i = i} s e = true≢false (sym e ∙ end_not_ns (code t (i + 1)) s.follows)

  pub node_no_question : {h i j : ℕ} {json : Bool} {n : ℤ} {c : Ctx} {x : Meaning} → is_block c ≡ false → Derives t h (NodeOf json n c) i j x → SignAt t 63 i → ⊥
  node_no_question {i = i} {c = c} b d s = sign_not_ns s (safe_is_ns (code t (i + 1)) c ((flow_starts d b).question s.sign_is_at))

  pub node_no_colon_sign : {h i j : ℕ} {json : Bool} {n : ℤ} {c : Ctx} {x : Meaning} → is_block c ≡ false → Derives t h (NodeOf json n c) i j x → SignAt t 58 i → ⊥
  node_no_colon_sign {i = i} {c = c} b d s = sign_not_ns s (safe_is_ns (code t (i + 1)) c ((flow_starts d b).colon s.sign_is_at))

  pub node_no_sign : {h i j : ℕ} {json : Bool} {n : ℤ} {c : Ctx} {x : Meaning} (cols : Columns) → is_block c ≡ false → Derives t h (NodeOf json n c) i j x → NoSign t cols i
  node_no_sign cols b d = record { no_dash = λ e s. node_no_dash b d s; no_question = λ e s. node_no_question b d s; no_colon = λ e s. node_no_colon_sign b d s }

  pub key_no_question : {h i k : ℕ} {json : Bool} {x : Meaning} → Derives t h (KeyOf json BlockKey) i k x → SignAt t 63 i → ⊥
  key_no_question (a_key d y z) s = node_no_question refl d s

  pub key_no_colon_sign : {h i k : ℕ} {json : Bool} {x : Meaning} → Derives t h (KeyOf json BlockKey) i k x → SignAt t 58 i → ⊥
  key_no_colon_sign (a_key d y z) s = node_no_colon_sign refl d s

  -- a key has one end
  key_white : {i k : ℕ} {f : ParsedNode} → KeyBefore t i f k → is_white (code t k) ≡ false
  key_white {k = k} p = ns_not_white (code t k) (stop_visible k (stop_of_colon (code t k) p.colon.sign_is_at)).ns

  pub key_one : {i k m : ℕ} {f : ParsedNode} → KeyBefore t i f k → KeyBefore t i f m → m ≡ k
  key_one p q = (many_unique t is_white q.run (key_white q) p.run (key_white p)).0

-- the reader finds a key with its meaning, before its `:`
pub record KeyFound (t : List ℕ) (h i k : ℕ) (x : Meaning) (o : Option ParsedNode) : Type 0 where
  pub answer : ParsedNode
  pub is : o ≡ Some answer
  pub height : answer.height ≡ h
  pub meaning : answer.meaning ≡ x
  pub key : KeyBefore t i answer k

module _ {t : List ℕ} (u : IsUtf8 t) where
  pub key_is : {h e i k : ℕ} {json : Bool} {n : ℤ} {x : Meaning} {o : Option ParsedNode} → Derives t h (KeyOf json BlockKey) i k x → SignAt t 58 k → Clear t i k → h ≤ e
      → Parses t e (ANode n FlowOut i) o → KeyFound t h i k x o
  key_is {h} {json = json} {x = x} (a_key {k = l} d y z) s c b r =
      let w = line_run y in
      record {
        answer = record { end = l; height = h; json = json; meaning = x };
        is = node_before_colon u d y s (clear_front (may_line_forward y) c) b r ∙ found_is l h json x;
        height = refl;
        meaning = refl;
        key = record { whites = w.0; run = w.1; line = key_line u (a_key d y z) refl; short = z; colon = s };
      }

begins_one : (c : ℕ) → begins_properties c ≡ true → (begins_alias c ≡ true → ⊥) × (begins_content c ≡ true → ⊥)
unfolding begins_properties begins_alias begins_content
begins_one c e = (λ f. grind (arith, nat_tests), λ f. grind (arith, nat_tests))

-- no line ends after the properties of a key
module _ {t : List ℕ} (u : IsUtf8 t) where
  -- white space is before a character of content
  pub no_line_end_before : {g m l : ℕ} {w : List ℕ} {x : List CommentValue} → ContentBefore t g → Many t is_white g m w → Visible t m → LineEnd t g l x → ⊥
  no_line_end_before b m v (past_rest {h = h} {x = x} r c) =
      let s = visible_solid v in (stuck_at_solid m s.not_white s.no_comment s.no_end).none h x r
  no_line_end_before b m v (from_start s c) = no_start_past u b s

  pub colon_visible : {k : ℕ} → SignAt t 58 k → Visible t k
  colon_visible {k} s = stop_visible k (stop_of_colon (code t k) s.sign_is_at)

  in_key_run : {n : ℤ} {g m : ℕ} {x : List CommentValue} → Separate t n BlockKey g m x → (w : List ℕ) × Many t is_white g m w
  in_key_run (in_key e s) = separate_whites s
  in_key_run (in_node e s) = absurd (true≢false e)

  -- the end of a line is a separation, and no separation in a key passes it
  pub end_separates : {g l : ℕ} {ds : List CommentValue} → LineEnd t g l ds → Separate t (pos 0) FlowOut g (l + 0) ds
  end_separates {l = l} d = in_node refl (over_lines d (indented (exactly 0 refl (record { each = λ m k. absurd (omega arith) }))))

  pub key_in_line : {n : ℤ} {i j : ℕ} {x : List CommentValue} → Separate t n FlowKey i j x → SeparateInLine t i j
  key_in_line (in_key e s) = s
  key_in_line (in_node e s) = absurd (true≢false e)

  -- properties before the end of a line are the longest ones of the line
  pub line_end_upto : {f g k l : ℕ} {p q : PropertiesValue} {ds : List CommentValue} → Properties t (pos 0) FlowKey f g p → LineEnd t g l ds → Properties t (pos 0) FlowKey f k q → k ≤ g
  line_end_upto p d q = properties_upto_line u p (end_separates d) (λ h y s v. no_line_end_before (properties_after u p) (separate_whites (key_in_line s)).1 v d) q

  between_no_line : {n : ℤ} {i g f m l : ℕ} {p q : PropertiesValue} {x y : List CommentValue} → Properties t n BlockKey i g p → Separate t n BlockKey g m x → Visible t m
      → begins_properties (code t m) ≡ false → Properties t (pos 0) FlowKey i f q → LineEnd t f l y → ⊥
  between_no_line {g = g} {f = f} {l = l} {y = y} p s v b d e =
      let k = key_properties (pos 0) FlowKey refl p in
      let a : f ≤ g = properties_upto u k (key_separate (pos 0) FlowKey refl s) v b d in
      let c : g ≤ f = line_end_upto d e k in
      no_line_end_before (properties_after u p) (in_key_run s).1 v (subst (λ k. LineEnd t k l y) (omega arith) e)

  node_no_line : {h i j k g l : ℕ} {json : Bool} {n : ℤ} {x : Meaning} {q : PropertiesValue} {ds : List CommentValue} → Derives t h (NodeOf json n BlockKey) i j x
      → MaySeparateInLine t j k → SignAt t 58 k → Properties t (pos 0) FlowKey i g q → LineEnd t g l ds → ⊥
  node_no_line {i = i} (an_alias b a) y s d e = (begins_one (code t i) (properties_begin d)).0 (alias_begins a)
  node_no_line {i = i} (a_plain p) y s d e =
      true≢false (sym (properties_begin d) ∙ no_bar_properties (code t i) (first_no_bar t BlockKey i (plain_leaps p).0))
  node_no_line (a_plain_with {k = m} p z a) y s d e =
      between_no_line p z (flow_starts (a_plain a) refl).starts.visible (no_bar_properties (code t m) (first_no_bar t BlockKey m (plain_leaps a).0)) d e
  node_no_line {j = j} {k = k} {g = f} {l = l} {ds = ds} (properties_alone b p) y s d e =
      let stop = stop_of_colon (code t k) s.sign_is_at in
      let r = key_properties (pos 0) FlowKey refl p in
      let a : f ≤ j = properties_alone_upto u r (may_line_separate (pos 0) FlowKey y) (colon_visible s) stop d in
      let c : j ≤ f = line_end_upto d e r in
      no_line_end_before (properties_after u p) (line_run y).1 (colon_visible s) (subst (λ w. LineEnd t w l ds) (omega arith) e)
  node_no_line {i = i} (a_json a) y s d e = (begins_one (code t i) (properties_begin d)).1 (flow_starts a refl).content
  node_no_line (a_json_with {k = m} p z a) y s d e =
      between_no_line p z (flow_starts (a_json a) refl).starts.visible (content_no_properties (code t m) (flow_starts a refl).content) d e

  pub key_no_line_end : {h i k g l : ℕ} {json : Bool} {x : Meaning} {q : PropertiesValue} {ds : List CommentValue} → Derives t h (KeyOf json BlockKey) i k x → SignAt t 58 k
      → Properties t (pos 0) FlowKey i g q → LineEnd t g l ds → ⊥
  key_no_line_end (a_key d y z) s c e = node_no_line d y s c e

  pub key_no_line : {h i k g l : ℕ} {json : Bool} {x : Meaning} {q : PropertiesValue} {ds : List CommentValue} → Derives t h (KeyOf json BlockKey) i k x → SignAt t 58 k
      → Chosen (Properties t (pos 0) FlowKey i) g q → LineEnd t g l ds → ⊥
  key_no_line d s c e = key_no_line_end d s c.derived e

-- the beginning of the first entry of a mapping
pub data FirstEntry (t : List ℕ) (h i j : ℕ) : Type 0 where
  question_first : SignAt t 63 i → FirstEntry t h i j
  colon_first : SignAt t 58 i → FirstEntry t h i j
  key_first : {g k : ℕ} {json : Bool} {x : Meaning} → Derives t g (KeyOf json BlockKey) i k x → SignAt t 58 k → g ≤ h → k ≤ j → FirstEntry t h i j

module _ {t : List ℕ} (u : IsUtf8 t) where
  first_within : {h g i j k : ℕ} → h ≤ g → j ≤ k → FirstEntry t h i j → FirstEntry t g i k
  first_within l m (question_first s) = question_first s
  first_within l m (colon_first s) = colon_first s
  first_within l m (key_first d s a b) = key_first d s (omega arith) (omega arith)

  entry_first : {h m i j : ℕ} {x : Meaning} → Derives t h (BlockEntry false m) i j x → FirstEntry t h i j
  entry_first (an_explicit_entry_with a b d g e) = question_first (record { sign_is_at = a; follows = b })
  entry_first (an_explicit_key_alone a b d g) = question_first (record { sign_is_at = a; follows = b })
  entry_first (a_keyed_entry d e) = let l = (block_starts e).later in key_first d (value_sign u e) (omega arith) (omega arith)
  entry_first (an_unkeyed_entry d) = colon_first (value_sign u d)

  pub first_of : {h m i j : ℕ} {x : Meaning} → Derives t h (BlockEntries false m) i j x → FirstEntry t h i j
  first_of (a_last_entry d) = entry_first d
  first_of (an_entry_before d s e) = let l = (block_starts e).later in first_within (omega arith) (omega arith) (entry_first d)
