-- Texts of plain words: without the characters that begin other nodes, entries and markers nothing else is derived.
use Rattle.std.proofs.Common.{◌≡◌, ◌≢◌, ℕ, ℤ, Bool, true, false, ◌||◌, ◌==◌, List, refl, sym, ◌∙◌, ⊎_elim}
use Rattle.std.proofs.lemmas.Bool.{true≢false, eqb-true, cases_Bool}
use Rattle.yf_chars.specs.declared.context.Ctx.{Ctx}
use Rattle.yf_chars.specs.Text.{code}
use Rattle.yf_lines.specs.Basic.{is_three}
use Rattle.yf_lines.proofs.BasicLemmas.{three_first}
use Rattle.yf_comments.specs.Comment.{CommentValue}
use Rattle.yf_block_scalar.specs.Header.BlockHeader.{block_header}
use Rattle.yf_block_scalar.specs.Header.Style.{folded_sign, literal_sign}
use Rattle.yf_props.specs.Names.{Alias, Properties, PropertiesValue}
use Rattle.yf_props.specs.Names.Alias.{asterisk_name}
use Rattle.yf_grammar.specs.Productions.BlockScalar.{BlockScalar}
use Rattle.yf_grammar.specs.Productions.BlockScalar.BlockScalar.{block_scalar}
use Rattle.yf_grammar.specs.Productions.Grammar.{BlockEntries, BlockEntry, BlockValue, Derives, JsonContent, opening}
use Rattle.yf_grammar.specs.Productions.Grammar.Derives.{a_single, a_double, an_empty_collection, a_collection, a_last_entry, an_entry_before, a_dash_entry, an_explicit_entry_with, an_explicit_key_alone, a_keyed_entry, an_unkeyed_entry, a_block_value, an_empty_block_value}
use Rattle.yf_grammar.specs.Productions.Meaning.{Meaning}
use Rattle.yf_grammar.specs.FlowReader.Parser.{begins_properties}
use Rattle.yf_grammar.proofs.FlowReader.PropertiesEnds.{properties_begin}
use Rattle.yf_stream.specs.Stream.{DirectiveLines, Directives, ExplicitNode, Suffixes}
use Rattle.yf_stream.specs.Stream.DirectiveLines.{last_directive, more_directives}
use Rattle.yf_stream.specs.Stream.ExplicitNode.{marked_node, marked_nothing}
use Rattle.yf_stream.specs.Stream.Suffixes.{last_suffix, more_suffixes}

-- the characters that begin pairs, block scalars, quoted scalars, flow collections, aliases, properties, directives and
-- `...`
unfoldable pub is_sign : ℕ → Bool
is_sign c = (c == 63) || (c == 58) || (c == 124) || (c == 62) || (c == 91) || (c == 123) || (c == 39) || (c == 34) || (c == 42) || (c == 38) || (c == 33) || (c == 37) || (c == 46)

module _ (t : List ℕ) (none : (i c : ℕ) → is_sign c ≡ true → code t i ≡ c → ⊥) where
  no_three : (i c : ℕ) → is_sign c ≡ true → is_three t i c ≡ true → ⊥
  no_three i c s e = true≢false (sym e ∙ three_first t i c (none i c s))

  pub no_value : {h m i j : ℕ} {x : Meaning} → Derives t h (BlockValue m) i j x → ⊥
  unfolding is_sign
  no_value (a_block_value e d) = none _ 58 refl e
  no_value (an_empty_block_value e l) = none _ 58 refl e

  pub no_pair : {h m i j : ℕ} {x : Meaning} → Derives t h (BlockEntry false m) i j x → ⊥
  unfolding is_sign
  no_pair (an_explicit_entry_with e w a c b) = none _ 63 refl e
  no_pair (an_explicit_key_alone e w a c) = none _ 63 refl e
  no_pair (a_keyed_entry k v) = no_value v
  no_pair (an_unkeyed_entry v) = no_value v

  entry_dash : {h m i j : ℕ} {s : Bool} {x : Meaning} → Derives t h (BlockEntry s m) i j x → code t i ≡ 45
  entry_dash (a_dash_entry e n d) = e
  entry_dash (an_explicit_entry_with e w a c b) = absurd (no_pair (an_explicit_entry_with e w a c b))
  entry_dash (an_explicit_key_alone e w a c) = absurd (no_pair (an_explicit_key_alone e w a c))
  entry_dash (a_keyed_entry k v) = absurd (no_value v)
  entry_dash (an_unkeyed_entry v) = absurd (no_value v)

  -- the entries of a block collection are those of a sequence
  pub entries_dash : {h m i j : ℕ} {s : Bool} {x : Meaning} → Derives t h (BlockEntries s m) i j x → code t i ≡ 45
  entries_dash (a_last_entry e) = entry_dash e
  entries_dash (an_entry_before e s r) = entry_dash e

  pub no_block_scalar : {n : ℤ} {i j : ℕ} {x : Meaning} → BlockScalar t n i j x → ⊥
  unfolding is_sign
  no_block_scalar (block_scalar (block_header (literal_sign e) d r) b l) = none _ 124 refl e
  no_block_scalar (block_scalar (block_header (folded_sign e) d r) b l) = none _ 62 refl e

  pub no_opening : (i : ℕ) (s : Bool) → code t i ≡ opening s → ⊥
  unfolding is_sign
  no_opening i true e = none i 91 refl e
  no_opening i false e = none i 123 refl e

  pub no_json : {h i j : ℕ} {n : ℤ} {c : Ctx} {x : Meaning} → Derives t h (JsonContent n c) i j x → ⊥
  unfolding is_sign
  no_json (a_single q) = none _ 39 refl q.opening
  no_json (a_double q) = none _ 34 refl q.opening
  no_json (an_empty_collection s b e m f) = no_opening _ s e
  no_json (a_collection s b e m d f) = no_opening _ s e

  pub no_directive : {i j : ℕ} {x : Directives} → DirectiveLines t i j x → ⊥
  unfolding is_sign
  no_directive (last_directive p n ps e) = none _ 37 refl p
  no_directive (more_directives a b) = no_directive a

  pub no_suffix : {i j : ℕ} {cs : List CommentValue} → Suffixes t i j cs → ⊥
  unfolding is_sign
  no_suffix (last_suffix m e) = no_three _ 46 refl m
  no_suffix (more_suffixes m e s) = no_three _ 46 refl m

  pub no_alias : {i j : ℕ} {name : List ℕ} → Alias t i j name → ⊥
  unfolding is_sign
  no_alias (asterisk_name e r) = none _ 42 refl e

  pub no_properties : {n : ℤ} {c : Ctx} {i j : ℕ} {p : PropertiesValue} → Properties t n c i j p → ⊥
  unfolding is_sign begins_properties
  no_properties {i = i} p =
      let begin = properties_begin p in
      ⊎_elim (λ (a : (code t i == 38) ≡ true). none i 38 refl (eqb-true (code t i) 38 a))
      (λ (a : (code t i == 38) ≡ false). none i 33 refl (eqb-true (code t i) 33 (rw a at begin))) (cases_Bool (code t i == 38))

-- a `---` begins with a dash
pub explicit_dash : {t : List ℕ} {h i j : ℕ} {x : Meaning} → ExplicitNode t h i j x → is_three t i 45 ≡ true
explicit_dash (marked_node m b) = m
explicit_dash (marked_nothing m e) = m

-- without dashes, neither block collections nor a `---` are derived
module _ (t : List ℕ) (none : (i c : ℕ) → is_sign c ≡ true → code t i ≡ c → ⊥) (no_dash : (i : ℕ) → code t i ≢ 45) where
  pub no_entries : {h m i j : ℕ} {s : Bool} {x : Meaning} → Derives t h (BlockEntries s m) i j x → ⊥
  no_entries {i = i} d = no_dash i (entries_dash t none d)

  pub no_explicit : {h i j : ℕ} {x : Meaning} → ExplicitNode t h i j x → ⊥
  no_explicit {i = i} d = true≢false (sym (explicit_dash d) ∙ three_first t i 45 (no_dash i))
