-- A production that derives a part of a text derives it with the same meaning in each prefix that holds it and ends
-- with a break.
use Rattle.std.proofs.Common.{◌≡◌, ℕ, ◌+◌, ◌<◌, ◌≤◌, ℤ, ⊎_elim, Bool, true, false, List, length, sym, ap, ◌∙◌, arith}
use Rattle.std.proofs.lemmas.Bool.{cases_lt}
use Rattle.std.specs.Str.{chars}
use Rattle.yf_chars.specs.Text.{code, no_char}
use Rattle.yf_chars.specs.Class.{is_break_char, is_ns_char, is_plain_safe, is_white_or_end}
use Rattle.yf_chars.specs.declared.context.Ctx.{Ctx}
use Rattle.yf_chars.specs.ClassEnds.{no_ns_char}
use Rattle.yf_chars.proofs.TextLemmas.{code-past}
use Rattle.yf_lines.specs.Lines.{OneLine, one_line, LineEnd as TextLineEnd, at_break, at_end}
use Rattle.yf_lines.specs.declared.line.Line.{Line}
use Rattle.yf_lines.proofs.BasicLemmas.{break_forward, ends_at_end}
use Rattle.yf_comments.specs.Comment.{CommentValue}
use Rattle.yf_plain.proofs.PlainLemmas.{safe_at_end}
use Rattle.yf_comments.proofs.LineOrder.{line_end_forward}
use Rattle.yf_props.proofs.SeparationEnds.{separate_forward}
use Rattle.yf_props.proofs.NameOrder.{properties_forward}
use Rattle.yf_grammar.specs.Productions.BlockScalar.{BlockScalar, block_scalar, LinesBetween, counted}
use Rattle.yf_grammar.specs.Productions.Grammar.{Production, MaySeparate, unseparated, separated, MaySeparateInLine, unseparated_in_line, separated_in_line, characters_between, MayBeColon, ValueSeparate, ColonLine, Derives}
use Rattle.yf_grammar.specs.Productions.Grammar.Derives.{flow_node, an_alias, a_plain, a_plain_with, properties_alone, a_json, a_json_with, a_single, a_double, an_empty_collection, a_collection, last_entry, last_entry_with_comma, more_entries, a_node_entry, a_pair_entry, an_explicit_entry, an_implicit_entry, an_explicit_pair, a_keyed_pair, an_unkeyed_pair, explicit_with, explicit_without, key_alone, key_and_value, value_alone, empty_value, a_value, a_key, a_block_scalar, a_block_scalar_with, a_block_collection, a_block_collection_with, flow_in_block, a_last_entry, an_entry_before, a_dash_entry, an_explicit_entry_with, an_explicit_key_alone, a_keyed_entry, an_unkeyed_entry, a_block_value, an_empty_block_value, a_compact_collection, an_indented_node, nothing_indented}
use Rattle.yf_grammar.specs.Productions.Meaning.{Meaning}
use Rattle.yf_grammar.proofs.BlockOutcomes.BlockStarts.{scalar_later}
use Rattle.yf_grammar.proofs.FlowReader.FlowStarts.{may_forward, may_line_forward}
use Rattle.yf_grammar.proofs.FlowReader.PlainEnds.{plain_later}
use Rattle.yf_grammar.proofs.Documents.CommentOrder.{ascend_order, derived_ascends}
use Rattle.yf_grammar.proofs.NodesInText.PlacedScalars.{body_reached}
use Rattle.yf_grammar.proofs.Prefixes.PrefixTexts.{alike_back, alike_between, goes_on_at}
use Rattle.yf_grammar.proofs.Prefixes.PrefixLines.{Carried, chain_order, chain_there, char_there, not_there, break_there, spaces_there, in_line_there}
use Rattle.yf_grammar.proofs.Prefixes.PrefixComments.{PrefixText, separate_in_prefix, line_end_in_prefix}
use Rattle.yf_grammar.proofs.Prefixes.PrefixNames.{alias_in_prefix, properties_in_prefix}
use Rattle.yf_grammar.proofs.Prefixes.PrefixPlain.{plain_there}
use Rattle.yf_grammar.proofs.Prefixes.PrefixQuoted.{single_in_prefix, double_in_prefix}
use Rattle.yf_grammar.proofs.Prefixes.PrefixBodies.{spaces_inside, header_in_prefix, body_in_prefix}

pub derived_order : {t : List ℕ} {h i j : ℕ} {p : Production} {x : Meaning} → Derives t h p i j x → i ≤ j
derived_order d = ascend_order (derived_ascends d)

module _ {t s : List ℕ} {k : ℕ} (f : PrefixText t s k) where
  -- lines of the text
  line_carried : Carried k (OneLine t) (OneLine s)
  line_carried = record { order = λ i j x d. order d; there = λ i j x d l. there d l } where
    order : {i j : ℕ} {x : List Line} → OneLine t i j x → i ≤ j
    order (one_line d) = let g = d.order in omega arith

    upto : {i j : ℕ} → TextLineEnd t i j → i ≤ j
    upto (at_break b) = let g = break_forward b in omega arith
    upto (at_end e) = omega arith

    ends : {i j : ℕ} → TextLineEnd t i j → j ≤ k → TextLineEnd s i j
    ends (at_break b) l = at_break (break_there f.alike b l)
    ends (at_end e) l = let w = f.alike.within in let c = f.closed in at_end (omega arith)

    there : {i j : ℕ} {x : List Line} → OneLine t i j x → j ≤ k → OneLine s i j x
    there (one_line {l = line} d) l =
        let g = d.order in
        let h = upto d.ends in
        let w = spaces_inside f.alike d.indented.spaces (omega arith) in
        one_line (record {
          order = d.order;
          unbroken = record { order = d.unbroken.order; none = λ m a b. ap is_break_char (sym (f.alike.codes m (omega arith))) ∙ d.unbroken.none m a b };
          ends = ends d.ends l;
          indented = record { spaces = spaces_there f.alike d.indented.spaces (omega arith); stops = not_there f.alike (line.start + line.indent) w d.indented.stops };
        })

  between_in_prefix : {count i j : ℕ} → LinesBetween t count i j → j ≤ k → LinesBetween s count i j
  between_in_prefix (counted m e) l = counted (chain_there line_carried m l) e

  pub scalar_in_prefix : {n : ℤ} {i j : ℕ} {x : Meaning} → BlockScalar t n i j x → j ≤ k → BlockScalar s n i j x
  scalar_in_prefix (block_scalar h b l) g =
      let m = between_order l in
      let e = body_reached f.alike.utf8 b l in
      block_scalar (header_in_prefix f h (omega arith)) (body_in_prefix f b g) (between_in_prefix l (omega arith)) where
        between_order : {count i j : ℕ} → LinesBetween t count i j → i ≤ j
        between_order (counted m e) = chain_order line_carried m

  -- separations and the parts beside them
  may_in_prefix : {n : ℤ} {c : Ctx} {i j : ℕ} {x : List CommentValue} → MaySeparate t n c i j x → j ≤ k → MaySeparate s n c i j x
  may_in_prefix unseparated l = unseparated
  may_in_prefix (separated d) l = separated (separate_in_prefix f d l)

  may_line_in_prefix : {i j : ℕ} → MaySeparateInLine t i j → j ≤ k → MaySeparateInLine s i j
  may_line_in_prefix unseparated_in_line l = unseparated_in_line
  may_line_in_prefix (separated_in_line d) l = separated_in_line (in_line_there f.alike d l)

  value_in_prefix : (json : Bool) (n : ℤ) (c : Ctx) (i j : ℕ) (x : List CommentValue) → ValueSeparate json t n c i j x → j ≤ k → ValueSeparate json s n c i j x
  value_in_prefix true n c i j x d l = may_in_prefix d l
  value_in_prefix false n c i j x d l = separate_in_prefix f d l

  value_order : (json : Bool) (n : ℤ) (c : Ctx) (i j : ℕ) (x : List CommentValue) → ValueSeparate json t n c i j x → i ≤ j
  value_order true n c i j x d = may_forward d
  value_order false n c i j x d = separate_forward d

  -- if a test has one result for the end of the text and for a code, it has it in the prefix
  class_in_prefix : (p : ℕ → Bool) {b : Bool} (i : ℕ) → p no_char ≡ b → p (code t i) ≡ b → p (code s i) ≡ b
  class_in_prefix p i n e = ⊎_elim
      (λ (l : i < k). ap p (sym (f.alike.codes i l)) ∙ e)
      (λ (l : k ≤ i). let c = f.closed in ap p (code-past s i (omega arith)) ∙ n)
      (cases_lt i k)

  colon_in_prefix : (json : Bool) (c : Ctx) (i : ℕ) → MayBeColon json t i c → MayBeColon json s i c
  colon_in_prefix true c i m = tt
  colon_in_prefix false c i m = class_in_prefix (λ d. is_plain_safe d c) i (safe_at_end c) m

  ends_in_prefix : (i : ℕ) → is_white_or_end (code t i) ≡ true → is_white_or_end (code s i) ≡ true
  ends_in_prefix i e = class_in_prefix is_white_or_end i ends_at_end e

  line_in_prefix : {m j : ℕ} → ColonLine t m j → j + m < k → ColonLine s m j
  line_in_prefix {m} {j} d l = record {
    indent = spaces_there f.alike d.indent (omega arith);
    colon = char_there f.alike (j + m) l d.colon;
    follows = ends_in_prefix (j + m + 1) d.follows;
  }

  line_back : {m j : ℕ} → ColonLine s m j → ColonLine t m j
  line_back {m} {j} d =
      let c = f.closed in
      let e = d.colon in
      let at : j + m < k = ⊎_elim (λ (l : j + m < k). l) (λ (l : k ≤ j + m). let p = code-past s (j + m) (omega arith) in absurd (omega arith)) (cases_lt (j + m) k) in
      let b = alike_back f.alike in
      let after = goes_on_at b 58 (j + m) at d.colon (λ q. absurd (omega arith)) (λ q. absurd (omega arith)) in
      record {
        indent = spaces_there b d.indent (omega arith);
        colon = char_there b (j + m) at d.colon;
        follows = ap is_white_or_end (sym (b.codes (j + m + 1) after)) ∙ d.follows;
      }

  between_same : (i j : ℕ) → j ≤ k → characters_between t i j ≡ characters_between s i j
  unfolding characters_between
  between_same i j l = ap (λ w. length (chars w)) (alike_between f.alike i j l)

  pub derives_in_prefix : {h i j : ℕ} {p : Production} {x : Meaning} → Derives t h p i j x → j ≤ k → Derives s h p i j x
  derives_in_prefix (flow_node d) l = flow_node (derives_in_prefix d l)
  derives_in_prefix (an_alias b a) l = an_alias b (alias_in_prefix f a l)
  derives_in_prefix (a_plain d) l = a_plain (plain_there f.alike d l)
  derives_in_prefix (a_plain_with p q d) l =
      let g = plain_later d in let h = separate_forward q in
      a_plain_with (properties_in_prefix f p (omega arith)) (separate_in_prefix f q (omega arith)) (plain_there f.alike d l)
  derives_in_prefix (properties_alone b p) l = properties_alone b (properties_in_prefix f p l)
  derives_in_prefix (a_json d) l = a_json (derives_in_prefix d l)
  derives_in_prefix (a_json_with p q d) l =
      let g = derived_order d in let h = separate_forward q in
      a_json_with (properties_in_prefix f p (omega arith)) (separate_in_prefix f q (omega arith)) (derives_in_prefix d l)
  derives_in_prefix (a_single q) l = a_single (single_in_prefix f q l)
  derives_in_prefix (a_double q) l = a_double (double_in_prefix f q l)
  derives_in_prefix (an_empty_collection {i = i} {j = j} sequence b o q e) l =
      let h = may_forward q in
      an_empty_collection sequence b (char_there f.alike i (omega arith) o) (may_in_prefix q (omega arith)) (char_there f.alike j (omega arith) e)
  derives_in_prefix (a_collection {i = i} {j = j} sequence b o q d e) l =
      let h = may_forward q in let g = derived_order d in
      a_collection sequence b (char_there f.alike i (omega arith) o) (may_in_prefix q (omega arith)) (derives_in_prefix d (omega arith)) (char_there f.alike j (omega arith) e)
  derives_in_prefix (last_entry d q) l = let h = may_forward q in last_entry (derives_in_prefix d (omega arith)) (may_in_prefix q l)
  derives_in_prefix (last_entry_with_comma {l = at} d q e r) l =
      let h = may_forward q in let g = may_forward r in
      last_entry_with_comma (derives_in_prefix d (omega arith)) (may_in_prefix q (omega arith)) (char_there f.alike at (omega arith) e) (may_in_prefix r l)
  derives_in_prefix (more_entries {l = at} d q e r g) l =
      let h = may_forward q in let m = may_forward r in let o = derived_order g in
      more_entries (derives_in_prefix d (omega arith)) (may_in_prefix q (omega arith)) (char_there f.alike at (omega arith) e) (may_in_prefix r (omega arith)) (derives_in_prefix g l)
  derives_in_prefix (a_node_entry d) l = a_node_entry (derives_in_prefix d l)
  derives_in_prefix (a_pair_entry d) l = a_pair_entry (derives_in_prefix d l)
  derives_in_prefix (an_explicit_entry {i = i} e q d) l =
      let h = separate_forward q in let g = derived_order d in
      an_explicit_entry (char_there f.alike i (omega arith) e) (separate_in_prefix f q (omega arith)) (derives_in_prefix d l)
  derives_in_prefix (an_implicit_entry d) l = an_implicit_entry (derives_in_prefix d l)
  derives_in_prefix (an_explicit_pair {i = i} e q d) l =
      let h = separate_forward q in let g = derived_order d in
      an_explicit_pair (char_there f.alike i (omega arith) e) (separate_in_prefix f q (omega arith)) (derives_in_prefix d l)
  derives_in_prefix (a_keyed_pair d e) l = let g = derived_order e in a_keyed_pair (derives_in_prefix d (omega arith)) (derives_in_prefix e l)
  derives_in_prefix (an_unkeyed_pair d) l = an_unkeyed_pair (derives_in_prefix d l)
  derives_in_prefix (explicit_with d) l = explicit_with (derives_in_prefix d l)
  derives_in_prefix (explicit_without b) l = explicit_without b
  derives_in_prefix (key_alone d) l = key_alone (derives_in_prefix d l)
  derives_in_prefix (key_and_value d q e) l =
      let h = may_forward q in let g = derived_order e in
      key_and_value (derives_in_prefix d (omega arith)) (may_in_prefix q (omega arith)) (derives_in_prefix e l)
  derives_in_prefix (value_alone d) l = value_alone (derives_in_prefix d l)
  derives_in_prefix (empty_value {i = i} {json = json} {c = c} b e m) l =
      empty_value b (char_there f.alike i (omega arith) e) (colon_in_prefix json c (i + 1) m)
  derives_in_prefix (a_value {i = i} {k = at} {json = json} {n = n} {c = c} cs e m q d) l =
      let h = value_order json n c (i + 1) at cs q in let g = derived_order d in
      a_value cs (char_there f.alike i (omega arith) e) (colon_in_prefix json c (i + 1) m) (value_in_prefix json n c (i + 1) at cs q (omega arith)) (derives_in_prefix d l)
  derives_in_prefix (a_key {i = i} {j = j} d q m) l =
      let h = may_line_forward q in
      a_key (derives_in_prefix d (omega arith)) (may_line_in_prefix q l) (rw (sym (between_same i j l)) m)
  derives_in_prefix (a_block_scalar b q d) l = let h = scalar_later d in a_block_scalar b (separate_in_prefix f q (omega arith)) (scalar_in_prefix d l)
  derives_in_prefix (a_block_scalar_with b q p r d) l =
      let h = scalar_later d in let g = separate_forward r in let m = properties_forward p in
      a_block_scalar_with b (separate_in_prefix f q (omega arith)) (properties_in_prefix f p (omega arith)) (separate_in_prefix f r (omega arith)) (scalar_in_prefix d l)
  derives_in_prefix (a_block_collection b e q m d) l =
      let h = derived_order d in
      a_block_collection b (line_end_in_prefix f e (omega arith)) (spaces_there f.alike q (omega arith)) m (derives_in_prefix d l)
  derives_in_prefix (a_block_collection_with b q p e r m d) l =
      let h = derived_order d in let g = line_end_forward e in let o = properties_forward p in
      a_block_collection_with b (separate_in_prefix f q (omega arith)) (properties_in_prefix f p (omega arith)) (line_end_in_prefix f e (omega arith)) (spaces_there f.alike r (omega arith)) m (derives_in_prefix d l)
  derives_in_prefix (flow_in_block b q d e) l =
      let h = line_end_forward e in let g = derived_order d in
      flow_in_block b (separate_in_prefix f q (omega arith)) (derives_in_prefix d (omega arith)) (line_end_in_prefix f e l)
  derives_in_prefix (a_last_entry d) l = a_last_entry (derives_in_prefix d l)
  derives_in_prefix (an_entry_before d q e) l =
      let h = derived_order e in
      an_entry_before (derives_in_prefix d (omega arith)) (spaces_there f.alike q (omega arith)) (derives_in_prefix e l)
  derives_in_prefix (a_dash_entry {i = i} e n d) l =
      let h = derived_order d in
      a_dash_entry (char_there f.alike i (omega arith) e) (class_in_prefix is_ns_char (i + 1) no_ns_char n) (derives_in_prefix d l)
  derives_in_prefix (an_explicit_entry_with {i = i} e w d c g) l =
      let h = derived_order d in let o = derived_order g in
      an_explicit_entry_with (char_there f.alike i (omega arith) e) (ends_in_prefix (i + 1) w) (derives_in_prefix d (omega arith)) (line_in_prefix c (omega arith)) (derives_in_prefix g l)
  derives_in_prefix (an_explicit_key_alone {i = i} e w d n) l =
      let h = derived_order d in
      an_explicit_key_alone (char_there f.alike i (omega arith) e) (ends_in_prefix (i + 1) w) (derives_in_prefix d l) (λ c. n (line_back c))
  derives_in_prefix (a_keyed_entry d e) l = let g = derived_order e in a_keyed_entry (derives_in_prefix d (omega arith)) (derives_in_prefix e l)
  derives_in_prefix (an_unkeyed_entry d) l = an_unkeyed_entry (derives_in_prefix d l)
  derives_in_prefix (a_block_value {i = i} e d) l = let g = derived_order d in a_block_value (char_there f.alike i (omega arith) e) (derives_in_prefix d l)
  derives_in_prefix (an_empty_block_value {i = i} e d) l =
      let g = line_end_forward d in
      an_empty_block_value (char_there f.alike i (omega arith) e) (line_end_in_prefix f d l)
  derives_in_prefix (a_compact_collection b q d) l = let g = derived_order d in a_compact_collection b (spaces_there f.alike q (omega arith)) (derives_in_prefix d l)
  derives_in_prefix (an_indented_node d) l = an_indented_node (derives_in_prefix d l)
  derives_in_prefix (nothing_indented b d) l = nothing_indented b (line_end_in_prefix f d l)
