-- After the end of the last node or indicator of a block node, the rest of its line and comment lines follow, up to the
-- node's end.
use Rattle.std.proofs.Common.{◌≡◌, ℕ, ℤ, ◌+◌, inl, inr, ⊎_elim, List, [], length, refl, sym, subst, arith}
use Rattle.std.specs.Str.{IsUtf8}
use Rattle.yf_chars.specs.Chain.{Chain}
use Rattle.yf_chars.specs.Chain.Chain.{done, step}
use Rattle.yf_chars.proofs.ChainLemmas.{chain_append}
use Rattle.yf_lines.specs.Basic.{LineStart}
use Rattle.yf_lines.specs.Basic.LineStart.{after_break}
use Rattle.yf_lines.specs.Lines.{LineEnd as LineStop, OneLine}
use Rattle.yf_lines.specs.Lines.LineEnd.{at_break, at_end}
use Rattle.yf_lines.specs.declared.line.Line.{Line}
use Rattle.yf_lines.proofs.BasicLemmas.{break_forward}
use Rattle.yf_lines.proofs.LineLemmas.{break_within, line_made}
use Rattle.yf_comments.specs.Comment.{CommentValue}
use Rattle.yf_comments.specs.Comments.{LineEnd, Row}
use Rattle.yf_comments.specs.Comments.BreakOrEnd.{by_break, by_end}
use Rattle.yf_comments.specs.Comments.LineRest.{nothing, whites}
use Rattle.yf_comments.specs.Comments.LineEnd.{past_rest, from_start}
use Rattle.yf_comments.proofs.LineEndLemmas.{line_end_rows, rest_next}
use Rattle.yf_comments.proofs.RowLemmas.{separate_from}
use Rattle.yf_comments.proofs.SeparateLemmas.{spaces_whites}
use Rattle.yf_block_scalar.specs.Header.{BlockHeader, HeaderValue}
use Rattle.yf_block_scalar.specs.Header.BlockHeader.{block_header}
use Rattle.yf_block_scalar.specs.Body.{EmptyLines, Body, BodyValue, Trail}
use Rattle.yf_block_scalar.specs.Body.EmptyLines.{bare}
use Rattle.yf_block_scalar.specs.Body.Body.{detected, indicated, without_content}
use Rattle.yf_block_scalar.specs.Body.Trail.{comments, no_comment}
use Rattle.yf_block_scalar.specs.declared.header.Chomp.{Chomp}
use Rattle.yf_block_scalar.specs.declared.header.Chomp.TheVariants.{Clip, Keep, Strip}
use Rattle.yf_block_scalar.specs.declared.header.Header.{Header}
use Rattle.yf_block_scalar.proofs.LinesMade.{LinesTo, blanks_one, taken_all, taken_lines}
use Rattle.yf_grammar.specs.Productions.BlockScalar.{BlockScalar, LinesBetween, reach}
use Rattle.yf_grammar.specs.Productions.BlockScalar.BlockScalar.{block_scalar}
use Rattle.yf_grammar.specs.Productions.BlockScalar.LinesBetween.{counted}
use Rattle.yf_grammar.specs.Productions.Meaning.{Meaning, ◌⊕◌, meaning_after, noting, scalar, alias_to, empty_node, collection, with_props, entering}
use Rattle.yf_grammar.specs.Productions.Grammar.{Production, FlowNode, NodeOf, JsonContent, Entries, Entry, Pair, Explicit, Implicit, ValueOf, KeyOf, BlockNode, BlockEntries, BlockEntry, BlockIndented, BlockValue, Derives}
use Rattle.yf_grammar.specs.Productions.Grammar.Derives.{flow_node, an_alias, a_plain, a_plain_with, properties_alone, a_json, a_json_with, a_single, a_double, an_empty_collection, a_collection, last_entry, last_entry_with_comma, more_entries, a_node_entry, a_pair_entry, an_explicit_entry, an_implicit_entry, an_explicit_pair, a_keyed_pair, an_unkeyed_pair, explicit_with, explicit_without, key_alone, key_and_value, value_alone, empty_value, a_value, a_key, a_block_scalar, a_block_scalar_with, a_block_collection, a_block_collection_with, flow_in_block, a_last_entry, an_entry_before, a_dash_entry, an_explicit_entry_with, an_explicit_key_alone, a_keyed_entry, an_unkeyed_entry, a_block_value, an_empty_block_value, a_compact_collection, an_indented_node, nothing_indented}
use Rattle.yf_grammar.proofs.BlockOutcomes.BlockEnds.{LineOrEnd}
use Rattle.yf_grammar.proofs.BlockOutcomes.OneScalars.{lines_one}

-- the rest of a line and comment lines are there
pub record LineEndsAt (t : List ℕ) (i : ℕ) : Type 0 where
  pub end : ℕ
  pub comments : List CommentValue
  pub line : LineEnd t i end comments

-- and more comment lines after them, up to an offset
pub record LineRows (t : List ℕ) (i j : ℕ) : Type 0 where
  pub ends : LineEndsAt t i
  pub more : List CommentValue
  pub rows : Chain (Row t) ends.end j more

abbrev pub FinishClaim : List ℕ → Production → ℕ → Meaning → Type 0
FinishClaim t (FlowNode n c) j x = x.finish ≡ j
FinishClaim t (NodeOf json n c) j x = x.finish ≡ j
FinishClaim t (JsonContent n c) j x = x.finish ≡ j
FinishClaim t (Entries s n c) j x = Unit {0}
FinishClaim t (Entry s n c) j x = Unit {0}
FinishClaim t (Pair n c) j x = Unit {0}
FinishClaim t (Explicit n c s) j x = Unit {0}
FinishClaim t (Implicit n c s) j x = Unit {0}
FinishClaim t (ValueOf json n c) j x = Unit {0}
FinishClaim t (KeyOf json c) j x = Unit {0}
FinishClaim t (BlockNode n c) j x = LineRows t x.finish j
FinishClaim t (BlockEntries s m) j x = LineRows t x.finish j
FinishClaim t (BlockEntry s m) j x = LineRows t x.finish j
FinishClaim t (BlockIndented m c) j x = LineRows t x.finish j
FinishClaim t (BlockValue m) j x = LineRows t x.finish j

module _ {t : List ℕ} where
  pub line_there : {i j : ℕ} {cs : List CommentValue} → LineEnd t i j cs → LineEndsAt t i
  line_there {j = j} {cs = cs} d = record { end = j; comments = cs; line = d }

  pub rows_there : {i j : ℕ} {cs : List CommentValue} → LineEnd t i j cs → LineRows t i j
  rows_there {j = j} {cs = cs} d = record { ends = record { end = j; comments = cs; line = d }; more = []; rows = done {i = j} }

  nothing_left : {i : ℕ} → LineOrEnd t i → LineEnd t i i []
  nothing_left {i} l = ⊎_elim (λ (s : LineStart t i). from_start s done) (λ (e : i ≡ length t). past_rest (nothing (by_end e)) done) l

  rows_from : {i j : ℕ} {cs : List CommentValue} → LineOrEnd t i → Chain (Row t) i j cs → LineRows t i j
  rows_from {i} {cs = cs} l c = record { ends = record { end = i; comments = []; line = nothing_left l }; more = cs; rows = c }

  stop_next : {h j : ℕ} → LineStop t h j → LineOrEnd t j
  stop_next (at_break b) = inl (after_break b)
  stop_next (at_end e) = inr e

  line_next : {i j : ℕ} {ls : List Line} → OneLine t i j ls → LineOrEnd t j
  line_next o = let m = line_made o in subst (λ k. LineOrEnd t k) m.next (stop_next m.made.ends)

  lines_next : {i j : ℕ} {ls : List Line} → LineOrEnd t i → Chain (OneLine t) i j ls → LineOrEnd t j
  lines_next l done = l
  lines_next l (step s c) = lines_next (line_next s) c

  counted_next : {c i j : ℕ} → LineOrEnd t i → LinesBetween t c i j → LineOrEnd t j
  counted_next l (counted c e) = lines_next l c

  header_next : {i j : ℕ} {h : HeaderValue} → BlockHeader t i j h → LineOrEnd t j
  header_next (block_header s m r) = rest_next r

  -- empty lines after a scalar, and its comments
  bare_row : {i j : ℕ} {x : List ℕ} → LineStart t i → EmptyLines t i j x → Row t i j []
  bare_row {i} l (bare m a) =
      let w = spaces_whites t i m a.spaces in
      let o = break_forward a.ends in
      record { rest = whites (separate_from w.1 l) (by_break a.ends); later = omega arith }

  bares_rows : {i j : ℕ} {x : List ℕ} → LineStart t i → Chain (EmptyLines t) i j x → Chain (Row t) i j []
  bares_rows l done = done
  bares_rows l (step (bare m a) c) = step (bare_row l (bare m a)) (bares_rows (after_break a.ends) c)

  -- no further line is at the end of the text
  bares_within : {i j : ℕ} {x : List ℕ} → LineOrEnd t i → Chain (EmptyLines t) i j x → Chain (Row t) i j []
  bares_within l done = done
  bares_within {i} l (step (bare m a) c) =
      ⊎_elim (λ (s : LineStart t i). bares_rows s (step (bare m a) c))
      (λ (e : i ≡ length t). let o = break_forward a.ends in let w = break_within a.ends in absurd (omega arith)) l

  trail_rows : {k i j : ℕ} {x : List CommentValue} → Trail t k i j x → Chain (Row t) i j x
  trail_rows (comments m l a e c) = line_end_rows c.derived
  trail_rows (no_comment n) = done

  rows_to : {p q e lines all j : ℕ} {xs : List ℕ} {x : List CommentValue} (tail : ℕ) (c : Chomp) {i k : ℕ} → LinesTo t i p lines → LinesTo t i q all → all ≡ lines + tail
      → LineOrEnd t e → LinesBetween t (reach c lines tail) i e → Chain (EmptyLines t) p q xs → Trail t k q j x → LineRows t e j
  rows_to {p} {q} {e} {j = j} {xs = xs} tail Strip a b s l d c r =
      let same : e ≡ p = lines_one refl (counted a.chain a.counts) d in
      let bares : Chain (Row t) e q [] = bares_within l (subst (λ z. Chain (EmptyLines t) z q xs) (sym same) c) in
      rows_from l (chain_append bares (trail_rows r))
  rows_to {p} {q} {e} {j = j} {xs = xs} tail Clip a b s l d c r =
      let same : e ≡ p = lines_one refl (counted a.chain a.counts) d in
      let bares : Chain (Row t) e q [] = bares_within l (subst (λ z. Chain (EmptyLines t) z q xs) (sym same) c) in
      rows_from l (chain_append bares (trail_rows r))
  rows_to {q = q} {e = e} {j = j} {x = x} tail Keep a b s l d c r =
      let same : e ≡ q = lines_one s (counted b.chain b.counts) d in
      rows_from l (subst (λ z. Chain (Row t) z j x) (sym same) (trail_rows r))

module _ {t : List ℕ} (u : IsUtf8 t) where
  body_rows : {n : ℤ} {h : Header} {i j e : ℕ} {b : BodyValue} → LineOrEnd t e → Body t n h i j b → LinesBetween t (reach h.chomp (length b.lines) b.tail) i e → LineRows t e j
  body_rows {h = h} l (indicated {count = count} q a b) d = rows_to count h.chomp (taken_lines u a) (taken_all u a) refl l d a.tail.lines b
  body_rows {h = h} l (detected {count = count} q w a b) d = rows_to count h.chomp (taken_lines u a) (taken_all u a) refl l d a.tail.lines b
  body_rows {h = h} {i = i} l (without_content {widths = widths} q c w b) d =
      let none : LinesTo t i i 0 = record { lines = []; chain = done; counts = refl } in
      rows_to (length widths) h.chomp none (blanks_one c) (omega arith) l d c b

  scalar_finish : {n : ℤ} {i j : ℕ} {x : Meaning} → BlockScalar t n i j x → LineRows t x.finish j
  scalar_finish (block_scalar h b l) = body_rows (counted_next (header_next h) l) b l

  pub finish_ends : {h i j : ℕ} {p : Production} {x : Meaning} → Derives t h p i j x → FinishClaim t p j x
  unfolding ◌⊕◌ meaning_after noting scalar alias_to empty_node collection with_props entering
  finish_ends (flow_node d) = finish_ends d
  finish_ends (an_alias _ _) = refl
  finish_ends (a_plain _) = refl
  finish_ends (a_plain_with _ _ _) = refl
  finish_ends (properties_alone _ _) = refl
  finish_ends (a_json d) = finish_ends d
  finish_ends (a_json_with _ _ d) = finish_ends d
  finish_ends (a_single _) = refl
  finish_ends (a_double _) = refl
  finish_ends (an_empty_collection _ _ _ _ _) = refl
  finish_ends (a_collection _ _ _ _ _ _) = refl
  finish_ends (last_entry _ _) = tt
  finish_ends (last_entry_with_comma _ _ _ _) = tt
  finish_ends (more_entries _ _ _ _ _) = tt
  finish_ends (a_node_entry _) = tt
  finish_ends (a_pair_entry _) = tt
  finish_ends (an_explicit_entry _ _ _) = tt
  finish_ends (an_implicit_entry _) = tt
  finish_ends (an_explicit_pair _ _ _) = tt
  finish_ends (a_keyed_pair _ _) = tt
  finish_ends (an_unkeyed_pair _) = tt
  finish_ends (explicit_with _) = tt
  finish_ends (explicit_without _) = tt
  finish_ends (key_alone _) = tt
  finish_ends (key_and_value _ _ _) = tt
  finish_ends (value_alone _) = tt
  finish_ends (empty_value _ _ _) = tt
  finish_ends (a_value _ _ _ _ _) = tt
  finish_ends (a_key _ _ _) = tt
  finish_ends (a_block_scalar b s d) = scalar_finish d
  finish_ends (a_block_scalar_with b s p q d) = scalar_finish d
  finish_ends (a_block_collection b e s l d) = finish_ends d
  finish_ends (a_block_collection_with b s p e q l d) = finish_ends d
  finish_ends {j = j} (flow_in_block b s d e) = let f = finish_ends d in subst (λ k. LineRows t k j) (sym f) (rows_there e)
  finish_ends (a_last_entry d) = finish_ends d
  finish_ends (an_entry_before d s e) = finish_ends e
  finish_ends (a_dash_entry a b d) = finish_ends d
  finish_ends (an_explicit_entry_with a b d g e) = finish_ends e
  finish_ends (an_explicit_key_alone a b d g) = finish_ends d
  finish_ends (a_keyed_entry d e) = finish_ends e
  finish_ends (an_unkeyed_entry d) = finish_ends d
  finish_ends (a_block_value e d) = finish_ends d
  finish_ends (an_empty_block_value e d) = rows_there d
  finish_ends (a_compact_collection b s d) = finish_ends d
  finish_ends (an_indented_node d) = finish_ends d
  finish_ends (nothing_indented b d) = rows_there d
