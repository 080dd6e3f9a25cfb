-- A further entry of a collection follows the one that was read, or the `:` of an entry with a `?`; or a deeper line
-- breaks all nodes.
use Rattle.std.proofs.Common.{◌≡◌, ℕ, ℤ, ◌+◌, ◌-◌, ◌<◌, ◌≤◌, Bool, true, false, List, [], ◌∷◌, ◌++◌, length, refl, sym, ap, ◌∙◌, subst, arith, append_assoc, append-nil, true≢false, ⊎_elim}
use Rattle.std.proofs.lemmas.Bool.{cases_lt}
use Rattle.yf_chars.specs.Text.{code}
use Rattle.yf_chars.specs.Class.{is_white}
use Rattle.yf_chars.specs.Chain.Chain.{done}
use Rattle.yf_chars.proofs.ChainLemmas.{many_unique}
use Rattle.yf_chars.proofs.TextLemmas.{within_from_code}
use Rattle.yf_lines.specs.Basic.{Spaces}
use Rattle.yf_comments.specs.Comments.BreakOrEnd.{by_end}
use Rattle.yf_comments.proofs.RowLemmas.{end_white}
use Rattle.yf_events.specs.declared.part.Part.{Part}
use Rattle.yf_grammar.specs.Productions.Grammar.{ColonLine}
use Rattle.yf_grammar.specs.Productions.Meaning.{◌⊕◌, noting}
use Rattle.yf_grammar.specs.Productions.ReadParts.Noting.{no_event}
use Rattle.yf_grammar.specs.BlockReader.BlockParser.{SignAt, LineText, NextEntry, Later, First, BlockTask, DeeperLine}
use Rattle.yf_grammar.specs.BlockReader.BlockStack.{Layer, asks, entry_made}
use Rattle.yf_grammar.specs.BlockReader.BlockStates.{EntryAt, with_entry}
use Rattle.yf_grammar.proofs.BlockStack.BlockResume.{entry_was_read, entry_follows, deeper_breaks}
use Rattle.yf_grammar.proofs.BlockOutcomes.BlockClaims.{line_unique, colon_line}
use Rattle.yf_block.specs.declared.frame.Frame.{Frame}
use Rattle.yf_block.specs.declared.frame.BlockCursor.{BlockCursor}
use Rattle.yf_block.specs.LookTests.{NotWithinBreak}
use Rattle.yf_block.specs.LineFits.{ItemLine, PairLine, DeepLine}
use Rattle.yf_block.specs.CollectionEnds.{value_missing}
use Rattle.yf_block.specs.BlockTied.{stage_entry, layers_entry, begins, stage_written, entry_at, begun_event, all_written, entries_written, ReadTied}
use Rattle.yf_block.specs.BlockStepTied.{AtTop, AtEntry, AtFailed}
use Rattle.yf_block.proofs.Stack.TiedClosing.{asks_mapping, stage_events, stage_comments, stage_escapes, noting_value, floor_value}
use Rattle.yf_block.proofs.Stack.TiedFailed.{broken_fails}
use Rattle.yf_block.proofs.Stack.TiedFits.{is_sequence_of, tied_deeper, tied_item, tied_pair}
use Rattle.yf_block.proofs.Stack.TiedReads.{joined_lists, read_events}

-- no `:` is at the column of a deeper line
deep_no_colon : {t : List ℕ} {m at : ℕ} → DeeperLine t m at → ColonLine t m at → ⊥
deep_no_colon {m = m} {at} d c = let e = (line_unique d.line (colon_line c)).0 in let l = d.deep in omega (arith, e, l)

-- a line goes on at its content
line_there : {t : List ℕ} {p k m q : ℕ} → p ≤ length t → LineText t k m q → p ≡ k + m → p < length t
line_there {t} {p = p} {k} {m} {q} l y s = ⊎_elim
    (λ (e : p < length t). e)
    (λ (e : length t ≤ p).
    let here : k + m ≡ length t = omega (arith, l, s, e) in
    let none : is_white (code t (k + m)) ≡ false = end_white (by_end here) in
    let same = (many_unique t is_white y.run y.content.no_white done none).0 in
    absurd (y.content.no_end q (by_end (same ∙ here))))
    (cases_lt p (length t))

-- the offset after spaces is not within a break
outside_line : {t : List ℕ} {k m p : ℕ} → NotWithinBreak t k → Spaces t k m → p ≡ k + m → NotWithinBreak t p
outside_line {t} {k} {m} {p} n y e = ⊎_elim
    (λ (l : 0 < m).
    let last : k + (m - 1) ≡ p - 1 = omega (arith, e, l) in
    let space : code t (p - 1) ≡ 32 = ap (code t) (sym last) ∙ y.each (m - 1) (omega (arith, l)) in
    record { apart = λ a b. omega (arith, space, b) })
    (λ (l : m ≤ 0). let same : k ≡ p = omega (arith, e, l) in subst (λ (z : ℕ). NotWithinBreak t z) same n)
    (cases_lt 0 m)

later_not_first : {n : ℤ} → Later ≡ First n → ⊥
later_not_first e = cc

module _ {t : List ℕ} {d : ℕ} {root : BlockTask} {before : Part} {at : ℕ} {frames : List Frame} {f : Frame} {progress : BlockCursor} {old : Part}
    (a : AtTop t d root before frames at f progress old) where
  pub top_breaks : DeepLine t at f → AtFailed t d root progress
  top_breaks l =
      let v = tied_deeper a.frame l in
      broken_fails (deeper_breaks (entry_was_read a.node (λ e c. deep_no_colon v c)) v) a.stack.halted

  -- the entry ends with its node, or with an empty value
  abbrev next_layer : Layer
  next_layer = with_entry a.layer (entry_made a.layer.stage a.answer)

  next_read : {new : Part} → new.events ≡ old.events ++ value_missing f.awaits_colon → new.comments ≡ old.comments → new.escapes ≡ old.escapes
      → ReadTied t before (entries_written next_layer a.layers) progress new
  unfolding ◌⊕◌ noting
  next_read {new} x y z =
      let l = a.layer in
      let w = all_written a.layers in
      let i = begins (stage_entry l.stage) a.answer.meaning in
      let b = begun_event l (entry_at (layers_entry a.layers)) in
      read_events a.read (value_missing (asks l.stage) ++ []) (value_missing (asks l.stage) ++ []) (noting_value _ (asks l.stage) _ _ no_event) (floor_value _ (asks l.stage) [])
      (x ∙ ap (λ v. old.events ++ value_missing v) a.frame.awaits ∙ ap (λ v. old.events ++ v) (sym (append-nil (value_missing (asks l.stage))))) y z
      (ap (λ v. (((((w.events ++ b ∷ []) ++ l.known.events) ++ (stage_written l.stage).events) ++ i.events) ++ v)) (append-nil (value_missing (asks l.stage)))
      ∙ append_assoc (((w.events ++ b ∷ []) ++ l.known.events) ++ (stage_written l.stage).events) i.events (value_missing (asks l.stage))
      ∙ joined_lists (w.events ++ b ∷ []) l.known.events (stage_written l.stage).events (i.events ++ value_missing (asks l.stage)) (entry_made l.stage a.answer).meaning.events
      (sym (append_assoc (stage_written l.stage).events i.events (value_missing (asks l.stage))) ∙ stage_events l.stage a.answer))
      (joined_lists _ l.known.comments (stage_written l.stage).comments i.comments (entry_made l.stage a.answer).meaning.comments (stage_comments l.stage a.answer))
      (joined_lists _ l.known.escapes (stage_written l.stage).escapes i.escapes (entry_made l.stage a.answer).meaning.escapes (stage_escapes l.stage a.answer))

  next_entry_at : {p : ℕ} {new : Part} → p < length t → Spaces t at f.column → (asks a.layer.stage ≡ true → ColonLine t a.layer.column at → ⊥) → NextEntry t a.layer.sequence a.layer.column at → p ≡ at + f.column
      → new.events ≡ old.events ++ value_missing f.awaits_colon → new.comments ≡ old.comments → new.escapes ≡ old.escapes → AtEntry t d root before frames f p progress new
  next_entry_at {p} i g n b e x y z =
      let c = a.frame.collection.column in
      let place : at + a.layer.column ≡ p = omega (arith, c, e) in
      record {
        layer = next_layer;
        layers = a.layers;
        room = a.room;
        origin = Later;
        halt = a.halt;
        entry = subst (λ (k : ℕ). EntryAt t d root next_layer a.layers a.room Later k a.halt) place (entry_follows (entry_was_read a.node n) b);
        order = a.order;
        shallow = omega (arith, place);
        there = i;
        outside = outside_line a.outside g e;
        past = let b = a.past in omega (arith, b, place);
        signed = λ n q. absurd (later_not_first q);
        collection = record { kind = a.frame.collection.kind; column = c; event = a.frame.collection.event };
        stack = a.stack;
        read = next_read x y z;
      }

  pub item_follows_top : {p : ℕ} → ItemLine t at f p → f.awaits_colon ≡ false → AtEntry t d root before frames f p progress old
  item_follows_top {p} i e =
      next_entry_at (let y = i.dash.dash in within_from_code t p (omega (arith, y))) i.line.spaces (λ q c. true≢false (sym q ∙ sym a.frame.awaits ∙ e)) (tied_item a.frame i) i.is_there
      (sym (append-nil old.events) ∙ ap (λ v. old.events ++ value_missing v) (sym e)) refl refl

  pub no_item_awaits : {p : ℕ} → ItemLine t at f p → f.awaits_colon ≡ false
  no_item_awaits i = a.frame.awaits ∙ not_asked (asks a.layer.stage) (asks_mapping a.node.around) where
    sequence_there : a.layer.sequence ≡ false → ⊥
    sequence_there s = true≢false (sym (is_sequence_of a.layer.sequence (sym i.kind ∙ a.frame.collection.kind)) ∙ s)

    not_asked : (b : Bool) → (b ≡ true → a.layer.sequence ≡ false) → b ≡ false
    not_asked true s = absurd (sequence_there (s refl))
    not_asked false s = refl

  -- after an entry without a `?`, or if its `:` does not follow
  pub pair_follows_top : {p : ℕ} {new : Part} → p ≤ length t → PairLine t at f p → (f.awaits_colon ≡ true → SignAt t 58 p → ⊥) → new.events ≡ old.events ++ value_missing f.awaits_colon
      → new.comments ≡ old.comments → new.escapes ≡ old.escapes → AtEntry t d root before frames f p progress new
  pair_follows_top {p} within i n x y z =
      let c = a.frame.collection.column in
      let s = i.is_there in
      let place : at + a.layer.column ≡ p = omega (arith, c, s) in
      next_entry_at (line_there within i.line s) i.line.spaces (λ q v. n (a.frame.awaits ∙ q) (subst (λ (k : ℕ). SignAt t 58 k) place (record { sign_is_at = v.colon; follows = v.follows }))) (tied_pair a.frame i) s x y z
