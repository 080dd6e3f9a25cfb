-- The line after the properties of a node: it ends and the node is on a later line, or it goes on, or it should end
-- and does not.
use Rattle.std.proofs.Common.{◌≡◌, ℕ, ℤ, pos, ◌+ℤ◌, ◌<◌, ◌≤◌, Bool, true, false, List, ◌++◌, Option, Some, None, MatchOption, refl, sym, ap, ◌∙◌, subst, arith, ⊎_elim}
use Rattle.std.proofs.lemmas.Bool.{cases_lt}
use Rattle.std.specs.Str.{IsUtf8}
use Rattle.yf_chars.specs.declared.context.Ctx.TheVariants.{FlowOut}
use Rattle.yf_chars.specs.Text.{code, no_char}
use Rattle.yf_chars.specs.Class.{is_white, is_indicator, is_flow_indicator, is_ns_char, is_nb_char, is_printable, is_between, is_break_char}
use Rattle.yf_chars.specs.Chain.{Stuck, Chosen, Many}
use Rattle.yf_chars.proofs.TextLemmas.{code-past}
use Rattle.yf_lines.specs.Basic.{LineStart}
use Rattle.yf_lines.proofs.BasicLemmas.{break_char}
use Rattle.yf_comments.specs.Comment.{CommentValue}
use Rattle.yf_comments.specs.Comments.{LineEnd, BreakOrEnd}
use Rattle.yf_comments.specs.Comments.BreakOrEnd.{by_break, by_end}
use Rattle.yf_comments.proofs.LineEndLemmas.{line_end_stuck}
use Rattle.yf_comments.proofs.RowLemmas.{stuck_at_solid, stuck_alone, no_separation}
use Rattle.yf_plain.specs.Plain.{is_plain_first, is_sign}
use Rattle.yf_plain.proofs.PlainLemmas.{no_front}
use Rattle.yf_plain.proofs.LineLemmas.{no_plain}
use Rattle.yf_events.specs.declared.part.Part.{Part}
use Rattle.yf_grammar.specs.Productions.Meaning.{◌⊕◌}
use Rattle.yf_grammar.specs.FlowReader.Parser.{only, begins_alias, begins_properties, begins_content, begins_plain}
use Rattle.yf_grammar.specs.FlowReader.Parser.Parses.{plain_missed}
use Rattle.yf_grammar.specs.BlockReader.BlockParser.{Ahead, Nothing, Indicator, Props, PropertiesHeld as HeldValue, Apart, Columns, NoSign, NoKeyAt, node_unfit, BlockTask}
use Rattle.yf_grammar.specs.BlockReader.BlockParser.Whole.{properties_apart, properties_apart_below}
use Rattle.yf_grammar.specs.BlockReader.Halts.Halts.{halts_properties_apart, halts_properties_apart_below}
use Rattle.yf_grammar.proofs.BlockStack.BlockNodeSteps.{node_through}
use Rattle.yf_grammar.proofs.BlockStack.BlockStepNodes.{held_awaits, held_halts}
use Rattle.yf_grammar.proofs.BlockOutcomes.NodesAfter.{properties_no_start}
use Rattle.yf_grammar.proofs.Ends.Forward.{whites_forward}
use Rattle.yf_block.specs.declared.frame.Frame.{Frame}
use Rattle.yf_block.specs.declared.frame.BlockCursor.{BlockCursor}
use Rattle.yf_block.specs.declared.properties.PlacedProperties.{PlacedProperties}
use Rattle.yf_block.specs.BlockTied.{all_written, ReadTied}
use Rattle.yf_block.specs.BlockStepTied.{AheadTied, nothing_held, none_held, props_held, AtFailed}
use Rattle.yf_block.specs.ContentTied.{EndsAfter}
use Rattle.yf_block.specs.PropertiesAnswers.{LineProperties, NoPlaceAfter, PropertiesAhead, JoinedAhead}
use Rattle.yf_block.specs.InlineTied.{AtStart}
use Rattle.yf_block.specs.LineTied.{AtBelow}
use Rattle.yf_block.specs.LookTests.{LineEndsAt, text_stops, feed_is_at, return_is_at, hash_is_at}
use Rattle.yf_block.proofs.LineSteps.ContentFails.{missing, leaf_of, nowhere_fails, other_no_scalar}
use Rattle.yf_block.proofs.LineSteps.ContentLeaves.{joined_comments}
use Rattle.yf_block.proofs.LineSteps.ContentNodes.{no_key_held, leaf_lost}
use Rattle.yf_block.proofs.Ends.KeyNodes.{lone_after, lone_no_key, keyless_nowhere}
use Rattle.yf_block.proofs.Stack.TiedReads.{read_moved}
use Rattle.yf_block.proofs.Ends.BelongingLemmas.{no_props_nothing, no_props_sign}
use Rattle.yf_props.proofs.NameOrder.{properties_forward}

-- the sign of a comment, a break, or the end of the text
data Dull : ℕ → Type 0 where
  hash_dull : Dull 35
  feed_dull : Dull 10
  return_dull : Dull 13
  end_dull : Dull no_char

-- no node begins with it
module _ (t : List ℕ) (p : ℕ) where
  dull_first : {c : ℕ} → Dull c → code t p ≡ c → is_plain_first t FlowOut p ≡ false
  unfolding is_plain_first is_sign is_indicator is_flow_indicator is_ns_char is_nb_char is_printable is_between is_break_char is_white
  dull_first hash_dull h = rw h refl
  dull_first feed_dull h = rw h refl
  dull_first return_dull h = rw h refl
  dull_first end_dull h = rw h refl

  dull_of : {b : Bool} → LineEndsAt t b p → (c : ℕ) × (Dull c × (code t p ≡ c))
  dull_of (text_stops e) = (no_char, (end_dull, code-past t p (omega (arith, e))))
  dull_of (feed_is_at e) = (10, (feed_dull, e))
  dull_of (return_is_at e) = (13, (return_dull, e))
  dull_of (hash_is_at q e) = (35, (hash_dull, e))

dull_plain : {c : ℕ} → Dull c → begins_plain c ≡ true
unfolding begins_plain begins_alias begins_properties begins_content
dull_plain hash_dull = refl
dull_plain feed_dull = refl
dull_plain return_dull = refl
dull_plain end_dull = refl

dull_content : {c : ℕ} → Dull c → begins_content c ≡ false
unfolding begins_content
dull_content hash_dull = refl
dull_content feed_dull = refl
dull_content return_dull = refl
dull_content end_dull = refl

dull_other : {c : ℕ} → Dull c → (c ≡ 58 → ⊥) × ((c ≡ 124 → ⊥) × (c ≡ 62 → ⊥))
dull_other hash_dull = (λ e. omega (arith, e), (λ e. omega (arith, e), λ e. omega (arith, e)))
dull_other feed_dull = (λ e. omega (arith, e), (λ e. omega (arith, e), λ e. omega (arith, e)))
dull_other return_dull = (λ e. omega (arith, e), (λ e. omega (arith, e), λ e. omega (arith, e)))
dull_other end_dull = (λ e. omega (arith, e), (λ e. omega (arith, e), λ e. omega (arith, e)))

joined_held : {z : Ahead} {h : HeldValue} → z ≡ Props h → z ≡ Nothing → ⊥
joined_held e f = cc

joined_no_sign : {z : Ahead} {h : HeldValue} {i : ℕ} → z ≡ Props h → z ≡ Indicator i → ⊥
joined_no_sign e f = cc

-- the state ahead, as the properties of a line are joined with it
pub ahead_held : {a : Ahead} {outer : Option PlacedProperties} → AheadTied a outer → PropertiesAhead a outer
ahead_held nothing_held = λ h e. no_props_nothing e
ahead_held none_held = λ h e. no_props_sign e
ahead_held (props_held {h = h} w) = record { value = h; is = refl; tied = w }

module _ {t : List ℕ} {d : ℕ} {root : BlockTask} {before part : Part} {frames : List Frame} {cols : Columns} {p : ℕ} {progress : BlockCursor}
    (a : AtStart t d root before frames cols p progress part) (s : NoSign t cols p) {held : PlacedProperties} (l : LineProperties t p held) where
  utf8 : IsUtf8 t
  utf8 = a.read.text.utf8

  inside : LineStart t held.end → ⊥
  inside = properties_no_start utf8 l.chosen.derived

  pub joined_here : {outer : PlacedProperties} → JoinedAhead a.ahead l.value held.start held.end outer → JoinedAhead a.ahead l.value p held.end outer
  joined_here {outer} j = subst (λ (k : ℕ). JoinedAhead a.ahead l.value k held.end outer) l.tied.start j

  -- the line goes on
  pub line_goes_on_after : {place : ℕ} {w : List ℕ} {b : Bool} → Many t is_white held.end place w → is_white (code t place) ≡ false → (held.end < place → b ≡ true) → (LineEndsAt t b place → ⊥) → Stuck (LineEnd t held.end)
  line_goes_on_after {place} m f g n = ⊎_elim
      (λ (o : held.end < place). line_end_stuck inside (stuck_at_solid m f (λ h. n (hash_is_at (g o) h)) (record { none = λ j e. no_end e })))
      (λ (o : place ≤ held.end).
      let v = whites_forward m in
      let same : place ≡ held.end = omega (arith, o, v) in
      let f' = subst (λ (z : ℕ). is_white (code t z) ≡ false) same f in
      line_end_stuck inside (stuck_alone (λ h c. no_separation f' inside c) (record { none = λ j e. no_end (subst (λ (z : ℕ). BreakOrEnd t z j) (sym same) e) })))
      (cases_lt held.end place) where
        no_end : {j : ℕ} → BreakOrEnd t place j → ⊥
        no_end (by_break b) = ⊎_elim (λ c. n (return_is_at c)) (λ c. n (feed_is_at c)) (break_char b)
        no_end (by_end c) = n (text_stops c)

  -- nothing may be there
  pub nowhere_after_fails : Stuck (LineEnd t held.end) → NoPlaceAfter t held.end → AtFailed t d root progress
  nowhere_after_fails q n = nowhere_fails a s l q n (no_key_held l q (keyless_nowhere utf8 l q n))

  module _ {place : ℕ} (e : EndsAfter t held.end place) where
    ended_key : Stuck (LineEnd t held.end) → NoKeyAt t a.room a.indentation cols p
    ended_key q =
        let u = dull_of t place e.ends in
        let no = dull_other u.1.0 in
        let stuck = λ (n : ℤ). no_plain {n = n} (no_front (dull_first t place u.1.0 u.1.1)) in
        no_key_held l q (node_unfit (lone_after utf8 l q e.run e.no_white (ap begins_content u.1.1 ∙ dull_content u.1.0) (stuck (a.indentation +ℤ pos 1)))
        (lone_no_key l.value p e.run e.no_white (λ y. no.0 (sym u.1.1 ∙ y.sign_is_at))))

    -- it should end there, and does not
    pub unended_fails : Stuck (LineEnd t held.end) → AtFailed t d root progress
    unended_fails q =
        let u = dull_of t place e.ends in
        let no = dull_other u.1.0 in
        let stuck = λ (n : ℤ). no_plain {n = n} (no_front (dull_first t place u.1.0 u.1.1)) in
        leaf_of a s (ended_key q) l.chosen q e.run e.no_white
        (λ z h. leaf_lost (other_no_scalar u.1.1 no.1.0 no.1.1) (λ m. plain_missed (ap begins_plain u.1.1 ∙ dull_plain u.1.0) (stuck (a.indentation +ℤ pos 1))))

    -- the properties don't go together with those of earlier lines
    pub apart_ended : {k : ℕ} {ds : List CommentValue} → Apart a.ahead l.value → Chosen (LineEnd t held.end) k ds → AtFailed t d root progress
    apart_ended x c = missing a s (properties_apart_below s l.chosen c x) (halts_properties_apart_below s l.chosen c x)

    pub apart_unended : Apart a.ahead l.value → Stuck (LineEnd t held.end) → AtFailed t d root progress
    apart_unended x q = missing a s (properties_apart s (ended_key q) l.chosen q x) (halts_properties_apart s (ended_key q) l.chosen q x)

    pub apart_either : {X : Type 0} (o : Option X) (end : X → ℕ) (comments : X → List CommentValue) → Apart a.ahead l.value
        → MatchOption o (Stuck (LineEnd t held.end)) (λ x. Chosen (LineEnd t held.end) (end x) (comments x)) → AtFailed t d root progress
    apart_either None end comments x m = apart_unended x m
    apart_either (Some y) end comments x m = apart_ended x m

    -- they do: the node is on a later line
    pub joined_below : {outer : PlacedProperties} {after : BlockCursor} → JoinedAhead a.ahead l.value p held.end outer → after ≡ record progress { wanted = record progress.wanted { outer = Some outer } } → AtBelow t d root before frames held.end after part
    joined_below {outer} {after} j q = subst (λ z. AtBelow t d root before frames held.end z part) (sym q) (record {
      layers = a.layers;
      room = a.room;
      comments = a.comments;
      indentation = a.indentation;
      context = a.context;
      ahead = j.ahead;
      halt = a.halt;
      node = λ k ds c. node_through a.node (held_awaits s l.chosen c j.joins) (held_halts s l.chosen c j.joins);
      unended = λ c. still (unended_fails c);
      started = λ y. absurd (inside y);
      wanted = record {
        least = a.wanted.least;
        out = a.wanted.out;
        outer = subst (λ z. AheadTied z (Some outer)) (sym j.tied.is) (props_held j.tied.tied);
        entry = a.wanted.entry;
        within = a.wanted.within;
        nested = λ y. absurd (joined_held j.tied.is y);
        rooted = λ i y n. joined_no_sign j.tied.is y;
        narrow = a.wanted.narrow;
      };
      last = λ i y. absurd (joined_no_sign j.tied.is y);
      past = let f = properties_forward l.chosen.derived in let g = a.past in omega (arith, f, g);
      stack = record { order = a.stack.order; frames_tied = a.stack.frames_tied; colons = a.stack.colons; halted = a.stack.halted };
      read = read_moved (subst (λ z. ReadTied t before (all_written a.layers ⊕ only (a.comments ++ z) 0) progress part) (sym (joined_comments j.joins l.no_comments)) a.read) refl;
    }) where
      still : AtFailed t d root progress → AtFailed t d root (record progress { wanted = record progress.wanted { outer = Some outer } })
      still f = record { halt = f.halt; unfinished = f.unfinished; halts = f.halts; halted = f.halted }
