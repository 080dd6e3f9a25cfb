-- If no collection begins on a line, a leaf does, with or without properties. The lemmas are stated once for whole
-- nodes and last halts: R is one of the two relations, and Q is the goal for an outcome that is not `None`.
use Rattle.std.proofs.Common.{◌≡◌, ℕ, ◌<◌, ℤ, pos, ◌+ℤ◌, false, List, Option, Some, None, refl, sym, ap, ◌∙◌, subst}
use Rattle.yf_chars.specs.declared.context.Ctx.{Ctx}
use Rattle.yf_chars.specs.declared.context.Ctx.TheVariants.{FlowOut, FlowKey}
use Rattle.yf_chars.specs.Text.{code}
use Rattle.yf_chars.specs.Class.{is_white}
use Rattle.yf_chars.specs.Chain.{Chosen, Stuck, Many}
use Rattle.yf_comments.specs.Comment.{CommentValue}
use Rattle.yf_comments.specs.Comments.{LineEnd}
use Rattle.yf_props.specs.Names.{Properties, PropertiesValue}
use Rattle.yf_grammar.specs.FlowReader.Parser.{ParsedNode, Parses, ANode}
use Rattle.yf_grammar.specs.BlockReader.BlockParser.{DashAt, SignAt, KeyBefore, Columns, PropertiesHeld, Ahead, Nothing, Indicator, Props, with_comments, both, past, outcome_after, Joins, first_held, more_held, Apart, MappingAt, by_question, by_colon, by_key, LineText, LineColumns, Begins, BlockTask, Below, Inline, Leaf, Whole}
use Rattle.yf_grammar.specs.BlockReader.BlockParser as BlockParser
use Rattle.yf_grammar.specs.BlockReader.Halts.{Alone, Halts}
use Rattle.yf_grammar.specs.BlockReader.Halts as Halting
use Rattle.yf_grammar.proofs.BlockOutcomes.BlockClaims.{Unheld, nothing_ahead, indicator_ahead}
use Rattle.yf_grammar.proofs.BlockOutcomes.BlockGaps.{CameBelow, came_below, below_comes}
use Rattle.yf_grammar.proofs.BlockContent.HaltGaps.{HaltsBelow, halts_there, halts_before, halts_below_comes}
use Rattle.yf_grammar.proofs.BlockContent.PropertiesLines.{held}

-- no flow node that is found there is a key
pub record NotKey (t : List ℕ) (e : ℕ) (n : ℤ) (p : ℕ) : Type 0 where
  pub none : {v : ParsedNode} {z : ℕ} → Parses t e (ANode (n +ℤ pos 1) FlowOut p) (Some v) → KeyBefore t p v z → ⊥

pub record NoSignAt (t : List ℕ) (p : ℕ) : Type 0 where
  pub no_dash : DashAt t p → ⊥
  pub no_question : SignAt t 63 p → ⊥
  pub no_colon : SignAt t 58 p → ⊥

abbrev pub Reader : Type 1
Reader = BlockTask → Option ParsedNode → Type 0

-- the outcome on a line on which no collection begins
pub data InlineView (t : List ℕ) (R : Reader) (n : ℤ) (c : Ctx) (a : Ahead) (p : ℕ) (o : Option ParsedNode) : Type 0 where
  view_leaf : Stuck (Properties t (pos 0) FlowKey p) → R (Leaf n a p) o → InlineView t R n c a p o
  view_below : {g k : ℕ} {q : PropertiesValue} {ds : List CommentValue} {z : Ahead} → Chosen (Properties t (pos 0) FlowKey p) g q → Chosen (LineEnd t g) k ds → Joins a q p g z
      → R (Below n c z g) o → InlineView t R n c a p o
  view_line : {g k : ℕ} {q : PropertiesValue} {w : List ℕ} {z : Ahead} → Chosen (Properties t (pos 0) FlowKey p) g q → Stuck (LineEnd t g) → Many t is_white g k w → g < k
      → is_white (code t k) ≡ false → Joins a q p g z → R (Leaf n z k) o → InlineView t R n c a p o
  view_missed : {g : ℕ} {q : PropertiesValue} → Chosen (Properties t (pos 0) FlowKey p) g q → Stuck (LineEnd t g) → is_white (code t g) ≡ false → o ≡ None
      → InlineView t R n c a p o
  view_apart : {g : ℕ} {q : PropertiesValue} → Chosen (Properties t (pos 0) FlowKey p) g q → Apart a q → o ≡ None → InlineView t R n c a p o

module _ {t : List ℕ} where
  no_mapping : {e p : ℕ} {n : ℤ} → NoSignAt t p → NotKey t e n p → MappingAt t e n p → ⊥
  no_mapping s k (by_question w) = s.no_question w
  no_mapping s k (by_colon w) = s.no_colon w
  no_mapping s k (by_key r w) = k.none r w

  pub whole_view : {e p : ℕ} {n : ℤ} {c : Ctx} {cols : Columns} {a : Ahead} {o : Option ParsedNode} → NoSignAt t p → NotKey t e n p → Whole t e (Inline n c cols a p) o
      → InlineView t (Whole t e) n c a p o
  whole_view s k (BlockParser.sequence_read q y r) = absurd (s.no_dash y)
  whole_view s k (BlockParser.sequence_missed q y r) = absurd (s.no_dash y)
  whole_view s k (BlockParser.sequence_too_deep q y) = absurd (s.no_dash y)
  whole_view s k (BlockParser.mapping_read y q w r) = absurd (no_mapping s k w)
  whole_view s k (BlockParser.mapping_missed y q w r) = absurd (no_mapping s k w)
  whole_view s k (BlockParser.mapping_too_deep y q w) = absurd (no_mapping s k w)
  whole_view s k (BlockParser.properties_below y q d j r) = view_below q d j r
  whole_view s k (BlockParser.properties_leaf y z q d m l w j r) = view_line q d m l w j r
  whole_view s k (BlockParser.properties_alone_missed y z q d w) = view_missed q d w refl
  whole_view s k (BlockParser.properties_apart_below y q d j) = view_apart q j refl
  whole_view s k (BlockParser.properties_apart y z q d j) = view_apart q j refl
  whole_view s k (BlockParser.leaf_there y z q r) = view_leaf q r

  pub halts_view : {e p : ℕ} {ws : List ℕ} {n : ℤ} {c : Ctx} {cols : Columns} {a : Ahead} {o : Option ParsedNode} → NoSignAt t p → NotKey t e n p → Halts t e ws (Inline n c cols a p) o
      → InlineView t (Halts t e ws) n c a p o
  halts_view s k (Halting.halts_sequence q y r) = absurd (s.no_dash y)
  halts_view s k (Halting.halts_sequence_too_deep q y) = absurd (s.no_dash y)
  halts_view s k (Halting.halts_mapping y q w r) = absurd (no_mapping s k w)
  halts_view s k (Halting.halts_mapping_too_deep y q w) = absurd (no_mapping s k w)
  halts_view s k (Halting.halts_properties_below y q d j r) = view_below q d j r
  halts_view s k (Halting.halts_properties_leaf y z q d m l w j r) = view_line q d m l w j r
  halts_view s k (Halting.halts_properties_missed y z q d w) = view_missed q d w refl
  halts_view s k (Halting.halts_properties_apart_below y q d j) = view_apart q j refl
  halts_view s k (Halting.halts_properties_apart y z q d j) = view_apart q j refl
  halts_view s k (Halting.halts_leaf y z q r) = view_leaf q r

-- the common facts of both readers: the view of a line, and that they reach the line after properties that end their
-- line
pub record Reads (t : List ℕ) (e : ℕ) (R : Reader) (Q : Option ParsedNode → Type 0) : Type 0 where
  pub something : Q None → ⊥
  pub inline : {p : ℕ} {n : ℤ} {c : Ctx} {cols : Columns} {a : Ahead} {o : Option ParsedNode} → NoSignAt t p → NotKey t e n p → R (Inline n c cols a p) o → InlineView t R n c a p o
  pub below : {i h m k : ℕ} {n : ℤ} {c : Ctx} {v : PropertiesHeld} {cs : List CommentValue} {o : Option ParsedNode} → Chosen (LineEnd t i) h cs → LineText t h m k → Begins t n c i h m k
      → R (Below n c (Props v) i) o → ((cols : Columns) (r : Option ParsedNode) → LineColumns n c h m k cols → R (Inline n c cols (Props (with_comments v cs)) k) r → Q r) → Q o

pub past_props : (v : PropertiesHeld) (cs : List CommentValue) → past (Props v) cs ≡ Props (with_comments v cs)
unfolding past
past_props v cs = refl

pub told_props : (v : PropertiesHeld) (cs : List CommentValue) (o : Option ParsedNode) → outcome_after (Props v) cs o ≡ o
unfolding outcome_after
told_props v cs None = refl
told_props v cs (Some f) = refl

module _ {t : List ℕ} {Q : Option ParsedNode → Type 0} (some : Q None → ⊥) where
  whole_below : {e h m k : ℕ} {n : ℤ} {c : Ctx} {v : PropertiesHeld} {cs : List CommentValue} {o : Option ParsedNode}
      → ((cols : Columns) (r : Option ParsedNode) → LineColumns n c h m k cols → Whole t e (Inline n c cols (Props (with_comments v cs)) k) r → Q r)
      → CameBelow t e n c (Props v) h m k cs o → Q o
  whole_below {e} {k = k} {n = n} {c = c} {v = v} {cs = cs} f (came_below {cols = cols} {r = r} g w q) =
      let w' : Whole t e (Inline n c cols (Props (with_comments v cs)) k) r = subst (λ z. Whole t e (Inline n c cols z k) r) (past_props v cs) w in
      subst Q (sym (q ∙ told_props v cs r)) (f cols r g w')

  pub whole_reads : {e : ℕ} → Reads t e (Whole t e) Q
  whole_reads = record {
    something = some;
    inline = λ s k r. whole_view s k r;
    below = λ d w b r f. whole_below f (below_comes d w b r);
  }

  halts_below : {e i h m k : ℕ} {ws : List ℕ} {n : ℤ} {c : Ctx} {v : PropertiesHeld} {cs : List CommentValue} {o : Option ParsedNode}
      → ((cols : Columns) (r : Option ParsedNode) → LineColumns n c h m k cols → Halts t e ws (Inline n c cols (Props (with_comments v cs)) k) r → Q r)
      → HaltsBelow t e ws n c (Props v) i h m k cs o → Q o
  halts_below {e} {k = k} {ws = ws} {n = n} {c = c} {v = v} {cs = cs} f (halts_there {cols = cols} {f = y} g w q) =
      let w' : Halts t e ws (Inline n c cols (Props (with_comments v cs)) k) (Some y) = subst (λ z. Halts t e ws (Inline n c cols z k) (Some y)) (past_props v cs) w in
      subst Q (sym (q ∙ told_props v cs (Some y))) (f cols (Some y) g w')
  halts_below {e} {k = k} {ws = ws} {n = n} {c = c} {v = v} {cs = cs} f (halts_before {cols = cols} g w z) =
      let w' : Halts t e ws (Inline n c cols (Props (with_comments v cs)) k) None = subst (λ z. Halts t e ws (Inline n c cols z k) None) (past_props v cs) w in
      absurd (some (f cols None g w'))

  pub halts_reads : {e : ℕ} (ws : List ℕ) → Reads t e (Halts t e ws) Q
  halts_reads ws = record {
    something = some;
    inline = λ s k r. halts_view s k r;
    below = λ d w b r f. halts_below f (halts_below_comes d w b r);
  }

-- the `Ahead` of the content after the first properties, or after the second
pub joins_first : {a : Ahead} {q : PropertiesValue} {p g : ℕ} {z : Ahead} → Unheld a → Joins a q p g z → z ≡ Props (held q p g)
joins_first n (first_held f) = refl
joins_first n (more_held e c) = absurd (differ n e) where
  differ : {a : Ahead} {h : PropertiesHeld} → Unheld a → a ≡ Props h → ⊥
  differ nothing_ahead e = cc
  differ indicator_ahead e = cc

pub joins_second : {v : PropertiesHeld} {q : PropertiesValue} {p g : ℕ} {z : Ahead} → Joins (Props v) q p g z → z ≡ both v q g
joins_second {v} (first_held f) = absurd (f v refl)
joins_second {v} {q} {g = g} (more_held {h = h} e c) = ap (λ w. both w q g) (sym (one e)) where
  one : Props v ≡ Props h → v ≡ h
  one e = cc

pub not_apart : {a : Ahead} {q : PropertiesValue} → Unheld a → Apart a q → ⊥
not_apart n p = differ n p.is where
  differ : {a : Ahead} {h : PropertiesHeld} → Unheld a → a ≡ Props h → ⊥
  differ nothing_ahead e = cc
  differ indicator_ahead e = cc
