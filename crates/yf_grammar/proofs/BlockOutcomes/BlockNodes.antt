-- Collections on lines of their own, compact ones, and empty nodes: the reader's outcomes for them, and how far it
-- reaches.
use Rattle.std.proofs.Common.{◌≡◌, ℕ, suc, ◌+◌, ◌-◌, ◌<◌, ◌≤◌, ℤ, pos, ◌≤ℤ◌, Bool, true, false, ⊎_elim, List, Option, Some, length, refl, sym, ap, ◌∙◌, subst, arith, true≢false}
use Rattle.std.specs.Str.{IsUtf8}
use Rattle.yf_chars.specs.declared.context.Ctx.{Ctx}
use Rattle.yf_chars.specs.Text.{code}
use Rattle.yf_chars.specs.Class.{is_white, is_ns_char}
use Rattle.yf_chars.specs.Chain.{Many}
use Rattle.yf_chars.specs.Chain.Chain.{done}
use Rattle.yf_chars.proofs.ChainLemmas.{chain_forward, many_unique}
use Rattle.yf_lines.specs.Basic.{LineStart, Spaces, Clear}
use Rattle.yf_lines.proofs.BasicLemmas.{clear_back}
use Rattle.yf_comments.specs.Comment.{CommentValue}
use Rattle.yf_comments.specs.Comments.{LineEnd}
use Rattle.yf_comments.specs.Comments.LineEnd.{past_rest, from_start}
use Rattle.yf_comments.proofs.RowLemmas.{row_functional, stuck_at_solid}
use Rattle.yf_comments.proofs.LineEndLemmas.{line_end_stuck, lines_rows, rest_next}
use Rattle.yf_comments.proofs.SeparateLemmas.{spaces_whites}
use Rattle.yf_grammar.specs.Productions.Grammar.{BlockEntries, Derives, least_column}
use Rattle.yf_grammar.specs.Productions.Meaning.{Meaning, meaning_after, collection}
use Rattle.yf_grammar.specs.FlowReader.Parser.{ParsedNode}
use Rattle.yf_grammar.specs.BlockReader.BlockParser.{text_ends, LineText, Columns, Compact, compact_columns, no_columns, ColumnIf, column_there, column_not, LineColumns, Begins, line_indented, line_dashed, Ahead, Indicator, headed, past, outcome_after, Awaited, Below, Inline, Whole}
use Rattle.yf_grammar.specs.BlockReader.BlockParser.Whole.{awaited_below, awaited_inline, awaited_missed}
use Rattle.yf_grammar.specs.BlockReader.Halts.{NoColonAt, Halts}
use Rattle.yf_grammar.specs.BlockReader.Halts.Halts.{halts_below, halts_inline, halts_missed}
use Rattle.yf_grammar.proofs.Ends.GapLemmas.{Visible, visible_solid}
use Rattle.yf_grammar.proofs.FlowReader.Longest.{Longest}
use Rattle.yf_grammar.proofs.BlockOutcomes.BlockClaims.{IsFound, Follow, Unheld, indicator_ahead, EntriesExact, EntryHaltsReach, visible_white, line_from, follow_inside, follow_compact}
use Rattle.yf_grammar.proofs.BlockOutcomes.BlockStarts.{block_starts, FirstOf, dash_first, no_dash_first}
use Rattle.yf_grammar.proofs.BlockOutcomes.BlockFirst.{first_of}
use Rattle.yf_grammar.proofs.BlockOutcomes.BlockGaps.{CameBelow, came_below, past_unheld, rows_order, line_chosen, below_comes, awaited_ends}
use Rattle.yf_grammar.proofs.BlockContent.HaltGaps.{HaltsBelow, halts_there, halts_before, halts_below_comes, halts_awaited_ends}
use Rattle.yf_grammar.proofs.BlockOutcomes.BlockInline.{AtColumn, sequence_column, mapping_column, Opens, opens_sequence, opens_mapping, collection_exact, collection_reached}
use Rattle.yf_grammar.proofs.BlockOutcomes.BlockItems.{longest_some}
use Rattle.yf_grammar.proofs.BlockOutcomes.OutcomeMade.{told_exact, told_longest, headed_unheld, found_moved, longest_moved}
use Rattle.yf_grammar.proofs.BlockContent.BlockLeaves.{past_headed}

pub column_some : {k m p : ℕ} {least : ℤ} {o : Option ℕ} → ColumnIf k m p least o → p ≡ k + m → least ≤ℤ pos m → o ≡ Some m
column_some (column_there e l) q y = refl
column_some (column_not n) q y = absurd (n q y)

pub columns_at : {n : ℤ} {c : Ctx} {k m : ℕ} {cols : Columns} (s : Bool) → LineColumns n c k m (k + m) cols → least_column s n c ≤ℤ pos m → AtColumn cols m s
columns_at true w l = sequence_column (column_some w.sequence refl l)
columns_at false w l = mapping_column (column_some w.mapping refl l)

-- an outcome after comments, found or reached
pub record OutcomeAfter (a : Ahead) (cs : List CommentValue) (j h : ℕ) (x : Meaning) (o : Option ParsedNode) : Type 0 where
  pub inner : Option ParsedNode
  pub found : IsFound inner j h x
  pub is : o ≡ outcome_after a cs inner

pub record ToldLongest (a : Ahead) (cs : List CommentValue) (j : ℕ) (x : Meaning) (o : Option ParsedNode) : Type 0 where
  pub inner : Option ParsedNode
  pub reached : Longest inner j x
  pub is : o ≡ outcome_after a cs inner

told_is : {a : Ahead} {cs : List CommentValue} {j h : ℕ} (x : Meaning) {o : Option ParsedNode} → Unheld a → OutcomeAfter a cs j h (headed (past a cs) x) o → IsFound o j h (meaning_after cs x)
told_is {a} {cs} {j} {h} x n w = subst (λ v. IsFound v j h (meaning_after cs x)) (sym w.is) (told_exact cs n (found_moved refl (past_headed cs x n) w.found))

told_reached : {a : Ahead} {cs : List CommentValue} {j : ℕ} (x : Meaning) {o : Option ParsedNode} → Unheld a → ToldLongest a cs j (headed (past a cs) x) o → Longest o j (meaning_after cs x)
told_reached {a} {cs} {j} x n w = subst (λ v. Longest v j (meaning_after cs x)) (sym w.is) (told_longest cs n (longest_moved (past_headed cs x n) w.reached))

-- spaces before a character of content, which is no space
not_still : {t : List ℕ} {i l : ℕ} → Spaces t i l → Visible t (i + l) → is_ns_char (code t i) ≡ false → is_white (code t i) ≡ false → ⊥
not_still {t} {i} {l} p v g w =
    let same = (many_unique t is_white (spaces_whites t i l p).1 (visible_white v) (done {i = i}) w).0 in
    true≢false (sym v.ns ∙ ap (λ k. is_ns_char (code t k)) same ∙ g)

module _ {t : List ℕ} where
  begins_at : {h m j : ℕ} {n : ℤ} {c : Ctx} {i k : ℕ} {s : Bool} → Opens t h (k + m) j s → least_column s n c ≤ℤ pos m → Begins t n c i k m (k + m)
  begins_at (opens_sequence d) l = line_dashed d refl l
  begins_at (opens_mapping n f) l = line_indented l

  -- no line ends or begins at white space before a character of content
  pub no_line_end : {i k p : ℕ} {w : List ℕ} {x : List CommentValue} → (LineStart t i → ⊥) → Many t is_white i p w → Visible t p → LineEnd t i k x → ⊥
  no_line_end {k = k} {x = x} n m v d = let s = visible_solid v in (line_end_stuck n (stuck_at_solid m s.not_white s.no_comment s.no_end)).none k x d

  -- a line end is not empty, or the text ends
  pub line_end_moves : {i h m p : ℕ} {x : List CommentValue} → (LineStart t i → ⊥) → LineEnd t i h x → LineText t h m p → h ≡ i → ⊥
  line_end_moves {i} {h} n (past_rest {h = g} r c) w e =
      let a : i ≤ g = rows_order (past_rest r done) in
      let b : g ≤ h = chain_forward row_functional (lines_rows c) in
      let q : g ≡ i = omega arith in
      ⊎_elim (λ (s : LineStart t g). n (subst (λ v. LineStart t v) q s)) (λ (z : g ≡ length t). w.goes_on (text_ends (omega arith))) (rest_next r)
  line_end_moves n (from_start s c) w e = absurd (n s)

module _ {t : List ℕ} (u : IsUtf8 t) where
  pub opens_of : {h m p j : ℕ} {s : Bool} {x : Meaning} → Derives t h (BlockEntries s m) p j x → Opens t h p j s
  opens_of d = go (block_starts d).first d where
    go : {h m p j : ℕ} {s : Bool} {x : Meaning} → FirstOf t p s → Derives t h (BlockEntries s m) p j x → Opens t h p j s
    go (dash_first e) d = opens_sequence e
    go (no_dash_first n) d = opens_mapping n (first_of u d)

  collection_came : {z : Bool} {e h k m j : ℕ} {s : Bool} {n : ℤ} {c : Ctx} {a : Ahead} {cs : List CommentValue} {x : Meaning} {o : Option ParsedNode} → least_column s n c ≤ℤ pos m
      → Opens t h (k + m) j s → EntriesExact t z h s m (k + m) j x → suc h ≤ e → Clear t (k + m) j → Follow t z n c j → CameBelow t e n c a k m (k + m) cs o
      → OutcomeAfter a cs j (suc h) (headed (past a cs) (collection s false (k + m) x.finish x)) o
  collection_came {m = m} {s = s} l y v b c f (came_below {r = r} g w q) =
      record { inner = r; found = collection_exact u (columns_at s g l) y b c (follow_inside s m l f) v w; is = q }

  pub entry_line : {h i k m j : ℕ} {s : Bool} {x : Meaning} → i ≤ k → Spaces t k m → Derives t h (BlockEntries s m) (k + m) j x → Clear t i j → LineText t k m (k + m)
  entry_line {i = i} {k = k} {m = m} {j = j} q p y c = let z = block_starts y in let l : k + m < j = z.later in line_from p z.visible (λ g. c.none k q (omega arith) g)

  -- the collection with its first entry on the line at k
  pub below_collection : {z : Bool} {e h i k m j : ℕ} {s : Bool} {n : ℤ} {c : Ctx} {a : Ahead} {cs : List CommentValue} {x : Meaning} {o : Option ParsedNode} → LineEnd t i k cs → Spaces t k m
      → least_column s n c ≤ℤ pos m → Derives t h (BlockEntries s m) (k + m) j x → EntriesExact t z h s m (k + m) j x → suc h ≤ e → Clear t i j → Follow t z n c j
      → Whole t e (Below n c a i) o → OutcomeAfter a cs j (suc h) (headed (past a cs) (collection s false (k + m) x.finish x)) o
  below_collection {i = i} {k = k} {m = m} d p l y v b c f r =
      let q : i ≤ k = rows_order d in
      let w = entry_line q p y c in
      let z = opens_of y in
      collection_came l z v b (clear_back (omega arith) c) f (below_comes (line_chosen d w) w (begins_at z l) r)

  pub block_collection : {z : Bool} {e h i k m j : ℕ} {s b : Bool} {n : ℤ} {c : Ctx} {a : Ahead} {cs : List CommentValue} {x : Meaning} {o : Option ParsedNode} → LineEnd t i k cs → Spaces t k m
      → least_column s n c ≤ℤ pos m → Derives t h (BlockEntries s m) (k + m) j x → EntriesExact t z h s m (k + m) j x → suc h ≤ e → Clear t i j → Follow t z n c j → Unheld a
      → Whole t e (Awaited b n c a i) o → IsFound o j (suc h) (meaning_after cs (collection s false (k + m) x.finish x))
  block_collection {k = k} {m = m} {s = s} {x = x} d p l y v b c f n r = told_is (collection s false (k + m) x.finish x) n (below_collection d p l y v b c f (awaited_ends d r))

  collection_halted : {e h i k m j : ℕ} {s : Bool} {n : ℤ} {c : Ctx} {a : Ahead} {cs : List CommentValue} {x : Meaning} {ws : List ℕ} {o : Option ParsedNode} → least_column s n c ≤ℤ pos m
      → Opens t h (k + m) j s → EntryHaltsReach t h s m (k + m) j x → suc h ≤ e → Clear t (k + m) j → NoColonAt t j ws → HaltsBelow t e ws n c a i k m (k + m) cs o
      → ToldLongest a cs j (headed (past a cs) (collection s false (k + m) x.finish x)) o
  collection_halted {s = s} l y v b c w (halts_there {f = f} g r q) =
      record { inner = Some f; reached = collection_reached u (columns_at s g l) y b c w v r; is = q }
  collection_halted {s = s} l y v b c w (halts_before g r q) = longest_some (collection_reached u (columns_at s g l) y b c w v r) refl

  pub below_collection_reached : {e h i k m j : ℕ} {s : Bool} {n : ℤ} {c : Ctx} {a : Ahead} {cs : List CommentValue} {x : Meaning} {ws : List ℕ} {o : Option ParsedNode} → LineEnd t i k cs
      → Spaces t k m → least_column s n c ≤ℤ pos m → Derives t h (BlockEntries s m) (k + m) j x → EntryHaltsReach t h s m (k + m) j x → suc h ≤ e → Clear t i j → NoColonAt t j ws
      → Halts t e ws (Below n c a i) o → ToldLongest a cs j (headed (past a cs) (collection s false (k + m) x.finish x)) o
  below_collection_reached {i = i} {k = k} {m = m} d p l y v b c f r =
      let q : i ≤ k = rows_order d in
      let w = entry_line q p y c in
      let z = opens_of y in
      collection_halted l z v b (clear_back (omega arith) c) f (halts_below_comes (line_chosen d w) w (begins_at z l) r)

  pub block_collection_reached : {e h i k m j : ℕ} {s b : Bool} {n : ℤ} {c : Ctx} {a : Ahead} {cs : List CommentValue} {x : Meaning} {ws : List ℕ} {o : Option ParsedNode} → LineEnd t i k cs
      → Spaces t k m → least_column s n c ≤ℤ pos m → Derives t h (BlockEntries s m) (k + m) j x → EntryHaltsReach t h s m (k + m) j x → suc h ≤ e → Clear t i j → Unheld a
      → NoColonAt t j ws → Halts t e ws (Awaited b n c a i) o → Longest o j (meaning_after cs (collection s false (k + m) x.finish x))
  block_collection_reached {k = k} {m = m} {s = s} {x = x} d p l y v b c n f r = told_reached (collection s false (k + m) x.finish x) n (below_collection_reached d p l y v b c f (halts_awaited_ends d r))

-- a compact collection
module _ {t : List ℕ} where
  compact_column : {i p m l : ℕ} {cols : Columns} (s : Bool) → Spaces t i l → p ≡ i + l → Compact t true (pos m) i p cols → AtColumn cols (m + 1 + l) s
  compact_column {i} {p} {m} {l} s q e (compact_columns {l = k} z) =
      let y : l ≡ k = omega arith in
      both s (ap (λ v. m + 1 + v) (sym y))
    where
      both : {k : ℕ} (s : Bool) → k ≡ m + 1 + l → AtColumn (record { sequence = Some k; mapping = Some k }) (m + 1 + l) s
      both true y = sequence_column (ap (λ v. Some v) y)
      both false y = mapping_column (ap (λ v. Some v) y)
  compact_column {i} {p} {m} {l} s q e (no_columns n) = let y : l ≡ p - i = omega arith in absurd (n refl (subst (λ v. Spaces t i v) y q))

module _ {t : List ℕ} (u : IsUtf8 t) where
  pub compact_exact : {z : Bool} {e h i l m j : ℕ} {s : Bool} {c : Ctx} {x : Meaning} {o : Option ParsedNode} → Spaces t i l → Derives t h (BlockEntries s (m + 1 + l)) (i + l) j x
      → EntriesExact t z h s (m + 1 + l) (i + l) j x → suc h ≤ e → Clear t i j → Follow t z (pos m) c j → (LineStart t i → ⊥) → is_ns_char (code t i) ≡ false
      → Whole t e (Awaited true (pos m) c (Indicator i) i) o → IsFound o j (suc h) (collection s false (i + l) x.finish x)
  compact_exact {i = i} {l = l} p y v b c f n g (awaited_below {k = k} {ds = ds} d r) = absurd (no_line_end n (spaces_whites t i l p).1 (block_starts y).visible d.derived)
  compact_exact {e = e} {i = i} {l = l} {m = m} {j = j} {s = s} {c = c} {x = x} {o = o} p y v b z f n g (awaited_inline {p = k} {cols = cols} d w q a k' r) =
      let same = (many_unique t is_white (spaces_whites t i l p).1 (visible_white (block_starts y).visible) w a).0 in
      let r' : Whole t e (Inline (pos m) c cols (Indicator i) (i + l)) o = subst (λ h. Whole t e (Inline (pos m) c cols (Indicator i) h) o) (sym same) r in
      found_moved refl (headed_unheld (collection s false (i + l) x.finish x) indicator_ahead)
      (collection_exact u (compact_column s p (sym same) k') (opens_of u y) b (clear_back (omega arith) z) (follow_compact s m l f) v r')
  compact_exact {i = i} {l = l} p y v b c f n g (awaited_missed d w) = absurd (not_still p (block_starts y).visible g w)

  pub compact_reached : {e h i l m j : ℕ} {s : Bool} {c : Ctx} {x : Meaning} {ws : List ℕ} {o : Option ParsedNode} → Spaces t i l → Derives t h (BlockEntries s (m + 1 + l)) (i + l) j x
      → EntryHaltsReach t h s (m + 1 + l) (i + l) j x → suc h ≤ e → Clear t i j → NoColonAt t j ws → (LineStart t i → ⊥) → is_ns_char (code t i) ≡ false
      → Halts t e ws (Awaited true (pos m) c (Indicator i) i) o → Longest o j (collection s false (i + l) x.finish x)
  compact_reached {i = i} {l = l} p y v b c f n g (halts_below {k = k} {ds = ds} d r) = absurd (no_line_end n (spaces_whites t i l p).1 (block_starts y).visible d.derived)
  compact_reached {e = e} {i = i} {l = l} {m = m} {j = j} {s = s} {c = c} {x = x} {ws = ws} {o = o} p y v b z f n g (halts_inline {p = k} {cols = cols} d w q a k' r) =
      let same = (many_unique t is_white (spaces_whites t i l p).1 (visible_white (block_starts y).visible) w a).0 in
      let r' : Halts t e ws (Inline (pos m) c cols (Indicator i) (i + l)) o = subst (λ h. Halts t e ws (Inline (pos m) c cols (Indicator i) h) o) (sym same) r in
      longest_moved (headed_unheld (collection s false (i + l) x.finish x) indicator_ahead)
      (collection_reached u (compact_column s p (sym same) k') (opens_of u y) b (clear_back (omega arith) z) f v r')
  compact_reached {i = i} {l = l} p y v b c f n g (halts_missed d w) = absurd (not_still p (block_starts y).visible g w)
