-- At the start of a collection, the reader commits to it, and reads its entries with a limit smaller by one.
use Rattle.std.proofs.Common.{◌≡◌, ℕ, suc, ◌≤◌, ℤ, pos, Bool, true, false, List, Option, Some, None, sym, ◌∙◌, subst, arith}
use Rattle.std.specs.Str.{IsUtf8}
use Rattle.yf_chars.specs.declared.context.Ctx.{Ctx}
use Rattle.yf_chars.specs.declared.context.Ctx.TheVariants.{FlowKey}
use Rattle.yf_chars.specs.Chain.{Chosen}
use Rattle.yf_lines.specs.Basic.{Clear}
use Rattle.yf_lines.proofs.BasicLemmas.{clear_front}
use Rattle.yf_comments.specs.Comment.{CommentValue}
use Rattle.yf_comments.specs.Comments.{LineEnd}
use Rattle.yf_props.specs.Names.{Properties, PropertiesValue}
use Rattle.yf_grammar.specs.Productions.Meaning.{Meaning, collection}
use Rattle.yf_grammar.specs.FlowReader.Parser.{ParsedNode}
use Rattle.yf_grammar.specs.BlockReader.BlockParser.{DashAt, Columns, Ahead, headed, NoSign, NoKeyAt, no_column, unfit_node, Origin, First, Inline, Items, Whole}
use Rattle.yf_grammar.specs.BlockReader.BlockParser.Whole.{sequence_read, sequence_missed, sequence_too_deep, mapping_read, mapping_missed, mapping_too_deep, properties_below, properties_leaf, properties_alone_missed, properties_apart_below, properties_apart, leaf_there}
use Rattle.yf_grammar.specs.BlockReader.Halts.{NoColonAt, Halts}
use Rattle.yf_grammar.specs.BlockReader.Halts.Halts.{halts_sequence, halts_sequence_too_deep, halts_mapping, halts_mapping_too_deep, halts_properties_below, halts_properties_leaf, halts_properties_missed, halts_properties_apart_below, halts_properties_apart, halts_leaf}
use Rattle.yf_grammar.proofs.FlowReader.Longest.{Longest}
use Rattle.yf_grammar.proofs.BlockOutcomes.BlockClaims.{IsFound, FollowItems, EntriesExact, EntryHaltsReach}
use Rattle.yf_grammar.proofs.BlockOutcomes.BlockFirst.{FirstEntry, question_first, colon_first, key_first, key_is, key_no_line}
use Rattle.yf_grammar.proofs.BlockOutcomes.BlockEntries.{not_unfit}
use Rattle.yf_grammar.proofs.BlockOutcomes.BlockItems.{never_none}
use Rattle.yf_grammar.proofs.BlockOutcomes.OutcomeMade.{makes_exact, makes_longest, makes_collected}

-- a collection of that kind may begin, with its entries at the column
pub data AtColumn (cols : Columns) (m : ℕ) : Bool → Type 0 where
  sequence_column : cols.sequence ≡ Some m → AtColumn cols m true
  mapping_column : cols.mapping ≡ Some m → AtColumn cols m false

-- the first entry of a collection is at the offset
pub data Opens (t : List ℕ) (h i j : ℕ) : Bool → Type 0 where
  opens_sequence : DashAt t i → Opens t h i j true
  opens_mapping : (DashAt t i → ⊥) → FirstEntry t h i j → Opens t h i j false

same_column : {o : Option ℕ} {m l : ℕ} → o ≡ Some m → o ≡ Some l → l ≡ m
same_column {o} {m} {l} a b = one (sym b ∙ a) where
  one : Some l ≡ Some m → l ≡ m
  one e = cc

no_column_none : {o : Option ℕ} {m : ℕ} → o ≡ Some m → o ≡ None → ⊥
no_column_none a b = differ (sym a ∙ b) where
  differ : {m : ℕ} → Some m ≡ None → ⊥
  differ e = cc

module _ {t : List ℕ} where
  items_moved : {e m l p : ℕ} {s : Bool} {q : Origin} {o : Option ParsedNode} → l ≡ m → Whole t e (Items s l q p) o → Whole t e (Items s m q p) o
  items_moved {e} {m} {l} {p} {s} {q} {o} a r = subst (λ w. Whole t e (Items s w q p) o) a r

  halting_moved : {e m l p : ℕ} {ws : List ℕ} {s : Bool} {q : Origin} {o : Option ParsedNode} → l ≡ m → Halts t e ws (Items s l q p) o → Halts t e ws (Items s m q p) o
  halting_moved {e} {m} {l} {p} {ws} {s} {q} {o} a r = subst (λ w. Halts t e ws (Items s w q p) o) a r

  pub sequence_exact : {e h m p j : ℕ} {k : Bool} {n : ℤ} {c : Ctx} {cols : Columns} {a : Ahead} {x : Meaning} {o : Option ParsedNode} → cols.sequence ≡ Some m → DashAt t p → suc h ≤ e → Clear t p j
      → FollowItems t k true m j → EntriesExact t k h true m p j x → Whole t e (Inline n c cols a p) o
      → IsFound o j (suc h) (headed a (collection true false p x.finish x))
  sequence_exact {p = p} {a = a} z d l c w v (sequence_read {e = b} {n = n} {f = f} q y r) =
      makes_exact (makes_collected a true p) (v b (omega arith) c w (First n) (Some f) (items_moved (same_column z q) r))
  sequence_exact z d l c w v (sequence_missed {e = b} {n = n} q y r) = never_none (v b (omega arith) c w (First n) None (items_moved (same_column z q) r))
  sequence_exact z d l c w v (sequence_too_deep q y) = absurd (omega arith)
  sequence_exact z d l c w v (mapping_read y q b r) = absurd (y d)
  sequence_exact z d l c w v (mapping_missed y q b r) = absurd (y d)
  sequence_exact z d l c w v (mapping_too_deep y q b) = absurd (y d)
  sequence_exact z d l c w v (properties_below y p b g r) = absurd (y.no_dash z d)
  sequence_exact z d l c w v (properties_leaf y q p b g f k u r) = absurd (y.no_dash z d)
  sequence_exact z d l c w v (properties_alone_missed y q p b g) = absurd (y.no_dash z d)
  sequence_exact z d l c w v (properties_apart_below y p b g) = absurd (y.no_dash z d)
  sequence_exact z d l c w v (properties_apart y q p b g) = absurd (y.no_dash z d)
  sequence_exact z d l c w v (leaf_there y q p r) = absurd (y.no_dash z d)

  pub sequence_reached : {e h m p j : ℕ} {n : ℤ} {c : Ctx} {cols : Columns} {a : Ahead} {x : Meaning} {ws : List ℕ} {o : Option ParsedNode} → cols.sequence ≡ Some m → DashAt t p → suc h ≤ e
      → Clear t p j → NoColonAt t j ws → EntryHaltsReach t h true m p j x → Halts t e ws (Inline n c cols a p) o
      → Longest o j (headed a (collection true false p x.finish x))
  sequence_reached {p = p} {a = a} {ws = ws} z d l c w v (halts_sequence {e = b} {n = n} {o = o} q y r) =
      makes_longest (makes_collected a true p) (v b (omega arith) c (First n) ws w o (halting_moved (same_column z q) r))
  sequence_reached z d l c w v (halts_sequence_too_deep q y) = absurd (omega arith)
  sequence_reached z d l c w v (halts_mapping y q b r) = absurd (y d)
  sequence_reached z d l c w v (halts_mapping_too_deep y q b) = absurd (y d)
  sequence_reached z d l c w v (halts_properties_below y p b g r) = absurd (y.no_dash z d)
  sequence_reached z d l c w v (halts_properties_leaf y q p b g f k u r) = absurd (y.no_dash z d)
  sequence_reached z d l c w v (halts_properties_missed y q p b g) = absurd (y.no_dash z d)
  sequence_reached z d l c w v (halts_properties_apart_below y p b g) = absurd (y.no_dash z d)
  sequence_reached z d l c w v (halts_properties_apart y q p b g) = absurd (y.no_dash z d)
  sequence_reached z d l c w v (halts_leaf y q p r) = absurd (y.no_dash z d)

module _ {t : List ℕ} (u : IsUtf8 t) where
  -- a mapping begins, so it is refuted that none does
  no_leaf : {e h m p j : ℕ} {n : ℤ} {cols : Columns} → cols.mapping ≡ Some m → FirstEntry t h p j → Clear t p j → h ≤ e → NoSign t cols p → NoKeyAt t e n cols p → ⊥
  no_leaf z (question_first s) c l y k = y.no_question z s
  no_leaf z (colon_first s) c l y k = y.no_colon z s
  no_leaf z (key_first d s a b) c l y (no_column e) = no_column_none z e
  no_leaf z (key_first d s a b) c l y (unfit_node r n) = not_unfit u (key_is u d s (clear_front b c) (omega arith) r) n

  no_line : {h m p j g k : ℕ} {cols : Columns} {v : PropertiesValue} {ds : List CommentValue} → cols.mapping ≡ Some m → FirstEntry t h p j → NoSign t cols p
      → Chosen (Properties t (pos 0) FlowKey p) g v → LineEnd t g k ds → ⊥
  no_line z (question_first s) y q d = y.no_question z s
  no_line z (colon_first s) y q d = y.no_colon z s
  no_line z (key_first d s a b) y q e = key_no_line u d s q e

  pub mapping_exact : {e h m p j : ℕ} {k : Bool} {n : ℤ} {c : Ctx} {cols : Columns} {a : Ahead} {x : Meaning} {o : Option ParsedNode} → cols.mapping ≡ Some m → (DashAt t p → ⊥) → FirstEntry t h p j
      → suc h ≤ e → Clear t p j → FollowItems t k false m j → EntriesExact t k h false m p j x → Whole t e (Inline n c cols a p) o
      → IsFound o j (suc h) (headed a (collection false false p x.finish x))
  mapping_exact z d f l c w v (sequence_read q y r) = absurd (d y)
  mapping_exact z d f l c w v (sequence_missed q y r) = absurd (d y)
  mapping_exact z d f l c w v (sequence_too_deep q y) = absurd (d y)
  mapping_exact {p = p} {a = a} z d f l c w v (mapping_read {e = b} {n = n} {f = g} y q k r) =
      makes_exact (makes_collected a false p) (v b (omega arith) c w (First n) (Some g) (items_moved (same_column z q) r))
  mapping_exact z d f l c w v (mapping_missed {e = b} {n = n} y q k r) = never_none (v b (omega arith) c w (First n) None (items_moved (same_column z q) r))
  mapping_exact z d f l c w v (mapping_too_deep y q b) = absurd (omega arith)
  mapping_exact z d f l c w v (properties_below y p b g r) = absurd (no_line z f y p b.derived)
  mapping_exact z d f l c w v (properties_leaf y q p b g s k i r) = absurd (no_leaf z f c (omega arith) y q)
  mapping_exact z d f l c w v (properties_alone_missed y q p b g) = absurd (no_leaf z f c (omega arith) y q)
  mapping_exact z d f l c w v (properties_apart_below y p b g) = absurd (no_line z f y p b.derived)
  mapping_exact z d f l c w v (properties_apart y q p b g) = absurd (no_leaf z f c (omega arith) y q)
  mapping_exact z d f l c w v (leaf_there y q p r) = absurd (no_leaf z f c (omega arith) y q)

  pub mapping_reached : {e h m p j : ℕ} {n : ℤ} {c : Ctx} {cols : Columns} {a : Ahead} {x : Meaning} {ws : List ℕ} {o : Option ParsedNode} → cols.mapping ≡ Some m → (DashAt t p → ⊥)
      → FirstEntry t h p j → suc h ≤ e → Clear t p j → NoColonAt t j ws → EntryHaltsReach t h false m p j x → Halts t e ws (Inline n c cols a p) o
      → Longest o j (headed a (collection false false p x.finish x))
  mapping_reached z d f l c w v (halts_sequence q y r) = absurd (d y)
  mapping_reached z d f l c w v (halts_sequence_too_deep q y) = absurd (d y)
  mapping_reached {p = p} {a = a} {ws = ws} z d f l c w v (halts_mapping {e = b} {n = n} {o = o} y q k r) =
      makes_longest (makes_collected a false p) (v b (omega arith) c (First n) ws w o (halting_moved (same_column z q) r))
  mapping_reached z d f l c w v (halts_mapping_too_deep y q b) = absurd (omega arith)
  mapping_reached z d f l c w v (halts_properties_below y p b g r) = absurd (no_line z f y p b.derived)
  mapping_reached z d f l c w v (halts_properties_leaf y q p b g s k i r) = absurd (no_leaf z f c (omega arith) y q)
  mapping_reached z d f l c w v (halts_properties_missed y q p b g) = absurd (no_leaf z f c (omega arith) y q)
  mapping_reached z d f l c w v (halts_properties_apart_below y p b g) = absurd (no_line z f y p b.derived)
  mapping_reached z d f l c w v (halts_properties_apart y q p b g) = absurd (no_leaf z f c (omega arith) y q)
  mapping_reached z d f l c w v (halts_leaf y q p r) = absurd (no_leaf z f c (omega arith) y q)

  -- both kinds
  pub collection_exact : {e h m p j : ℕ} {k : Bool} {s : Bool} {n : ℤ} {c : Ctx} {cols : Columns} {a : Ahead} {x : Meaning} {o : Option ParsedNode} → AtColumn cols m s → Opens t h p j s → suc h ≤ e
      → Clear t p j → FollowItems t k s m j → EntriesExact t k h s m p j x → Whole t e (Inline n c cols a p) o → IsFound o j (suc h) (headed a (collection s false p x.finish x))
  collection_exact (sequence_column z) (opens_sequence d) l c w v r = sequence_exact z d l c w v r
  collection_exact (mapping_column z) (opens_mapping d f) l c w v r = mapping_exact z d f l c w v r

  pub collection_reached : {e h m p j : ℕ} {s : Bool} {n : ℤ} {c : Ctx} {cols : Columns} {a : Ahead} {x : Meaning} {ws : List ℕ} {o : Option ParsedNode} → AtColumn cols m s → Opens t h p j s
      → suc h ≤ e → Clear t p j → NoColonAt t j ws → EntryHaltsReach t h s m p j x → Halts t e ws (Inline n c cols a p) o
      → Longest o j (headed a (collection s false p x.finish x))
  collection_reached (sequence_column z) (opens_sequence d) l c w v r = sequence_reached z d l c w v r
  collection_reached (mapping_column z) (opens_mapping d f) l c w v r = mapping_reached z d f l c w v r
