-- The steps from an awaited block node to its line: a later line, held properties, a leaf, or the entries of a
-- collection, and from those to further entries.
use Rattle.std.proofs.Common.{◌≡◌, ℕ, suc, ◌<◌, ℤ, pos, Bool, true, false, List, Option, Some, None, refl, subst}
use Rattle.yf_chars.specs.declared.context.Ctx.{Ctx}
use Rattle.yf_chars.specs.declared.context.Ctx.TheVariants.{FlowKey}
use Rattle.yf_chars.specs.Text.{code}
use Rattle.yf_chars.specs.Class.{is_white}
use Rattle.yf_chars.specs.Chain.{Stuck, Chosen, Many}
use Rattle.yf_comments.specs.Comment.{CommentValue}
use Rattle.yf_comments.specs.Comments.{LineEnd}
use Rattle.yf_props.specs.Names.{Properties, PropertiesValue}
use Rattle.yf_grammar.specs.Productions.Meaning.{Meaning}
use Rattle.yf_grammar.specs.BlockReader.BlockParser.{DashAt, LineText, Columns, Compact, LineColumns, Begins, Ahead, Nothing, Indicator, Props, past, outcome_after, Joins, Origin, Later, First, MappingAt, NoSign, NoKeyAt, Awaited, Below, Inline, Leaf, Items, collected, Whole}
use Rattle.yf_grammar.specs.BlockReader.BlockParser.Whole.{awaited_below, awaited_inline, below_node, sequence_read, sequence_missed, mapping_read, mapping_missed, properties_below, properties_leaf, leaf_there}
use Rattle.yf_grammar.specs.BlockReader.Halts.{Alone, then_found, Halts}
use Rattle.yf_grammar.specs.BlockReader.Halts.Halts.{halts_below, halts_inline, halts_node, halts_before_node, halts_sequence, halts_mapping, halts_properties_below, halts_properties_leaf, halts_leaf}
use Rattle.yf_grammar.specs.FlowReader.Parser.{ParsedNode, found}
use Rattle.yf_grammar.specs.BlockReader.BlockAwaits.{after_entries, ItemsAwaited, ItemsHalted}
use Rattle.yf_grammar.specs.BlockReader.BlockSteps.{TaskAwaited, TaskHalted, as_collection, as_outcome}

-- the node is on a later line, or on this one
pub below_awaits : {t : List ℕ} {e i k : ℕ} {b : Bool} {n : ℤ} {c : Ctx} {a : Ahead} {ds : List CommentValue} → Chosen (LineEnd t i) k ds
    → TaskAwaited t e (Below n c a i) (λ f. f) e (Awaited b n c a i)
below_awaits l = record { some = λ g w. awaited_below l w; none = λ w. awaited_below l w }

pub below_halts : {t : List ℕ} {e i k : ℕ} {ws : List ℕ} {b : Bool} {n : ℤ} {c : Ctx} {a : Ahead} {ds : List CommentValue} → Chosen (LineEnd t i) k ds
    → TaskHalted t e ws (Below n c a i) (λ f. f) None e ws (Awaited b n c a i)
below_halts l = record { some = λ g h. halts_below l h; none = λ h. halts_below l h }

pub inline_awaits : {t : List ℕ} {e i p : ℕ} {b : Bool} {n : ℤ} {c : Ctx} {a : Ahead} {cols : Columns} {w : List ℕ} → Stuck (LineEnd t i)
    → Many t is_white i p w → i < p → is_white (code t p) ≡ false → Compact t b n i p cols → TaskAwaited t e (Inline n c cols a p) (λ f. f) e (Awaited b n c a i)
inline_awaits s r l n k = record { some = λ g w. awaited_inline s r l n k w; none = λ w. awaited_inline s r l n k w }

pub inline_halts : {t : List ℕ} {e i p : ℕ} {ws : List ℕ} {b : Bool} {n : ℤ} {c : Ctx} {a : Ahead} {cols : Columns} {w : List ℕ} → Stuck (LineEnd t i)
    → Many t is_white i p w → i < p → is_white (code t p) ≡ false → Compact t b n i p cols
    → TaskHalted t e ws (Inline n c cols a p) (λ f. f) None e ws (Awaited b n c a i)
inline_halts s r l n k = record { some = λ g h. halts_inline s r l n k h; none = λ h. halts_inline s r l n k h }

told_made : (a : Ahead) (ds : List CommentValue) (f : ParsedNode) → outcome_after a ds (Some f) ≡ Some (as_outcome a ds f)
unfolding outcome_after
told_made Nothing ds f = refl
told_made (Indicator i) ds f = refl
told_made (Props h) ds f = refl

-- on a later line: if the node there has no end, the outcome may be only the `Ahead`
pub line_awaits : {t : List ℕ} {e i k m p : ℕ} {n : ℤ} {c : Ctx} {a : Ahead} {cols : Columns} {ds : List CommentValue} → Chosen (LineEnd t i) k ds
    → LineText t k m p → Begins t n c i k m p → LineColumns n c k m p cols
    → TaskAwaited t e (Inline n c cols (past a ds) p) (as_outcome a ds) e (Below n c a i)
unfolding outcome_after
line_awaits {t} {e} {i} {n = n} {c = c} {a = a} {ds = ds} l x b r =
    record { some = λ g w. subst (λ z. Whole t e (Below n c a i) z) (told_made a ds g) (below_node l x b r w); none = λ w. below_node l x b r w }

pub line_halts : {t : List ℕ} {e i k m p : ℕ} {ws : List ℕ} {n : ℤ} {c : Ctx} {a : Ahead} {cols : Columns} {ds : List CommentValue} {o : Option ParsedNode}
    → Chosen (LineEnd t i) k ds → LineText t k m p → Begins t n c i k m p → LineColumns n c k m p cols → Alone t ws a i o
    → TaskHalted t e ws (Inline n c cols (past a ds) p) (as_outcome a ds) o e ws (Below n c a i)
line_halts {t} {e} {i} {ws = ws} {n = n} {c = c} {a = a} {ds = ds} l x b r z =
    record { some = λ g h. subst (λ u. Halts t e ws (Below n c a i) u) (told_made a ds g) (halts_node l x b r h); none = λ h. halts_before_node l x b r h z }

-- properties on hold: a later line follows, or a leaf; a leaf without properties of its own
pub held_awaits : {t : List ℕ} {e p g k : ℕ} {n : ℤ} {c : Ctx} {cols : Columns} {a z : Ahead} {q : PropertiesValue} {ds : List CommentValue} → NoSign t cols p
    → Chosen (Properties t (pos 0) FlowKey p) g q → Chosen (LineEnd t g) k ds → Joins a q p g z → TaskAwaited t e (Below n c z g) (λ f. f) e (Inline n c cols a p)
held_awaits s r l j = record { some = λ g w. properties_below s r l j w; none = λ w. properties_below s r l j w }

pub held_halts : {t : List ℕ} {e p g k : ℕ} {ws : List ℕ} {n : ℤ} {c : Ctx} {cols : Columns} {a z : Ahead} {q : PropertiesValue} {ds : List CommentValue}
    → NoSign t cols p → Chosen (Properties t (pos 0) FlowKey p) g q → Chosen (LineEnd t g) k ds → Joins a q p g z
    → TaskHalted t e ws (Below n c z g) (λ f. f) None e ws (Inline n c cols a p)
held_halts s r l j = record { some = λ g h. halts_properties_below s r l j h; none = λ h. halts_properties_below s r l j h }

pub held_leaf_awaits : {t : List ℕ} {e p g k : ℕ} {n : ℤ} {c : Ctx} {cols : Columns} {a z : Ahead} {q : PropertiesValue} {w : List ℕ} → NoSign t cols p
    → NoKeyAt t e n cols p → Chosen (Properties t (pos 0) FlowKey p) g q → Stuck (LineEnd t g) → Many t is_white g k w → g < k → is_white (code t k) ≡ false
    → Joins a q p g z → TaskAwaited t e (Leaf n z k) (λ f. f) e (Inline n c cols a p)
held_leaf_awaits s u r l m b n j = record { some = λ g w. properties_leaf s u r l m b n j w; none = λ w. properties_leaf s u r l m b n j w }

pub held_leaf_halts : {t : List ℕ} {e p g k : ℕ} {ws : List ℕ} {n : ℤ} {c : Ctx} {cols : Columns} {a z : Ahead} {q : PropertiesValue} {w : List ℕ}
    → NoSign t cols p → NoKeyAt t e n cols p → Chosen (Properties t (pos 0) FlowKey p) g q → Stuck (LineEnd t g) → Many t is_white g k w → g < k
    → is_white (code t k) ≡ false → Joins a q p g z → TaskHalted t e ws (Leaf n z k) (λ f. f) None e ws (Inline n c cols a p)
held_leaf_halts s u r l m b n j = record { some = λ g h. halts_properties_leaf s u r l m b n j h; none = λ h. halts_properties_leaf s u r l m b n j h }

pub leaf_awaits : {t : List ℕ} {e p : ℕ} {n : ℤ} {c : Ctx} {cols : Columns} {a : Ahead} → NoSign t cols p → NoKeyAt t e n cols p
    → Stuck (Properties t (pos 0) FlowKey p) → TaskAwaited t e (Leaf n a p) (λ f. f) e (Inline n c cols a p)
leaf_awaits s u r = record { some = λ g w. leaf_there s u r w; none = λ w. leaf_there s u r w }

pub leaf_halts : {t : List ℕ} {e p : ℕ} {ws : List ℕ} {n : ℤ} {c : Ctx} {cols : Columns} {a : Ahead} → NoSign t cols p → NoKeyAt t e n cols p
    → Stuck (Properties t (pos 0) FlowKey p) → TaskHalted t e ws (Leaf n a p) (λ f. f) None e ws (Inline n c cols a p)
leaf_halts s u r = record { some = λ g h. halts_leaf s u r h; none = λ h. halts_leaf s u r h }

-- a collection, from its entries
pub sequence_awaits : {t : List ℕ} {e m p : ℕ} {n : ℤ} {c : Ctx} {cols : Columns} {a : Ahead} → cols.sequence ≡ Some m → DashAt t p
    → TaskAwaited t e (Items true m (First n) p) (as_collection a true p) (suc e) (Inline n c cols a p)
unfolding collected found
sequence_awaits s d = record { some = λ g w. sequence_read s d w; none = λ w. sequence_missed s d w }

pub sequence_halts : {t : List ℕ} {e m p : ℕ} {ws : List ℕ} {n : ℤ} {c : Ctx} {cols : Columns} {a : Ahead} → cols.sequence ≡ Some m → DashAt t p
    → TaskHalted t e ws (Items true m (First n) p) (as_collection a true p) None (suc e) ws (Inline n c cols a p)
unfolding then_found collected found
sequence_halts s d = record { some = λ g h. halts_sequence s d h; none = λ h. halts_sequence s d h }

pub mapping_awaits : {t : List ℕ} {e m p : ℕ} {n : ℤ} {c : Ctx} {cols : Columns} {a : Ahead} → (DashAt t p → ⊥) → cols.mapping ≡ Some m → MappingAt t (suc e) n p
    → TaskAwaited t e (Items false m (First n) p) (as_collection a false p) (suc e) (Inline n c cols a p)
unfolding collected found
mapping_awaits u s b = record { some = λ g w. mapping_read u s b w; none = λ w. mapping_missed u s b w }

pub mapping_halts : {t : List ℕ} {e m p : ℕ} {ws : List ℕ} {n : ℤ} {c : Ctx} {cols : Columns} {a : Ahead} → (DashAt t p → ⊥) → cols.mapping ≡ Some m
    → MappingAt t (suc e) n p → TaskHalted t e ws (Items false m (First n) p) (as_collection a false p) None (suc e) ws (Inline n c cols a p)
unfolding then_found collected found
mapping_halts u s b = record { some = λ g h. halts_mapping u s b h; none = λ h. halts_mapping u s b h }

-- entries after others
pub items_await : {t : List ℕ} {e m p i h : ℕ} {s : Bool} {q : Origin} {x : Meaning} → ItemsAwaited t e s m q p i h x
    → TaskAwaited t e (Items s m Later i) (after_entries h x) e (Items s m q p)
items_await a = record { some = λ g w. a.some g w; none = λ w. a.none w }

pub items_halt : {t : List ℕ} {e m p i h : ℕ} {ws : List ℕ} {s : Bool} {q : Origin} {x : Meaning} {o : Option ParsedNode} → ItemsHalted t e ws s m q p i h x o
    → TaskHalted t e ws (Items s m Later i) (after_entries h x) o e ws (Items s m q p)
items_halt a = record { some = λ g r. a.some g r; none = λ r. a.none r }
