-- The first character of a node, and the derivation of the node as a block node there: after a sign, after a `:` and a
-- space, or on the next line.
use Rattle.std.proofs.Common.{◌≡◌, ℕ, suc, ◌+◌, ◌-◌, ◌<◌, ◌≤◌, ℤ, pos, Bool, true, false, List, [], ◌++◌, refl, sym, ap, ◌∙◌, subst, arith, true≢false, append_assoc, append-nil}
use Rattle.std.specs.Prelude.{◌+ℤ◌, ◌≤ℤ◌}
use Rattle.yf_chars.specs.declared.context.Ctx.{Ctx}
use Rattle.yf_chars.specs.declared.context.Ctx.TheVariants.{FlowOut}
use Rattle.yf_chars.specs.Chain.Chain.{done}
use Rattle.yf_lines.specs.Basic.{is_block, Spaces, LineStart, SeparateInLine, FlowPrefix}
use Rattle.yf_lines.specs.Basic.SeparateInLine.{by_whites}
use Rattle.yf_lines.proofs.FoldLemmas.{prefix_found}
use Rattle.yf_comments.specs.Comment.{CommentValue}
use Rattle.yf_comments.specs.Comments.{LineEnd, SeparateLines}
use Rattle.yf_comments.specs.Comments.Separate.{in_node}
use Rattle.yf_comments.specs.Comments.SeparateLines.{in_line, over_lines}
use Rattle.yf_comments.proofs.GapLinesLemmas.{spaces_whites}
use Rattle.yf_props.specs.Names.{Properties}
use Rattle.yf_props.specs.Props.{PropsValue}
use Rattle.yf_props.specs.Written.{tag_offset_at, props_at}
use Rattle.yf_grammar.specs.Productions.Grammar.{Derives, FlowNode, BlockNode, BlockIndented, BlockEntries, least_column}
use Rattle.yf_grammar.specs.Productions.Grammar.Derives.{a_block_collection, a_block_collection_with, flow_in_block, a_compact_collection, an_indented_node}
use Rattle.yf_grammar.specs.Productions.Meaning.{Meaning, meaning_after, noting, collection, with_props}
use Rattle.yf_grammar.proofs.FlowReader.ParserLemmas.{after_nothing}
use Rattle.yf_grammar.proofs.BlockOutcomes.BlockGaps.{block_no_key}

-- A node's text begins at i and its last line ends before j: after any separation it is a block node at n, or (if the
-- flag says that nothing is before its entries) the entries of a collection at the column m.
pub data NodeAt (t : List ℕ) (n : ℤ) (c : Ctx) (m : ℕ) (beside : Bool) (h i j : ℕ) (x : Meaning) : Type 0 where
  apart_at : beside ≡ true → ((k : ℕ) (cs : List CommentValue) → SeparateLines t (n +ℤ pos 1) k i cs → Derives t h (BlockNode n c) k j (meaning_after cs x))
      → NodeAt t n c m beside h i j x
  entries_at : {g : ℕ} {sequence : Bool} {y : Meaning} → beside ≡ false → h ≡ suc g → x ≡ collection sequence false i y.finish y
      → least_column sequence n c ≤ℤ pos m → Derives t g (BlockEntries sequence m) i j y → NodeAt t n c m beside h i j x

-- Nodes at their first character.

pub leaf_at : {t : List ℕ} {n : ℤ} {c : Ctx} {h i l j : ℕ} {x : Meaning} {ds : List CommentValue} (m : ℕ) → is_block c ≡ true
    → Derives t h (FlowNode (n +ℤ pos 1) FlowOut) i l x → LineEnd t l j ds → NodeAt t n c m true h i j (noting x ds)
leaf_at m b d e = apart_at refl (λ k cs s. flow_in_block b (in_node refl s) d e)

pub both_after : (cs ds : List CommentValue) (x : Meaning) → meaning_after (cs ++ [] ++ ds) x ≡ meaning_after cs (meaning_after ds x)
unfolding meaning_after
both_after cs ds x = ap (λ z. record x { comments = z }) (ap (λ z. (z ++ ds) ++ x.comments) (append-nil cs) ∙ append_assoc cs ds x.comments)

pub propertied_at : {t : List ℕ} {n : ℤ} {c : Ctx} {h i g k m j : ℕ} {sequence : Bool} {p : PropsValue} {ds : List CommentValue} {x : Meaning} → is_block c ≡ true
    → Properties t (n +ℤ pos 1) c i g (props_at i p) → LineEnd t g k ds → Spaces t k m → least_column sequence n c ≤ℤ pos m → Derives t h (BlockEntries sequence m) (k + m) j x
    → NodeAt t n c m true (suc h) i j (meaning_after ds (with_props p (tag_offset_at i p.anchor p.tag) i g (collection sequence false (k + m) x.finish x)))
propertied_at {t} {n} {c} {h} {i} {g} {k} {m} {j} {sequence} {p} {ds} {x} b props e s l d = apart_at refl (λ q cs sep.
    subst (λ z. Derives t (suc h) (BlockNode n c) q j z) (both_after cs ds (with_props p (tag_offset_at i p.anchor p.tag) i g (collection sequence false (k + m) x.finish x)))
    (a_block_collection_with b (in_node (block_no_key c b) sep) props e s l d))

-- Offsets of nodes.

-- an indentation of that many columns, and spaces after it, are a prefix
prefix_of : {t : List ℕ} {k q : ℕ} (a : ℕ) → LineStart t k → a ≤ q → Spaces t k q → FlowPrefix t (pos a) k (k + q)
prefix_of {t} {k} {q} a l le s =
    let same : q ≡ k + q - k = omega arith in
    prefix_found (subst (λ z. Spaces t k z) same s) (omega arith) (omega arith) ([], done)

-- after a sign and that many spaces
pub after_sign_at : {t : List ℕ} {c : Ctx} {a m h i p j : ℕ} {beside : Bool} {x : Meaning} (l : ℕ) → is_block c ≡ true → 0 < l → m ≡ a + 1 + l → Spaces t i l → p ≡ i + l
    → NodeAt t (pos a) c m beside h p j x → Derives t h (BlockIndented a c) i j x
after_sign_at {t} {c} {a} {m} {h} {i} {p} {j} {beside} {x} l b some same s place (apart_at e f) =
    let whites : SeparateInLine t i p = subst (λ z. SeparateInLine t i z) (sym place) (by_whites (spaces_whites l i s).1 (omega arith)) in
    an_indented_node (subst (λ z. Derives t h (BlockNode (pos a) c) i j z) (after_nothing x) (f i [] (in_line whites)))
after_sign_at {t} {c} {a} {m} {h} {i} {p} {j} {beside} {x} l b some same s place (entries_at {g = g} {sequence = sequence} {y = y} e height mean least d) =
    let made : Derives t (suc g) (BlockIndented a c) i j (collection sequence false (i + l) y.finish y) =
    a_compact_collection b s (subst (λ z. Derives t g (BlockEntries sequence z) (i + l) j y) same (subst (λ z. Derives t g (BlockEntries sequence m) z j y) place d)) in
    subst (λ z. Derives t z (BlockIndented a c) i j x) (sym height)
    (subst (λ z. Derives t (suc g) (BlockIndented a c) i j z) (ap (λ z. collection sequence false z y.finish y) (sym place) ∙ sym mean) made)

-- after a `:` and a space
pub beside_at : {t : List ℕ} {n : ℤ} {c : Ctx} {m h i j : ℕ} {beside : Bool} {x : Meaning} → beside ≡ true → SeparateInLine t i (i + 1)
    → NodeAt t n c m beside h (i + 1) j x → Derives t h (BlockNode n c) i j x
beside_at {t} {n} {c} {m} {h} {i} {j} {beside} {x} e s (apart_at f g) = subst (λ z. Derives t h (BlockNode n c) i j z) (after_nothing x) (g i [] (in_line s))
beside_at e s (entries_at f height mean least d) = absurd (true≢false (sym e ∙ f))

-- below, at a column
pub below_at : {t : List ℕ} {n : ℤ} {c : Ctx} {m h i k j column : ℕ} {beside : Bool} {cs : List CommentValue} {x : Meaning} (a : ℕ) → n +ℤ pos 1 ≡ pos a → is_block c ≡ true
    → (beside ≡ true → a ≤ column) → (beside ≡ false → column ≡ m) → LineEnd t i k cs → LineStart t k → Spaces t k column
    → NodeAt t n c m beside h (k + column) j x → Derives t h (BlockNode n c) i j (meaning_after cs x)
below_at {t} {n} {c} {m} {h} {i} {k} {j} {column} {beside} {cs} {x} a same b deep at end start s (apart_at e f) =
    f i cs (over_lines end (subst (λ z. FlowPrefix t z k (k + column)) (sym same) (prefix_of a start (deep e) s)))
below_at {t} {n} {c} {m} {h} {i} {k} {j} {column} {beside} {cs} {x} a same b deep at end start s (entries_at {g = g} {sequence = sequence} {y = y} e height mean least d) =
    let there : column ≡ m = at e in
    let made : Derives t (suc g) (BlockNode n c) i j (meaning_after cs (collection sequence false (k + m) y.finish y)) =
    a_block_collection b end (subst (λ z. Spaces t k z) there s) least (subst (λ z. Derives t g (BlockEntries sequence m) (k + z) j y) there d) in
    subst (λ z. Derives t z (BlockNode n c) i j (meaning_after cs x)) (sym height)
    (subst (λ z. Derives t (suc g) (BlockNode n c) i j (meaning_after cs z)) (ap (λ z. collection sequence false (k + z) y.finish y) (sym there) ∙ sym mean) made)
