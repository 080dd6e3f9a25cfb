-- Steps of rows with what they carry, and steps of one row.
use Rattle.std.proofs.Common.{◌≡◌, ℕ, suc, List, [], ◌∷◌, ◌++◌, length, refl, sym, ap, ◌∙◌, subst, arith, append_assoc, append-nil}
use Rattle.std.proofs.lemmas.List.{map-append}
use Rattle.yf_comments.specs.Comment.{CommentValue}
use Rattle.yf_comments.proofs.GapLinesLemmas.{texts}
use Rattle.yf_events.proofs.TreeLemmas.{node_unique}
use Rattle.yf_events.specs.declared.event.Span.{Span}
use Rattle.yf_events.specs.Tree.{Node, flat, leaves}
use Rattle.yf_grammar.specs.Productions.Meaning.{Meaning, noting}
use Rattle.yf_grammar.specs.Productions.TreesOfMeaning.{MeansTrees}
use Rattle.yf_grammar.proofs.Documents.CommentOrder.{Ascend}
use Rattle.yf_grammar.proofs.NodesInText.PlacedNodes.{NodeAt}
use Rattle.yf_laws.specs.Layouts.RowComments.{carried_texts}
use Rattle.yf_laws.specs.Layouts.Decorated.{Deco, first, after, past}
use Rattle.yf_print.specs.Layouts.Rows.{Row}
use Rattle.yf_laws.proofs.Derived.LayoutSteps.{Step, a_leaf, leaf_steps, comment_steps, steps_in}
use Rattle.yf_laws.proofs.SecondRun.AlikeLemmas.{same_leaves}
use Rattle.yf_laws.proofs.Derived.StepsInText.{MeaningLaid, laid_node, laid_noting}

-- Rows in sequence.

pub steps_append : (xs ys : List Row) (ds : List Deco) → steps_in (xs ++ ys) ds ≡ steps_in xs ds ++ steps_in ys (past xs ds)
steps_append [] ys ds = refl
steps_append (x ∷ xs) ys ds =
    let carried : List Step = comment_steps (carried_texts (first ds)) in
    ap (λ w. leaf_steps x.leaves ++ (carried ++ w)) (steps_append xs ys (after ds))
    ∙ (ap (λ w. leaf_steps x.leaves ++ w) (sym (append_assoc carried (steps_in xs (after ds)) (steps_in ys (past xs (after ds)))))
    ∙ sym (append_assoc (leaf_steps x.leaves) (carried ++ steps_in xs (after ds)) (steps_in ys (past xs (after ds)))))

-- leaves of two nodes on a row
pub leaves_apart : (xs ys : List Span) (r : List Step) → leaf_steps (xs ++ ys) ++ r ≡ leaf_steps xs ++ (leaf_steps ys ++ r)
leaves_apart xs ys r = ap (λ w. w ++ r) (map-append (λ (s : Span). a_leaf) xs ys) ∙ append_assoc (leaf_steps xs) (leaf_steps ys) r

-- One row.

pub laid_row : {t : List ℕ} {i k j : ℕ} (m : Meaning) (cs : List CommentValue) (ls : List Span) {xs : List (List ℕ)} → MeaningLaid i k m (leaf_steps ls) → Ascend t k cs j → texts cs ≡ xs
    → MeaningLaid i j (noting m cs) (leaf_steps ls ++ (comment_steps xs ++ []))
laid_row {i = i} {j = j} m cs ls {xs = xs} a c e =
    subst (λ w. MeaningLaid i j (noting m cs) (leaf_steps ls ++ w)) (sym (append-nil (comment_steps xs))) (laid_noting m cs a c e)

as_many : (xs ys : List Span) → length xs ≡ length ys → leaf_steps xs ≡ leaf_steps ys
as_many [] [] e = refl
as_many [] (y ∷ ys) e = absurd cc
as_many (x ∷ xs) [] e = absurd cc
as_many (x ∷ xs) (y ∷ ys) e = ap (λ w. a_leaf ∷ w) (as_many xs ys (same_tail e)) where
  same_tail : {a b : ℕ} → suc a ≡ suc b → a ≡ b
  same_tail e = omega (arith, e)

-- a node on one line, between two offsets
pub laid_line : {t : List ℕ} {i j : ℕ} {x : Node} {m : Meaning} (ls : List Span) → NodeAt t i j m → MeansTrees x m → m.comments ≡ [] → length ls ≡ length (leaves x) → MeaningLaid i j m (leaf_steps ls)
laid_line {i = i} {j = j} {m = m} ls a b silent count =
    let node : b.node ≡ a.node = (node_unique b.node a.node [] [] (append-nil (flat b.node) ∙ (sym b.events ∙ (a.events ∙ sym (append-nil (flat a.node)))))).0 in
    subst (λ w. MeaningLaid i j m w) (as_many (leaves a.node) ls (sym (count ∙ (same_leaves b.alike ∙ ap (λ w. length (leaves w)) node)))) (laid_node a silent)
