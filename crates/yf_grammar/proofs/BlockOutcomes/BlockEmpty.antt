-- Nothing after the `Ahead`: an empty node, or only properties.
use Rattle.std.proofs.Common.{◌≡◌, ℕ, ◌<◌, ◌≤◌, ℤ, Bool, false, inl, inr, ⊎_elim, List, Option, Some, refl, sym, ap, ◌∙◌, subst, arith}
use Rattle.std.proofs.lemmas.Bool.{cases_lt}
use Rattle.yf_chars.specs.declared.context.Ctx.{Ctx}
use Rattle.yf_lines.specs.Basic.{LineStart}
use Rattle.yf_comments.specs.Comment.{CommentValue}
use Rattle.yf_comments.specs.Comments.{LineEnd}
use Rattle.yf_comments.proofs.LineEndLemmas.{line_end_chosen}
use Rattle.yf_grammar.specs.Productions.Meaning.{Meaning, meaning_after, noting, empty_node}
use Rattle.yf_grammar.specs.FlowReader.Parser.{ParsedNode}
use Rattle.yf_grammar.specs.BlockReader.BlockParser.{LineText, Begins, line_indented, line_first, line_dashed, Ahead, Nothing, Indicator, Props, alone, outcome_after, Awaited, Below, Whole}
use Rattle.yf_grammar.specs.BlockReader.BlockParser.Whole.{below_alone, below_node, below_missed}
use Rattle.yf_grammar.specs.BlockReader.Halts.{NoColonAt, Alone, alone_to, alone_nowhere, MayEnd, Halts}
use Rattle.yf_grammar.specs.BlockReader.Halts.Halts.{halts_alone, halts_node, halts_before_node, halts_unended}
use Rattle.yf_grammar.proofs.Ends.Ways.{chosen_one}
use Rattle.yf_grammar.proofs.FlowReader.Longest.{Longest}
use Rattle.yf_grammar.proofs.BlockOutcomes.BlockClaims.{IsFound, Follow}
use Rattle.yf_grammar.proofs.BlockOutcomes.BlockGaps.{awaited_ends}
use Rattle.yf_grammar.proofs.BlockContent.HaltGaps.{halts_awaited_ends}
use Rattle.yf_grammar.proofs.BlockOutcomes.HaltsLater.{halts_later, line_order}
use Rattle.yf_grammar.proofs.BlockOutcomes.BlockItems.{longest_of}
use Rattle.yf_grammar.proofs.BlockOutcomes.BlockNodes.{line_end_moves}
use Rattle.yf_grammar.proofs.BlockOutcomes.OutcomeEnds.{alone_indicator}
use Rattle.yf_grammar.proofs.FlowStack.AwaitEntries.{found_is}

-- a task with only its `Ahead` may end at each end of a line, and means y
pub record MayBeAlone (a : Ahead) (y : List CommentValue → Meaning) : Type 0 where
  pub answer : ℕ → List CommentValue → ParsedNode
  pub is : (k : ℕ) (ds : List CommentValue) → alone a k ds ≡ Some (answer k ds)
  pub ends : (k : ℕ) (ds : List CommentValue) → (answer k ds).end ≡ k
  pub means : (k : ℕ) (ds : List CommentValue) → (answer k ds).meaning ≡ y ds

pub indicator_alone : (i : ℕ) → MayBeAlone (Indicator i) (λ ds. noting (empty_node i) ds)
indicator_alone i = record {
  answer = λ k ds. record { end = k; height = 0; json = false; meaning = noting (empty_node i) ds };
  is = λ k ds. alone_indicator i k ds ∙ found_is k 0 false (noting (empty_node i) ds);
  ends = λ k ds. refl;
  means = λ k ds. refl;
}

told_further : (a : Ahead) (ds : List CommentValue) (f : ParsedNode) {j : ℕ} {x : Meaning} → j < f.end → Longest (outcome_after a ds (Some f)) j x
unfolding outcome_after
told_further Nothing ds f l = longest_of (record f { meaning = meaning_after ds f.meaning }) refl (inl l)
told_further (Indicator i) ds f l = longest_of (record f { meaning = meaning_after ds f.meaning }) refl (inl l)
told_further (Props h) ds f l = longest_of f refl (inl l)

module _ {t : List ℕ} where
  nothing_begins : {v : Bool} {n : ℤ} {c : Ctx} {i k m p : ℕ} {x : List CommentValue} → (LineStart t i → ⊥) → LineEnd t i k x → Follow t v n c k → LineText t k m p → Begins t n c i k m p → ⊥
  nothing_begins {m = m} {p = p} s d f w (line_indented l) = f.shallow m p w l
  nothing_begins s d f w (line_first e) = line_end_moves s d w e
  nothing_begins {m = m} {p = p} s d f w (line_dashed y e l) = f.no_dash m p w y e l

  -- if nothing of a node follows, the task has only its `Ahead`
  pub alone_exact : {e i j : ℕ} {n : ℤ} {c : Ctx} {a : Ahead} {cs : List CommentValue} {o : Option ParsedNode} → (LineStart t i → ⊥) → LineEnd t i j cs → Follow t false n c j
      → Whole t e (Below n c a i) o → o ≡ alone a j cs
  alone_exact {j = j} {a = a} {cs = cs} s d f (below_alone {k = k} {ds = ds} q r) =
      let same = chosen_one (line_end_chosen d (f.still refl)) q in ap (λ w. alone a w ds) same.0 ∙ ap (λ w. alone a j w) same.1
  alone_exact {i = i} {n = n} {c = c} s d f (below_node {k = k} {m = m} {p = p} q w b g r) =
      let same = chosen_one (line_end_chosen d (f.still refl)) q in
      absurd (nothing_begins s d f (subst (λ v. LineText t v m p) same.0 w) (subst (λ v. Begins t n c i v m p) same.0 b))
  alone_exact {j = j} {cs = cs} s d f (below_missed q) = absurd (q.none j cs d)

  alone_halts : {i j : ℕ} {a : Ahead} {y : List CommentValue → Meaning} {cs : List CommentValue} {ws : List ℕ} {o : Option ParsedNode} → MayBeAlone a y → LineEnd t i j cs → NoColonAt t j ws
      → Alone t ws a i o → Longest o j (y cs)
  alone_halts {i} {j} {a} {y} {cs} {ws} z d w (alone_to {k = k} {ds = ds} q) =
      let l = q.longest j cs (record { line = d; allowed = w }) in
      longest_of (z.answer k ds) (z.is k ds) (⊎_elim
      (λ (v : j < k). let b = z.ends k ds in inl (omega arith))
      (λ (v : k ≤ j).
      let e : j ≡ k = omega arith in
      let b = q.only cs (subst (λ v. MayEnd t ws i v cs) e (record { line = d; allowed = w })) in
      inr (e ∙ sym (z.ends k ds), ap y b ∙ sym (z.means k ds)))
      (cases_lt j k))
  alone_halts {j = j} {cs = cs} z d w (alone_nowhere q) = absurd (q.none j cs (record { line = d; allowed = w }))

  pub alone_reached : {e i j : ℕ} {n : ℤ} {c : Ctx} {a : Ahead} {y : List CommentValue → Meaning} {cs : List CommentValue} {ws : List ℕ} {o : Option ParsedNode} → MayBeAlone a y
      → LineEnd t i j cs → NoColonAt t j ws → Halts t e ws (Below n c a i) o → Longest o j (y cs)
  alone_reached z d w (halts_alone q r v) = alone_halts z d w v
  alone_reached {j = j} {a = a} {cs = cs} z d w (halts_node {k = k} {p = p} {ds = ds} {f = f} q v b g r) =
      let l : j ≤ k = q.longest j cs d in
      let x : k ≤ p = line_order v in
      let u : p < f.end = halts_later r refl in
      told_further a ds f (omega arith)
  alone_reached z d w (halts_before_node q v b g r x) = alone_halts z d w x
  alone_reached {j = j} {cs = cs} z d w (halts_unended q) = absurd (q.none j cs d)

  -- an empty node after an indicator
  pub empty_exact : {e i j k : ℕ} {b : Bool} {n : ℤ} {c : Ctx} {cs : List CommentValue} {o : Option ParsedNode} → (LineStart t i → ⊥) → LineEnd t i j cs → Follow t false n c j
      → Whole t e (Awaited b n c (Indicator k) i) o → IsFound o j 0 (noting (empty_node k) cs)
  empty_exact {j = j} {k = k} {cs = cs} s d f r = record { is = alone_exact s d f (awaited_ends d r) ∙ alone_indicator k j cs }

  pub empty_reached : {e i j k : ℕ} {b : Bool} {n : ℤ} {c : Ctx} {cs : List CommentValue} {ws : List ℕ} {o : Option ParsedNode} → LineEnd t i j cs → NoColonAt t j ws
      → Halts t e ws (Awaited b n c (Indicator k) i) o → Longest o j (noting (empty_node k) cs)
  empty_reached {k = k} d w r = alone_reached (indicator_alone k) d w (halts_awaited_ends d r)
