-- The value after a `:`, if the reader's outcome for its node is known.
use Rattle.std.proofs.Common.{◌≡◌, ℕ, ℤ, ◌+◌, Bool, true, false, List, Option, Some, None, refl, ap, ◌∙◌, subst}
use Rattle.yf_chars.specs.declared.context.Ctx.{Ctx}
use Rattle.yf_chars.specs.Chain.{Stuck}
use Rattle.yf_comments.specs.Comment.{CommentValue}
use Rattle.yf_comments.specs.Comments.{Separate}
use Rattle.yf_grammar.specs.Productions.Meaning.{Meaning, meaning_after, empty_node}
use Rattle.yf_grammar.specs.Productions.Grammar.{MaySeparate}
use Rattle.yf_grammar.specs.Productions.Grammar.MaySeparate.{unseparated, separated}
use Rattle.yf_grammar.specs.FlowReader.Parser.{ParsedNode, found, ANode, AValue, Parses}
use Rattle.yf_grammar.specs.FlowReader.Parser.Parses.{value_read, value_empty, value_adjacent, value_adjacent_empty, value_missing}
use Rattle.yf_grammar.proofs.Ends.GapLemmas.{Visible, separate_is}
use Rattle.yf_grammar.proofs.Ends.NodeExits.{none_found}

pub after_found : (cs : List CommentValue) (f : ParsedNode) (j h : ℕ) (b : Bool) (x : Meaning) → Some f ≡ found j h b x
    → Some (record f { meaning = meaning_after cs f.meaning }) ≡ found j h b (meaning_after cs x)
unfolding found
after_found cs f j h b x e = cc

module _ {t : List ℕ} {n : ℤ} {c : Ctx} where
  -- a value after a separation
  pub value_exact : {e i k : ℕ} {json : Bool} {cs : List CommentValue} {o : Option ParsedNode} (j h : ℕ) (x : Meaning) → Separate t n c (i + 1) k cs → Visible t k
      → ((r : Option ParsedNode) → Parses t e (ANode n c k) r → (b : Bool) × (r ≡ found j h b x)) → Parses t e (AValue json n c i) o
      → (b : Bool) × (o ≡ found j h b (meaning_after cs x))
  value_exact {e = e} {cs = cs} j h x s v g (value_read {cs = ds} {f = f} d r) =
      let same = separate_is v (separated s) d in
      let a = g (Some f) (subst (λ w. Parses t e (ANode n c w) (Some f)) same.0 r) in
      (a.0, ap (λ w. Some (record f { meaning = meaning_after w f.meaning })) same.1 ∙ after_found cs f j h a.0 x a.1)
  value_exact {e = e} j h x s v g (value_empty ds d r) =
      let same = separate_is v (separated s) d in
      let a = g None (subst (λ w. Parses t e (ANode n c w) None) same.0 r) in
      absurd (none_found j h a.0 x a.1)
  value_exact {k = k} {cs = cs} j h x s v g (value_adjacent d r) = absurd (d.none k cs s)
  value_exact {k = k} {cs = cs} j h x s v g (value_adjacent_empty d r) = absurd (d.none k cs s)
  value_exact {k = k} {cs = cs} j h x s v g (value_missing d) = absurd (d.none k cs s)

  -- a value beside the `:`
  pub adjacent_exact : {e i : ℕ} {o : Option ParsedNode} (j h : ℕ) (x : Meaning) → Stuck (Separate t n c (i + 1))
      → ((r : Option ParsedNode) → Parses t e (ANode n c (i + 1)) r → (b : Bool) × (r ≡ found j h b x)) → Parses t e (AValue true n c i) o
      → (b : Bool) × (o ≡ found j h b x)
  adjacent_exact j h x s g (value_read {k = k} {cs = cs} d r) = absurd (s.none k cs d.derived)
  adjacent_exact j h x s g (value_empty {k = k} cs d r) = absurd (s.none k cs d.derived)
  adjacent_exact j h x s g (value_adjacent {f = f} d r) = g (Some f) r
  adjacent_exact j h x s g (value_adjacent_empty d r) = let a = g None r in absurd (none_found j h a.0 x a.1)

  -- an empty value, if no node begins after the longest separation
  pub empty_exact : {e i l : ℕ} {json : Bool} {cs : List CommentValue} {o : Option ParsedNode} → MaySeparate t n c (i + 1) l cs → Visible t l
      → ((f : ParsedNode) → Parses t e (ANode n c l) (Some f) → ⊥) → Parses t e (AValue json n c i) o → o ≡ found (i + 1) 0 false (empty_node (i + 1))
  empty_exact {e = e} m v g (value_read {f = f} d r) =
      let same = separate_is v m d in absurd (g f (subst (λ w. Parses t e (ANode n c w) (Some f)) same.0 r))
  empty_exact m v g (value_empty ds d r) = refl
  empty_exact {e = e} {i = i} {cs = cs} m v g (value_adjacent {f = f} d r) = absurd (no_gap m g d f r) where
    no_gap : {p l : ℕ} {cs : List CommentValue} → MaySeparate t n c p l cs → ((f : ParsedNode) → Parses t e (ANode n c l) (Some f) → ⊥)
        → Stuck (Separate t n c p) → (f : ParsedNode) → Parses t e (ANode n c p) (Some f) → ⊥
    no_gap unseparated g d f r = g f r
    no_gap (separated {j = l} {cs = cs} s) g d f r = d.none l cs s
  empty_exact m v g (value_adjacent_empty d r) = refl
  empty_exact m v g (value_missing d) = refl
