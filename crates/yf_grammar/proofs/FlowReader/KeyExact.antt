-- A key with or without a value in a flow mapping, and the rest of an entry after `?`, if the reader finds their parts.
use Rattle.std.proofs.Common.{◌≡◌, ◌≢◌, ℕ, ℤ, max, ◌+◌, Bool, true, false, ◌||◌, ◌==◌, List, Option, Some, None, refl, sym, ap, ◌∙◌, subst, true≢false}
use Rattle.yf_chars.specs.declared.context.Ctx.{Ctx}
use Rattle.yf_chars.specs.Text.{code}
use Rattle.yf_comments.specs.Comment.{CommentValue}
use Rattle.yf_grammar.specs.Productions.Meaning.{Meaning, ◌⊕◌, noting, entering, empty_node}
use Rattle.yf_grammar.specs.Productions.Grammar.{MaySeparate}
use Rattle.yf_grammar.specs.FlowReader.Parser.{ParsedNode, found, ANode, AValue, AnImplicit, AnExplicit, ColonAt, Parses, Gap, paired}
use Rattle.yf_grammar.specs.FlowReader.Parser.Parses.{lone_value, key_missed, key_with_value, key_without_value, explicit_nothing, explicit_something}
use Rattle.yf_grammar.proofs.Ends.GapLemmas.{Visible, gap_is}
use Rattle.yf_grammar.proofs.Ends.NodeExits.{none_found, some_found}
use Rattle.yf_grammar.proofs.FlowReader.FlowStarts.{is_end}

end_test : (c : ℕ) → is_end c ≡ ((c == 44) || (c == 93) || (c == 125))
unfolding is_end
end_test c = refl

lone_is : (f : ParsedNode) (s i j h : ℕ) (b : Bool) (x : Meaning) → Some f ≡ found j h b x
    → Some (record f { meaning = entering s (Some i) (empty_node i) ⊕ f.meaning }) ≡ found j h b (entering s (Some i) (empty_node i) ⊕ x)
unfolding found
lone_is f s i j h b x e = cc

alone_is : (f : ParsedNode) (s j h : ℕ) (b : Bool) (x : Meaning) → Some f ≡ found j h b x
    → Some (record f { meaning = entering s None f.meaning ⊕ empty_node f.meaning.finish }) ≡ found j h b (entering s None x ⊕ empty_node x.finish)
unfolding found
alone_is f s j h b x e = cc

paired_is : (f g : ParsedNode) (s k j h m : ℕ) (x y : Meaning) (cs ds : List CommentValue) → f.height ≡ h → f.meaning ≡ x → g.end ≡ j → g.height ≡ m → g.meaning ≡ y → ds ≡ cs
    → paired s k f ds g ≡ found j (max h m) false (noting (entering s (Some k) x) cs ⊕ y)
unfolding paired found
paired_is f g s k j h m x y cs ds a b c d e q = cc

module _ {t : List ℕ} {n : ℤ} {c : Ctx} where
  -- a lone value
  pub lone_exact : {e s i : ℕ} {o : Option ParsedNode} (j h : ℕ) (x : Meaning) → ColonAt t false c i
      → ((r : Option ParsedNode) → Parses t e (AValue false n c i) r → (b : Bool) × (r ≡ found j h b x)) → Parses t e (AnImplicit n c s i) o
      → (b : Bool) × (o ≡ found j h b (entering s (Some i) (empty_node i) ⊕ x))
  lone_exact {s = s} {i = i} j h x a g (lone_value {f = f} d r) = let p = g (Some f) r in (p.0, lone_is f s i j h p.0 x p.1)
  lone_exact j h x a g (key_missed d r) = absurd (d a)
  lone_exact j h x a g (key_with_value d r q b v) = absurd (d a)
  lone_exact j h x a g (key_without_value cs d r q b) = absurd (d a)

  -- a key without a `:` after it
  pub key_alone_exact : {e s i l : ℕ} {cs : List CommentValue} {o : Option ParsedNode} (j h : ℕ) (json : Bool) (x : Meaning) → (ColonAt t false c i → ⊥)
      → MaySeparate t n c j l cs → Visible t l → code t l ≢ 58
      → ((r : Option ParsedNode) → Parses t e (ANode n c i) r → r ≡ found j h json x) → Parses t e (AnImplicit n c s i) o
      → (b : Bool) × (o ≡ found j h b (entering s None x ⊕ empty_node x.finish))
  key_alone_exact j h json x a m v d g (lone_value b r) = absurd (a b)
  key_alone_exact j h json x a m v d g (key_missed b r) = absurd (none_found j h json x (g None r))
  key_alone_exact j h json x a m v d g (key_with_value {k = k} {cs = ds} {f = f} b r q z w) =
      let e = some_found j h json x (g (Some f) r) in
      let same = gap_is v m (subst (λ (p : ℕ). Gap t n c p k ds) (ap (λ (p : ParsedNode). p.end) e) q) in
      absurd (d (ap (code t) (sym same.0) ∙ z.colon))
  key_alone_exact {s = s} j h json x a m v d g (key_without_value cs {f = f} b r q z) = (json, alone_is f s j h json x (g (Some f) r))

  -- a key with its value
  pub key_value_exact : {e s i l k : ℕ} {cs : List CommentValue} {o : Option ParsedNode} (j h g : ℕ) (json : Bool) (x y : Meaning) → (ColonAt t false c i → ⊥)
      → MaySeparate t n c l k cs → Visible t k → ColonAt t json c k
      → ((r : Option ParsedNode) → Parses t e (ANode n c i) r → r ≡ found l h json x)
      → ((r : Option ParsedNode) → Parses t e (AValue json n c k) r → (b : Bool) × (r ≡ found j g b y)) → Parses t e (AnImplicit n c s i) o
      → o ≡ found j (max h g) false (noting (entering s (Some k) x) cs ⊕ y)
  key_value_exact j h g json x y a m v q f z (lone_value b r) = absurd (a b)
  key_value_exact {l = l} j h g json x y a m v q f z (key_missed b r) = absurd (none_found l h json x (f None r))
  key_value_exact {e = e} {s = s} {l = l} {k = k} {cs = cs} j h g json x y a m v q f z (key_with_value {k = p} {cs = ds} {f = first} {g = second} b r d w t') =
      let e1 = some_found l h json x (f (Some first) r) in
      let same = gap_is v m (subst (λ (h : ℕ). Gap t n c h p ds) (ap (λ (h : ParsedNode). h.end) e1) d) in
      let v1 : Parses t e (AValue json n c p) (Some second) = subst (λ h. Parses t e (AValue h n c p) (Some second)) (ap (λ (h : ParsedNode). h.json) e1) t' in
      let v2 : Parses t e (AValue json n c k) (Some second) = subst (λ h. Parses t e (AValue json n c h) (Some second)) same.0 v1 in
      let value = z (Some second) v2 in
      let e2 = some_found j g value.0 y value.1 in
      ap (λ h. paired s h first ds second) same.0
      ∙ paired_is first second s k j h g x y cs ds (ap (λ (h : ParsedNode). h.height) e1) (ap (λ (h : ParsedNode). h.meaning) e1) (ap (λ (h : ParsedNode). h.end) e2)
      (ap (λ (h : ParsedNode). h.height) e2) (ap (λ (h : ParsedNode). h.meaning) e2) same.1
  key_value_exact {l = l} {k = k} j h g json x y a m v q f z (key_without_value {k = p} ds {f = first} b r d w) =
      let e1 = some_found l h json x (f (Some first) r) in
      let same = gap_is v m (subst (λ (h : ℕ). Gap t n c h p ds) (ap (λ (h : ParsedNode). h.end) e1) d) in
      let c1 : ColonAt t first.json c k = subst (λ h. ColonAt t h c k) (sym (ap (λ (h : ParsedNode). h.json) e1)) q in
      absurd (w (subst (λ h. ColonAt t first.json c h) (sym same.0) c1))

  -- after `?`: nothing before the end of an entry, otherwise a key or value
  pub nothing_exact : {e s i : ℕ} {o : Option ParsedNode} → is_end (code t i) ≡ true → Parses t e (AnExplicit n c s i) o
      → o ≡ found i 0 false (entering s None (empty_node (s + 1)) ⊕ empty_node (s + 1))
  nothing_exact q (explicit_nothing b) = refl
  nothing_exact {i = i} q (explicit_something b r) = absurd (true≢false (sym q ∙ end_test (code t i) ∙ b))

  pub something_implicit : {e s i : ℕ} {o : Option ParsedNode} → is_end (code t i) ≡ false → Parses t e (AnExplicit n c s i) o → Parses t e (AnImplicit n c s i) o
  something_implicit {i = i} q (explicit_nothing b) = absurd (true≢false (sym b ∙ sym (end_test (code t i)) ∙ q))
  something_implicit q (explicit_something b r) = r
