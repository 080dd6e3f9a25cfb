-- One entry of a flow collection, if the reader finds its parts.
use Rattle.std.proofs.Common.{◌≡◌, ℕ, ℤ, suc, max, ◌+◌, ◌≤◌, Bool, true, false, List, Option, Some, None, refl, sym, ap, ◌∙◌, subst, arith}
use Rattle.yf_chars.specs.declared.context.Ctx.{Ctx}
use Rattle.yf_chars.specs.Text.{code}
use Rattle.yf_chars.specs.Chain.{Stuck}
use Rattle.yf_comments.specs.Comment.{CommentValue}
use Rattle.yf_comments.specs.Comments.{Separate}
use Rattle.yf_grammar.specs.Productions.Meaning.{Meaning, ◌⊕◌, meaning_after, noting, entering, empty_node, collection}
use Rattle.yf_grammar.specs.Productions.Grammar.{MaySeparate}
use Rattle.yf_grammar.specs.Productions.Grammar.MaySeparate.{separated}
use Rattle.yf_grammar.specs.FlowReader.Parser.{ParsedNode, found, ANode, AValue, AnImplicit, AnExplicit, AnEntry, ColonAt, PairKey, Parses, pair_entry}
use Rattle.yf_grammar.specs.FlowReader.Parser.Parses.{mapping_explicit, mapping_explicit_missed, mapping_sign_alone, mapping_implicit, pair_explicit, pair_explicit_missed, pair_explicit_too_deep, pair_of_value, pair_of_value_too_deep, item_missed, pair_of_key, pair_too_deep, item_read}
use Rattle.yf_grammar.proofs.Ends.GapLemmas.{Visible, gap_is, separate_is}
use Rattle.yf_grammar.proofs.Ends.NodeExits.{none_found, some_found}
use Rattle.yf_grammar.proofs.FlowReader.ContentExact.{EntryFound}
use Rattle.yf_grammar.proofs.FlowReader.ValueExact.{after_found}

item_is : (f : ParsedNode) (i j h : ℕ) (b : Bool) (x : Meaning) → Some f ≡ found j h b x
    → Some (record f { meaning = entering i None f.meaning }) ≡ found j h b (entering i None x)
unfolding found
item_is f i j h b x e = cc

explicit_pair_is : (cs : List CommentValue) (f : ParsedNode) (i j h : ℕ) (b : Bool) (x : Meaning) → Some f ≡ found j h b x
    → pair_entry i (record f { meaning = meaning_after cs f.meaning }) ≡ found j (suc h) false (entering i None (collection false true i (meaning_after cs x).finish (meaning_after cs x)))
unfolding found pair_entry
explicit_pair_is cs f i j h b x e = cc

value_pair_is : (f : ParsedNode) (i j h : ℕ) (b : Bool) (x : Meaning) → Some f ≡ found j h b x
    → pair_entry i (record f { meaning = entering i (Some i) (empty_node i) ⊕ f.meaning })
    ≡ found j (suc h) false (entering i None (collection false true i (entering i (Some i) (empty_node i) ⊕ x).finish (entering i (Some i) (empty_node i) ⊕ x)))
unfolding found pair_entry
value_pair_is f i j h b x e = cc

-- the outcome for a pair of a key and its value
unfoldable pub keyed_pair : ℕ → ℕ → ℕ → ℕ → ℕ → Meaning → Meaning → Option ParsedNode
keyed_pair i k j h g x y =
    found j (suc (max h g)) false (entering i None (collection false true i (entering i (Some k) x ⊕ y).finish (entering i (Some k) x ⊕ y)))

max_left : (h g : ℕ) → h ≤ max h g
max_left h g = omega arith

max_right : (h g : ℕ) → g ≤ max h g
max_right h g = omega arith

keyed_is : (first second : ParsedNode) (i k l j h g : ℕ) (json b : Bool) (x y : Meaning) → first ≡ record { end = l; height = h; json = json; meaning = x }
    → second ≡ record { end = j; height = g; json = b; meaning = y }
    → pair_entry i (record { end = second.end; height = max first.height second.height; json = false; meaning = entering i (Some k) first.meaning ⊕ second.meaning })
    ≡ keyed_pair i k j h g x y
unfolding pair_entry keyed_pair found
keyed_is first second i k l j h g json b x y e f = cc

-- an exact outcome, before the end of an entry
pub exact_entry : {t : List ℕ} {n : ℤ} {c : Ctx} {o : Option ParsedNode} {l : ℕ} {ds : List CommentValue} (j h : ℕ) (b : Bool) (y : Meaning) → MaySeparate t n c j l ds → Visible t l
    → o ≡ found j h b y → EntryFound t n c o l h (noting y ds)
unfolding found
exact_entry j h b y m v e = record {
  answer = record { end = j; height = h; json = b; meaning = y };
  is = e;
  height = refl;
  rest = λ p es g. let same = gap_is v m g in (same.0, ap (noting y) same.1);
}

module _ {t : List ℕ} {n : ℤ} {c : Ctx} where
  -- in a mapping
  pub mapping_explicit_exact : {e i k : ℕ} {cs : List CommentValue} {o : Option ParsedNode} (j h : ℕ) (x : Meaning) → code t i ≡ 63 → Separate t n c (i + 1) k cs → Visible t k
      → ((r : Option ParsedNode) → Parses t e (AnExplicit n c i k) r → (b : Bool) × (r ≡ found j h b x)) → Parses t e (AnEntry false n c i) o
      → (b : Bool) × (o ≡ found j h b (meaning_after cs x))
  mapping_explicit_exact {e = e} {i = i} j h x q s v g (mapping_explicit {cs = ds} {f = f} a d r) =
      let same = separate_is v (separated s) d in
      let p = g (Some f) (subst (λ w. Parses t e (AnExplicit n c i w) (Some f)) same.0 r) in
      (p.0, ap (λ w. Some (record f { meaning = meaning_after w f.meaning })) same.1 ∙ after_found _ f j h p.0 x p.1)
  mapping_explicit_exact {e = e} {i = i} j h x q s v g (mapping_explicit_missed cs a d r) =
      let same = separate_is v (separated s) d in
      let p = g None (subst (λ w. Parses t e (AnExplicit n c i w) None) same.0 r) in
      absurd (none_found j h p.0 x p.1)
  mapping_explicit_exact {k = k} {cs = cs} j h x q s v g (mapping_sign_alone a d r) = absurd (d.none k cs s)
  mapping_explicit_exact j h x q s v g (mapping_implicit a r) = absurd (a q)

  pub mapping_entry : {e i : ℕ} {o : Option ParsedNode} → (code t i ≡ 63 → Stuck (Separate t n c (i + 1))) → Parses t e (AnEntry false n c i) o
      → Parses t e (AnImplicit n c i i) o
  mapping_entry s (mapping_explicit {k = k} {cs = cs} a d r) = absurd ((s a).none k cs d.derived)
  mapping_entry s (mapping_explicit_missed {k = k} cs a d r) = absurd ((s a).none k cs d.derived)
  mapping_entry s (mapping_sign_alone a d r) = r
  mapping_entry s (mapping_implicit a r) = r

  -- in a sequence: a pair after `?`
  pub pair_explicit_exact : {e i k : ℕ} {cs : List CommentValue} {o : Option ParsedNode} (j h : ℕ) (x : Meaning) → code t i ≡ 63 → Separate t n c (i + 1) k cs → Visible t k
      → suc h ≤ e → ((l : ℕ) (r : Option ParsedNode) → h ≤ l → Parses t l (AnExplicit n c i k) r → (b : Bool) × (r ≡ found j h b x)) → Parses t e (AnEntry true n c i) o
      → o ≡ found j (suc h) false (entering i None (collection false true i (meaning_after cs x).finish (meaning_after cs x)))
  pair_explicit_exact {i = i} {cs = cs} j h x q s v l g (pair_explicit {e = d} {cs = ds} {f = f} a b r) =
      let same = separate_is v (separated s) b in
      let p = g d (Some f) (omega arith) (subst (λ w. Parses t d (AnExplicit n c i w) (Some f)) same.0 r) in
      ap (λ w. pair_entry i (record f { meaning = meaning_after w f.meaning })) same.1 ∙ explicit_pair_is cs f i j h p.0 x p.1
  pair_explicit_exact {i = i} j h x q s v l g (pair_explicit_missed {e = d} ds a b r) =
      let same = separate_is v (separated s) b in
      let p = g d None (omega arith) (subst (λ w. Parses t d (AnExplicit n c i w) None) same.0 r) in
      absurd (none_found j h p.0 x p.1)
  pair_explicit_exact j h x q s v l g (pair_explicit_too_deep ds a b) = absurd (omega arith)
  pair_explicit_exact j h x q s v l g (pair_of_value a r) = let z = a.colon in absurd (omega arith)
  pair_explicit_exact j h x q s v l g (pair_of_value_too_deep a) = absurd (omega arith)
  pair_explicit_exact {k = k} {cs = cs} j h x q s v l g (item_missed a b r) = absurd ((a q).none k cs s)
  pair_explicit_exact {k = k} {cs = cs} j h x q s v l g (pair_of_key a b r p m z) = absurd ((a q).none k cs s)
  pair_explicit_exact {k = k} {cs = cs} j h x q s v l g (pair_too_deep a b r p m) = absurd ((a q).none k cs s)
  pair_explicit_exact {k = k} {cs = cs} j h x q s v l g (item_read a b r p) = absurd ((a q).none k cs s)

  -- a pair of only a value
  pub pair_value_exact : {e i : ℕ} {o : Option ParsedNode} (j h : ℕ) (x : Meaning) → ColonAt t false c i → suc h ≤ e
      → ((l : ℕ) (r : Option ParsedNode) → h ≤ l → Parses t l (AValue false n c i) r → (b : Bool) × (r ≡ found j h b x)) → Parses t e (AnEntry true n c i) o
      → o ≡ found j (suc h) false (entering i None (collection false true i (entering i (Some i) (empty_node i) ⊕ x).finish (entering i (Some i) (empty_node i) ⊕ x)))
  pair_value_exact j h x q l g (pair_explicit a b r) = let z = q.colon in absurd (omega arith)
  pair_value_exact j h x q l g (pair_explicit_missed ds a b r) = let z = q.colon in absurd (omega arith)
  pair_value_exact j h x q l g (pair_explicit_too_deep ds a b) = absurd (omega arith)
  pair_value_exact {i = i} j h x q l g (pair_of_value {e = d} {f = f} a r) = let p = g d (Some f) (omega arith) r in value_pair_is f i j h p.0 x p.1
  pair_value_exact j h x q l g (pair_of_value_too_deep a) = absurd (omega arith)
  pair_value_exact j h x q l g (item_missed a b r) = absurd (b q)
  pair_value_exact j h x q l g (pair_of_key a b r p m z) = absurd (b q)
  pair_value_exact j h x q l g (pair_too_deep a b r p m) = absurd (b q)
  pair_value_exact j h x q l g (item_read a b r p) = absurd (b q)

  -- a node that is no key
  pub item_exact : {e i : ℕ} {o : Option ParsedNode} (j h : ℕ) (x : Meaning) → (code t i ≡ 63 → Stuck (Separate t n c (i + 1))) → (ColonAt t false c i → ⊥)
      → ((f : ParsedNode) (k : ℕ) → f.end ≡ j → PairKey t c i f k → ⊥)
      → ((r : Option ParsedNode) → Parses t e (ANode n c i) r → (b : Bool) × (r ≡ found j h b x)) → Parses t e (AnEntry true n c i) o
      → (b : Bool) × (o ≡ found j h b (entering i None x))
  item_exact j h x s q k g (pair_explicit {k = p} {cs = cs} a b r) = absurd ((s a).none p cs b.derived)
  item_exact j h x s q k g (pair_explicit_missed {k = p} cs a b r) = absurd ((s a).none p cs b.derived)
  item_exact j h x s q k g (pair_explicit_too_deep {k = p} cs a b) = absurd ((s a).none p cs b.derived)
  item_exact j h x s q k g (pair_of_value a r) = absurd (q a)
  item_exact j h x s q k g (pair_of_value_too_deep a) = absurd (q a)
  item_exact j h x s q k g (item_missed a b r) = let p = g None r in absurd (none_found j h p.0 x p.1)
  item_exact j h x s q k g (pair_of_key {k = m} {f = f} a b r p l z) =
      let w = g (Some f) r in absurd (k f m (ap (λ (v : ParsedNode). v.end) (some_found j h w.0 x w.1)) p)
  item_exact j h x s q k g (pair_too_deep {k = m} {f = f} a b r p l) =
      let w = g (Some f) r in absurd (k f m (ap (λ (v : ParsedNode). v.end) (some_found j h w.0 x w.1)) p)
  item_exact {i = i} j h x s q k g (item_read {f = f} a b r p) = let w = g (Some f) r in (w.0, item_is f i j h w.0 x w.1)

  -- a pair of a key and its value
  pub keyed_pair_exact : {e i k : ℕ} {o : Option ParsedNode} (l j h g : ℕ) (json : Bool) (x y : Meaning) → (code t i ≡ 63 → Stuck (Separate t n c (i + 1)))
      → (ColonAt t false c i → ⊥) → suc (max h g) ≤ e
      → PairKey t c i (record { end = l; height = h; json = json; meaning = x }) k
      → ((m : ℕ) → PairKey t c i (record { end = l; height = h; json = json; meaning = x }) m → m ≡ k)
      → ((r : Option ParsedNode) → Parses t e (ANode n c i) r → r ≡ found l h json x)
      → ((d : ℕ) (r : Option ParsedNode) → g ≤ d → Parses t d (AValue json n c k) r → (b : Bool) × (r ≡ found j g b y)) → Parses t e (AnEntry true n c i) o
      → o ≡ keyed_pair i k j h g x y
  keyed_pair_exact l j h g json x y s q b p one f v (pair_explicit {k = m} {cs = cs} a d r) = absurd ((s a).none m cs d.derived)
  keyed_pair_exact l j h g json x y s q b p one f v (pair_explicit_missed {k = m} cs a d r) = absurd ((s a).none m cs d.derived)
  keyed_pair_exact l j h g json x y s q b p one f v (pair_explicit_too_deep {k = m} cs a d) = absurd ((s a).none m cs d.derived)
  keyed_pair_exact l j h g json x y s q b p one f v (pair_of_value a r) = absurd (q a)
  keyed_pair_exact l j h g json x y s q b p one f v (pair_of_value_too_deep a) = absurd (q a)
  keyed_pair_exact l j h g json x y s q b p one f v (item_missed a d r) = absurd (none_found l h json x (f None r))
  keyed_pair_exact {i = i} {k = k} l j h g json x y s q b p one f v (pair_of_key {e = e} {k = m} {f = first} {g = second} a d r w z u) =
      let e1 = some_found l h json x (f (Some first) r) in
      let w' = subst (λ (z : ParsedNode). PairKey t c i z m) e1 w in
      let same = one m w' in
      let u1 : Parses t e (AValue json n c m) (Some second) = subst (λ (z : ParsedNode). Parses t e (AValue z.json n c m) (Some second)) e1 u in
      let u2 : Parses t e (AValue json n c k) (Some second) = subst (λ z. Parses t e (AValue json n c z) (Some second)) same u1 in
      let value = v e (Some second) (omega (arith, max_right h g)) u2 in
      ap (λ z. pair_entry i (record { end = second.end; height = max first.height second.height; json = false; meaning = entering i (Some z) first.meaning ⊕ second.meaning })) same
      ∙ keyed_is first second i k l j h g json value.0 x y e1 (some_found j g value.0 y value.1)
  keyed_pair_exact {i = i} l j h g json x y s q b p one f v (pair_too_deep {f = first} a d r w z) =
      let e1 = some_found l h json x (f (Some first) r) in
      let e2 : first.height ≡ h = ap (λ (z : ParsedNode). z.height) e1 in
      absurd (omega (arith, max_left h g))
  keyed_pair_exact {i = i} {k = k} l j h g json x y s q b p one f v (item_read {f = first} a d r w) =
      let e1 = some_found l h json x (f (Some first) r) in
      absurd (w k (subst (λ (z : ParsedNode). PairKey t c i z k) (sym e1) p))
