-- The entries of a block collection: the last one, and one that others follow.
use Rattle.std.proofs.Common.{◌≡◌, ℕ, max, ◌+◌, ◌<◌, ◌≤◌, Bool, false, ◌⊎◌, inl, inr, ⊎_elim, List, [], Option, Some, None, refl, sym, ap, ◌∙◌, subst, arith}
use Rattle.yf_chars.proofs.Tests.{none_some}
use Rattle.yf_grammar.specs.Productions.Meaning.{Meaning, ◌⊕◌}
use Rattle.yf_grammar.specs.FlowReader.Parser.{ParsedNode, found}
use Rattle.yf_grammar.specs.BlockReader.BlockParser.{LineText, NextEntry, next_item, next_pair, DeeperLine, Origin, Later, BlockTask, Items, Item, Whole, items_found}
use Rattle.yf_grammar.specs.BlockReader.BlockParser.Whole.{items_missed, items_last, items_deeper, items_then, items_then_missed}
use Rattle.yf_grammar.specs.BlockReader.Halts.{NoColonAt, none_open, NoneAfter, not_after, Halts}
use Rattle.yf_grammar.specs.BlockReader.Halts.Halts.{halts_item, halts_before_item, halts_items}
use Rattle.yf_grammar.proofs.FlowReader.Longest.{Longest}
use Rattle.yf_grammar.proofs.Ends.NodeExits.{some_found, none_found}
use Rattle.yf_grammar.proofs.BlockOutcomes.BlockClaims.{FollowItems, IsFound, Exact, HaltsReach, line_unique}
use Rattle.yf_grammar.proofs.BlockOutcomes.OutcomeEnds.{items_is}
use Rattle.yf_grammar.proofs.BlockOutcomes.HaltsLater.{halts_later}
use Rattle.yf_grammar.proofs.BlockOutcomes.BlockHalts.{WholePlain, whole_halts}

-- the outcome ends there
pub exact_end : {f : ParsedNode} {j h : ℕ} {x : Meaning} → IsFound (Some f) j h x → f.end ≡ j
exact_end {j = j} {h = h} {x = x} e = ap (λ w. w.end) (some_found j h false x e.is)

pub exact_height : {f : ParsedNode} {j h : ℕ} {x : Meaning} → IsFound (Some f) j h x → f.height ≡ h
exact_height {j = j} {h = h} {x = x} e = ap (λ w. w.height) (some_found j h false x e.is)

pub exact_meaning : {f : ParsedNode} {j h : ℕ} {x : Meaning} → IsFound (Some f) j h x → f.meaning ≡ x
exact_meaning {j = j} {h = h} {x = x} e = ap (λ w. w.meaning) (some_found j h false x e.is)

pub never_none : {Q : Type 0} {j h : ℕ} {x : Meaning} → IsFound None j h x → Q
never_none {j = j} {h = h} {x = x} e = absurd (none_found j h false x e.is)

pub longest_of : {o : Option ParsedNode} {j : ℕ} {x : Meaning} (f : ParsedNode) → o ≡ Some f → (j < f.end) ⊎ ((j ≡ f.end) × (x ≡ f.meaning)) → Longest o j x
longest_of f e w = record { answer = f; is = e; far = w }

pub longest_far : {o : Option ParsedNode} {j : ℕ} {x : Meaning} (f : ParsedNode) → Longest o j x → o ≡ Some f → (j < f.end) ⊎ ((j ≡ f.end) × (x ≡ f.meaning))
longest_far {o} {j} {x} f l e = subst (λ w. (j < w.end) ⊎ ((j ≡ w.end) × (x ≡ w.meaning))) (same (sym l.is ∙ e)) l.far where
  same : Some l.answer ≡ Some f → l.answer ≡ f
  same q = cc

pub longest_order : {o : Option ParsedNode} {j : ℕ} {x : Meaning} (f : ParsedNode) → Longest o j x → o ≡ Some f → j ≤ f.end
longest_order {j = j} {x = x} f l e = ⊎_elim (λ (q : j < f.end). omega arith) (λ (q : (j ≡ f.end) × (x ≡ f.meaning)). let y = q.0 in omega arith) (longest_far f l e)

pub longest_some : {Q : Type 0} {o : Option ParsedNode} {j : ℕ} {x : Meaning} → Longest o j x → o ≡ None → Q
longest_some l e = absurd (none_some (sym e ∙ l.is))

items_same : {f g : ParsedNode} {j k h d : ℕ} {x y : Meaning} → IsFound (Some f) k h x → IsFound (Some g) j d y → IsFound (items_found f g) j (max h d) (x ⊕ y)
items_same {f} {g} {j} {k} {h} {d} {x} {y} a b = record {
  is =
      items_is f g ∙ ap (λ w. found w (max f.height g.height) false (f.meaning ⊕ g.meaning)) (exact_end b)
      ∙ ap (λ w. found j (max w g.height) false (f.meaning ⊕ g.meaning)) (exact_height a)
      ∙ ap (λ w. found j (max h w) false (f.meaning ⊕ g.meaning)) (exact_height b)
      ∙ ap (λ w. found j (max h d) false (w ⊕ g.meaning)) (exact_meaning a)
      ∙ ap (λ w. found j (max h d) false (x ⊕ w)) (exact_meaning b);
}

items_some : (f g : ParsedNode) → items_found f g ≡ Some (record { end = g.end; height = max f.height g.height; json = false; meaning = f.meaning ⊕ g.meaning })
unfolding items_found found
items_some f g = refl

further_items : (f g : ParsedNode) {j : ℕ} {x : Meaning} → j < g.end → Longest (items_found f g) j x
further_items f g l = longest_of (record { end = g.end; height = max f.height g.height; json = false; meaning = f.meaning ⊕ g.meaning }) (items_some f g) (inl l)

then_longest : {f : ParsedNode} (g : ParsedNode) {k h j : ℕ} {x y : Meaning} → IsFound (Some f) k h x → (j < g.end) ⊎ ((j ≡ g.end) × (y ≡ g.meaning)) → Longest (items_found f g) j (x ⊕ y)
then_longest {f} g {j = j} {x = x} {y = y} e w = longest_of (record { end = g.end; height = max f.height g.height; json = false; meaning = f.meaning ⊕ g.meaning }) (items_some f g)
    (⊎_elim (λ (l : j < g.end). inl l)
    (λ (q : (j ≡ g.end) × (y ≡ g.meaning)). inr (q.0, ap (λ v. v ⊕ y) (sym (exact_meaning e)) ∙ ap (λ v. f.meaning ⊕ v) q.1)) w)

pub none_after : {P : ℕ → Type 0} {f : ParsedNode} → NoneAfter P (Some f) → P f.end → ⊥
none_after (not_after n) p = n p

module _ {t : List ℕ} where
  next_line : {s : Bool} {m k : ℕ} → NextEntry t s m k → (p : ℕ) × LineText t k m p
  next_line (next_item {p = p} w d) = (p, w)
  next_line (next_pair {p = p} w) = (p, w)

  not_deeper : {s : Bool} {m k : ℕ} → NextEntry t s m k → DeeperLine t m k → ⊥
  not_deeper {m = m} a d =
      let n = next_line a in
      let e = (line_unique n.1 d.line).0 in
      let l = d.deep in absurd (omega arith)

  -- the text after an entry that was found is at j
  none_next : (f : ParsedNode) {v s : Bool} {m j : ℕ} → f.end ≡ j → FollowItems t v s m j → NextEntry t s m f.end → ⊥
  none_next f {s = s} {m = m} e w n = w.no_entry.no_next (subst (λ v. NextEntry t s m v) e n)

  none_deeper : (f : ParsedNode) {v s : Bool} {m j : ℕ} → f.end ≡ j → FollowItems t v s m j → DeeperLine t m f.end → ⊥
  none_deeper f {j = j} e w d =
      let y = d.deep in
      let z = w.no_entry.not_deeper d.column d.first (subst (λ v. LineText t v d.column d.first) e d.line) in omega arith

  pub last_exact : {e h m i j : ℕ} {v s : Bool} {q : Origin} {x : Meaning} {o : Option ParsedNode} → FollowItems t v s m j → Exact t e (Item s m q i) j h x
      → Whole t e (Items s m q i) o → IsFound o j h x
  last_exact w c (items_missed r) = never_none (c None r)
  last_exact w c (items_last {f = f} r n) = c (Some f) r
  last_exact w c (items_deeper {f = f} r d) = absurd (none_deeper f (exact_end (c (Some f) r)) w d)
  last_exact w c (items_then {f = f} r n z) = absurd (none_next f (exact_end (c (Some f) r)) w n)
  last_exact w c (items_then_missed {f = f} r n z) = absurd (none_next f (exact_end (c (Some f) r)) w n)

  others_at : {e m k : ℕ} {s : Bool} (f : ParsedNode) {o : Option ParsedNode} → f.end ≡ k → Whole t e (Items s m Later (f.end + m)) o → Whole t e (Items s m Later (k + m)) o
  others_at {e} {m} {k} {s} f {o} q r = subst (λ v. Whole t e (Items s m Later (v + m)) o) q r

  pub before_exact : {e h d m i k j : ℕ} {s : Bool} {q : Origin} {x y : Meaning} {o : Option ParsedNode} → NextEntry t s m k → Exact t e (Item s m q i) k h x
      → Exact t e (Items s m Later (k + m)) j d y → Whole t e (Items s m q i) o → IsFound o j (max h d) (x ⊕ y)
  before_exact n a b (items_missed r) = never_none (a None r)
  before_exact {m = m} {s = s} n a b (items_last {f = f} r w) = absurd (w.no_next (subst (λ v. NextEntry t s m v) (sym (exact_end (a (Some f) r))) n))
  before_exact {m = m} {s = s} n a b (items_deeper {f = f} r w) = absurd (not_deeper (subst (λ v. NextEntry t s m v) (sym (exact_end (a (Some f) r))) n) w)
  before_exact n a b (items_then {f = f} {g = g} r w z) = let p = a (Some f) r in items_same p (b (Some g) (others_at f (exact_end p) z))
  before_exact n a b (items_then_missed {f = f} r w z) = never_none (b None (others_at f (exact_end (a (Some f) r)) z))

  -- a whole outcome ends no sooner than the derived part
  pub whole_reaches : {e j : ℕ} {task : BlockTask} {x : Meaning} {f : ParsedNode} → WholePlain t → HaltsReach t e task j x → Whole t e task (Some f)
      → (j < f.end) ⊎ ((j ≡ f.end) × (x ≡ f.meaning))
  whole_reaches {f = f} p c r = longest_far f (c [] none_open (Some f) (whole_halts p r refl none_open)) refl

  pub whole_order : {e j : ℕ} {task : BlockTask} {x : Meaning} {f : ParsedNode} → WholePlain t → HaltsReach t e task j x → Whole t e task (Some f) → j ≤ f.end
  whole_order {f = f} p c r = longest_order f (c [] none_open (Some f) (whole_halts p r refl none_open)) refl

  pub last_reached : {e m i j : ℕ} {s : Bool} {q : Origin} {x : Meaning} {ws : List ℕ} {o : Option ParsedNode} → WholePlain t → HaltsReach t e (Item s m q i) j x → NoColonAt t j ws
      → Halts t e ws (Items s m q i) o → Longest o j x
  last_reached {ws = ws} p c a (halts_item {o = o} r n y) = c ws a o y
  last_reached {ws = ws} p c a (halts_before_item {o = o} r n z y) = c ws a o y
  last_reached p c a (halts_items {f = f} {g = g} r n z) =
      let l = whole_order p c r in
      let y = halts_later z refl in further_items f g (omega arith)

  others_halt : {e m k : ℕ} {s : Bool} {ws : List ℕ} (f : ParsedNode) {o : Option ParsedNode} → f.end ≡ k → Halts t e ws (Items s m Later (f.end + m)) o
      → Halts t e ws (Items s m Later (k + m)) o
  others_halt {e} {m} {k} {s} {ws} f {o} q r = subst (λ v. Halts t e ws (Items s m Later (v + m)) o) q r

  pub before_reached : {e h m i k j : ℕ} {s : Bool} {q : Origin} {x y : Meaning} {ws : List ℕ} {o : Option ParsedNode} → NextEntry t s m k → Exact t e (Item s m q i) k h x
      → HaltsReach t e (Items s m Later (k + m)) j y → NoColonAt t j ws → Halts t e ws (Items s m q i) o → Longest o j (x ⊕ y)
  before_reached n a b w (halts_item {r = None} r z y) = never_none (a None r)
  before_reached {m = m} {s = s} n a b w (halts_item {r = Some f} r z y) = absurd (none_after z (subst (λ v. NextEntry t s m v) (sym (exact_end (a (Some f) r))) n))
  before_reached {ws = ws} n a b w (halts_before_item {f = f} r v z y) = longest_some (b ws w None (others_halt f (exact_end (a (Some f) r)) z)) refl
  before_reached {ws = ws} n a b w (halts_items {f = f} {g = g} r v z) =
      let p = a (Some f) r in then_longest g p (longest_far g (b ws w (Some g) (others_halt f (exact_end p) z)) refl)
