-- The longest properties.
use Rattle.std.proofs.Common.{◌≡◌, ℕ, ℤ, ◌-◌, ◌<◌, ◌⊎◌, inl, inr, ⊎_elim, List, ap, ◌∙◌, subst, arith}
use Rattle.std.specs.Str.{IsUtf8}
use Rattle.yf_chars.specs.declared.context.Ctx.{Ctx}
use Rattle.yf_chars.specs.Text.{code}
use Rattle.yf_chars.specs.Chain.{Stuck, Chosen}
use Rattle.yf_comments.specs.Comment.{CommentValue}
use Rattle.yf_comments.specs.Comments.{Separate}
use Rattle.yf_props.specs.Props.{TagValue}
use Rattle.yf_props.specs.Names.{Anchor, TagProperty, Properties, PropertiesValue, tag_only, anchor_only, tag_with_anchor}
use Rattle.yf_props.specs.Names.Properties.{by_tag, by_anchor, tag_first, anchor_first}
use Rattle.yf_props.proofs.NameLemmas.{chosen_over, chosen_cases, anchor_parts, anchor_unique}
use Rattle.yf_props.proofs.TagLemmas.{tag_mark, tag_later}
use Rattle.yf_props.proofs.SeparationEnds.{Apparent, solid_apparent, separate_forward, apparent_last, no_separation_inside}
use Rattle.yf_props.proofs.SolidLemmas.{tag_all_solid}
use Rattle.yf_props.proofs.NameOrder.{anchor_forward}

module _ {t : List ℕ} where
  mark_apparent : {k : ℕ} → code t k ≡ 33 → Apparent t k
  mark_apparent e = solid_apparent (record { low = omega arith; high = omega arith }) (λ f. absurd (omega arith))

  and_apparent : {k : ℕ} → code t k ≡ 38 → Apparent t k
  and_apparent e = solid_apparent (record { low = omega arith; high = omega arith }) (λ f. absurd (omega arith))

  not_both : {i j k : ℕ} {a : List ℕ} {v : TagValue} → Anchor t i j a → TagProperty t i k v → ⊥
  not_both a v = let e = (anchor_parts a).0 in let f = tag_mark v in absurd (omega arith)

module _ {t : List ℕ} {n : ℤ} {c : Ctx} where
  -- a separation is chosen if it ends before a character at which no separation goes on
  last_is : {h k l : ℕ} {x y : List CommentValue} → Chosen (Separate t n c h) k x → Separate t n c h l y → Apparent t l → (l ≡ k) × (y ≡ x)
  last_is {h} {k} {l} {x} {y} s r a =
      let above = apparent_last r a s.derived in
      let below = s.longest l y r in
      let same : l ≡ k = omega arith in
      (same, s.only y (subst (λ v. Separate t n c h v y) same r))

  -- an anchor, and a tag after it
  past_anchor : {i h k j l : ℕ} {a : List ℕ} {x : List CommentValue} {v : TagValue} {p : PropertiesValue} → Anchor t i h a
      → Chosen (Separate t n c h) k x → Chosen (TagProperty t k) j v → Properties t n c i l p
      → (l < j) ⊎ ((l ≡ j) × (p ≡ tag_with_anchor k v a x))
  past_anchor a s g (by_tag d) = absurd (not_both a d)
  past_anchor a s g (tag_first d r b) = absurd (not_both a d)
  past_anchor a s g (by_anchor b) =
      let e = (anchor_unique a b).0 in
      let f = separate_forward s.derived in
      let m = tag_later g.derived in
      inl (omega arith)
  past_anchor {h = h} {k} {j} {a = a} {x} {v} d s g (anchor_first {h = h'} {k = k'} {j = l} {name = a'} {x = x'} {tag = v'} b r e) =
      let f = anchor_unique d b in
      let r' : Separate t n c h k' x' = subst (λ w. Separate t n c w k' x') f.0 r in
      let same = last_is s r' (mark_apparent (tag_mark e)) in
      let e' : TagProperty t k l v' = subst (λ w. TagProperty t w l v') same.0 e in
      ⊎_elim (λ (m : l < j). inl m)
      (λ (m : (l ≡ j) × (v' ≡ v)).
      inr (
        m.0,
        ap (λ w. tag_with_anchor w v' a' x') same.0 ∙ ap (λ w. tag_with_anchor k w a' x') m.1
            ∙ ap (λ w. tag_with_anchor k v w x') f.1 ∙ ap (λ w. tag_with_anchor k v a w) same.1,
      ))
      (chosen_cases g e')

  pub anchor_then_tag : {i h k j : ℕ} {a : List ℕ} {x : List CommentValue} {v : TagValue} → Anchor t i h a
      → Chosen (Separate t n c h) k x → Chosen (TagProperty t k) j v → Chosen (Properties t n c i) j (tag_with_anchor k v a x)
  anchor_then_tag a s g = chosen_over (anchor_first a s.derived g.derived) (λ l p d. past_anchor a s g d)

  -- an anchor without a tag
  pub no_tag_after : {h k : ℕ} {x : List CommentValue} → Chosen (Separate t n c h) k x → Stuck (TagProperty t k)
      → (l m : ℕ) (y : List CommentValue) (v : TagValue) → Separate t n c h l y → TagProperty t l m v → ⊥
  no_tag_after s g l m y v r e =
      let same = (last_is s r (mark_apparent (tag_mark e))).0 in
      g.none m v (subst (λ w. TagProperty t w m v) same e)

  anchor_only_is : {i h l : ℕ} {a : List ℕ} {p : PropertiesValue} → Anchor t i h a
      → ((l m : ℕ) (y : List CommentValue) (v : TagValue) → Separate t n c h l y → TagProperty t l m v → ⊥)
      → Properties t n c i l p → (l < h) ⊎ ((l ≡ h) × (p ≡ anchor_only a))
  anchor_only_is a none (by_tag d) = absurd (not_both a d)
  anchor_only_is a none (tag_first d r b) = absurd (not_both a d)
  anchor_only_is a none (by_anchor b) = let f = anchor_unique a b in inr (f.0, ap anchor_only f.1)
  anchor_only_is {h = h} a none (anchor_first {k = k} {j = l} {x = x} {tag = v} b r e) =
      let f = anchor_unique a b in
      absurd (none k l x v (subst (λ w. Separate t n c w k x) f.0 r) e)

  pub anchor_alone : {i h : ℕ} {a : List ℕ} → Anchor t i h a
      → ((l m : ℕ) (y : List CommentValue) (v : TagValue) → Separate t n c h l y → TagProperty t l m v → ⊥)
      → Chosen (Properties t n c i) h (anchor_only a)
  anchor_alone a none = chosen_over (by_anchor a) (λ l p d. anchor_only_is a none d)

-- tags that are not the longest
module _ {t : List ℕ} (u : IsUtf8 t) {n : ℤ} {c : Ctx} where
  short_stuck : {i h j : ℕ} {v w : TagValue} → TagProperty t i h v → TagProperty t i j w → h < j → Stuck (Separate t n c h)
  short_stuck {i} {h} {j} d e l =
      let f = tag_later d in
      let all = tag_all_solid e in
      no_separation_inside t u (h - 1) h (omega arith) (all.each (h - 1) (omega arith) (omega arith)) (all.each h (omega arith) l)

  -- a tag, and an anchor after it
  past_tag : {i h k j l : ℕ} {a : List ℕ} {x : List CommentValue} {v : TagValue} {p : PropertiesValue} → Chosen (TagProperty t i) h v
      → Chosen (Separate t n c h) k x → Anchor t k j a → Properties t n c i l p
      → (l < j) ⊎ ((l ≡ j) × (p ≡ tag_with_anchor i v a x))
  past_tag g s a (by_tag {j = l} {tag = w} d) =
      let e = g.longest l w d in
      let f = separate_forward s.derived in
      let m = anchor_forward a in
      inl (omega arith)
  past_tag g s a (by_anchor b) = absurd (not_both b g.derived)
  past_tag g s a (anchor_first b r e) = absurd (not_both b g.derived)
  past_tag {i} {h} {k} {j} {a = a} {x} {v} g s b (tag_first {h = h'} {k = k'} {j = l} {tag = v'} {x = x'} {name = a'} d r e) =
      ⊎_elim (λ (m : h' < h). absurd ((short_stuck d g.derived m).none k' x' r))
      (λ (m : (h' ≡ h) × (v' ≡ v)).
      let r' : Separate t n c h k' x' = subst (λ w. Separate t n c w k' x') m.0 r in
      let same = last_is s r' (and_apparent (anchor_parts e).0) in
      let e' : Anchor t k l a' = subst (λ w. Anchor t w l a') same.0 e in
      let f = anchor_unique b e' in
      inr (f.0, ap (λ w. tag_with_anchor i w a' x') m.1 ∙ ap (λ w. tag_with_anchor i v w x') f.1 ∙ ap (λ w. tag_with_anchor i v a w) same.1))
      (chosen_cases g d)

  pub tag_then_anchor : {i h k j : ℕ} {a : List ℕ} {x : List CommentValue} {v : TagValue} → Chosen (TagProperty t i) h v
      → Chosen (Separate t n c h) k x → Anchor t k j a → Chosen (Properties t n c i) j (tag_with_anchor i v a x)
  tag_then_anchor g s a = chosen_over (tag_first g.derived s.derived a) (λ l p d. past_tag g s a d)

  -- a tag without an anchor
  tag_only_is : {i h l : ℕ} {v : TagValue} {p : PropertiesValue} → Chosen (TagProperty t i) h v
      → ((l m : ℕ) (y : List CommentValue) (a : List ℕ) → Separate t n c h l y → Anchor t l m a → ⊥)
      → Properties t n c i l p → (l < h) ⊎ ((l ≡ h) × (p ≡ tag_only i v))
  tag_only_is {i} {h} {v = v} g none (by_tag {j = l} {tag = w} d) =
      ⊎_elim (λ (m : l < h). inl m) (λ (m : (l ≡ h) × (w ≡ v)). inr (m.0, ap (tag_only i) m.1)) (chosen_cases g d)
  tag_only_is g none (by_anchor b) = absurd (not_both b g.derived)
  tag_only_is g none (anchor_first b r e) = absurd (not_both b g.derived)
  tag_only_is {h = h} {v = v} g none (tag_first {h = h'} {k = k} {j = l} {tag = w} {x = x} {name = a} d r e) =
      ⊎_elim (λ (m : h' < h). absurd ((short_stuck d g.derived m).none k x r))
      (λ (m : (h' ≡ h) × (w ≡ v)). absurd (none k l x a (subst (λ z. Separate t n c z k x) m.0 r) e))
      (chosen_cases g d)

  pub tag_alone : {i h : ℕ} {v : TagValue} → Chosen (TagProperty t i) h v
      → ((l m : ℕ) (y : List CommentValue) (a : List ℕ) → Separate t n c h l y → Anchor t l m a → ⊥)
      → Chosen (Properties t n c i) h (tag_only i v)
  tag_alone g none = chosen_over (by_tag g.derived) (λ l p d. tag_only_is g none d)

module _ {t : List ℕ} {n : ℤ} {c : Ctx} where
  pub no_anchor_after : {h k : ℕ} {x : List CommentValue} → Chosen (Separate t n c h) k x → Stuck (Anchor t k)
      → (l m : ℕ) (y : List CommentValue) (a : List ℕ) → Separate t n c h l y → Anchor t l m a → ⊥
  no_anchor_after s g l m y a r e =
      let same = (last_is s r (and_apparent (anchor_parts e).0)).0 in
      g.none m a (subst (λ w. Anchor t w m a) same e)

  neither : {i l : ℕ} {p : PropertiesValue} → Stuck (Anchor t i) → Stuck (TagProperty t i) → Properties t n c i l p → ⊥
  neither a g (by_tag {j = l} {tag = v} d) = g.none l v d
  neither a g (by_anchor {j = l} {name = b} d) = a.none l b d
  neither a g (tag_first {h = l} {tag = v} d r e) = g.none l v d
  neither a g (anchor_first {h = l} {name = b} d r e) = a.none l b d

  pub no_properties : {i : ℕ} → Stuck (Anchor t i) → Stuck (TagProperty t i) → Stuck (Properties t n c i)
  no_properties a g = record { none = λ l p d. neither a g d }
