-- At each offset, properties, quoted and block scalars have a longest part with one meaning, or none: that cannot be
-- refuted.
use Rattle.std.proofs.Common.{◌≡◌, ◌≢◌, ℕ, ℤ, ◌+◌, ◌<◌, ⊎_elim, inl, inr, false, List, [], ◌++◌, length, sym, ap, ◌∙◌, subst, arith, append_assoc}
use Rattle.std.proofs.lemmas.Bool.{cases_eq}
use Rattle.std.specs.Str.{IsUtf8}
use Rattle.yf_chars.specs.declared.context.Ctx.{Ctx}
use Rattle.yf_chars.specs.Text.{code}
use Rattle.yf_chars.specs.Class.{is_word_char}
use Rattle.yf_chars.specs.Chain.{Chain, Stuck, Chosen}
use Rattle.yf_chars.specs.Chain.Chain.{done, step}
use Rattle.yf_chars.proofs.TextLemmas.{within_from_code}
use Rattle.yf_chars.proofs.ChainLemmas.{chain_forward, chain_meet, Meets}
use Rattle.yf_chars.proofs.ChainLemmas.Meets.{goes_on, falls_short}
use Rattle.yf_lines.specs.Basic.{is_block}
use Rattle.yf_comments.specs.Comment.{CommentValue}
use Rattle.yf_comments.specs.Comments.{Separate}
use Rattle.yf_props.specs.Props.{TagValue}
use Rattle.yf_props.specs.Names.{Run, Anchor, Handle, VerbatimTag, ShorthandTag, TagProperty, Properties, TagChar}
use Rattle.yf_props.specs.Names.VerbatimTag.{in_brackets}
use Rattle.yf_props.specs.Names.ShorthandTag.{handle_suffix}
use Rattle.yf_props.specs.Names.Handle.{primary_handle, secondary_handle, named_handle}
use Rattle.yf_props.specs.Names.TagProperty.{verbatim_tag, shorthand_tag, non_specific_tag}
use Rattle.yf_props.proofs.NameLemmas.{anchor_unique}
use Rattle.yf_props.proofs.TagLemmas.{tag_mark, verbatim_chosen, verbatim_tag_chosen, shorthand_tag_chosen, non_specific_chosen, long_chosen, lone_chosen, no_mark}
use Rattle.yf_props.proofs.PropertiesLemmas.{anchor_then_tag, no_tag_after, anchor_alone, tag_then_anchor, tag_alone, no_anchor_after, no_properties}
use Rattle.yf_quoted.specs.Quoted.{SingleQuoted, DoubleQuoted, SingleChar, as_they_are}
use Rattle.yf_quoted.specs.Body.{Gap, Step, Body, SingleBreaks}
use Rattle.yf_quoted.proofs.BodyLemmas.{Laws, step_functional}
use Rattle.yf_quoted.proofs.ScalarLemmas.{some_width, quoted_body}
use Rattle.yf_quoted.proofs.SingleLemmas.{single_laws, single_kind}
use Rattle.yf_grammar.specs.Productions.BlockScalar.{BlockScalar}
use Rattle.yf_grammar.proofs.Ends.Irrefutable.{Irrefutable, sure, then, by_cases, ChosenOrStuck, reached, unreached, Part, one_reached, bounded_reached}
use Rattle.yf_grammar.proofs.BlockReader.LeavesReached.{separate_reached}
use Rattle.yf_grammar.proofs.BlockOutcomes.OneScalars.{scalar_one}
use Rattle.yf_grammar.proofs.FlowReader.QuotedEnds.{double_same}
use Rattle.yf_chars.proofs.CharFacts.{exclamation_no_word}

-- a handle of more than a mark, and a suffix after it
record LongTag (t : List ℕ) (i : ℕ) : Type 0 where
  handle : ℕ
  end : ℕ
  is : Handle t i handle
  long : i + 1 < handle
  suffix : Run (TagChar t) handle end

record Suffix (t : List ℕ) (i : ℕ) : Type 0 where
  end : ℕ
  run : Run (TagChar t) i end

module _ {t : List ℕ} where
  anchor_reached : (i : ℕ) → Irrefutable (ChosenOrStuck (Anchor t i))
  anchor_reached i = one_reached (Anchor t i) (λ j k x y a b. anchor_unique a b)

  verbatim_is_chosen : {i j : ℕ} {x : List ℕ} → VerbatimTag t i j x → Chosen (VerbatimTag t i) j x
  verbatim_is_chosen (in_brackets a b r c) = verbatim_chosen a b r c

  verbatim_reached : (i : ℕ) → Irrefutable (ChosenOrStuck (VerbatimTag t i))
  verbatim_reached i = by_cases (Part (VerbatimTag t i))
      (λ p. sure (reached p.end p.meaning (verbatim_is_chosen p.derived)))
      (λ n. sure (unreached (record { none = λ j x d. n (record { end = j; meaning = x; derived = d }) })))

  long_of : {i h j : ℕ} → Handle t i h → i + 1 < h → Run (TagChar t) h j → ChosenOrStuck (ShorthandTag t i)
  long_of (primary_handle a) l r = absurd (omega arith)
  long_of {i} {j = j} (secondary_handle a b) l r =
      let same : i + 2 ≡ (i + 1) + 1 = omega arith in
      reached j _ (long_chosen t i (i + 1) [] done (ap is_word_char b ∙ exclamation_no_word) a b (subst (λ w. Run (TagChar t) w j) same r))
  long_of {i} {j = j} (named_handle {j = w} a s b) l r = reached j _ (long_chosen t i w s.characters s.chain (ap is_word_char b ∙ exclamation_no_word) a b r)

  no_tag : {i j : ℕ} {v : TagValue} → (LongTag t i → ⊥) → (Suffix t (i + 1) → ⊥) → ShorthandTag t i j v → ⊥
  no_tag n m (handle_suffix {j = j} (primary_handle a) r) = m (record { end = j; run = r })
  no_tag {i} n m (handle_suffix {h = h} {j = j} (secondary_handle a b) r) =
      n (record { handle = i + 2; end = j; is = secondary_handle a b; long = omega arith; suffix = r })
  no_tag n m (handle_suffix {h = h} {j = j} (named_handle {j = w} a s b) r) =
      let f = s.some in
      n (record { handle = w + 1; end = j; is = named_handle a s b; long = omega arith; suffix = r })

  marked_reached : (i : ℕ) → code t i ≡ 33 → Irrefutable (ChosenOrStuck (ShorthandTag t i))
  marked_reached i a = by_cases (LongTag t i)
      (λ p. sure (long_of p.is p.long p.suffix))
      (λ n. by_cases (Suffix t (i + 1))
      (λ s. sure (reached s.end _ (lone_chosen t i a (λ h j q l r. n (record { handle = h; end = j; is = q; long = l; suffix = r })) s.run)))
      (λ m. sure (unreached (record { none = λ j v d. no_tag n m d }))))

  shorthand_reached : (i : ℕ) → Irrefutable (ChosenOrStuck (ShorthandTag t i))
  shorthand_reached i = ⊎_elim (λ (a : code t i ≡ 33). marked_reached i a)
      (λ (n : code t i ≢ 33). sure (unreached (record { none = λ j v d. n (tag_mark (shorthand_tag d)) })))
      (cases_eq (code t i) 33)

  no_tag_at_all : {i j : ℕ} {v : TagValue} → Stuck (VerbatimTag t i) → Stuck (ShorthandTag t i) → (Stuck (TagChar t (i + 1)) → ⊥) → TagProperty t i j v → ⊥
  no_tag_at_all a b n (verbatim_tag {j = j} {text = x} d) = a.none j x d
  no_tag_at_all a b n (shorthand_tag {j = j} {tag = v} d) = b.none j v d
  no_tag_at_all a b n (non_specific_tag e s) = n s

  mark_reached : (i : ℕ) → Stuck (VerbatimTag t i) → Stuck (ShorthandTag t i) → Irrefutable (ChosenOrStuck (TagProperty t i))
  mark_reached i a b = by_cases (Stuck (TagChar t (i + 1)))
      (λ s. ⊎_elim (λ (e : code t i ≡ 33). sure (reached (i + 1) _ (non_specific_chosen e a b s)))
      (λ (n : code t i ≢ 33). sure (unreached (no_mark n)))
      (cases_eq (code t i) 33))
      (λ n. sure (unreached (record { none = λ j v d. no_tag_at_all a b n d })))

  past_verbatim : (i : ℕ) → ChosenOrStuck (VerbatimTag t i) → ChosenOrStuck (ShorthandTag t i) → Irrefutable (ChosenOrStuck (TagProperty t i))
  past_verbatim i (reached j x c) r = sure (reached j _ (verbatim_tag_chosen c))
  past_verbatim i (unreached s) (reached j v c) = sure (reached j v (shorthand_tag_chosen s c))
  past_verbatim i (unreached s) (unreached m) = mark_reached i s m

  tag_reached : (i : ℕ) → Irrefutable (ChosenOrStuck (TagProperty t i))
  tag_reached i = then (verbatim_reached i) (λ v. then (shorthand_reached i) (λ s. past_verbatim i v s))

module _ {t : List ℕ} (u : IsUtf8 t) (n : ℤ) (c : Ctx) where
  tag_after : {i h k : ℕ} {a : List ℕ} {x : List CommentValue} → Anchor t i h a → Chosen (Separate t n c h) k x → ChosenOrStuck (TagProperty t k)
      → ChosenOrStuck (Properties t n c i)
  tag_after a s (reached j v g) = reached j _ (anchor_then_tag a s g)
  tag_after {h = h} a s (unreached g) = reached h _ (anchor_alone a (no_tag_after s g))

  anchor_first_reached : {i h : ℕ} {a : List ℕ} → Anchor t i h a → ChosenOrStuck (Separate t n c h) → Irrefutable (ChosenOrStuck (Properties t n c i))
  anchor_first_reached a (reached k x s) = then (tag_reached k) (λ g. sure (tag_after a s g))
  anchor_first_reached {h = h} a (unreached s) = sure (reached h _ (anchor_alone a (λ l m y v r e. s.none l y r)))

  anchor_after : {i h k : ℕ} {v : TagValue} {x : List CommentValue} → Chosen (TagProperty t i) h v → Chosen (Separate t n c h) k x → ChosenOrStuck (Anchor t k)
      → ChosenOrStuck (Properties t n c i)
  anchor_after g s (reached j a b) = reached j _ (tag_then_anchor u g s b.derived)
  anchor_after {h = h} g s (unreached b) = reached h _ (tag_alone u g (no_anchor_after s b))

  tag_first_reached : {i h : ℕ} {v : TagValue} → Chosen (TagProperty t i) h v → ChosenOrStuck (Separate t n c h) → Irrefutable (ChosenOrStuck (Properties t n c i))
  tag_first_reached g (reached k x s) = then (anchor_reached k) (λ a. sure (anchor_after g s a))
  tag_first_reached {h = h} g (unreached s) = sure (reached h _ (tag_alone u g (λ l m y a r e. s.none l y r)))

  no_anchor_reached : {i : ℕ} → Stuck (Anchor t i) → ChosenOrStuck (TagProperty t i) → Irrefutable (ChosenOrStuck (Properties t n c i))
  no_anchor_reached a (reached h v g) = then (separate_reached u n c h) (λ s. tag_first_reached g s)
  no_anchor_reached a (unreached g) = sure (unreached (no_properties a g))

  first_reached : (i : ℕ) → ChosenOrStuck (Anchor t i) → Irrefutable (ChosenOrStuck (Properties t n c i))
  first_reached i (reached h x a) = then (separate_reached u n c h) (λ s. anchor_first_reached a.derived s)
  first_reached i (unreached a) = then (tag_reached i) (λ g. no_anchor_reached a g)

  pub properties_reached : (i : ℕ) → Irrefutable (ChosenOrStuck (Properties t n c i))
  properties_reached i = then (anchor_reached i) (λ a. first_reached i a)

-- quoted scalars that close at one quote have one meaning
module _ {A : Type 0} {t : List ℕ} {put : List ℕ → List A} {C B : ℕ → ℕ → List A → Type 0} {quote : ℕ} (l : Laws t put C B quote) where
  tail_one : {m p k : ℕ} {last other z : List A} → Gap t put B m k last → code t k ≡ quote → Chain (Step t put C B) m p z → Gap t put B p k other → z ++ other ≡ last
  tail_one {m} {k = k} {last = last} {other = other} g q done h = (l.ends m k k other last h (inr q) g (inr q)).1
  tail_one {m} {p} {k} {last} {other} g q (step {h = n} s c) h =
      let same = (l.ends m k s.at last s.front g (inr q) s.gap (inl (n, s.char, s.is))).0 in
      let f = l.chars.forward s.is in
      let e = chain_forward (step_functional l) c in
      let o = l.order p k other h in
      absurd (omega arith)

  bodies_one : {i k : ℕ} {x y : List A} → Body t put C B quote i k x → Body t put C B quote i k y → y ≡ x
  bodies_one {i} {k} {x} {y} a b = b.text ∙ go (chain_meet (step_functional l) a.steps b.steps) ∙ sym a.text where
    go : Meets (Step t put C B) a.at b.at a.front b.front → b.front ++ b.last ≡ a.front ++ a.last
    go (goes_on z c e) = ap (λ w. w ++ b.last) e ∙ append_assoc a.front z b.last ∙ ap (λ w. a.front ++ w) (tail_one a.gap a.closing c b.gap)
    go (falls_short z c e) = sym (ap (λ w. w ++ a.last) e ∙ append_assoc b.front z a.last ∙ ap (λ w. b.front ++ w) (tail_one b.gap b.closing c a.gap))

module _ {t : List ℕ} {n : ℤ} {c : Ctx} (b : is_block c ≡ false) where
  single_one : {i j : ℕ} {x y : List ℕ} → SingleQuoted t n c i j x → SingleQuoted t n c i j y → y ≡ x
  single_one {i} {j} {x} {y} p q =
      let w = some_width n c b in
      let e = p.end in
      let f = q.end in
      let same : q.close ≡ p.close = omega arith in
      let other = quoted_body (single_kind t) w.1 q in
      bodies_one (single_laws t w.0) (quoted_body (single_kind t) w.1 p)
      (subst (λ k. Body t as_they_are (SingleChar t) (SingleBreaks t w.0) 39 (i + 1) k y) same other)

  pub single_reached : (i : ℕ) → Irrefutable (ChosenOrStuck (SingleQuoted t n c i))
  single_reached i = bounded_reached (SingleQuoted t n c i) (length t)
      (λ j x p.
      let e = p.end in
      let k = p.closing in
      let f = within_from_code t p.close (omega arith) in
      omega arith)
      (λ j x y p q. single_one p q)

  pub double_reached : (i : ℕ) → Irrefutable (ChosenOrStuck (DoubleQuoted t n c i))
  double_reached i = one_reached (DoubleQuoted t n c i) (λ j k x y p q. double_same b p q)

pub scalar_reached : {t : List ℕ} → IsUtf8 t → (n : ℤ) (i : ℕ) → Irrefutable (ChosenOrStuck (BlockScalar t n i))
scalar_reached {t} u n i = one_reached (BlockScalar t n i) (λ j k x y p q. scalar_one u p q)
