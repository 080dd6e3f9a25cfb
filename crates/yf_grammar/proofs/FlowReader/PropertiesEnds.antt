-- Properties are the longest ones if a separation and content follow them, or the end of an entry.
use Rattle.std.proofs.Common.{◌≡◌, ◌≢◌, ℕ, ℤ, ◌+◌, ◌-◌, ◌<◌, ◌≤◌, Bool, true, false, ◌||◌, ◌==◌, ◌⊎◌, inl, inr, ⊎_elim, List, refl, sym, ap, ◌∙◌, subst, arith, true≢false}
use Rattle.std.proofs.lemmas.Bool.{cases_lt, ne_eqb}
use Rattle.std.proofs.lemmas.Bool.Decides.{nat_tests}
use Rattle.std.specs.Str.{IsUtf8}
use Rattle.yf_chars.specs.declared.context.Ctx.{Ctx}
use Rattle.yf_chars.specs.Text.{code}
use Rattle.yf_chars.specs.Class.{is_tag_char, is_word_char, is_digit, is_between, is_flow_indicator, is_uri_char, is_ns_char, is_nb_char, is_printable, is_break_char, is_white}
use Rattle.yf_chars.specs.Chain.{Chain, Stuck, Chosen}
use Rattle.yf_chars.specs.Chain.Chain.{done, step}
use Rattle.yf_chars.specs.Chain.One.{one}
use Rattle.yf_chars.proofs.ChainLemmas.{one_functional, stuck_unique}
use Rattle.yf_comments.specs.Comment.{CommentValue}
use Rattle.yf_comments.specs.Comments.{Separate}
use Rattle.yf_props.specs.Props.{TagValue}
use Rattle.yf_props.specs.Names.{WordChar, TagChar, Run, Anchor, Handle, VerbatimTag, ShorthandTag, TagProperty, Properties, PropertiesValue}
use Rattle.yf_props.specs.Names.SpelledChar.{as_itself, as_escape}
use Rattle.yf_props.specs.Names.Handle.{primary_handle, secondary_handle, named_handle}
use Rattle.yf_props.specs.Names.VerbatimTag.{in_brackets}
use Rattle.yf_props.specs.Names.ShorthandTag.{handle_suffix}
use Rattle.yf_props.specs.Names.TagProperty.{verbatim_tag, shorthand_tag, non_specific_tag}
use Rattle.yf_props.specs.Names.Properties.{by_tag, by_anchor, tag_first, anchor_first}
use Rattle.yf_props.proofs.NameLemmas.{anchor_parts, anchor_unique, run_unique}
use Rattle.yf_props.proofs.TagLemmas.{tag_mark, tag_later, tag_functional, word_uri, verbatim_chosen, verbatim_tag_chosen, word_flow, word_tag}
use Rattle.yf_props.proofs.SeparationEnds.{no_separation_inside, separate_forward}
use Rattle.yf_props.proofs.SolidLemmas.{tag_all_solid}
use Rattle.yf_grammar.specs.Productions.Grammar.{MaySeparate}
use Rattle.yf_grammar.specs.Productions.Grammar.MaySeparate.{unseparated, separated}
use Rattle.yf_grammar.specs.FlowReader.Parser.{begins_properties}
use Rattle.yf_grammar.proofs.Ends.GapLemmas.{Visible, separate_still, same_end}
use Rattle.yf_chars.proofs.CharFacts.{exclamation_no_tag, exclamation_no_word, angle_no_tag, angle_no_word}
use Rattle.yf_props.proofs.NameOrder.{properties_forward}

-- the characters after a node in a flow collection: a comma, a closing bracket, or the `:` after a key
unfoldable pub is_stop : ℕ → Bool
is_stop c = (c == 44) || (c == 93) || (c == 125) || (c == 58)

stop_no_word : (c : ℕ) → is_stop c ≡ true → is_word_char c ≡ false
unfolding is_stop is_word_char is_digit is_between
stop_no_word c e = grind (arith, nat_tests)

stop_not : (c d : ℕ) → is_stop c ≡ true → is_stop d ≡ false → c ≢ d
stop_not c d e f g = true≢false (sym e ∙ ap is_stop g ∙ f)

stop_marks : (is_stop 33 ≡ false) × (is_stop 60 ≡ false) × (is_stop 38 ≡ false) × (is_stop 35 ≡ false)
unfolding is_stop
stop_marks = (refl, refl, refl, refl)

pub stop_not_hash : (c : ℕ) → is_stop c ≡ true → c ≢ 35
stop_not_hash c e = stop_not c 35 e stop_marks.3

begin_marks : (begins_properties 33 ≡ true) × (begins_properties 38 ≡ true)
unfolding begins_properties
begin_marks = (refl, refl)

stop_no_begin : (c : ℕ) → is_stop c ≡ true → begins_properties c ≡ false
unfolding is_stop begins_properties
stop_no_begin c e = grind (arith, nat_tests)

pub stop_ns : (c : ℕ) → is_stop c ≡ true → is_ns_char c ≡ true
unfolding is_stop is_ns_char is_nb_char is_printable is_between is_break_char is_white
stop_ns c e = grind (arith, nat_tests)

ns_marks : (is_ns_char 33 ≡ true) × (is_ns_char 38 ≡ true)
unfolding is_ns_char is_nb_char is_printable is_between is_break_char is_white
ns_marks = (refl, refl)

module _ {t : List ℕ} where
  tag_first_char : {i j : ℕ} {x : List ℕ} → TagChar t i j x → (is_tag_char (code t i) ≡ true) ⊎ (code t i ≡ 37)
  tag_first_char (as_itself e) = inl e
  tag_first_char (as_escape a b c) = inr a

  tags_first : {i j : ℕ} {x : List ℕ} → Chain (TagChar t) i j x → i < j → (is_tag_char (code t i) ≡ true) ⊎ (code t i ≡ 37)
  tags_first done l = absurd (omega arith)
  tags_first (step s c) l = tag_first_char s

  word_first_char : {i j : ℕ} {x : List ℕ} → WordChar t i j x → is_word_char (code t i) ≡ true
  word_first_char (one e) = e

  words_first : {i j : ℕ} {x : List ℕ} → Chain (WordChar t) i j x → i < j → is_word_char (code t i) ≡ true
  words_first done l = absurd (omega arith)
  words_first (step s c) l = word_first_char s

  word_tag_step : {i j : ℕ} {x : List ℕ} → WordChar t i j x → TagChar t i j x
  word_tag_step (one {i = i} e) = as_itself (word_tag (code t i) e)

  word_tag_steps : {i j : ℕ} {x : List ℕ} → Chain (WordChar t) i j x → Chain (TagChar t) i j x
  word_tag_steps done = done
  word_tag_steps (step s c) = step (word_tag_step s) (word_tag_steps c)

  no_tag_at : {i j : ℕ} (c : ℕ) → Run (TagChar t) i j → code t i ≡ c → is_tag_char c ≡ false → c ≢ 37 → ⊥
  no_tag_at c r e f n = ⊎_elim (λ (q : is_tag_char (code t _) ≡ true). true≢false (sym q ∙ ap is_tag_char e ∙ f)) (λ (q : code t _ ≡ 37). n (sym e ∙ q)) (tags_first r.chain r.some)

  no_word_at : {i j : ℕ} → Run (WordChar t) i j → is_word_char (code t i) ≡ false → ⊥
  no_word_at r f = true≢false (sym (words_first r.chain r.some) ∙ f)

  mark_no_word : {i j : ℕ} → Run (WordChar t) i j → code t i ≡ 33 → ⊥
  mark_no_word r e = no_word_at r (ap is_word_char e ∙ exclamation_no_word)

  -- the suffix after a single `!` ends where a longer handle ends
  suffix_end : {i w k : ℕ} → Run (WordChar t) i w → code t w ≡ 33 → Run (TagChar t) i k → k ≡ w
  suffix_end {w = w} s b r =
      let stuck : Stuck (TagChar t w) = record { none = λ j x d. ⊎_elim (λ (q : is_tag_char (code t w) ≡ true). true≢false (sym q ∙ ap is_tag_char b ∙ exclamation_no_tag)) (λ (q : code t w ≡ 37). absurd (omega arith)) (tag_first_char d) } in
      (stuck_unique tag_functional r.chain r.all (word_tag_steps s.chain) stuck).0

  words_unique : {i w v : ℕ} → Run (WordChar t) i w → Run (WordChar t) i v → w ≡ v
  words_unique r s = run_unique (one_functional t is_word_char) r s

  tags_unique : {i w v : ℕ} → Run (TagChar t) i w → Run (TagChar t) i v → w ≡ v
  tags_unique r s = run_unique tag_functional r s

  -- two shorthands from one offset
  two_handles : {i h g m k : ℕ} → Handle t i h → Run (TagChar t) h g → Handle t i m → Run (TagChar t) m k → is_stop (code t g) ≡ true → g < k → ⊥
  two_handles (primary_handle a) r (primary_handle b) s e l = let q = tags_unique r s in omega arith
  two_handles (primary_handle a) r (secondary_handle b c) s e l = no_tag_at 33 r c exclamation_no_tag (λ q. absurd (omega arith))
  two_handles {g = g} (primary_handle a) r (named_handle {j = w} b n c) s e l =
      let q = suffix_end n c r in stop_not (code t g) 33 e stop_marks.0 (ap (code t) q ∙ c)
  two_handles (secondary_handle a b) r (primary_handle c) s e l = no_tag_at 33 s b exclamation_no_tag (λ q. absurd (omega arith))
  two_handles (secondary_handle a b) r (secondary_handle c d) s e l = let q = tags_unique r s in omega arith
  two_handles (secondary_handle a b) r (named_handle c n d) s e l = mark_no_word n b
  two_handles (named_handle a n b) r (primary_handle c) s e l = let q = suffix_end n b s in let f = r.some in omega arith
  two_handles (named_handle a n b) r (secondary_handle c d) s e l = mark_no_word n d
  two_handles {g = g} (named_handle a n b) r (named_handle c m d) s e l =
      let q = words_unique n m in
      let r' : Run (TagChar t) (_ + 1) g = subst (λ v. Run (TagChar t) (v + 1) g) q r in
      let p = tags_unique r' s in omega arith

  bracket_handle : {i h g : ℕ} → Handle t i h → Run (TagChar t) h g → code t (i + 1) ≡ 60 → ⊥
  bracket_handle (primary_handle a) r e = no_tag_at 60 r e angle_no_tag (λ q. absurd (omega arith))
  bracket_handle (secondary_handle a b) r e = absurd (omega arith)
  bracket_handle (named_handle a n b) r e = let q = words_first n.chain n.some in true≢false (sym q ∙ ap is_word_char e ∙ angle_no_word)

  verbatim_open : {i k : ℕ} {x : List ℕ} → VerbatimTag t i k x → code t (i + 1) ≡ 60
  verbatim_open (in_brackets a b r c) = b

  verbatim_longest : {i j k : ℕ} {x : List ℕ} {v : TagValue} → VerbatimTag t i j x → TagProperty t i k v → k ≤ j
  verbatim_longest {i = i} {k = k} {v = v} (in_brackets a b r c) d = (verbatim_tag_chosen (verbatim_chosen a b r c)).longest k v d

  short_alone : {i h k : ℕ} → Stuck (TagChar t (i + 1)) → Handle t i h → Run (TagChar t) h k → is_stop (code t (i + 1)) ≡ true → ⊥
  short_alone s (primary_handle a) r e = run_start s r.chain r.some where
    run_start : {i j : ℕ} {x : List ℕ} → Stuck (TagChar t i) → Chain (TagChar t) i j x → i < j → ⊥
    run_start s done l = absurd (omega arith)
    run_start s (step {h = h} {x = x} d c) l = s.none h x d
  short_alone {i} s (secondary_handle a b) r e = stop_not (code t (i + 1)) 33 e stop_marks.0 b
  short_alone {i} s (named_handle a n b) r e = no_word_at n (stop_no_word (code t (i + 1)) e)

  shorthand_short : {i g k : ℕ} {v w : TagValue} → ShorthandTag t i g v → TagProperty t i k w → is_stop (code t g) ≡ true → g < k → ⊥
  shorthand_short (handle_suffix h r) (verbatim_tag d) e l = bracket_handle h r (verbatim_open d)
  shorthand_short (handle_suffix h r) (shorthand_tag (handle_suffix m s)) e l = two_handles h r m s e l
  shorthand_short (handle_suffix h r) (non_specific_tag a s) e l = let f = handle_later h in let g = r.some in omega arith where
    handle_later : {i h : ℕ} → Handle t i h → i < h
    handle_later (primary_handle a) = omega arith
    handle_later (secondary_handle a b) = omega arith
    handle_later (named_handle a n b) = let f = n.some in omega arith

  alone_short : {i k : ℕ} {w : TagValue} → Stuck (TagChar t (i + 1)) → TagProperty t i k w → is_stop (code t (i + 1)) ≡ true → i + 1 < k → ⊥
  alone_short {i} s (verbatim_tag d) e l = stop_not (code t (i + 1)) 60 e stop_marks.1 (verbatim_open d)
  alone_short s (shorthand_tag (handle_suffix m r)) e l = short_alone s m r e
  alone_short s (non_specific_tag a r) e l = omega arith

  -- a tag before the end of an entry is the longest
  pub tag_before_stop : {i g k : ℕ} {v w : TagValue} → TagProperty t i g v → TagProperty t i k w → is_stop (code t g) ≡ true → g < k → ⊥
  tag_before_stop (verbatim_tag d) e f l = let q = verbatim_longest d e in omega arith
  tag_before_stop (shorthand_tag d) e f l = shorthand_short d e f l
  tag_before_stop (non_specific_tag a s) e f l = alone_short s e f l

  -- likewise before a separation
  pub tag_before_separation : {n : ℤ} {c : Ctx} {i g k m : ℕ} {v w : TagValue} {x : List CommentValue} → IsUtf8 t → TagProperty t i g v → TagProperty t i k w
      → Separate t n c g m x → g < k → ⊥
  tag_before_separation {g = g} {m = m} {x = x} u d e s l =
      let f = tag_later d in
      let all = tag_all_solid e in
      (no_separation_inside t u (g - 1) g (omega arith) (all.each (g - 1) (omega arith) (omega arith)) (all.each g (omega arith) l)).none m x s

-- properties end at g: no longer tag is derived, and no anchor or tag follows a separation there
record Ended (t : List ℕ) (n : ℤ) (c : Ctx) (g : ℕ) : Type 0 where
  no_longer : {i k : ℕ} {v w : TagValue} → TagProperty t i g v → TagProperty t i k w → g < k → ⊥
  no_second : (k : ℕ) (x : List CommentValue) → Separate t n c g k x → (code t k ≡ 33) ⊎ (code t k ≡ 38) → ⊥

mark_visible : {t : List ℕ} (k : ℕ) → (code t k ≡ 33) ⊎ (code t k ≡ 38) → Visible t k
mark_visible {t} k o = record { ns = ⊎_elim (λ (e : code t k ≡ 33). ap is_ns_char e ∙ ns_marks.0) (λ (e : code t k ≡ 38). ap is_ns_char e ∙ ns_marks.1) o; no_hash = ⊎_elim (λ (e : code t k ≡ 33) (q : code t k ≡ 35). omega arith) (λ (e : code t k ≡ 38) (q : code t k ≡ 35). omega arith) o }

no_begin : (t : List ℕ) (k : ℕ) → begins_properties (code t k) ≡ false → (code t k ≡ 33) ⊎ (code t k ≡ 38) → ⊥
no_begin t k e o = ⊎_elim (λ (f : code t k ≡ 33). true≢false (sym begin_marks.0 ∙ ap begins_properties (sym f) ∙ e))
    (λ (f : code t k ≡ 38). true≢false (sym begin_marks.1 ∙ ap begins_properties (sym f) ∙ e)) o

module _ {t : List ℕ} where
  anchor_here : {i j : ℕ} {x : List ℕ} → Anchor t i j x → code t i ≡ 38
  anchor_here a = (anchor_parts a).0

  anchor_later : {i j : ℕ} {x : List ℕ} → Anchor t i j x → i < j
  anchor_later a = let r = (anchor_parts a).1 in omega (arith, r.some)

  tag_no_anchor : {i j k : ℕ} {x : List ℕ} {v : TagValue} → TagProperty t i j v → Anchor t i k x → ⊥
  tag_no_anchor d a = let e = tag_mark d in let f = anchor_here a in absurd (omega arith)

module _ {t : List ℕ} {n : ℤ} {c : Ctx} where
  -- the separation after the first property has one end
  second_place : {h k l : ℕ} {x y : List CommentValue} → Separate t n c h k x → (code t k ≡ 33) ⊎ (code t k ≡ 38) → Separate t n c h l y
      → (code t l ≡ 33) ⊎ (code t l ≡ 38) → l ≡ k
  second_place {k = k} {l = l} s e r f = same_end (mark_visible k e) s (mark_visible l f) r

  tag_tag : {h m g k : ℕ} {v w : TagValue} → Ended t n c g → TagProperty t h g v → h ≡ m → TagProperty t m k w → k ≤ g
  tag_tag {g = g} {k = k} {w = w} e d q f =
      let f' : TagProperty t _ k w = subst (λ z. TagProperty t z k w) (sym q) f in
      ⊎_elim (λ (l : g < k). absurd (e.no_longer d f' l)) (λ (l : k ≤ g). l) (cases_lt g k)

  -- the first property ends no later
  tag_meets : {i h m k : ℕ} {v w : TagValue} {x : List CommentValue} → IsUtf8 t → TagProperty t i h v → Separate t n c h k x → TagProperty t i m w → m ≤ h
  tag_meets {h = h} {m = m} u d s e = ⊎_elim (λ (l : h < m). absurd (tag_before_separation u d e s l)) (λ (l : m ≤ h). l) (cases_lt h m)

  longest : {i g k : ℕ} {p q : PropertiesValue} → IsUtf8 t → Ended t n c g → Properties t n c i g p → Properties t n c i k q → k ≤ g
  longest u e (by_tag d) (by_tag f) = tag_tag e d refl f
  longest u e (by_tag d) (by_anchor a) = absurd (tag_no_anchor d a)
  longest {g = g} u e (by_tag d) (tag_first {h = h} {k = k} {x = x} f s a) =
      let l = tag_meets u f s d in
      ⊎_elim (λ (m : g < h). absurd (e.no_longer d f m))
      (λ (m : h ≤ g). let q : h ≡ g = omega arith in absurd (e.no_second k x (subst (λ z. Separate t n c z k x) q s) (inr (anchor_here a))))
      (cases_lt g h)
  longest u e (by_tag d) (anchor_first a s f) = absurd (tag_no_anchor d a)
  longest u e (by_anchor a) (by_tag f) = absurd (tag_no_anchor f a)
  longest u e (by_anchor a) (by_anchor b) = let q = (anchor_unique a b).0 in omega arith
  longest u e (by_anchor a) (tag_first f s b) = absurd (tag_no_anchor f a)
  longest u e (by_anchor a) (anchor_first {k = k} {x = x} b s f) =
      let q = (anchor_unique a b).0 in
      absurd (e.no_second k x (subst (λ z. Separate t n c z k x) q s) (inl (tag_mark f)))
  longest u e (tag_first d s a) (by_tag f) =
      let l = tag_meets u d s f in let m = separate_forward s in let o = anchor_later a in omega arith
  longest u e (tag_first d s a) (by_anchor b) = absurd (tag_no_anchor d b)
  longest u e (tag_first {h = h} {k = k} d s a) (tag_first {h = m} {k = l} {j = j} {x = x} {name = y} f r b) =
      let o = tag_meets u d s f in
      let p = tag_meets u f r d in
      let same : m ≡ h = omega arith in
      let place = second_place s (inr (anchor_here a)) (subst (λ z. Separate t n c z l x) same r) (inr (anchor_here b)) in
      let q = (anchor_unique a (subst (λ z. Anchor t z j y) place b)).0 in
      omega arith
  longest u e (tag_first d s a) (anchor_first b r f) = absurd (tag_no_anchor d b)
  longest u e (anchor_first a s d) (by_tag f) = absurd (tag_no_anchor f a)
  longest u e (anchor_first a s d) (by_anchor b) =
      let q = (anchor_unique a b).0 in let m = separate_forward s in let o = tag_later d in omega arith
  longest u e (anchor_first a s d) (tag_first f r b) = absurd (tag_no_anchor f a)
  longest u e (anchor_first {k = k} a s d) (anchor_first {k = l} {x = x} b r f) =
      let q = (anchor_unique a b).0 in
      let place = second_place s (inl (tag_mark d)) (subst (λ z. Separate t n c z l x) q r) (inl (tag_mark f)) in
      tag_tag e d (sym place) f

  chosen_from : {i g k : ℕ} {p q : PropertiesValue} → IsUtf8 t → Ended t n c g → Properties t n c i g p → Chosen (Properties t n c i) k q → (k ≡ g) × (q ≡ p)
  chosen_from {i} {g} {k} {p} u e d best =
      let a = best.longest g p d in
      let b = longest u e d best.derived in
      let same : k ≡ g = omega arith in
      (same, sym (best.only p (subst (λ z. Properties t n c i z p) (sym same) d)))

  ended_before : {g m : ℕ} {x : List CommentValue} → IsUtf8 t → Separate t n c g m x → Visible t m → begins_properties (code t m) ≡ false → Ended t n c g
  ended_before {g = g} {m = m} u s v f = record {
    no_longer = λ a b l. tag_before_separation u a b s l;
    no_second = λ k y r o. no_begin t m f (subst (λ z. (code t z ≡ 33) ⊎ (code t z ≡ 38)) (same_end v s (mark_visible k o) r) o);
  }

  ended_alone : {g m : ℕ} {x : List CommentValue} → IsUtf8 t → MaySeparate t n c g m x → Visible t m → is_stop (code t m) ≡ true → Ended t n c g
  ended_alone {g = g} u (separated {j = m} s) v f = ended_before u s v (stop_no_begin (code t m) f)
  ended_alone {g = g} u unseparated v f = record {
    no_longer = λ a b l. tag_before_stop a b f l;
    no_second = λ k y r o. no_begin t g (stop_no_begin (code t g) f) (subst (λ z. (code t z ≡ 33) ⊎ (code t z ≡ 38)) (separate_still v r).0 o);
  }

  ended_line : {m : ℤ} {d : Ctx} {g l : ℕ} {x : List CommentValue} → IsUtf8 t → Separate t m d g l x → ((h : ℕ) (y : List CommentValue) → Separate t n c g h y → Visible t h → ⊥) → Ended t n c g
  ended_line u s f = record { no_longer = λ a b l. tag_before_separation u a b s l; no_second = λ h y r o. f h y r (mark_visible h o) }

  -- the reader takes the properties that are before a separation and content
  pub properties_before : {i g m k : ℕ} {p q : PropertiesValue} {x : List CommentValue} → IsUtf8 t → Properties t n c i g p → Separate t n c g m x
      → Visible t m → begins_properties (code t m) ≡ false → Chosen (Properties t n c i) k q → (k ≡ g) × (q ≡ p)
  properties_before u d s v f best = chosen_from u (ended_before u s v f) d best

  -- properties without content, before the end of an entry
  pub properties_alone_before : {i g m k : ℕ} {p q : PropertiesValue} {x : List CommentValue} → IsUtf8 t → Properties t n c i g p → MaySeparate t n c g m x
      → Visible t m → is_stop (code t m) ≡ true → Chosen (Properties t n c i) k q → (k ≡ g) × (q ≡ p)
  properties_alone_before u d s v f best = chosen_from u (ended_alone u s v f) d best

  -- and those before a separation that they cannot pass
  pub properties_before_line : {m : ℤ} {d : Ctx} {i g l k : ℕ} {p q : PropertiesValue} {x : List CommentValue} → IsUtf8 t → Properties t n c i g p → Separate t m d g l x
      → ((h : ℕ) (y : List CommentValue) → Separate t n c g h y → Visible t h → ⊥) → Chosen (Properties t n c i) k q → (k ≡ g) × (q ≡ p)
  properties_before_line u e s f best = chosen_from u (ended_line u s f) e best

  -- no properties that are derived there end later
  pub properties_upto : {i g m k : ℕ} {p q : PropertiesValue} {x : List CommentValue} → IsUtf8 t → Properties t n c i g p → Separate t n c g m x
      → Visible t m → begins_properties (code t m) ≡ false → Properties t n c i k q → k ≤ g
  properties_upto u d s v f e = longest u (ended_before u s v f) d e

  pub properties_alone_upto : {i g m k : ℕ} {p q : PropertiesValue} {x : List CommentValue} → IsUtf8 t → Properties t n c i g p → MaySeparate t n c g m x
      → Visible t m → is_stop (code t m) ≡ true → Properties t n c i k q → k ≤ g
  properties_alone_upto u d s v f e = longest u (ended_alone u s v f) d e

  pub properties_upto_line : {m : ℤ} {d : Ctx} {i g l k : ℕ} {p q : PropertiesValue} {x : List CommentValue} → IsUtf8 t → Properties t n c i g p → Separate t m d g l x
      → ((h : ℕ) (y : List CommentValue) → Separate t n c g h y → Visible t h → ⊥) → Properties t n c i k q → k ≤ g
  properties_upto_line u e s f r = longest u (ended_line u s f) e r

-- properties begin with & or !
pub properties_begin : {t : List ℕ} {n : ℤ} {c : Ctx} {i j : ℕ} {p : PropertiesValue} → Properties t n c i j p → begins_properties (code t i) ≡ true
properties_begin (by_tag d) = ap begins_properties (tag_mark d) ∙ begin_marks.0
properties_begin (by_anchor a) = ap begins_properties (anchor_parts a).0 ∙ begin_marks.1
properties_begin (tag_first d s a) = ap begins_properties (tag_mark d) ∙ begin_marks.0
properties_begin (anchor_first a s d) = ap begins_properties (anchor_parts a).0 ∙ begin_marks.1
