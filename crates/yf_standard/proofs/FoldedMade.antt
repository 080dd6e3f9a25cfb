-- The lines of a folded scalar (8.1.3) in the groups of the standard; each group of folded lines is as long as possible
-- (176).
use Rattle.std.proofs.Common.{◌≡◌, ℕ, ◌+◌, ◌<◌, ◌≤◌, pos, Bool, true, false, true≢false, not, List, [], ◌∷◌, ◌++◌, length, refl, sym, ap, ◌∙◌, subst, ⊎_elim, arith}
use Rattle.std.proofs.lemmas.Bool.{cases_Bool, cases_lt, and_parts}
use Rattle.yf_chars.specs.declared.context.Ctx.TheVariants.{BlockIn}
use Rattle.yf_chars.specs.Text.{code, no_char}
use Rattle.yf_chars.specs.Class.{is_nb_char, is_ns_char, is_white}
use Rattle.yf_chars.specs.Chain.{Chain, Many, Stuck}
use Rattle.yf_chars.specs.Chain.Chain.{done, step}
use Rattle.yf_chars.specs.Chain.One.{one}
use Rattle.yf_lines.specs.Basic.{Break, Spaces, Empty, FoldedBreak}
use Rattle.yf_lines.specs.Basic.FoldedBreak.{trimmed, as_space}
use Rattle.yf_block_scalar.specs.Body.{SpaceLine, EmptyLines, largest, Ends, LineContent, Line}
use Rattle.yf_block_scalar.specs.Body.EmptyLines.{bare}
use Rattle.yf_block_scalar.specs.Body.Ends.{by_break, by_text}
use Rattle.yf_block_scalar.specs.Body.Line.{empty_line, content_line}
use Rattle.yf_standard.specs.Notation.Form.{◌⋆, ◌∙◌ as ◌then◌, b-as-line-feed, b-l-folded, s-nb-folded-text, l-nb-spaced-lines, l-nb-same-lines}
use Rattle.yf_standard.specs.Productions.{rule}
use Rattle.yf_standard.specs.Literal.{kind}
use Rattle.yf_standard.specs.Literal.Derived.{by_rule, one_of, one_then, in_left, in_right, no_more, one_more, where_holds}
use Rattle.yf_standard.specs.Rules.{read, NoFoldedLine}
use Rattle.yf_standard.proofs.BasicsMade.{Read, chars_made, many_made, feed_made, empty_made, indent_made, folded_made}
use Rattle.yf_standard.proofs.Basics.{SomeOf}
use Rattle.yf_standard.proofs.Texts.{Texts, Empties, empty_line_read}
use Rattle.yf_standard.proofs.Texts.Texts.{last_text, more_texts}
use Rattle.yf_standard.proofs.Sets.{nb_char_is, ns_char_is, white_is}
use Rattle.yf_chars.proofs.TextLemmas.{code-end}
use Rattle.yf_lines.proofs.BasicLemmas.{break_char, break_unique}
use Rattle.yf_lines.proofs.FoldLemmas.{indent_width}
use Rattle.yf_block_scalar.proofs.BodyLemmas.{break_no_space, break_no_nb}
use Rattle.yf_block_scalar.proofs.UniqueLemmas.{space_line_unique, not_empty_too, many_nb}

-- a line with content is not an empty line
no_empty : {t : List ℕ} {k a h : ℕ} {z : List ℕ} → Spaces t a k → is_nb_char (code t (a + k)) ≡ true → Empty t (pos k) BlockIn a h z → ⊥
no_empty {t} {k} {a} {h} {z} s n e = go (empty_line_read t k a h z e) where
  go : (m : ℕ) × (SpaceLine t a m h × (m ≤ k)) → ⊥
  go p = ⊎_elim (λ (l : p.0 < k). break_no_space p.1.0.ends (s.each p.0 l))
      (λ (l : k ≤ p.0).
      let same : p.0 ≡ k = omega (arith, l, p.1.1) in
      true≢false (sym n ∙ ap (λ w. is_nb_char (code t (a + w))) (sym same) ∙ break_no_nb p.1.0.ends)) (cases_lt p.0 k)

no_empty_content : {t : List ℕ} {k a h j : ℕ} {z w : List ℕ} {o : Bool} → LineContent t k a j w o → Empty t (pos k) BlockIn a h z → ⊥
no_empty_content {t} {k} {a} {h} {z = z} c e = let p = empty_line_read t k a h z e in not_empty_too p.1.0 p.1.1 c

no_break : {t : List ℕ} {z j : ℕ} → z ≡ length t → Break t z j → ⊥
no_break {t} {z} e b =
    let q : code t z ≡ no_char = ap (code t) e ∙ code-end t in
    ⊎_elim (λ (h : code t z ≡ 13). absurd (omega (arith, h, q))) (λ (h : code t z ≡ 10). absurd (omega (arith, h, q))) (break_char b)

-- empty lines before lines with content end at one offset
module _ {t : List ℕ} {k : ℕ} where
  same_place : {i a b : ℕ} {x y : List ℕ} → Chain (Empty t (pos k) BlockIn) i a x → Chain (Empty t (pos k) BlockIn) i b y
      → ((h : ℕ) (z : List ℕ) → Empty t (pos k) BlockIn a h z → ⊥) → ((h : ℕ) (z : List ℕ) → Empty t (pos k) BlockIn b h z → ⊥) → a ≡ b
  same_place done done f g = refl
  same_place done (step {h = h} {x = z} e r) f g = absurd (f h z e)
  same_place (step {h = h} {x = z} e r) done f g = absurd (g h z e)
  same_place {i} {b = b} (step {h = h} {x = u} e r) (step {h = l} {x = v} {y = w} d s) f g =
      let p = empty_line_read t k i h u e in
      let q = empty_line_read t k i l v d in
      same_place r (subst (λ z. Chain (Empty t (pos k) BlockIn) z b w) (sym (space_line_unique p.1.0 q.1.0)) s) f g

  -- the empty lines of a fold after a break
  fold_parts : {h b g : ℕ} {x : List ℕ} → FoldedBreak t (pos k) BlockIn h g x → Break t h b → SomeOf (Chain (Empty t (pos k) BlockIn)) b g
  fold_parts {g = g} (trimmed {x = x} {y = y} c e r) b = (x ++ y, subst (λ z. Chain (Empty t (pos k) BlockIn) z g (x ++ y)) (break_unique c b) (step e r))
  fold_parts {b = b} (as_space c) d = ([], subst (λ z. Chain (Empty t (pos k) BlockIn) b z []) (break_unique d c) done)

  pub fold_made : {h b g : ℕ} {x : List ℕ} → Break t h b → Chain (Empty t (pos k) BlockIn) b g x → SomeOf (FoldedBreak t (pos k) BlockIn) h g
  fold_made b done = (_, as_space b)
  fold_made b (step e r) = (_, trimmed b e r)

  -- no folded line follows a break if the next line with content is a spaced one
  before_white : {h b a : ℕ} {x : List ℕ} → Break t h b → Chain (Empty t (pos k) BlockIn) b a x → Spaces t a k → is_nb_char (code t (a + k)) ≡ true → is_white (code t (a + k)) ≡ true
      → NoFoldedLine t (pos k) h
  unfolding is_ns_char
  before_white {h} {b} {a} br r s n w = record { none = λ m g j x y o q f c e. go g j x y o f (subst (λ z. LineContent t z g j y o) (sym (indent_width q)) c) (subst (λ z. is_ns_char (code t (g + z)) ≡ true) (sym (indent_width q)) e) } where
    go : (g j : ℕ) (x y : List ℕ) (o : Bool) → FoldedBreak t (pos k) BlockIn h g x → LineContent t k g j y o → is_ns_char (code t (g + k)) ≡ true → ⊥
    go g j x y o f c e =
        let p = fold_parts f br in
        let same : a ≡ g = same_place r p.1 (λ h z d. no_empty s n d) (λ h z d. no_empty_content c d) in
        let v : not (is_white (code t (g + k))) ≡ true = (and_parts (is_nb_char (code t (g + k))) (not (is_white (code t (g + k)))) e).1 in
        true≢false (sym v ∙ ap (λ z. not (is_white (code t (z + k)))) (sym same) ∙ ap not w)

  -- nor after all lines of a scalar
  all_taken : {i p g j : ℕ} {ws x y : List ℕ} {o : Bool} → Chain (EmptyLines t) i p ws → largest ws ≤ k → Stuck (Line t k p) → Chain (Empty t (pos k) BlockIn) i g x → LineContent t k g j y o → ⊥
  all_taken {j = j} {y = y} done l n done c = n.none j (y ∷ []) (content_line c)
  all_taken {i} done l n (step {h = h} {x = z} e r) c = let p = empty_line_read t k i h z e in n.none h ([] ∷ []) (empty_line p.1.0 p.1.1)
  all_taken (step (bare m s) r) l n done c = not_empty_too s (omega (arith, l)) c
  all_taken {i} {g = g} (step (bare m s) r) l n (step {h = h} {x = z} {y = w} e q) c =
      let p = empty_line_read t k i h z e in
      all_taken r (omega (arith, l)) n (subst (λ u. Chain (Empty t (pos k) BlockIn) u g w) (space_line_unique p.1.0 s) q) c

  no_fold : {z g : ℕ} {x : List ℕ} → z ≡ length t → FoldedBreak t (pos k) BlockIn z g x → ⊥
  no_fold e (trimmed b d r) = no_break e b
  no_fold e (as_space b) = no_break e b

  pub after_lines : {z i p : ℕ} {ws : List ℕ} {o : Bool} → Ends t z i o → Chain (EmptyLines t) i p ws → largest ws ≤ k → Stuck (Line t k p) → NoFoldedLine t (pos k) z
  after_lines (by_text d) r l n = record { none = λ m g j x y o q f c e. no_fold d f }
  after_lines (by_break b) r l n = record { none = λ m g j x y o q f c e. all_taken r l n (fold_parts f b).1 (subst (λ u. LineContent t u g j y o) (sym (indent_width q)) c) }

-- the first group of lines: spaced ones, or folded ones with no folded line after them
pub data Lead (t : List ℕ) (room k : ℕ) : ℕ → ℕ → Type 0 where
  spaced_lead : {a e : ℕ} → is_nb_char (code t (a + k)) ≡ true → is_white (code t (a + k)) ≡ true → Read t room (l-nb-spaced-lines (pos k)) a e → Lead t room k a e
  folded_lead : {a h e : ℕ} → Read t room (s-nb-folded-text (pos k)) a h → Read t room ((b-l-folded (pos k) BlockIn then s-nb-folded-text (pos k)) ⋆) h e → NoFoldedLine t (pos k) e → Lead t room k a e

pub lead_made : {t : List ℕ} {room k i a e : ℕ} → Empties t k i a → Lead t room k a e → Read t room (l-nb-same-lines (pos k)) i e
unfolding rule kind read
lead_made e (spaced_lead n w d) = by_rule refl (one_then (many_made empty_made e.1) (in_right d))
lead_made e (folded_lead d s n) = by_rule refl (one_then (many_made empty_made e.1) (in_left (by_rule refl (one_then d (one_then s (where_holds n))))))

pub record Grouped (t : List ℕ) (room k i z : ℕ) : Type 0 where
  pub start : ℕ
  pub last : ℕ
  pub empties : Empties t k i start
  pub spaces : Spaces t start k
  pub lead : Lead t room k start last
  pub rest : Read t room ((b-as-line-feed then l-nb-same-lines (pos k)) ⋆) last z

module _ {t : List ℕ} {room k : ℕ} where
  spaced_text : {a h : ℕ} {w : List ℕ} → Spaces t a k → Many t is_nb_char (a + k) h w → a + k < h → is_white (code t (a + k)) ≡ true → Read t room (l-nb-spaced-lines (pos k)) a h
  unfolding rule kind
  spaced_text s done l w = absurd (omega arith)
  spaced_text {a} s (step (one e) r) l w =
      by_rule refl (one_then (by_rule refl (one_then (indent_made t a k s) (one_then (one_of (white_is (code t (a + k)) ∙ w)) (chars_made nb_char_is r)))) no_more)

  folded_text : {a h : ℕ} {w : List ℕ} → Spaces t a k → Many t is_nb_char (a + k) h w → a + k < h → is_white (code t (a + k)) ≡ false → Read t room (s-nb-folded-text (pos k)) a h
  unfolding rule kind is_ns_char
  folded_text s done l n = absurd (omega arith)
  folded_text {a} s (step (one e) r) l n =
      let q : is_ns_char (code t (a + k)) ≡ true = rw (e, n) refl in
      by_rule refl (one_then (indent_made t a k s) (one_then (one_of (ns_char_is (code t (a + k)) ∙ q)) (chars_made nb_char_is r)))

  -- a folded line before other lines
  folded_first : {i a h b z : ℕ} → Empties t k i a → Spaces t a k → Read t room (s-nb-folded-text (pos k)) a h → Break t h b → Grouped t room k b z → Grouped t room k i z
  folded_first {i} {a} {h} {b} {z} e s d br g = go g.lead g.rest where
    go : {y : ℕ} → Lead t room k g.start y → Read t room ((b-as-line-feed then l-nb-same-lines (pos k)) ⋆) y z → Grouped t room k i z
    go (spaced_lead n w c) r = record {
      start = a;
      last = h;
      empties = e;
      spaces = s;
      lead = folded_lead d no_more (before_white br g.empties.1 g.spaces n w);
      rest = one_more (one_then (feed_made br) (lead_made g.empties (spaced_lead n w c))) r;
    }
    go {y} (folded_lead c f n) r = record { start = a; last = y; empties = e; spaces = s; lead = folded_lead d (one_more (one_then (folded_made (fold_made br g.empties.1).1) c) f) n; rest = r }

  pub grouped : {i z : ℕ} → Texts t k i z → NoFoldedLine t (pos k) z → Grouped t room k i z
  grouped {i} {z} (last_text {a = a} e s m l) n =
      ⊎_elim (λ (w : is_white (code t (a + k)) ≡ true). record { start = a; last = z; empties = e; spaces = s; lead = spaced_lead (many_nb m l) w (spaced_text s m l w); rest = no_more })
      (λ (w : is_white (code t (a + k)) ≡ false). record { start = a; last = z; empties = e; spaces = s; lead = folded_lead (folded_text s m l w) no_more n; rest = no_more })
      (cases_Bool (is_white (code t (a + k))))
  grouped {i} {z} (more_texts {a = a} {h = h} e s m l br r) n =
      let g = grouped r n in
      ⊎_elim (λ (w : is_white (code t (a + k)) ≡ true).
      record { start = a; last = h; empties = e; spaces = s; lead = spaced_lead (many_nb m l) w (spaced_text s m l w); rest = one_more (one_then (feed_made br) (lead_made g.empties g.lead)) g.rest })
      (λ (w : is_white (code t (a + k)) ≡ false). folded_first e s (folded_text s m l w) br g)
      (cases_Bool (is_white (code t (a + k))))
