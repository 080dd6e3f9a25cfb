-- The reader of block nodes passes properties, on one line or over two, to the end of their line or to a leaf.
use Rattle.std.proofs.Common.{◌≡◌, ℕ, ◌<◌, ◌≤◌, ℤ, pos, ◌+ℤ◌, true, false, List, [], ◌++◌, Option, refl, sym, ap, ◌∙◌, subst, arith, true≢false, append-nil}
use Rattle.std.proofs.lemmas.Bool.Decides.{nat_tests}
use Rattle.std.specs.Str.{IsUtf8}
use Rattle.yf_chars.specs.declared.context.Ctx.{Ctx}
use Rattle.yf_chars.specs.declared.context.Ctx.TheVariants.{FlowKey}
use Rattle.yf_chars.specs.Text.{code}
use Rattle.yf_chars.specs.Class.{is_ns_char, is_nb_char, is_printable, is_between, is_break_char, is_white}
use Rattle.yf_chars.specs.Chain.{Chosen, Stuck, Many}
use Rattle.yf_chars.proofs.ChainLemmas.{many_unique}
use Rattle.yf_lines.specs.Basic.{is_key, SeparateInLine, Clear}
use Rattle.yf_comments.specs.Comment.{CommentValue}
use Rattle.yf_comments.specs.Comments.{LineEnd, Separate, SeparateLines}
use Rattle.yf_comments.specs.Comments.SeparateLines.{in_line, over_lines}
use Rattle.yf_comments.proofs.RowLemmas.{separate_whites, no_separation}
use Rattle.yf_comments.proofs.SeparateLemmas.{prefix_whites}
use Rattle.yf_props.specs.Names.{Properties, PropertiesValue}
use Rattle.yf_props.proofs.SeparationEnds.{separate_forward}
use Rattle.yf_grammar.specs.Productions.Meaning.{Meaning, meaning_after, with_props}
use Rattle.yf_grammar.specs.FlowReader.Parser.{ParsedNode, begins_properties}
use Rattle.yf_grammar.specs.BlockReader.BlockParser.{Columns, PropertiesHeld, Ahead, Props, headed, with_comments, Joins, Apart, Clash, line_indented, Below, Inline, Leaf}
use Rattle.yf_grammar.proofs.Ends.BlankRuns.{no_start_past}
use Rattle.yf_grammar.proofs.Ends.GapLemmas.{Visible}
use Rattle.yf_grammar.proofs.BlockOutcomes.NodesAfter.{properties_after}
use Rattle.yf_grammar.proofs.FlowReader.PropertiesEnds.{properties_begin}
use Rattle.yf_grammar.proofs.BlockOutcomes.BlockClaims.{Unheld, visible_white}
use Rattle.yf_grammar.proofs.BlockOutcomes.BlockFirst.{no_line_end_before}
use Rattle.yf_grammar.proofs.BlockOutcomes.BlockGaps.{whites_order, rows_order, line_in, line_chosen, prefix_at_least}
use Rattle.yf_grammar.proofs.BlockContent.LeafKeys.{line_no_key}
use Rattle.yf_grammar.proofs.BlockContent.InlineViews.{NotKey, NoSignAt, Reader, Reads, InlineView, view_leaf, view_below, view_line, view_missed, view_apart, joins_first, joins_second, not_apart}
use Rattle.yf_grammar.proofs.BlockContent.PropertiesLines.{held, Merges, line_ends_after, content_after, Spread, on_one_line, on_two_lines, spread, in_lines, line_properties}
use Rattle.yf_grammar.proofs.NodesInText.PlacedLeaves.{properties_seen}
use Rattle.yf_props.proofs.NameOrder.{properties_forward}

properties_other : (c : ℕ) → begins_properties c ≡ true → (c ≡ 35 → ⊥) × (c ≡ 45 → ⊥) × (c ≡ 63 → ⊥) × (c ≡ 58 → ⊥)
unfolding begins_properties
properties_other c e = (λ q. grind (arith, nat_tests), λ q. grind (arith, nat_tests), λ q. grind (arith, nat_tests), λ q. grind (arith, nat_tests))

apart_second : {q r p : PropertiesValue} {cs : List CommentValue} {f g h : ℕ} → Merges q r p cs f g h → Apart (Props (with_comments (held q f g) cs)) r → ⊥
apart_second {q} {r} {cs = cs} {f = f} {g = g} m a = m.apart (subst (λ w. Clash w r) (sym (one a.is)) a.clash) where
  one : {v w : PropertiesHeld} → Props v ≡ Props w → v ≡ w
  one e = cc

-- properties that are held, with the comments after them
pub record HeldAs (v : PropertiesHeld) (p : PropertiesValue) (cs : List CommentValue) (f g : ℕ) : Type 0 where
  pub is : (x : Meaning) → headed (Props v) x ≡ meaning_after (p.comments ++ cs) (with_props p.props p.tag_offset f g x)

pub held_alone : (p : PropertiesValue) (f g : ℕ) → HeldAs (held p f g) p [] f g
unfolding headed
held_alone p f g = record { is = λ x. ap (λ w. meaning_after w (with_props p.props p.tag_offset f g x)) (sym (append-nil p.comments)) }

pub held_with : (p : PropertiesValue) (cs : List CommentValue) (f g : ℕ) → HeldAs (with_comments (held p f g) cs) p cs f g
unfolding headed with_comments
held_with p cs f g = record { is = λ x. refl }

module _ {t : List ℕ} where
  pub begins_visible : {f : ℕ} → begins_properties (code t f) ≡ true → Visible t f
  begins_visible {f} e = record { ns = properties_seen (code t f) e; no_hash = (properties_other (code t f) e).0 }

  pub begins_no_sign : {f : ℕ} → begins_properties (code t f) ≡ true → NoSignAt t f
  begins_no_sign {f} e = record {
    no_dash = λ d. (properties_other (code t f) e).1 d.dash;
    no_question = λ s. (properties_other (code t f) e).2 s.sign_is_at;
    no_colon = λ s. (properties_other (code t f) e).3 s.sign_is_at;
  }

module _ {t : List ℕ} (u : IsUtf8 t) {e : ℕ} {R : Reader} {Q : Option ParsedNode → Type 0} (rd : Reads t e R Q) where
  -- a leaf without properties
  pub to_bare_leaf : {k : ℕ} {n : ℤ} {c : Ctx} {cols : Columns} {a : Ahead} {o : Option ParsedNode} → NoSignAt t k → NotKey t e n k → begins_properties (code t k) ≡ false
      → R (Inline n c cols a k) o → (R (Leaf n a k) o → Q o) → Q o
  to_bare_leaf {k = k} {n = n} {c = c} {a = a} {o = o} s y b r f = go (rd.inline s y r) where
    none : {g : ℕ} {q : PropertiesValue} → Chosen (Properties t (pos 0) FlowKey k) g q → ⊥
    none d = true≢false (sym (properties_begin d.derived) ∙ b)

    go : InlineView t R n c a k o → Q o
    go (view_leaf d w) = f w
    go (view_below d l j w) = absurd (none d)
    go (view_line d l m i w j z) = absurd (none d)
    go (view_missed d l w i) = absurd (none d)
    go (view_apart d p i) = absurd (none d)

  -- from properties to the end of their line
  line_to_below : {f g l : ℕ} {n : ℤ} {c : Ctx} {cols : Columns} {a : Ahead} {p : PropertiesValue} {ds : List CommentValue} {o : Option ParsedNode} → Properties t (pos 0) FlowKey f g p
      → LineEnd t g l ds → (Apart a p → ⊥) → R (Inline n c cols a f) o → ((z : Ahead) → Joins a p f g z → R (Below n c z g) o → Q o) → Q o
  line_to_below {f} {g} {l} {n} {c} {cols} {a} {p} {ds} {o} d w b r y = go (rd.inline (begins_no_sign (properties_begin d)) (line_no_key u d w) r) where
    same : {k : ℕ} {q : PropertiesValue} → Chosen (Properties t (pos 0) FlowKey f) k q → (k ≡ g) × (q ≡ p)
    same i = line_properties u d (line_ends_after w) i

    ended : {k : ℕ} {q : PropertiesValue} → Chosen (Properties t (pos 0) FlowKey f) k q → Stuck (LineEnd t k) → ⊥
    ended i s = s.none l ds (subst (λ k. LineEnd t k l ds) (sym (same i).0) w)

    go : InlineView t R n c a f o → Q o
    go (view_leaf s v) = absurd (s.none g p d)
    go (view_below {g = k} {q = q} {z = z} i s j v) =
        let e = same i in
        let j1 : Joins a q f g z = subst (λ k. Joins a q f k z) e.0 j in
        y z (subst (λ q. Joins a q f g z) e.1 j1) (subst (λ k. R (Below n c z k) o) e.0 v)
    go (view_line i s m x v j z) = absurd (ended i s)
    go (view_missed i s v x) = absurd (ended i s)
    go (view_apart {q = q} i x v) = absurd (b (subst (λ q. Apart a q) (same i).1 x))

  -- and to a leaf on it
  line_to_leaf : {f g m : ℕ} {n : ℤ} {c : Ctx} {cols : Columns} {a : Ahead} {p : PropertiesValue} {o : Option ParsedNode} → Properties t (pos 0) FlowKey f g p → SeparateInLine t g m
      → Visible t m → begins_properties (code t m) ≡ false → NotKey t e n f → (Apart a p → ⊥) → R (Inline n c cols a f) o
      → ((z : Ahead) → Joins a p f g z → R (Leaf n z m) o → Q o) → Q o
  line_to_leaf {f} {g} {m} {n} {c} {cols} {a} {p} {o} d w x np h b r y = go (rd.inline (begins_no_sign (properties_begin d)) h r) where
    same : {k : ℕ} {q : PropertiesValue} → Chosen (Properties t (pos 0) FlowKey f) k q → (k ≡ g) × (q ≡ p)
    same i = line_properties u d (content_after w x np) i

    run : Many t is_white g m (separate_whites w).0
    run = (separate_whites w).1

    no_line : {k l : ℕ} {ds : List CommentValue} → k ≡ g → LineEnd t k l ds → ⊥
    no_line {l = l} {ds = ds} e v = no_line_end_before u (properties_after u d) run x (subst (λ k. LineEnd t k l ds) e v)

    stays : is_white (code t g) ≡ false → ⊥
    stays v = no_separation v (λ s. no_start_past u (properties_after u d) s) w

    go : InlineView t R n c a f o → Q o
    go (view_leaf s v) = absurd (s.none g p d)
    go (view_below i s j v) = absurd (no_line (same i).0 s.derived)
    go (view_line {g = k} {k = l} {q = q} {w = ws} {z = z} i s v k' y' j z') =
        let e = same i in
        let j1 : Joins a q f g z = subst (λ k. Joins a q f k z) e.0 j in
        let place = (many_unique t is_white (subst (λ k. Many t is_white k l ws) e.0 v) y' run (visible_white x)).0 in
        y z (subst (λ q. Joins a q f g z) e.1 j1) (subst (λ k. R (Leaf n z k) o) place z')
    go (view_missed {g = k} i s v z) = absurd (stays (subst (λ k. is_white (code t k) ≡ false) (same i).0 v))
    go (view_apart {q = q} i z v) = absurd (b (subst (λ q. Apart a q) (same i).1 z))

  -- one line's properties, or those of a line and of a later one
  spread_walk : {S : Ahead → Option ParsedNode → Type 0} {f g j : ℕ} {n : ℤ} {c : Ctx} {cols : Columns} {a : Ahead} {p : PropertiesValue} {o : Option ParsedNode} → Unheld a
      → Spread t (n +ℤ pos 1) f g p → Clear t f j → g ≤ j
      → ((cs : Columns) (b : Ahead) (h : ℕ) (q : PropertiesValue) (r : Option ParsedNode) → f ≤ h → Properties t (pos 0) FlowKey h g q → (Apart b q → ⊥) → R (Inline n c cs b h) r
      → ((z : Ahead) → Joins b q h g z → S z r → Q r) → Q r)
      → R (Inline n c cols a f) o → ((r : Option ParsedNode) → S (Props (held p f g)) r → Q r) → Q o
  spread_walk {S} {f} {cols = cols} {a = a} {p = p} {o = o} y (on_one_line d) c l step r k =
      step cols a f p o (omega arith) d (λ x. not_apart y x) r (λ z j s. k o (subst (λ w. S w o) (joins_first y j) s))
  spread_walk {S} {f} {g} {j} {n} {c} {p = p} {o = o} y (on_two_lines {k = h1} {l = l1} {h = h2} {q = q1} {r = q2} {cs = cs} d w i b m) cl le step r k =
      line_to_below d w (λ x. not_apart y x) r (λ z js s. second (subst (λ v. R (Below n c v h1) o) (joins_first y js) s)) where
        v : Visible t h2
        v = begins_visible (properties_begin b)

        second : R (Below n c (Props (held q1 f h1)) h1) o → Q o
        second s =
            let x1 : f < h1 = properties_forward d in
            let x2 : h1 ≤ l1 = rows_order w in
            let run = prefix_whites i in
            let x3 : l1 ≤ h2 = whites_order run.1 in
            let x4 : h2 < g = properties_forward b in
            let line = line_in run.1 v (λ x. cl.none l1 (omega arith) (omega arith) x) in
            rd.below (line_chosen w line.1) line.1 (line_indented (prefix_at_least i line.1)) s
            (λ cs' r' lc s'. step cs' (Props (with_comments (held q1 f h1) cs)) h2 q2 r' (omega arith) b (apart_second m) s'
            (λ z js s''. k r' (subst (λ w. S w r') (joins_second js ∙ m.same) s'')))

  -- properties before the end of their line
  pub to_line_end : {f g l j : ℕ} {n : ℤ} {c : Ctx} {cols : Columns} {a : Ahead} {p : PropertiesValue} {ds : List CommentValue} {o : Option ParsedNode} (d : Ctx) → is_key d ≡ false
      → Properties t (n +ℤ pos 1) d f g p → LineEnd t g l ds → Unheld a → Clear t f j → g ≤ j → R (Inline n c cols a f) o
      → ((r : Option ParsedNode) → R (Below n c (Props (held p f g)) g) r → Q r) → Q o
  to_line_end {g = g} {n = n} {c = c} d key q w y cl le r k =
      spread_walk {S = λ z v. R (Below n c z g) v} y (spread d key q) cl le (λ cs b h v s fh dv apart s' f. line_to_below dv w apart s' f) r k

  lines_to_leaf : {f g k j : ℕ} {n : ℤ} {c : Ctx} {cols : Columns} {a : Ahead} {p : PropertiesValue} {ds : List CommentValue} {o : Option ParsedNode} → Spread t (n +ℤ pos 1) f g p
      → SeparateLines t (n +ℤ pos 1) g k ds → Visible t k → begins_properties (code t k) ≡ false → NoSignAt t k → NotKey t e n k
      → ((h : ℕ) (q : PropertiesValue) → f ≤ h → Properties t (pos 0) FlowKey h g q → NotKey t e n h) → Unheld a → Clear t f j → k < j → g ≤ k → f ≤ g
      → R (Inline n c cols a f) o → ((v : PropertiesHeld) → HeldAs v p ds f g → (r : Option ParsedNode) → R (Leaf n (Props v) k) r → Q r) → Q o
  lines_to_leaf {f} {g} {k} {n = n} {c = c} {p = p} q (in_line s) v np sign key keys y cl le m m' r f' =
      spread_walk {S = λ z w. R (Leaf n z k) w} y q cl (omega arith) (λ cs b h z w fh dz apart s' f''. line_to_leaf dz s v np (keys h z fh dz) apart s' f'') r
      (λ w s'. f' (held p f g) (held_alone p f g) w s')
  lines_to_leaf {f} {g} {k} {j} {n} {c} {p = p} {ds = ds} q (over_lines {h = l} w i) v np sign key keys y cl le m m' r f' =
      let x : g ≤ l = rows_order w in
      let run = prefix_whites i in
      let z : l ≤ k = whites_order run.1 in
      let line = line_in run.1 v (λ s. cl.none l (omega arith) (omega arith) s) in
      spread_walk {S = λ z v. R (Below n c z g) v} y q cl (omega arith) (λ cs b h v s fh dv apart s' f. line_to_below dv w apart s' f) r
      (λ r' s. rd.below (line_chosen w line.1) line.1 (line_indented (prefix_at_least i line.1)) s
      (λ cs' r'' lc s'. to_bare_leaf sign key np s' (λ s''. f' (with_comments (held p f g) ds) (held_with p ds f g) r'' s'')))

  -- properties before a leaf
  pub to_leaf : {f g k j : ℕ} {n : ℤ} {c : Ctx} {cols : Columns} {a : Ahead} {p : PropertiesValue} {ds : List CommentValue} {o : Option ParsedNode} (d : Ctx) → is_key d ≡ false
      → Properties t (n +ℤ pos 1) d f g p → Separate t (n +ℤ pos 1) d g k ds → Visible t k → begins_properties (code t k) ≡ false → NoSignAt t k → NotKey t e n k
      → ((h : ℕ) (q : PropertiesValue) → f ≤ h → Properties t (pos 0) FlowKey h g q → NotKey t e n h) → Unheld a → Clear t f j → k < j
      → R (Inline n c cols a f) o → ((v : PropertiesHeld) → HeldAs v p ds f g → (r : Option ParsedNode) → R (Leaf n (Props v) k) r → Q r) → Q o
  to_leaf {f} {g} d key q s v np sign k keys y cl le r f' =
      let m : f < g = properties_forward q in
      lines_to_leaf (spread d key q) (in_lines d key s) v np sign k keys y cl le (separate_forward s) (omega arith) r f'
