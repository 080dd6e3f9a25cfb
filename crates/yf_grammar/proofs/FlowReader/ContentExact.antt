-- The reader finds a quoted scalar or flow collection as it is derived, except a quoted scalar before a quote.
use Rattle.std.proofs.Common.{◌≡◌, ℕ, ℤ, suc, ◌+◌, ◌<◌, ◌≤◌, Bool, true, false, ⊎_elim, List, [], Option, Some, None, refl, sym, ap, ◌∙◌, subst, arith, encode_utf8_all}
use Rattle.std.proofs.lemmas.Bool.{cases_lt}
use Rattle.std.proofs.lemmas.Option.{same_Some}
use Rattle.yf_chars.specs.declared.context.Ctx.{Ctx}
use Rattle.yf_chars.specs.Text.{code}
use Rattle.yf_lines.specs.Basic.{is_block}
use Rattle.yf_comments.specs.Comment.{CommentValue}
use Rattle.yf_events.specs.declared.event.ScalarStyle.TheVariants.{Single as SingleStyle, Double as DoubleStyle}
use Rattle.yf_quoted.specs.Quoted.{SingleQuoted, DoubleQuoted, Piece, text_of}
use Rattle.yf_grammar.specs.Productions.Meaning.{Meaning, meaning_after, noting, scalar, collection}
use Rattle.yf_grammar.specs.Productions.Grammar.{MaySeparate, opening, closing, in_flow, bad_escapes}
use Rattle.yf_grammar.specs.FlowReader.Parser.{ParsedNode, found, AContent, TheEntries, Parses, Gap, bracketed, only}
use Rattle.yf_grammar.specs.FlowReader.Parser.Parses.{single_read, single_missed, double_read, double_missed, too_deep, collection_read, collection_missed, entries_end, entry_missed, entry_last, entry_then, entry_then_missed, entry_unclosed}
use Rattle.yf_grammar.proofs.Ends.GapLemmas.{Visible, gap_is}
use Rattle.yf_grammar.proofs.FlowReader.QuotedEnds.{single_before_quote, double_same}

-- the outcome is the derived part up to j, or goes on after it at a quote
pub data Reaches (t : List ℕ) (o : Option ParsedNode) (j h : ℕ) (x : Meaning) : Type 0 where
  reaches : o ≡ found j h true x → Reaches t o j h x
  passes : (f : ParsedNode) → o ≡ Some f → j < f.end → code t j ≡ 39 → Reaches t o j h x

-- entries are found up to their end; the end of their last node is not checked
pub record EntriesFound (o : Option ParsedNode) (j h : ℕ) (x : Meaning) : Type 0 where
  pub answer : ParsedNode
  pub is : o ≡ Some answer
  pub end : answer.end ≡ j
  pub height : answer.height ≡ h
  pub events : answer.meaning.events ≡ x.events
  pub comments : answer.meaning.comments ≡ x.comments
  pub escapes : answer.meaning.escapes ≡ x.escapes

opening_not : (s : Bool) → (opening s ≡ 39 → ⊥) × (opening s ≡ 34 → ⊥)
opening_not true = (λ e. omega arith, λ e. omega arith)
opening_not false = (λ e. omega arith, λ e. omega arith)

opening_same : (s r : Bool) → opening s ≡ opening r → r ≡ s
opening_same true true e = refl
opening_same true false e = absurd (omega arith)
opening_same false true e = absurd (omega arith)
opening_same false false e = refl

single_is : (x : List ℕ) (i j k : ℕ) (y : List ℕ) → k ≡ j → y ≡ x → found k 0 true (scalar SingleStyle (encode_utf8_all y) [] i k) ≡ found j 0 true (scalar SingleStyle (encode_utf8_all x) [] i j)
single_is x i j k y e f = cc

double_is : (x : List Piece) (i j k : ℕ) (y : List Piece) → k ≡ j → y ≡ x
    → found k 0 true (scalar DoubleStyle (encode_utf8_all (text_of y)) (bad_escapes y) i k) ≡ found j 0 true (scalar DoubleStyle (encode_utf8_all (text_of x)) (bad_escapes x) i j)
double_is x i j k y e f = cc

some_end : (k : ℕ) (x : Meaning) → (f : ParsedNode) × (found k 0 true x ≡ Some f) × (f.end ≡ k)
unfolding found
some_end k x = (record { end = k; height = 0; json = true; meaning = x }, refl, refl)

bracketed_is : (s : Bool) (i : ℕ) (cs : List CommentValue) (f : ParsedNode) (j h : ℕ) (x : Meaning) → f.end ≡ j → f.height ≡ h → f.meaning.events ≡ x.events
    → f.meaning.comments ≡ x.comments → f.meaning.escapes ≡ x.escapes → bracketed s i cs f ≡ found (j + 1) (suc h) true (collection s true i (j + 1) (meaning_after cs x))
unfolding bracketed collection meaning_after
bracketed_is s i cs f j h x a b c d e = rw (a, b, c, d, e) refl

module _ {t : List ℕ} {c : Ctx} (b : is_block c ≡ false) where
  pub single_exact : {n : ℤ} {e i j : ℕ} {x : List ℕ} {o : Option ParsedNode} → SingleQuoted t n c i j x → Parses t e (AContent n c i) o
      → Reaches t o j 0 (scalar SingleStyle (encode_utf8_all x) [] i j)
  single_exact {n = n} {i = i} {j = j} {x = x} q (single_read {j = k} {x = y} d) = ⊎_elim
      (λ (l : j < k).
      let r = some_end k (scalar SingleStyle (encode_utf8_all y) [] i k) in
      passes r.0 r.1 (omega (arith, r.2)) (single_before_quote b q d.derived l))
      (λ (l : k ≤ j).
      let m = d.longest j x q in
      let e : k ≡ j = omega arith in
      reaches (single_is x i j k y e (sym (d.only x (subst (λ w. SingleQuoted t n c i w x) (sym e) q)))))
      (cases_lt j k)
  single_exact {j = j} {x = x} q (single_missed e s) = absurd (s.none j x q)
  single_exact q (double_read d) = let e = q.opening in let f = d.derived.opening in absurd (omega arith)
  single_exact q (double_missed e s) = let f = q.opening in absurd (omega arith)
  single_exact q (too_deep s e) = absurd ((opening_not s).0 (sym e ∙ q.opening))
  single_exact q (collection_read s e g d) = absurd ((opening_not s).0 (sym e ∙ q.opening))
  single_exact q (collection_missed s cs e g d) = absurd ((opening_not s).0 (sym e ∙ q.opening))

  pub double_exact : {n : ℤ} {e i j : ℕ} {x : List Piece} {o : Option ParsedNode} → DoubleQuoted t n c i j x → Parses t e (AContent n c i) o
      → Reaches t o j 0 (scalar DoubleStyle (encode_utf8_all (text_of x)) (bad_escapes x) i j)
  double_exact {i = i} {j = j} {x = x} q (double_read {j = k} {x = y} d) = let s = double_same b q d.derived in reaches (double_is x i j k y s.0 s.1)
  double_exact {j = j} {x = x} q (double_missed e s) = absurd (s.none j x q)
  double_exact q (single_read d) = let e = q.opening in let f = d.derived.opening in absurd (omega arith)
  double_exact q (single_missed e s) = let f = q.opening in absurd (omega arith)
  double_exact q (too_deep s e) = absurd ((opening_not s).1 (sym e ∙ q.opening))
  double_exact q (collection_read s e g d) = absurd ((opening_not s).1 (sym e ∙ q.opening))
  double_exact q (collection_missed s cs e g d) = absurd ((opening_not s).1 (sym e ∙ q.opening))

entries_same : {f : ParsedNode} {j h : ℕ} {x : Meaning} (s : Bool) (i : ℕ) (cs : List CommentValue) → EntriesFound (Some f) j h x
    → bracketed s i cs f ≡ found (j + 1) (suc h) true (collection s true i (j + 1) (meaning_after cs x))
entries_same {f} {j} {h} {x} s i cs a =
    let e : f ≡ a.answer = same_Some _ _ a.is in
    ap (bracketed s i cs) e ∙ bracketed_is s i cs a.answer j h x a.end a.height a.events a.comments a.escapes

not_none : {j h : ℕ} {x : Meaning} → EntriesFound None j h x → ⊥
not_none a = none_some a.is where
  none_some : {f : ParsedNode} → None ≡ Some f → ⊥
  none_some e = cc

module _ {t : List ℕ} {n : ℤ} {c : Ctx} where
  -- a collection, if its entries are found
  pub collection_exact : {e h i k j : ℕ} {cs : List CommentValue} {x : Meaning} {o : Option ParsedNode} (s : Bool) → code t i ≡ opening s → MaySeparate t n c (i + 1) k cs
      → Visible t k → suc h ≤ e → ((l : ℕ) (r : Option ParsedNode) → h ≤ l → Parses t l (TheEntries s n (in_flow c) k) r → EntriesFound r j h x)
      → Parses t e (AContent n c i) o → o ≡ found (j + 1) (suc h) true (collection s true i (j + 1) (meaning_after cs x))
  collection_exact s e m v l f (single_read d) = absurd ((opening_not s).0 (sym e ∙ d.derived.opening))
  collection_exact s e m v l f (single_missed g d) = absurd ((opening_not s).0 (sym e ∙ g))
  collection_exact s e m v l f (double_read d) = absurd ((opening_not s).1 (sym e ∙ d.derived.opening))
  collection_exact s e m v l f (double_missed g d) = absurd ((opening_not s).1 (sym e ∙ g))
  collection_exact s e m v l f (too_deep r g) = absurd (omega arith)
  collection_exact {h = h} {i = i} {k = k} {j = j} {cs = cs} {x = x} s e m v l f (collection_read {e = d} {k = p} r {cs = ds} {f = q} g a z) =
      let b = opening_same s r (sym e ∙ g) in
      let same = gap_is v m a in
      let z' : Parses t d (TheEntries s n (in_flow c) p) (Some q) = subst (λ w. Parses t d (TheEntries w n (in_flow c) p) (Some q)) b z in
      let z'' : Parses t d (TheEntries s n (in_flow c) k) (Some q) = subst (λ w. Parses t d (TheEntries s n (in_flow c) w) (Some q)) same.0 z' in
      ap (λ w. bracketed w i ds q) b ∙ ap (λ w. bracketed s i w q) same.1 ∙ entries_same s i cs (f d (Some q) (omega arith) z'')
  collection_exact {h = h} {k = k} s e m v l f (collection_missed {e = d} {k = p} r ds g a z) =
      let b = opening_same s r (sym e ∙ g) in
      let same = gap_is v m a in
      let z' : Parses t d (TheEntries s n (in_flow c) p) None = subst (λ w. Parses t d (TheEntries w n (in_flow c) p) None) b z in
      let z'' : Parses t d (TheEntries s n (in_flow c) k) None = subst (λ w. Parses t d (TheEntries s n (in_flow c) w) None) same.0 z' in
      absurd (not_none (f d None (omega arith) z''))

  -- no entries, before the closing bracket
  pub no_entries : {e i : ℕ} {s : Bool} {o : Option ParsedNode} → code t i ≡ closing s → Parses t e (TheEntries s n c i) o → o ≡ found i 0 true (only [] i)
  no_entries q (entries_end e) = refl
  no_entries q (entry_missed m d) = absurd (m q)
  no_entries q (entry_last m d g e) = absurd (m q)
  no_entries q (entry_then m d g e a b) = absurd (m q)
  no_entries q (entry_then_missed cs ds m d g e a b) = absurd (m q)
  no_entries q (entry_unclosed cs m d g e a) = absurd (m q)

-- the outcome for an entry before its separator or the bracket at l, with the comments before that
pub record EntryFound (t : List ℕ) (n : ℤ) (c : Ctx) (o : Option ParsedNode) (l h : ℕ) (y : Meaning) : Type 0 where
  pub answer : ParsedNode
  pub is : o ≡ Some answer
  pub height : answer.height ≡ h
  pub rest : (m : ℕ) (ds : List CommentValue) → Gap t n c answer.end m ds → (m ≡ l) × (noting answer.meaning ds ≡ y)
